-- All expressions have their marks, from their parts on.
use Rattle.std.proofs.Common.{◌≡◌, inl, inr, refl, ap, ◌∙◌, subst, ℕ, suc, ◌+◌, ◌≤◌, List, ◌∷◌, ◌++◌, length, length-append, Bool, false, arith}
use Rattle.lt_tree.specs.declared.expression.UnaryOp.TheVariants as unary
use Rattle.lt_tree.specs.Tree as c
use Rattle.lt_tree.specs.Nodes.{Node, an_expression as an_expression_node, in_expression, in_expressions}
use Rattle.lt_tree.specs.Typing.Entities.{Known}
use Rattle.lt_tree.specs.Typing.Expressions.{Use, as_value, as_truth, as_place, as_callee}
use Rattle.lt_tree.specs.Typing.MarkRules.{is_truth, inside_mark}
use Rattle.lt_tree.specs.Typing.ExpressionTyping.{expression}
use Rattle.lt_tree.specs.Typing.Programs.{Program}
use Rattle.lt_objectives.specs.declared.criteria.Criterion.{Criterion}
use Rattle.lt_objectives.specs.Objectives.{Objective, objectives}
use Rattle.lt_objectives.specs.Marked.{numbered, within_all, with_marks}
use Rattle.lt_objective_places.specs.Stands.{Role}
use Rattle.lt_objective_places.specs.Stands as stands
use Rattle.lt_objective_places.specs.Pieces.{expressions as several, IsIn, a_piece}
use Rattle.lt_mark_typing.specs.Beside.{Position, in_use, in_test, use_of}
use Rattle.lt_mark_typing.specs.Placed.{AreOld, AddsTo, AddsToAll}
use Rattle.lt_mark_typing.specs.Placed as placed
use Rattle.lt_typed_nodes.specs.Coming.{ComesToIt, ComesToAll, entered}
use Rattle.lt_typed_nodes.specs.Reaching as place
use Rattle.lt_typed_nodes.specs.Reaching.{IsPart, IsReached, a_part}
use Rattle.lt_objective_marks.specs.Settings.{Setting, AreUnused, IsAdded, a_test, a_value, a_callee, a_place}
use Rattle.lt_objective_marks.proofs.Given.{Given}
use Rattle.lt_objective_marks.proofs.Ids.{fewer_unused, more_added, then_added, behind}
use Rattle.lt_objective_marks.proofs.Ends.{same_behind}
use Rattle.lt_objective_marks.proofs.Whole.{UnusedInside, new_marks, Here, Inside, Inner, ValuesAreMarkable}
use Rattle.lt_objective_marks.proofs.Noted.{number_behind}
use Rattle.lt_objective_marks.proofs.Steps.{unused_of, inside_of, two, at_behind, old_here, from_parts, as_it_stands}
use Rattle.lt_objective_marks.proofs.Taken.{both_scalars, negated_scalar, tested_scalar, decided_scalar, not_decided, called}
use Rattle.lt_objective_marks.proofs.Parts.{Added, Operand, operand, first_in, second_in, one, both}

-- two parts, one behind the other
pair_added : (id : ℕ) (them : List Objective) (used : List ℕ) (k size i more j others : ℕ) {F : List ℕ → Type 0} {G : List ℕ → List ℕ → Type 0} → k ≤ i → i + more ≤ j → j + others ≤ k + size
    → AreUnused (numbered id them) used k size → (AreUnused (numbered id them) used i more → IsAdded (numbered id them) used i more F)
    → ((between : List ℕ) → AreUnused (numbered id them) between j others → IsAdded (numbered id them) between j others (G between))
    → IsAdded (numbered id them) used k size (λ after. (between : List ℕ) × F between × G between after)
pair_added id them used k size i more j others from order to unused f h =
    let a = f (fewer_unused (numbered id them) used k size i more from (omega arith) unused) in
    let b = h a.after (behind id them used a.after i more j others order a.ids (fewer_unused (numbered id them) used k size j others (omega arith) to unused)) in
    record {
      after = b.after;
      added = (a.after, a.added, b.added);
      ids = then_added (numbered id them) used a.after b.after k size (more_added (numbered id them) used a.after k size i more from (omega arith) a.ids)
          (more_added (numbered id them) a.after b.after k size j others (omega arith) to b.ids);
    }

no_truth_value : stands.as_value ≡ stands.in_truth → ⊥
no_truth_value is = cc

no_truth_test : stands.in_test ≡ stands.in_truth → ⊥
no_truth_test is = cc

no_truth_place : stands.as_place ≡ stands.in_truth → ⊥
no_truth_place is = cc

no_callee_value : in_use as_value ≡ in_use as_callee → ⊥
no_callee_value is = cc

no_callee_test : in_test ≡ in_use as_callee → ⊥
no_callee_test is = cc

no_callee_place : in_use as_place ≡ in_use as_callee → ⊥
no_callee_place is = cc

three_sizes : (x : Node) (xs ys zs : List Node) → length (x ∷ (xs ++ ys ++ zs)) ≡ suc (length xs + length ys + length zs)
three_sizes x xs ys zs = ap suc (length-append (xs ++ ys) zs ∙ ap (λ n. n + length zs) (length-append xs ys))

two_sizes : (x : Node) (xs ys : List Node) → length (x ∷ (xs ++ ys)) ≡ suc (length xs + length ys)
two_sizes x xs ys = ap suc (length-append xs ys)

module _ (g : Given) {new : ℕ → Bool} {unit : c.Unit} {program : Program} {criterion : Criterion} {id : ℕ} (s : Setting new unit program criterion id) (markable : ValuesAreMarkable g s) where
  -- expressions whose parts have other numbers, or other positions
  pub record Others : Type 0 where
    pub cast : (specifiers : c.Specifiers) (declarator : c.Declarator) (e : c.Expression) → Inner g s e → Inner g s (c.Cast specifiers declarator e)
    pub marked : (ms : c.Marks) (e : c.Expression) → Inner g s e → Inner g s (c.Marked ms e)
    pub after : (e : c.Expression) (id tag : List ℕ) → Inner g s e → Inner g s (c.After e id tag)
    pub callee : (used : List ℕ) (known : Known) (f : c.Expression) (k : ℕ) → Operand g s markable stands.as_value (in_use as_callee) known f k → Inner g s f
        → AreUnused (new_marks g s) used k (length (in_expression f)) → Added g s markable (in_use as_callee) used known f k

  -- several expressions
  abbrev All : c.Expressions → Type 0
  All es = (used : List ℕ) (known : Known) (k : ℕ) → known.next ≡ k → IsIn unit k (several es) → known.is_unmarked ≡ false → ComesToAll program.facts known es
      → IsReached s.greatest s.model unit (place.expressions es) known → AreUnused (new_marks g s) used k (length (in_expressions es))
      → IsAdded (new_marks g s) used k (length (in_expressions es)) (λ after. AddsToAll new used after known es (within_all (new_marks g s) k es))

  -- in a `pc_decide`
  decide_truth : (d : c.Expression) (when_true when_false tag : List ℕ) (role : Role) (position : Position) (used : List ℕ) (known : Known) → (h : Here g s role position known (c.Decide d when_true when_false tag))
      → UnusedInside (new_marks g s) used known.next (length (in_expression (c.Decide d when_true when_false tag))) → Inner g s d → use_of position ≡ as_truth
      → Inside g s position used known (c.Decide d when_true when_false tag)
  decide_truth d when_true when_false tag role position used known h unused inner_d is =
      let e = c.Decide d when_true when_false tag in
      let comes : ComesToIt program.facts known as_truth e = subst (λ u. ComesToIt program.facts known u e) is h.comes in
      let there : ComesToIt program.facts (entered known) as_truth d = g.operands.0 program.facts known as_truth e comes in
      let old = old_here g s known.next e h.isin in
      one g s markable role position used known e d stands.in_test in_test refl h unused
      (first_in g s markable role position used known e d stands.in_test in_test h (a_piece h.isin (inl refl)) a_test there (subst (λ u. IsPart (place.an_expression (use_of position) e) known (place.an_expression (inside_mark u) d) (entered known)) is place.a_decision)
      (λ x next goes. decided_scalar d when_true when_false tag known next comes.behind x comes.found goes comes.goes))
      no_truth_test no_callee_test inner_d (λ after a. placed.Decide is old.0.0 old.0.1 a)

  decide : (d : c.Expression) (when_true when_false tag : List ℕ) (role : Role) (position : Position) (used : List ℕ) (known : Known) → (h : Here g s role position known (c.Decide d when_true when_false tag))
      → UnusedInside (new_marks g s) used known.next (length (in_expression (c.Decide d when_true when_false tag))) → Inner g s d → Inside g s position used known (c.Decide d when_true when_false tag)
  decide d when_true when_false tag role position used known h unused inner_d = by (use_of position) refl
    where
      by : (taken : Use) → use_of position ≡ taken → Inside g s position used known (c.Decide d when_true when_false tag)
      by as_truth is = decide_truth d when_true when_false tag role position used known h unused inner_d is
      by as_value is = absurd (not_decided d when_true when_false tag (use_of position) known h.comes.behind h.comes.found (ap is_truth is) h.comes.goes)
      by as_place is = absurd (not_decided d when_true when_false tag (use_of position) known h.comes.behind h.comes.found (ap is_truth is) h.comes.goes)
      by as_callee is = absurd (not_decided d when_true when_false tag (use_of position) known h.comes.behind h.comes.found (ap is_truth is) h.comes.goes)

  module _ (others : Others) where
    mutual
      pub inner : (e : c.Expression) → Inner g s e
      inner (c.Name w) role position used known h unused = as_it_stands g s role position used known (c.Name w) h refl
      inner (c.Constant w) role position used known h unused = as_it_stands g s role position used known (c.Constant w) h refl
      inner (c.Text bytes) role position used known h unused = as_it_stands g s role position used known (c.Text bytes) h refl
      inner (c.SizeofExpr e) role position used known h unused = as_it_stands g s role position used known (c.SizeofExpr e) h refl
      inner (c.SizeofType types d) role position used known h unused = as_it_stands g s role position used known (c.SizeofType types d) h refl
      inner (c.Index base index) role position used known h unused =
          let e = c.Index base index in
          let ops = g.operands.0 program.facts known (use_of position) e h.comes in
          both g s markable role position used known e base index stands.as_value stands.as_value (in_use as_value) (in_use as_value) (two_sizes (an_expression_node e) (in_expression base) (in_expression index)) h unused ops.0
          (first_in g s markable role position used known e base stands.as_value (in_use as_value) h (a_piece h.isin (inl refl)) a_value ops.0 place.an_array tt)
          (second_in g s markable role position used known e base index as_value stands.as_value (in_use as_value) h ops.0 (a_piece h.isin (inr (inl refl))) a_value (ops.1 ops.0.found ops.0.behind ops.0.goes)
          (place.an_index ops.0.goes) tt)
          no_truth_value no_truth_value no_callee_value no_callee_value (inner base) (inner index) (λ between after a b. placed.Index a b)
      inner (c.Member base w) role position used known h unused =
          let e = c.Member base w in
          let ops = g.operands.0 program.facts known (use_of position) e h.comes in
          one g s markable role position used known e base stands.as_place (in_use as_place) refl h unused
          (first_in g s markable role position used known e base stands.as_place (in_use as_place) h (a_piece h.isin (inl refl)) a_place ops place.a_whole tt)
          no_truth_place no_callee_place (inner base) (λ after a. placed.Member a)
      inner (c.Arrow base w) role position used known h unused =
          let e = c.Arrow base w in
          let ops = g.operands.0 program.facts known (use_of position) e h.comes in
          one g s markable role position used known e base stands.as_value (in_use as_value) refl h unused
          (first_in g s markable role position used known e base stands.as_value (in_use as_value) h (a_piece h.isin (inl refl)) a_value ops place.a_pointer tt)
          no_truth_value no_callee_value (inner base) (λ after a. placed.Arrow a)
      inner (c.PostInc target) role position used known h unused =
          let e = c.PostInc target in
          let ops = g.operands.0 program.facts known (use_of position) e h.comes in
          one g s markable role position used known e target stands.as_place (in_use as_place) refl h unused
          (first_in g s markable role position used known e target stands.as_place (in_use as_place) h (a_piece h.isin (inl refl)) a_place ops place.incremented_after tt)
          no_truth_place no_callee_place (inner target) (λ after a. placed.PostInc a)
      inner (c.PostDec target) role position used known h unused =
          let e = c.PostDec target in
          let ops = g.operands.0 program.facts known (use_of position) e h.comes in
          one g s markable role position used known e target stands.as_place (in_use as_place) refl h unused
          (first_in g s markable role position used known e target stands.as_place (in_use as_place) h (a_piece h.isin (inl refl)) a_place ops place.decremented_after tt)
          no_truth_place no_callee_place (inner target) (λ after a. placed.PostDec a)
      inner (c.PreInc target) role position used known h unused =
          let e = c.PreInc target in
          let ops = g.operands.0 program.facts known (use_of position) e h.comes in
          one g s markable role position used known e target stands.as_place (in_use as_place) refl h unused
          (first_in g s markable role position used known e target stands.as_place (in_use as_place) h (a_piece h.isin (inl refl)) a_place ops place.incremented tt)
          no_truth_place no_callee_place (inner target) (λ after a. placed.PreInc a)
      inner (c.PreDec target) role position used known h unused =
          let e = c.PreDec target in
          let ops = g.operands.0 program.facts known (use_of position) e h.comes in
          one g s markable role position used known e target stands.as_place (in_use as_place) refl h unused
          (first_in g s markable role position used known e target stands.as_place (in_use as_place) h (a_piece h.isin (inl refl)) a_place ops place.decremented tt)
          no_truth_place no_callee_place (inner target) (λ after a. placed.PreDec a)
      inner (c.Unary unary.AddressOf d) role position used known h unused =
          let e = c.Unary unary.AddressOf d in
          let ops = g.operands.0 program.facts known (use_of position) e h.comes in
          one g s markable role position used known e d stands.as_place (in_use as_place) refl h unused
          (first_in g s markable role position used known e d stands.as_place (in_use as_place) h (a_piece h.isin (inl refl)) a_place ops place.an_operand tt)
          no_truth_place no_callee_place (inner d) (λ after a. placed.Unary a)
      inner (c.Unary unary.Not d) role position used known h unused =
          let e = c.Unary unary.Not d in
          let ops = g.operands.0 program.facts known (use_of position) e h.comes in
          one g s markable role position used known e d stands.in_test in_test refl h unused
          (first_in g s markable role position used known e d stands.in_test in_test h (a_piece h.isin (inl refl)) a_test ops place.an_operand
          (λ x next goes. negated_scalar d (use_of position) known next h.comes.behind x h.comes.found goes h.comes.goes))
          no_truth_test no_callee_test (inner d) (λ after a. placed.Unary a)
      inner (c.Unary unary.Plus d) role position used known h unused =
          let e = c.Unary unary.Plus d in
          let ops = g.operands.0 program.facts known (use_of position) e h.comes in
          one g s markable role position used known e d stands.as_value (in_use as_value) refl h unused
          (first_in g s markable role position used known e d stands.as_value (in_use as_value) h (a_piece h.isin (inl refl)) a_value ops place.an_operand tt)
          no_truth_value no_callee_value (inner d) (λ after a. placed.Unary a)
      inner (c.Unary unary.Minus d) role position used known h unused =
          let e = c.Unary unary.Minus d in
          let ops = g.operands.0 program.facts known (use_of position) e h.comes in
          one g s markable role position used known e d stands.as_value (in_use as_value) refl h unused
          (first_in g s markable role position used known e d stands.as_value (in_use as_value) h (a_piece h.isin (inl refl)) a_value ops place.an_operand tt)
          no_truth_value no_callee_value (inner d) (λ after a. placed.Unary a)
      inner (c.Unary unary.Complement d) role position used known h unused =
          let e = c.Unary unary.Complement d in
          let ops = g.operands.0 program.facts known (use_of position) e h.comes in
          one g s markable role position used known e d stands.as_value (in_use as_value) refl h unused
          (first_in g s markable role position used known e d stands.as_value (in_use as_value) h (a_piece h.isin (inl refl)) a_value ops place.an_operand tt)
          no_truth_value no_callee_value (inner d) (λ after a. placed.Unary a)
      inner (c.Unary unary.Dereference d) role position used known h unused =
          let e = c.Unary unary.Dereference d in
          let ops = g.operands.0 program.facts known (use_of position) e h.comes in
          one g s markable role position used known e d stands.as_value (in_use as_value) refl h unused
          (first_in g s markable role position used known e d stands.as_value (in_use as_value) h (a_piece h.isin (inl refl)) a_value ops place.an_operand tt)
          no_truth_value no_callee_value (inner d) (λ after a. placed.Unary a)
      inner (c.Cast types d e) role position used known h unused = others.cast types d e (inner e) role position used known h unused
      inner (c.Marked ms e) role position used known h unused = others.marked ms e (inner e) role position used known h unused
      inner (c.After e number tag) role position used known h unused = others.after e number tag (inner e) role position used known h unused
      inner (c.Binary op l r) role position used known h unused =
          let e = c.Binary op l r in
          let ops = g.operands.0 program.facts known (use_of position) e h.comes in
          both g s markable role position used known e l r stands.as_value stands.as_value (in_use as_value) (in_use as_value) (two_sizes (an_expression_node e) (in_expression l) (in_expression r)) h unused ops.0
          (first_in g s markable role position used known e l stands.as_value (in_use as_value) h (a_piece h.isin (inl refl)) a_value ops.0 place.a_left tt)
          (second_in g s markable role position used known e l r as_value stands.as_value (in_use as_value) h ops.0 (a_piece h.isin (inr (inl refl))) a_value (ops.1 ops.0.found ops.0.behind ops.0.goes)
          (place.a_right ops.0.goes) tt)
          no_truth_value no_truth_value no_callee_value no_callee_value (inner l) (inner r) (λ between after a b. placed.Binary a b)
      inner (c.Logical op l r) role position used known h unused =
          let e = c.Logical op l r in
          let ops = g.operands.0 program.facts known (use_of position) e h.comes in
          both g s markable role position used known e l r stands.in_test stands.in_test in_test in_test (two_sizes (an_expression_node e) (in_expression l) (in_expression r)) h unused ops.0
          (first_in g s markable role position used known e l stands.in_test in_test h (a_piece h.isin (inl refl)) a_test ops.0 place.a_first
          (λ x next goes. let more = ops.1 x next goes in (both_scalars op l r (use_of position) known next more.behind h.comes.behind x more.found h.comes.found goes more.goes h.comes.goes).0))
          (second_in g s markable role position used known e l r as_truth stands.in_test in_test h ops.0 (a_piece h.isin (inr (inl refl))) a_test (ops.1 ops.0.found ops.0.behind ops.0.goes) (place.a_second ops.0.goes)
          (λ y next goes. (both_scalars op l r (use_of position) known ops.0.behind next h.comes.behind ops.0.found y h.comes.found ops.0.goes goes h.comes.goes).1))
          no_truth_test no_truth_test no_callee_test no_callee_test (inner l) (inner r) (λ between after a b. placed.Logical a b)
      inner (c.Assign op l r) role position used known h unused =
          let e = c.Assign op l r in
          let ops = g.operands.0 program.facts known (use_of position) e h.comes in
          both g s markable role position used known e l r stands.as_place stands.as_value (in_use as_place) (in_use as_value) (two_sizes (an_expression_node e) (in_expression l) (in_expression r)) h unused ops.0
          (first_in g s markable role position used known e l stands.as_place (in_use as_place) h (a_piece h.isin (inl refl)) a_place ops.0 place.a_target tt)
          (second_in g s markable role position used known e l r as_place stands.as_value (in_use as_value) h ops.0 (a_piece h.isin (inr (inl refl))) a_value (ops.1 ops.0.found ops.0.behind ops.0.goes)
          (place.an_assigned ops.0.goes) tt)
          no_truth_place no_truth_value no_callee_place no_callee_value (inner l) (inner r) (λ between after a b. placed.Assign a b)
      inner (c.Call f arguments) role position used known h unused =
          let e = c.Call f arguments in
          let ops = g.operands.0 program.facts known (use_of position) e h.comes in
          let first = ops.0 in
          let j = known.next + 1 + length (in_expression f) in
          let size = two_sizes (an_expression_node e) (in_expression f) (in_expressions arguments) in
          let it = two id (objectives unit program criterion) used known.next (length (in_expression e)) (known.next + 1) (length (in_expression f)) j (length (in_expressions arguments))
          {F = λ between. AddsTo new (in_use as_callee) used between (entered known) f (with_marks (new_marks g s) (known.next + 1) f)}
          {G = λ between after. AddsToAll new between after first.behind arguments (within_all (new_marks g s) j arguments)}
          (omega arith) (omega arith) (omega (arith, size)) unused
          (others.callee used (entered known) f (known.next + 1)
          (first_in g s markable role position used known e f stands.as_value (in_use as_callee) h (a_piece h.isin (inl refl)) a_callee first place.a_callee
          (λ x next goes. let more = ops.1 x next goes in called f arguments (use_of position) known next more.behind h.comes.behind x more.found h.comes.found goes more.goes h.comes.goes)) (inner f))
          (λ between. all arguments between first.behind j (number_behind g s f as_callee (entered known) first) (a_piece h.isin (inr (inl refl)))
          (g.unmarked.expression f as_callee (entered known) first.found first.behind first.goes ∙ h.marked) (ops.1 first.found first.behind first.goes) (a_part h.reached (place.arguments first.goes))) in
          from_parts g s role position used it.after known e h
          (placed.Call it.first (at_behind first.goes (λ next. AddsToAll new it.between it.after next arguments (within_all (new_marks g s) j arguments)) it.second)) it.ids
      inner (c.Conditional test left right) role position used known h unused =
          let e = c.Conditional test left right in
          let ops = g.operands.0 program.facts known (use_of position) e h.comes in
          let p = ops.0.0 in
          let x = ops.0.1 p.found p.behind p.goes in
          let y = ops.1 p.found p.behind p.goes x.found x.behind x.goes in
          let i = known.next + 1 + length (in_expression test) in
          let j = i + length (in_expression left) in
          let sizes = three_sizes (an_expression_node e) (in_expression test) (in_expression left) (in_expression right) in
          let test_marked = g.unmarked.expression test as_truth (entered known) p.found p.behind p.goes ∙ h.marked in
          let left_marked = g.unmarked.expression left as_value p.behind x.found x.behind x.goes ∙ test_marked in
          let test_number = number_behind g s test as_truth (entered known) p in
          let left_number : x.behind.next ≡ j = omega (arith, number_behind g s left as_value p.behind x, test_number) in
          let it = two id (objectives unit program criterion) used known.next (length (in_expression e)) (known.next + 1) (length (in_expression test)) i (length (in_expression left) + length (in_expression right))
          {F = λ first. AddsTo new in_test used first (entered known) test (with_marks (new_marks g s) (known.next + 1) test)}
          {G = λ first after. (second : List ℕ) × AddsTo new (in_use as_value) first second p.behind left (with_marks (new_marks g s) i left)
          × AddsTo new (in_use as_value) second after x.behind right (with_marks (new_marks g s) j right)}
          (omega arith) (omega arith) (omega (arith, sizes)) unused
          (operand g s markable stands.in_test in_test used (entered known) test (known.next + 1)
          (first_in g s markable role position used known e test stands.in_test in_test h (a_piece h.isin (inl refl)) a_test p place.a_test
          (λ p next goes. let more = ops.0.1 p next goes in let most = ops.1 p next goes more.found more.behind more.goes in
          tested_scalar test left right (use_of position) known next more.behind most.behind h.comes.behind p more.found most.found h.comes.found goes more.goes most.goes h.comes.goes)) no_truth_test no_callee_test (inner test))
          (λ first unused. pair_added id (objectives unit program criterion) first i (length (in_expression left) + length (in_expression right)) i (length (in_expression left)) j (length (in_expression right))
          {F = λ second. AddsTo new (in_use as_value) first second p.behind left (with_marks (new_marks g s) i left)}
          {G = λ second after. AddsTo new (in_use as_value) second after x.behind right (with_marks (new_marks g s) j right)}
          (omega arith) (omega arith) (omega arith) unused
          (operand g s markable stands.as_value (in_use as_value) first p.behind left i
          (record { number = test_number; isin = a_piece h.isin (inr (inl refl)); fits = a_value; marked = test_marked; comes = x; reached = a_part h.reached (place.if_true p.goes); taken = tt }) no_truth_value no_callee_value (inner left))
          (λ second. operand g s markable stands.as_value (in_use as_value) second x.behind right j
          (record { number = left_number; isin = a_piece h.isin (inr (inr (inl refl))); fits = a_value; marked = left_marked; comes = y; reached = a_part h.reached (place.if_false p.goes x.goes); taken = tt }) no_truth_value no_callee_value (inner right))) in
          from_parts g s role position used it.after known e h
          (placed.Conditional it.first
          (at_behind p.goes (λ next. AddsTo new (in_use as_value) it.between it.second.0 next left (with_marks (new_marks g s) i left)) it.second.1)
          (λ q z next last goes more. at_behind x.goes (λ last. AddsTo new (in_use as_value) it.second.0 it.after last right (with_marks (new_marks g s) j right)) it.second.2 z last
          (ap (expression left as_value) (same_behind p.goes goes) ∙ more))) it.ids
      inner (c.Comma list) role position used known h unused =
          let e = c.Comma list in
          let ops = g.operands.0 program.facts known (use_of position) e h.comes in
          let it = all list used (entered known) (known.next + 1) refl (a_piece h.isin (inl refl)) h.marked ops (a_part h.reached place.in_comma)
          (unused_of (new_marks g s) used known.next (length (in_expression e)) (known.next + 1) (length (in_expressions list)) (omega arith) (omega arith) unused) in
          from_parts g s role position used it.after known e h (placed.Comma it.added)
          (inside_of (new_marks g s) used it.after known.next (length (in_expression e)) (known.next + 1) (length (in_expressions list)) (omega arith) (omega arith) it.ids)
      inner (c.Decide d when_true when_false tag) role position used known h unused = decide d when_true when_false tag role position used known h unused (inner d)

      all : (es : c.Expressions) → All es
      all c.no_expressions used known k number isin marked comes reached unused = record { after = used; added = placed.no_expressions; ids = λ n is. inl is }
      all (c.an_expression e es) used known k number isin marked comes reached unused =
          let each = g.operands.1 program.facts known (c.an_expression e es) comes in
          let first = each.0 in
          let size = length-append (in_expression e) (in_expressions es) in
          let it = pair_added id (objectives unit program criterion) used k (length (in_expressions (c.an_expression e es))) k (length (in_expression e)) (k + length (in_expression e)) (length (in_expressions es))
          {F = λ between. AddsTo new (in_use as_value) used between known e (with_marks (new_marks g s) k e)}
          {G = λ between after. AddsToAll new between after first.behind es (within_all (new_marks g s) (k + length (in_expression e)) es)}
          (omega arith) (omega arith) (omega (arith, size)) unused
          (operand g s markable stands.as_value (in_use as_value) used known e k
          (record { number = number; isin = a_piece isin (inl refl); fits = a_value; marked = marked; comes = first; reached = a_part reached place.one_expression; taken = tt }) no_truth_value no_callee_value (inner e))
          (λ between. all es between first.behind (k + length (in_expression e)) (number_behind g s e as_value known first ∙ ap (λ n. n + length (in_expression e)) number) (a_piece isin (inr (inl refl)))
          (g.unmarked.expression e as_value known first.found first.behind first.goes ∙ marked) (each.1 first.found first.behind first.goes)
          (a_part reached (place.more_expressions first.goes))) in
          record {
            after = it.after;
            added = placed.an_expression it.added.1 (at_behind first.goes (λ next. AddsToAll new it.added.0 it.after next es (within_all (new_marks g s) (k + length (in_expression e)) es)) it.added.2);
            ids = it.ids;
          }
