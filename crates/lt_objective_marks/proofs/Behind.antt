-- What stands behind marks and in a `pc_after` has its marks.
use Rattle.std.proofs.Common.{◌≡◌, inl, refl, sym, ap, ◌∙◌, subst, ℕ, suc, ◌+◌, ◌≤◌, List, length, length-append, Bool, true, false, arith}
use Rattle.lt_tree.specs.Tree as c
use Rattle.lt_tree.specs.Nodes.{in_expression, in_marks}
use Rattle.lt_tree.specs.Typing.Types.{is_scalar}
use Rattle.lt_tree.specs.Typing.TypedTree.{Marks, Value}
use Rattle.lt_tree.specs.Typing.Entities.{Known}
use Rattle.lt_tree.specs.Typing.Steps.{Goes, goes_on}
use Rattle.lt_tree.specs.Typing.Expressions.{a_value as a_value_form, Typed, Use, as_value, as_truth, as_place, as_callee, own_type, has_pointer_to_function, finish}
use Rattle.lt_tree.specs.Typing.MarkRules.{number_of_id, inside_mark, inside_after, judge_marked}
use Rattle.lt_tree.specs.Typing.ExpressionTyping.{expression, marks}
use Rattle.lt_tree.specs.Typing.Programs.{Program}
use Rattle.lt_objectives.specs.declared.criteria.Criterion.{Criterion}
use Rattle.lt_objectives.specs.Objectives.{in_front}
use Rattle.lt_objectives.specs.Marked.{labels, decided, preceded_by, within, joined}
use Rattle.lt_objective_places.specs.Stands.{Role}
use Rattle.lt_objective_places.specs.Stands as stands
use Rattle.lt_objective_places.specs.Pieces.{an_expression, IsIn, a_piece}
use Rattle.lt_mark_typing.specs.Beside.{Position, in_use, in_test, use_of}
use Rattle.lt_mark_typing.specs.Placed.{AddsTo, AddsToParts, AreNewLabels, behind_marks, takes_labels, is_good_type}
use Rattle.lt_mark_typing.specs.Placed as placed
use Rattle.lt_mark_typing.proofs.Nodes.{old_first}
use Rattle.lt_typed_nodes.specs.Coming.{ComesToIt, entered}
use Rattle.lt_typed_nodes.specs.Reaching as place
use Rattle.lt_typed_nodes.specs.Reaching.{IsReached, a_part}
use Rattle.lt_objective_marks.specs.Settings.{Setting, Fits, a_test, a_truth, a_value, a_switch, a_callee, a_place, a_marked_place, IsTaken}
use Rattle.lt_objective_marks.proofs.Given.{Given}
use Rattle.lt_objective_marks.proofs.Ends.{part_goes, same_found, same_behind, good_scalar}
use Rattle.lt_objective_marks.proofs.Values.{value_found}
use Rattle.lt_objective_marks.proofs.Whole.{UnusedInside, new_marks, Here, Inside, Inner, split, ValuesAreMarkable}
use Rattle.lt_objective_marks.proofs.Noted.{number_behind}
use Rattle.lt_objective_marks.proofs.Steps.{unused_of, inside_of, old_here, from_parts}
use Rattle.lt_objective_marks.proofs.Taken.{behind_marks_type, after_type}
use Rattle.lt_objective_marks.proofs.Parts.{first_in, one}

joined_same : (ms others : c.Marks) → placed.joined ms others ≡ joined ms others
joined_same c.no_marks others = refl
joined_same (c.a_mark m ms) others = ap (c.a_mark m) (joined_same ms others)

module _ (g : Given) {new : ℕ → Bool} {unit : c.Unit} {program : Program} {criterion : Criterion} {id : ℕ} (s : Setting new unit program criterion id) where
  -- ---- behind marks

  behind_here : {role : Role} {position : Position} (known next : Known) (ms : c.Marks) (d : c.Expression) (typed : Marks) → marks ms (entered known) ≡ Goes typed next
      → Fits role position → IsIn unit next.next (an_expression role d) → next.is_unmarked ≡ false → (whole : ComesToIt program.facts known (use_of position) (c.Marked ms d)) → IsTaken role position known (c.Marked ms d)
      → ComesToIt program.facts next (inside_mark (use_of position)) d → IsReached s.greatest s.model unit (place.an_expression (inside_mark (use_of position)) d) next → Here g s role (behind_marks position) next d
  behind_here known next ms d typed goes a_test isin marked whole taken comes reached = record {
    isin = isin;
    fits = a_test;
    marked = marked;
    comes = comes;
    reached = reached;
    taken = λ x j there. ap is_scalar (sym (behind_marks_type ms d as_truth known next j whole.behind typed x whole.found goes there whole.goes).0) ∙ taken whole.found whole.behind whole.goes;
  }
  behind_here known next ms d typed goes a_truth isin marked whole taken comes reached = record {
    isin = isin;
    fits = a_truth;
    marked = marked;
    comes = comes;
    reached = reached;
    taken = λ x j there. ap is_scalar (sym (behind_marks_type ms d as_truth known next j whole.behind typed x whole.found goes there whole.goes).0) ∙ taken whole.found whole.behind whole.goes;
  }
  behind_here known next ms d typed goes a_value isin marked whole taken comes reached = record { isin = isin; fits = a_value; marked = marked; comes = comes; reached = reached; taken = tt }
  behind_here known next ms d typed goes a_switch isin marked whole taken comes reached = record { isin = isin; fits = a_switch; marked = marked; comes = comes; reached = reached; taken = tt }
  behind_here known next ms d typed goes a_callee isin marked whole taken comes reached = record { isin = isin; fits = a_value; marked = marked; comes = comes; reached = reached; taken = tt }
  behind_here known next ms d typed goes a_place isin marked whole taken comes reached = record { isin = isin; fits = a_marked_place; marked = marked; comes = comes; reached = reached; taken = tt }
  behind_here known next ms d typed goes a_marked_place isin marked whole taken comes reached = record { isin = isin; fits = a_marked_place; marked = marked; comes = comes; reached = reached; taken = tt }

  not_called : {role : Role} {position : Position} → Fits role position → behind_marks position ≡ in_use as_callee → ⊥
  not_called a_test is = cc
  not_called a_truth is = cc
  not_called a_value is = cc
  not_called a_switch is = cc
  not_called a_callee is = cc
  not_called a_place is = cc
  not_called a_marked_place is = cc

  pub marked : (ms : c.Marks) (d : c.Expression) → Inner g s d → Inner g s (c.Marked ms d)
  marked ms d inner_d role position used known h unused =
      let e = c.Marked ms d in
      let goes = part_goes (marks ms (entered known)) (λ (typed : Marks) (k : Known). goes_on (expression d (inside_mark (use_of position)) k)
      (λ (x : Typed) (j : Known). finish known.next (use_of position) (judge_marked typed x) j)) h.comes.goes in
      let typed = goes.0 in
      let next = goes.1 in
      let comes = g.operands.0 program.facts known (use_of position) e h.comes typed next goes.2 in
      let ends = (behind_marks_type ms d (use_of position) known next comes.behind h.comes.behind typed comes.found h.comes.found goes.2 comes.goes h.comes.goes).1 in
      let size : length (in_expression e) ≡ suc (length (in_marks ms) + length (in_expression d)) = ap suc (length-append (in_marks ms) (in_expression d)) in
      let j = known.next + 1 + length (in_marks ms) in
      let number : next.next ≡ j = omega (arith, ends, number_behind g s e (use_of position) known h.comes, number_behind g s d (inside_mark (use_of position)) next comes, size) in
      let is_open = g.unmarked.marks ms (entered known) typed next goes.2 ∙ h.marked in
      let here = behind_here known next ms d typed goes.2 h.fits (subst (λ n. IsIn unit n (an_expression role d)) (sym number) (a_piece h.isin (inl refl))) is_open h.comes h.taken comes (a_part h.reached (place.behind_marks goes.2)) in
      let fits : next.next + length (in_expression d) ≤ known.next + length (in_expression e) = omega (arith, size, number) in
      let it = split g s role (behind_marks position) used next d here (not_called h.fits) inner_d
      (unused_of (new_marks g s) used known.next (length (in_expression e)) next.next (length (in_expression d)) (omega (arith, number)) fits unused) in
      let parts : AddsToParts new position used it.after known e (c.Marked (placed.joined ms (labels in_front (new_marks g s) next.next)) (decided (new_marks g s) next.next (within (new_marks g s) next.next d))) =
      placed.Marked (labels in_front (new_marks g s) next.next) (old_first new (in_marks ms) (in_expression d) (old_here g s known.next e h.isin).1)
      (λ t n there. subst (λ n. (n.is_unmarked ≡ false) × AreNewLabels new used it.between n (labels in_front (new_marks g s) next.next)) (same_behind goes.2 there) (is_open, it.labels))
      (λ t n there. subst (λ n. AddsTo new (behind_marks position) it.between it.after n d (decided (new_marks g s) next.next (within (new_marks g s) next.next d))) (same_behind goes.2 there) it.added) in
      from_parts g s role position used it.after known e h
      (subst (λ n. AddsToParts new position used it.after known e (c.Marked (joined ms (labels in_front (new_marks g s) n)) (decided (new_marks g s) n (within (new_marks g s) n d)))) number
      (subst (λ ls. AddsToParts new position used it.after known e (c.Marked ls (decided (new_marks g s) next.next (within (new_marks g s) next.next d)))) (joined_same ms (labels in_front (new_marks g s) next.next)) parts))
      (inside_of (new_marks g s) used it.after known.next (length (in_expression e)) next.next (length (in_expression d)) (omega (arith, number)) fits it.ids)

  -- ---- in a `pc_after`

  -- one in a test: labels may stand in front of what is in it, whatever it is
  in_truth : (e : c.Expression) (number tag : List ℕ) (position : Position) (role : Role) (used : List ℕ) (known : Known) → takes_labels position ≡ true → use_of position ≡ as_truth → Here g s role position known (c.After e number tag)
      → UnusedInside (new_marks g s) used known.next (length (in_expression (c.After e number tag))) → Here g s stands.in_truth (in_use as_truth) (entered known) e → Inner g s e → Inside g s position used known (c.After e number tag)
  in_truth e number tag position role used known takes taken h unused here inner_e =
      let whole = c.After e number tag in
      let old = (old_here g s known.next whole h.isin).0 in
      let it = split g s stands.in_truth (in_use as_truth) used (entered known) e here (λ is. not_truth is) inner_e
      (unused_of (new_marks g s) used known.next (length (in_expression whole)) (known.next + 1) (length (in_expression e)) (omega arith) (omega arith) unused) in
      from_parts g s role position used it.after known whole h (by (labels in_front (new_marks g s) (known.next + 1)) old it.labels it.added)
      (inside_of (new_marks g s) used it.after known.next (length (in_expression whole)) (known.next + 1) (length (in_expression e)) (omega arith) (omega arith) it.ids)
    where
      not_truth : in_use as_truth ≡ in_use as_callee → ⊥
      not_truth is = cc

      as_said : (u : Use) → u ≡ as_truth → inside_after u ≡ as_truth
      as_said u is = ap inside_after is

      good : (x : Typed) (next : Known) → expression e as_truth (entered known) ≡ Goes x next → ((v : Value) × (x.form ≡ a_value_form v)) × (is_good_type next.structs (own_type x) ≡ true)
      good x next goes =
          let value = value_found as_truth refl e (entered known) next x goes in (
            (value.0, value.1),
            good_scalar next.structs (own_type x) (here.taken x next goes)
                (subst (λ (y : Typed). has_pointer_to_function (own_type y) ≡ false) (same_found here.comes.goes goes) (g.tests s.greatest s.model unit program s.typed as_truth (entered known) e here.comes refl)),
          )

      by : {between after : List ℕ} {x : c.Expression} (ms : c.Marks) → new (number_of_id number) ≡ false → AreNewLabels new used between (entered known) ms → AddsTo new (in_use as_truth) between after (entered known) e x
          → AddsToParts new position used after known (c.After e number tag) (c.After (preceded_by ms x) number tag)
      by {between} {after} {x} c.no_marks old fresh adds =
          placed.After old (subst (λ u. AddsTo new (in_use u) used after (entered known) e x) (sym (as_said (use_of position) taken)) (subst (λ u. AddsTo new (in_use as_truth) u after (entered known) e x) fresh adds))
      by {between} {after} {x} (c.a_mark m ms) old fresh adds =
          placed.AfterLabels old takes h.marked (λ y next goes. good y next (ap (λ u. expression e u (entered known)) (sym taken) ∙ goes)) fresh
          (subst (λ u. AddsTo new (in_use u) between after (entered known) e x) (sym taken) adds)

  -- a value or a place is one there too
  pub after : ValuesAreMarkable g s → (e : c.Expression) (number tag : List ℕ) → Inner g s e → Inner g s (c.After e number tag)
  after markable e number tag inner_e role position used known h unused = by h.fits h unused
    where
      whole : c.Expression
      whole = c.After e number tag

      scalar : (x : Typed) (next : Known) (comes : ComesToIt program.facts known as_truth whole) → is_scalar (own_type comes.found) ≡ true → expression e as_truth (entered known) ≡ Goes x next → is_scalar (own_type x) ≡ true
      scalar x next comes is goes = ap is_scalar (after_type e number tag known next comes.behind x comes.found goes comes.goes) ∙ is

      value_no_truth : stands.as_value ≡ stands.in_truth → ⊥
      value_no_truth is = cc

      place_no_truth : stands.as_place ≡ stands.in_truth → ⊥
      place_no_truth is = cc

      value_no_callee : in_use as_value ≡ in_use as_callee → ⊥
      value_no_callee is = cc

      truth_no_callee : in_use as_truth ≡ in_use as_callee → ⊥
      truth_no_callee is = cc

      place_no_callee : in_use as_place ≡ in_use as_callee → ⊥
      place_no_callee is = cc

      by : {role : Role} {position : Position} → Fits role position → (h : Here g s role position known whole) → UnusedInside (new_marks g s) used known.next (length (in_expression whole)) → Inside g s position used known whole
      by a_test h unused =
          let comes = g.operands.0 program.facts known as_truth whole h.comes in
          in_truth e number tag in_test stands.in_test used known refl refl h unused
          (record { isin = a_piece h.isin (inl refl); fits = a_truth; marked = h.marked; comes = comes; reached = a_part h.reached place.in_after; taken = λ x next goes. scalar x next h.comes (h.taken h.comes.found h.comes.behind h.comes.goes) goes }) inner_e
      by a_truth h unused =
          let comes = g.operands.0 program.facts known as_truth whole h.comes in
          in_truth e number tag (in_use as_truth) stands.in_truth used known refl refl h unused
          (record { isin = a_piece h.isin (inl refl); fits = a_truth; marked = h.marked; comes = comes; reached = a_part h.reached place.in_after; taken = λ x next goes. scalar x next h.comes (h.taken h.comes.found h.comes.behind h.comes.goes) goes }) inner_e
      by a_value h unused =
          one g s markable stands.as_value (in_use as_value) used known whole e stands.as_value (in_use as_value) refl h unused
          (first_in g s markable stands.as_value (in_use as_value) used known whole e stands.as_value (in_use as_value) h (a_piece h.isin (inl refl)) a_value (g.operands.0 program.facts known as_value whole h.comes) place.in_after tt)
          value_no_truth value_no_callee inner_e (λ last a. placed.After (old_here g s known.next whole h.isin).0 a)
      by a_switch h unused =
          one g s markable stands.as_value (in_use as_truth) used known whole e stands.as_value (in_use as_truth) refl h unused
          (first_in g s markable stands.as_value (in_use as_truth) used known whole e stands.as_value (in_use as_truth) h (a_piece h.isin (inl refl)) a_switch (g.operands.0 program.facts known as_truth whole h.comes) place.in_after tt)
          value_no_truth truth_no_callee inner_e (λ last a. placed.After (old_here g s known.next whole h.isin).0 a)
      by a_callee h unused =
          one g s markable stands.as_value (in_use as_callee) used known whole e stands.as_value (in_use as_value) refl h unused
          (first_in g s markable stands.as_value (in_use as_callee) used known whole e stands.as_value (in_use as_value) h (a_piece h.isin (inl refl)) a_value (g.operands.0 program.facts known as_callee whole h.comes) place.in_after tt)
          value_no_truth value_no_callee inner_e (λ last a. placed.After (old_here g s known.next whole h.isin).0 a)
      by a_place h unused =
          one g s markable stands.as_place (in_use as_place) used known whole e stands.as_place (in_use as_place) refl h unused
          (first_in g s markable stands.as_place (in_use as_place) used known whole e stands.as_place (in_use as_place) h (a_piece h.isin (inl refl)) a_place (g.operands.0 program.facts known as_place whole h.comes) place.in_after tt)
          place_no_truth place_no_callee inner_e (λ last a. placed.After (old_here g s known.next whole h.isin).0 a)
      by a_marked_place h unused =
          one g s markable stands.as_place (in_use as_value) used known whole e stands.as_place (in_use as_value) refl h unused
          (first_in g s markable stands.as_place (in_use as_value) used known whole e stands.as_place (in_use as_value) h (a_piece h.isin (inl refl)) a_marked_place (g.operands.0 program.facts known as_value whole h.comes) place.in_after tt)
          place_no_truth value_no_callee inner_e (λ last a. placed.After (old_here g s known.next whole h.isin).0 a)
