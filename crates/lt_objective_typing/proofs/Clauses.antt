-- What is made of clauses that are predicates is one.
use Rattle.std.proofs.Common.{◌≡◌, ℕ, suc, List, [], ◌∷◌, Option, None, Bool, true, false, refl, sym, ap, ◌∙◌, subst}
use Rattle.std.proofs.lemmas.Bool.{false≢true}
use Rattle.std.proofs.lemmas.List.{map-append}
use Rattle.std.specs.Prelude.{◌++◌, ◌+◌, ◌-◌, if◌then◌else◌, length, map, nat_lt}
use Rattle.std.specs.List.{AllByRecursion}
use Rattle.lt_tree.specs.declared.expression.LogicalOp.{LogicalOp}
use Rattle.lt_tree.specs.declared.expression.LogicalOp.TheVariants as logical
use Rattle.lt_tree.specs.declared.expression.UnaryOp.TheVariants as unary
use Rattle.lt_model.specs.declared.operator.Op.TheVariants as O
use Rattle.lt_tree.specs.Tree as c
use Rattle.lt_tree.specs.Nodes.{in_expression}
use Rattle.lt_tree.specs.Purity.{is_pure}
use Rattle.lt_tree.specs.Typing.Types.{is_integer, is_scalar}
use Rattle.lt_tree.specs.Typing.Entities.{Known}
use Rattle.lt_objectives.specs.Decisions.{Test, clauses_of, clause_list, clause_count, with_clause, determination, negation, conjunction, zero_constant, one, conjunctions_from, conjunctions, active_from}
use Rattle.lt_mark_laws.proofs.Lists.{all_first, all_second, all_both}
use Rattle.lt_mark_typing.specs.Placed.{IsThere}
use Rattle.lt_mark_typing.specs.Laws.{PredicatesAreMade}
use Rattle.lt_objective_typing.specs.Laws.{ArePredicates, DecisionsGivePredicates}
use Rattle.lt_objective_typing.proofs.Both.{and_first, and_second}
use Rattle.lt_objective_typing.proofs.Made.{negated, connected, operated, integer_there}
use Rattle.lt_objective_typing.proofs.Constants.{zero_there, one_there}

-- ---- the clauses of expressions without marks

abbrev pub expression_of : Test → c.Expression
expression_of it = it.core.expression

-- how an expression without marks is made of clauses
pub data Clauses : c.Expression → Type 0 where
  two : {op : LogicalOp} {left right : c.Expression} → Clauses left → Clauses right → Clauses (c.Logical op left right)
  opposite : {e : c.Expression} → Clauses e → Clauses (c.Unary unary.Not e)
  alone : {e : c.Expression} → ((after : Option ℕ) (k : ℕ) → map expression_of (clauses_of after k e) ≡ e ∷ []) → ((n : ℕ) (by : c.Expression) → with_clause n by e ≡ by) → Clauses e

pub clauses_in : (e : c.Expression) → is_pure e ≡ true → Clauses e
clauses_in (c.Name w) h = alone (λ after k. refl) (λ n by. refl)
clauses_in (c.Constant w) h = alone (λ after k. refl) (λ n by. refl)
clauses_in (c.Text bytes) h = alone (λ after k. refl) (λ n by. refl)
clauses_in (c.Index whole index) h = alone (λ after k. refl) (λ n by. refl)
clauses_in (c.Call callee arguments) h = absurd (false≢true h)
clauses_in (c.Member whole w) h = alone (λ after k. refl) (λ n by. refl)
clauses_in (c.Arrow pointer w) h = alone (λ after k. refl) (λ n by. refl)
clauses_in (c.PostInc target) h = absurd (false≢true h)
clauses_in (c.PostDec target) h = absurd (false≢true h)
clauses_in (c.PreInc target) h = absurd (false≢true h)
clauses_in (c.PreDec target) h = absurd (false≢true h)
clauses_in (c.Unary unary.AddressOf operand) h = alone (λ after k. refl) (λ n by. refl)
clauses_in (c.Unary unary.Dereference operand) h = alone (λ after k. refl) (λ n by. refl)
clauses_in (c.Unary unary.Plus operand) h = alone (λ after k. refl) (λ n by. refl)
clauses_in (c.Unary unary.Minus operand) h = alone (λ after k. refl) (λ n by. refl)
clauses_in (c.Unary unary.Complement operand) h = alone (λ after k. refl) (λ n by. refl)
clauses_in (c.Unary unary.Not operand) h = opposite (clauses_in operand h)
clauses_in (c.SizeofExpr operand) h = alone (λ after k. refl) (λ n by. refl)
clauses_in (c.SizeofType s d) h = alone (λ after k. refl) (λ n by. refl)
clauses_in (c.Cast s d operand) h = alone (λ after k. refl) (λ n by. refl)
clauses_in (c.Binary op left right) h = alone (λ after k. refl) (λ n by. refl)
clauses_in (c.Logical op left right) h = two (clauses_in left (and_first (is_pure left) (is_pure right) h)) (clauses_in right (and_second (is_pure left) (is_pure right) h))
clauses_in (c.Conditional test left right) h = alone (λ after k. refl) (λ n by. refl)
clauses_in (c.Assign op target value) h = absurd (false≢true h)
clauses_in (c.Comma list) h = alone (λ after k. refl) (λ n by. refl)
clauses_in (c.Marked ms value) h = absurd (false≢true h)
clauses_in (c.Decide operand when_true when_false tag) h = absurd (false≢true h)
clauses_in (c.After operand id tag) h = absurd (false≢true h)

-- wherever they are numbered from, the clauses are the same
pub clauses_same : {e : c.Expression} → Clauses e → (after other : Option ℕ) (k j : ℕ) → map expression_of (clauses_of after k e) ≡ map expression_of (clauses_of other j e)
clauses_same (two {op} {left} {right} v w) after other k j =
    map-append expression_of (clauses_of None (k + 1) left) (clauses_of None (k + 1 + length (in_expression left)) right)
    ∙ ap (λ xs. xs ++ map expression_of (clauses_of None (k + 1 + length (in_expression left)) right)) (clauses_same v None None (k + 1) (j + 1))
    ∙ ap (λ ys. map expression_of (clauses_of None (j + 1) left) ++ ys) (clauses_same w None None (k + 1 + length (in_expression left)) (j + 1 + length (in_expression left)))
    ∙ sym (map-append expression_of (clauses_of None (j + 1) left) (clauses_of None (j + 1 + length (in_expression left)) right))
clauses_same (opposite v) after other k j = clauses_same v None None (k + 1) (j + 1)
clauses_same (alone f g) after other k j = f after k ∙ sym (f other j)

-- those of both operands of a connector
pub clauses_of_two : (op : LogicalOp) {left right : c.Expression} → Clauses left → Clauses right → clause_list (c.Logical op left right) ≡ clause_list left ++ clause_list right
clauses_of_two op {left} {right} v w =
    map-append expression_of (clauses_of None 1 left) (clauses_of None (1 + length (in_expression left)) right)
    ∙ ap (λ xs. xs ++ map expression_of (clauses_of None (1 + length (in_expression left)) right)) (clauses_same v None None 1 0)
    ∙ ap (λ ys. clause_list left ++ ys) (clauses_same w None None (1 + length (in_expression left)) 0)

module _ (made : PredicatesAreMade) (new : ℕ → Bool) (used : List ℕ) (known : Known) where
  abbrev There : c.Expression → Type 0
  There e = IsThere is_scalar new used known e

  -- all clauses of an expression are there
  abbrev AllThere : c.Expression → Type 0
  AllThere d = AllByRecursion (IsThere is_scalar new used known) (clause_list d)

  left_there : (op : LogicalOp) {left right : c.Expression} → Clauses left → Clauses right → AllThere (c.Logical op left right) → AllThere left
  left_there op {left} {right} v w all = all_first (IsThere is_scalar new used known) (clause_list left) (clause_list right) (subst (AllByRecursion (IsThere is_scalar new used known)) (clauses_of_two op v w) all)

  right_there : (op : LogicalOp) {left right : c.Expression} → Clauses left → Clauses right → AllThere (c.Logical op left right) → AllThere right
  right_there op {left} {right} v w all = all_second (IsThere is_scalar new used known) (clause_list left) (clause_list right) (subst (AllByRecursion (IsThere is_scalar new used known)) (clauses_of_two op v w) all)

  operand_there : {e : c.Expression} → Clauses e → AllThere (c.Unary unary.Not e) → AllThere e
  operand_there v all = subst (AllByRecursion (IsThere is_scalar new used known)) (clauses_same v None None 1 0) all

  -- ---- the decision, and with a clause replaced by an integer

  whole : {d : c.Expression} → Clauses d → AllThere d → IsThere is_scalar new used known d
  whole (two {op} {left} {right} v w) all =
      integer_there made (c.Logical op left right) (connected made op left right (whole v (left_there op v w all)) (whole w (right_there op v w all)))
  whole (opposite {e} v) all = integer_there made (negation e) (negated made e (whole v (operand_there v all)))
  whole (alone {e} f g) all = (subst (AllByRecursion (IsThere is_scalar new used known)) (f None 0) all).0

  either : (b : Bool) (op : LogicalOp) (left right p q : c.Expression) → IsThere is_scalar new used known left → IsThere is_scalar new used known right → IsThere is_integer new used known p → IsThere is_integer new used known q
      → IsThere is_integer new used known (if b then c.Logical op p right else c.Logical op left q)
  either true op left right p q l r m n = connected made op p right (integer_there made p m) r
  either false op left right p q l r m n = connected made op left q l (integer_there made q n)

  replaced : {d : c.Expression} → Clauses d → AllThere d → (n : ℕ) (by : c.Expression) → IsThere is_integer new used known by → IsThere is_integer new used known (with_clause n by d)
  replaced (two {op} {left} {right} v w) all n by i =
      let l = left_there op v w all in
      let r = right_there op v w all in
      either (nat_lt n (clause_count left)) op left right (with_clause n by left) (with_clause (n - clause_count left) by right) (whole v l) (whole w r) (replaced v l n by i) (replaced w r (n - clause_count left) by i)
  replaced (opposite {e} v) all n by i = negated made (with_clause n by e) (integer_there made (with_clause n by e) (replaced v (operand_there v all) n by i))
  replaced (alone f g) all n by i = subst (IsThere is_integer new used known) (sym (g n by)) i

  determined : {d : c.Expression} → Clauses d → AllThere d → (n : ℕ) → IsThere is_scalar new used known (determination n d)
  determined {d} v all n =
      integer_there made (determination n d) (operated made O.Ne (with_clause n one d) (with_clause n zero_constant d) (replaced v all n one (one_there made)) (replaced v all n zero_constant (zero_there made)))

  -- ---- combinations

  opposite_there : (e : c.Expression) → There e → There (negation e)
  opposite_there e h = integer_there made (negation e) (negated made e h)

  both_there : (left right : c.Expression) → There left → There right → There (conjunction left right)
  both_there left right h g = integer_there made (conjunction left right) (connected made logical.And left right h g)

  from : (made : c.Expression) (list : List c.Expression) → There made → ArePredicates new used known list → ArePredicates new used known (conjunctions_from made list)
  from made [] h all = (h, tt)
  from made (e ∷ es) h all =
      all_both (IsThere is_scalar new used known) (conjunctions_from (conjunction made e) es) (conjunctions_from (conjunction made (negation e)) es) (from (conjunction made e) es (both_there made e h all.0) all.1)
      (from (conjunction made (negation e)) es (both_there made (negation e) h (opposite_there e all.0)) all.1)

  combined : (list : List c.Expression) → ArePredicates new used known list → ArePredicates new used known (conjunctions list)
  combined [] all = tt
  combined (e ∷ es) all =
      all_both (IsThere is_scalar new used known) (conjunctions_from e es) (conjunctions_from (negation e) es) (from e es all.0 all.1) (from (negation e) es (opposite_there e all.0) all.1)

  active : {d : c.Expression} → Clauses d → AllThere d → (n : ℕ) (list : List c.Expression) → ArePredicates new used known list → ArePredicates new used known (active_from d n list)
  active v all n [] them = tt
  active {d} v all n (e ∷ es) them = (
    both_there e (determination n d) them.0 (determined v all n),
    (both_there (negation e) (determination n d) (opposite_there e them.0) (determined v all n), active v all (suc n) es them.1),
  )

pub of_decisions : PredicatesAreMade → DecisionsGivePredicates
of_decisions made new used known d h all =
    let v = clauses_in d h in
    let it = whole made new used known v all in
    ((it, (opposite_there made new used known d it, tt)), combined made new used known (clause_list d) all, active made new used known v all 0 (clause_list d) all)
