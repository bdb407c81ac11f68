-- What typing makes of an inequality of two integers, and where it is true.
use Rattle.std.proofs.Common.{◌≡◌, ℕ, pos, [], Some, Bool, true, false, refl, sym, ap, ◌∙◌, subst}
use Rattle.std.specs.Prelude.{if◌then◌else◌, unwrap_or}
use Rattle.lt_model.specs.declared.operator.Op.TheVariants as O
use Rattle.lt_model.specs.declared.scalar.DataModel.{DataModel}
use Rattle.lt_model.specs.declared.scalar.Scalar.{Scalar}
use Rattle.lt_model.specs.declared.scalar.Scalar.TheVariants as S
use Rattle.lt_model.specs.Scalar.{IsValue}
use Rattle.lt_model.specs.Conversions.{promoted, usual_of}
use Rattle.lt_tree.specs.Tree as c
use Rattle.lt_tree.specs.Purity.{is_pure}
use Rattle.lt_tree.specs.Typing.Types.{CType, Void, Num, is_integer, scalar_of}
use Rattle.lt_tree.specs.Typing.TypedTree as e
use Rattle.lt_tree.specs.Typing.TypedTree.{Value, type_of}
use Rattle.lt_tree.specs.Typing.Entities.{Known}
use Rattle.lt_tree.specs.Typing.Steps.{Goes, goes_on}
use Rattle.lt_tree.specs.Typing.Operands.{are_integers}
use Rattle.lt_tree.specs.Typing.Expressions.{Form, a_value, a_place, a_designator, Typed, as_value, own_type, value_at as value_of_place, value_in, scalar_in, converted_to, used, finish}
use Rattle.lt_tree.specs.Typing.BinaryOperations.{judge_binary, on_integers, on_pointers}
use Rattle.lt_tree.specs.Typing.ExpressionTyping.{expression}
use Rattle.lt_ir.specs.Running.{At, marks}
use Rattle.lt_meaning.specs.Expressions.{is_pure as is_pure_value, Around, wanted, tracking, eval}
use Rattle.lt_mark_laws.specs.Laws.{is_quietly_true, number_at, DifferencesAreExact, LabelsNoteTheirPredicates}
use Rattle.lt_mark_laws.specs.Mutants.{of_scalar, value_at, differ_as_values, entered, IsDifference}
use Rattle.lt_objectives.specs.Decisions.{inequality}
use Rattle.lt_mutation_labels.proofs.Steps.{part, ended}
use Rattle.lt_mutation_labels.proofs.Pure.{value_pure, converted_pure, both_true}
use Rattle.lt_mutation_labels.proofs.PureTyping.{typed_pure}
use Rattle.lt_mutation_labels.proofs.Conversions.{stays, no_bool, promoted_value, usual_self}
use Rattle.lt_mutation_labels.proofs.Numbers.{Sure, HasNumber, of_value, scalar_integer, converted_itself, converted_number, same_number, differ_so}

-- ---- operands whose values the comparison keeps

-- Converted to this type it is the same number of it as of its own type, or none of either.
abbrev pub Keeps : Around → Scalar → Value → At → Type 0
Keeps here s v at = of_scalar here.program.model (Some s) (number_at here (converted_to (Num s) v) at) ≡ value_at here v at

-- Two integers whose values the usual arithmetic conversions keep.
pub record IsKept (m : DataModel) (x y : Typed) : Type 0 where
  pub integers : are_integers (own_type x) (own_type y) ≡ true
  pub type : Scalar
  pub usual : usual_of m (scalar_in x) (scalar_in y) ≡ type
  pub left : (here : Around) (at : At) → here.program.model ≡ m → Keeps here type (value_in x) at
  pub right : (here : Around) (at : At) → here.program.model ≡ m → Keeps here type (value_in y) at

-- a value of this type, whose numbers the type has
pub record IsOfType (s : Scalar) (x : Typed) : Type 0 where
  pub value : Value
  pub form : x.form ≡ a_value value
  pub type : type_of value ≡ Num s
  pub numbers : (here : Around) (at : At) → Sure (HasNumber (IsValue here.program.model s)) (eval (tracking false here) wanted value) at

abbrev pub type_by : Form → CType
type_by form = elim (form) [ a_value v ↦ type_of v | a_place place ↦ e.type_at place | a_designator name type ↦ type ]

pub own_by : (x : Typed) (v : Value) (t : CType) → x.form ≡ a_value v → type_of v ≡ t → own_type x ≡ t
own_by x v t h g = ap type_by h ∙ g

abbrev pub value_of_form : Form → Value
value_of_form form = elim (form) [ a_value v ↦ v | a_place place ↦ value_of_place (e.type_at place) place | a_designator name type ↦ e.Constant Void (pos 0) ]

pub value_by : (x : Typed) (v : Value) → x.form ≡ a_value v → value_in x ≡ v
value_by x v h = ap value_of_form h

module _ (here : Around) (s : Scalar) (v : Value) (at : At) where
  -- a value of the type itself
  pub itself_keeps : type_of v ≡ Num s → Keeps here s v at
  itself_keeps t = ap (λ w. of_scalar here.program.model (Some s) (number_at here w at)) (converted_itself s v t) ∙ ap (λ r. of_scalar here.program.model (scalar_of r) (number_at here v at)) (sym t)

  -- a value whose type has its numbers, in the type to which that is promoted
  pub promoted_keeps : scalar_of (type_of v) ≡ Some s → Sure (HasNumber (IsValue here.program.model s)) (eval (tracking false here) wanted v) at → Keeps here (promoted here.program.model s) v at
  promoted_keeps t h =
      let m = here.program.model in
      let p = promoted m s in
      let number = of_value (IsValue m s) here v at h in
      ap (of_scalar m (Some p)) (converted_number here p v at (IsValue m s) (scalar_integer (type_of v) s t) (λ z g. stays m p z (no_bool m s) (promoted_value m s z g)) number)
      ∙ same_number here s p (number_at here v at) (promoted_value m s) number
      ∙ ap (λ r. of_scalar m r (number_at here v at)) (sym t)

-- two values of one type
pub of_one_type : (m : DataModel) (s : Scalar) (x y : Typed) → IsOfType s x → IsOfType s y → IsKept m x y
of_one_type m s x y p q =
    let t = own_by x p.value (Num s) p.form p.type in
    let u = own_by y q.value (Num s) q.form q.type in
    record {
      integers = both_true (is_integer (own_type x)) (is_integer (own_type y)) (ap is_integer t) (ap is_integer u);
      type = promoted m s;
      usual = ap (λ r. usual_of m (unwrap_or (scalar_of r) S.Int) (scalar_in y)) t ∙ ap (λ r. usual_of m s (unwrap_or (scalar_of r) S.Int)) u ∙ usual_self m s;
      left = kept x p;
      right = kept y q;
    }
  where
    kept : (z : Typed) → IsOfType s z → (here : Around) (at : At) → here.program.model ≡ m → Keeps here (promoted m s) (value_in z) at
    kept z r here at g =
        subst (λ model. Keeps here (promoted model s) (value_in z) at) g
        (subst (λ v. Keeps here (promoted here.program.model s) v at) (sym (value_by z r.value r.form)) (promoted_keeps here s r.value at (ap scalar_of r.type) (r.numbers here at)))

-- ---- the inequality

inequality_value : (k : Known) (m : DataModel) (x y : Typed) (s : Scalar) → k.model ≡ m → are_integers (own_type x) (own_type y) ≡ true → usual_of m (scalar_in x) (scalar_in y) ≡ s
    → value_in (used as_value (judge_binary O.Ne x y k).typed) ≡ e.Arithmetic (Num S.Int) O.Ne s (converted_to (Num s) (value_in x)) (converted_to (Num s) (value_in y))
unfolding judge_binary
inequality_value k m x y s h i u =
    ap (λ b. value_in (used as_value (if b then on_integers k O.Ne x y else on_pointers k O.Ne x y))) i
    ∙ ap (λ r. e.Arithmetic (Num S.Int) O.Ne r (converted_to (Num r) (value_in x)) (converted_to (Num r) (value_in y))) (ap (λ model. usual_of model (scalar_in x) (scalar_in y)) h ∙ u)

of_the_same : {x z : Typed} {v : Value} → x ≡ z → value_in x ≡ v → value_in z ≡ v
of_the_same {v = v} h g = subst (λ (it : Typed). value_in it ≡ v) h g

noted_by : (id : ℕ) (at : At) {b d : Bool} → b ≡ d → marks id b [] at ≡ marks id d [] at
noted_by id at h = ap (λ b. marks id b [] at) h

module _ (exact : DifferencesAreExact) (notes : LabelsNoteTheirPredicates) where
  kept_truth : (here : Around) (s : Scalar) (v w : Value) (at : At) → is_pure_value v ≡ true → is_pure_value w ≡ true → Keeps here s v at → Keeps here s w at
      → is_quietly_true here (e.Arithmetic (Num S.Int) O.Ne s (converted_to (Num s) v) (converted_to (Num s) w)) at ≡ differ_as_values (value_at here v at) (value_at here w at)
  kept_truth here s v w at p q h g =
      exact here (Num S.Int) s (converted_to (Num s) v) (converted_to (Num s) w) at (converted_pure (Num s) v p) (converted_pure (Num s) w q)
      ∙ differ_so here s (number_at here (converted_to (Num s) v) at) (number_at here (converted_to (Num s) w) at)
      ∙ ap (λ n. differ_as_values n (of_scalar here.program.model (Some s) (number_at here (converted_to (Num s) w) at))) h
      ∙ ap (differ_as_values (value_at here v at)) g

  inequality_truth : (here : Around) (at : At) (s : Scalar) (v w : Value) (z : Typed) → value_in z ≡ e.Arithmetic (Num S.Int) O.Ne s (converted_to (Num s) v) (converted_to (Num s) w) → is_pure_value v ≡ true → is_pure_value w ≡ true
      → Keeps here s v at → Keeps here s w at → is_quietly_true here (value_in z) at ≡ differ_as_values (value_at here v at) (value_at here w at)
  inequality_truth here at s v w z h p q k l = ap (λ v. is_quietly_true here v at) h ∙ kept_truth here s v w at p q k l

  -- An inequality of integers whose values are kept tells them apart.
  pub told_apart : (known : Known) (it other : c.Expression) (z : Typed) (behind : Known) → is_pure it ≡ true → is_pure other ≡ true → expression (inequality it other) as_value known ≡ Goes z behind
      → ((x y : Typed) (k j : Known) → expression it as_value (entered known) ≡ Goes x k → expression other as_value k ≡ Goes y j → IsKept known.model x y) → IsDifference known it other z
  told_apart known it other z behind p q h f =
      let one = part (expression it as_value (entered known)) (λ x k. goes_on (expression other as_value k) (λ y k. finish known.next as_value (judge_binary O.Ne x y k) k)) h in
      let x = one.0 in
      let k = one.1 in
      let two = part (expression other as_value k) (λ y k. finish known.next as_value (judge_binary O.Ne x y k) k) one.3 in
      let y = two.0 in
      let j = two.1 in
      let end = ended known.next as_value (judge_binary O.Ne x y j) j two.3 in
      let first = typed_pure it as_value (entered known) p refl one.2 in
      let second = typed_pure other as_value k q first.1 two.2 in
      let kept = f x y k j one.2 two.2 in
      let value : value_in z ≡ e.Arithmetic (Num S.Int) O.Ne kept.type (converted_to (Num kept.type) (value_in x)) (converted_to (Num kept.type) (value_in y)) =
      of_the_same {v = e.Arithmetic (Num S.Int) O.Ne kept.type (converted_to (Num kept.type) (value_in x)) (converted_to (Num kept.type) (value_in y))} end.0 (inequality_value j known.model x y kept.type second.1 kept.integers kept.usual) in
      let truth : (here : Around) (at : At) → here.program.model ≡ known.model → is_quietly_true here (value_in z) at ≡ differ_as_values (value_at here (value_in x) at) (value_at here (value_in y) at) =
      λ here at g. inequality_truth here at kept.type (value_in x) (value_in y) z value (value_pure x first.0) (value_pure y second.0) (kept.left here at g) (kept.right here at g) in
      record {
        left = x;
        right = y;
        between = k;
        behind = j;
        left_typed = one.2;
        right_typed = two.2;
        truth = truth;
        noted = λ here at id g. notes here (value_in z) id at ∙ noted_by id at (truth here at g);
      }
