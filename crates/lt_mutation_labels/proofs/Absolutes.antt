-- Absolute values, with or without a minus, are told apart from their expressions.
use Rattle.std.proofs.Common.{◌≡◌, inl, inr, [], ◌∷◌, Option, Some, None, Bool, true, false, refl, sym, ap, ◌∙◌, subst}
use Rattle.std.proofs.lemmas.Bool.{false≢true}
use Rattle.std.specs.Prelude.{◌&&◌, ◌||◌, if◌then◌else◌, codes, unwrap_or}
use Rattle.std.specs.List.{AllByRecursion}
use Rattle.lt_model.specs.declared.operator.Op.TheVariants as O
use Rattle.lt_model.specs.declared.scalar.DataModel.{DataModel}
use Rattle.lt_model.specs.declared.scalar.Scalar.{Scalar}
use Rattle.lt_model.specs.declared.scalar.Scalar.TheVariants as S
use Rattle.lt_model.specs.Scalar.{is_signed}
use Rattle.lt_model.specs.Conversions.{promoted, usual_of}
use Rattle.lt_tree.specs.Tree as c
use Rattle.lt_tree.specs.Purity.{is_pure}
use Rattle.lt_tree.specs.Typing.Types.{CType, Num, scalar_of, is_integer, is_pointer}
use Rattle.lt_tree.specs.Typing.Constants.{constant_of}
use Rattle.lt_tree.specs.Typing.TypedTree as e
use Rattle.lt_tree.specs.Typing.TypedTree.{Value, type_of}
use Rattle.lt_tree.specs.Typing.Entities.{Known}
use Rattle.lt_tree.specs.Typing.Steps.{Goes, goes_on}
use Rattle.lt_tree.specs.Typing.Operands.{are_integers}
use Rattle.lt_tree.specs.Typing.Expressions.{a_value, Typed, as_value, as_truth, own_type, value_in, scalar_in, converted_to, used, finish}
use Rattle.lt_tree.specs.Typing.Operations.{judge_constant, judge_minus}
use Rattle.lt_tree.specs.Typing.BinaryOperations.{judge_binary, judge_conditional, chosen_type, chosen_pointer}
use Rattle.lt_tree.specs.Typing.ExpressionTyping.{expression}
use Rattle.lt_ir.specs.Running.{At}
use Rattle.lt_meaning.specs.Expressions.{Around}
use Rattle.lt_mark_laws.specs.Laws.{DifferencesAreExact, LabelsNoteTheirPredicates}
use Rattle.lt_mark_laws.specs.Mutants.{entered, AreToldApart}
use Rattle.lt_objectives.specs.Decisions.{zero_constant}
use Rattle.lt_objectives.specs.Mutants.{is_fitting, is_signed_integer, minus, absolute, absolute_mutants}
use Rattle.lt_mutation_labels.specs.Laws.{IsLater, StaysInteger, MutantsAreToldApart}
use Rattle.lt_mutation_labels.proofs.Steps.{part, ended}
use Rattle.lt_mutation_labels.proofs.Pure.{first_true, second_true, both_true}
use Rattle.lt_mutation_labels.proofs.Later.{later_itself, later_entered, later_ended, later_model, typed_later}
use Rattle.lt_mutation_labels.proofs.Conversions.{promoted_again, promoted_usual, usual_promoted}
use Rattle.lt_mutation_labels.proofs.Numbers.{scalar_integer}
use Rattle.lt_mutation_labels.proofs.Inequalities.{Keeps, IsKept, itself_keeps, promoted_keeps, own_by, value_by, told_apart}
use Rattle.lt_mutation_labels.proofs.Others.{of_relations, of_connectors, of_arithmetic}
use Rattle.lt_mutation_labels.proofs.Fitting.{Numbers, IsFitted, fitting_node}

-- ---- what the operators make

-- a value of this type
abbrev HasType : Scalar → Typed → Type 0
HasType s x = (v : Value) × (x.form ≡ a_value v) × (type_of v ≡ Num s)

type_has : (s : Scalar) (x : Typed) → HasType s x → own_type x ≡ Num s
type_has s x h = own_by x h.0 (Num s) h.1 h.2

scalar_by : (x : Typed) (s : Scalar) → scalar_of (own_type x) ≡ Some s → scalar_in x ≡ s
scalar_by x s h = ap (λ r. unwrap_or r S.Int) h

scalar_has : (s : Scalar) (x : Typed) → HasType s x → scalar_in x ≡ s
scalar_has s x h = scalar_by x s (ap scalar_of (type_has s x h))

minus_typed : (k : Known) (x : Typed) → HasType (promoted k.model (scalar_in x)) (used as_value (judge_minus x k).typed)
unfolding judge_minus
minus_typed k x = (e.Minus (Num (promoted k.model (scalar_in x))) (converted_to (Num (promoted k.model (scalar_in x))) (value_in x)), refl, refl)

chosen_typed : (k : Known) (test x y : Typed) → are_integers (own_type x) (own_type y) ≡ true → HasType (usual_of k.model (scalar_in x) (scalar_in y)) (used as_value (judge_conditional test x y k).typed)
unfolding judge_conditional
chosen_typed k test x y i = (
  e.Conditional (chosen_type k x y) (value_in test) (converted_to (chosen_type k x y) (value_in x)) (converted_to (chosen_type k x y) (value_in y)),
  refl,
  ap (λ b. if b then Num (usual_of k.model (scalar_in x) (scalar_in y)) else (if is_pointer (own_type x) || is_pointer (own_type y) then chosen_pointer x y else own_type x)) i,
)

-- ---- nodes

zero_node : (known : Known) {k : Known} {z : Typed} {end : Known} → IsLater known k → expression zero_constant as_value k ≡ Goes z end → IsLater known end
zero_node known {k} later h = later_ended known k.next as_value (judge_constant (constant_of k.model (codes "0"))) (later_entered known later) h

-- An absolute value has the promoted type of an expression that stays an integer, and so it has with a minus.
module _ (known : Known) (it : c.Expression) (stays : StaysInteger known it) where
  abbrev p : Scalar
  p = promoted known.model stays.scalar

  -- `it < 0`
  less_node : {k : Known} {z : Typed} {end : Known} → IsLater known k → expression (c.Binary O.Lt it zero_constant) as_truth k ≡ Goes z end → IsLater known end
  less_node {k} later h =
      let one = part (expression it as_value (entered k)) (λ x j. goes_on (expression zero_constant as_value j) (λ o j. finish k.next as_truth (judge_binary O.Lt x o j) j)) h in
      let two = part (expression zero_constant as_value one.1) (λ o j. finish k.next as_truth (judge_binary O.Lt one.0 o j) j) one.3 in
      later_ended known k.next as_truth (judge_binary O.Lt one.0 two.0 two.1) (zero_node known (typed_later known stays (later_entered known later) one.2).0 two.2) two.3

  -- a minus, of what has this type
  negated : (s : Scalar) (n : Known) (x : Typed) {j end : Known} {z : Typed} → promoted known.model s ≡ p → scalar_in x ≡ s → IsLater known j → finish n.next as_value (judge_minus x j) j ≡ Goes z end → HasType p z × IsLater known end
  negated s n x {j} {end} {z} e g later h = (
    subst (λ r. HasType r z) (ap (λ model. promoted model (scalar_in x)) (later_model known later) ∙ ap (promoted known.model) g ∙ e)
        (subst (HasType (promoted j.model (scalar_in x))) (ended n.next as_value (judge_minus x j) j h).0 (minus_typed j x)),
    later_ended known n.next as_value (judge_minus x j) later h,
  )

  -- `-it`
  minus_node : {k : Known} {z : Typed} {end : Known} → IsLater known k → expression (minus it) as_value k ≡ Goes z end → HasType p z × IsLater known end
  minus_node {k} later h =
      let one = part (expression it as_value (entered k)) (λ x j. finish k.next as_value (judge_minus x j) j) h in
      let first = typed_later known stays (later_entered known later) one.2 in
      negated stays.scalar k one.0 refl (scalar_by one.0 stays.scalar first.1) first.0 one.3

  chosen_scalar : {j : Known} (n y : Typed) → IsLater known j → HasType p n → scalar_of (own_type y) ≡ Some stays.scalar → usual_of j.model (scalar_in n) (scalar_in y) ≡ p
  chosen_scalar n y later h g =
      ap (λ model. usual_of model (scalar_in n) (scalar_in y)) (later_model known later) ∙ ap (λ s. usual_of known.model s (scalar_in y)) (scalar_has p n h) ∙ ap (usual_of known.model p) (scalar_by y stays.scalar g) ∙ usual_promoted known.model stays.scalar

  -- `it < 0 ? -it : it`
  absolute_node : {k : Known} {z : Typed} {end : Known} → IsLater known k → expression (absolute it) as_value k ≡ Goes z end → HasType p z × IsLater known end
  absolute_node {k} {z} {end} later h =
      let one = part (expression (c.Binary O.Lt it zero_constant) as_truth (entered k)) (λ o j. goes_on (expression (minus it) as_value j) (λ n j. goes_on (expression it as_value j) (λ y j. finish k.next as_value (judge_conditional o n y j) j))) h in
      let two = part (expression (minus it) as_value one.1) (λ n j. goes_on (expression it as_value j) (λ y j. finish k.next as_value (judge_conditional one.0 n y j) j)) one.3 in
      let three = part (expression it as_value two.1) (λ y j. finish k.next as_value (judge_conditional one.0 two.0 y j) j) two.3 in
      let second = minus_node (less_node (later_entered known later) one.2) two.2 in
      let third = typed_later known {j = three.1} {x = three.0} stays second.1 three.2 in
      at_end one.0 two.0 three.0 three.1 second.0 third.1 third.0 three.3
    where
      at_end : (o n y : Typed) (j : Known) → HasType p n → scalar_of (own_type y) ≡ Some stays.scalar → IsLater known j → finish k.next as_value (judge_conditional o n y j) j ≡ Goes z end → HasType p z × IsLater known end
      at_end o n y j f g later d =
          let integers = both_true (is_integer (own_type n)) (is_integer (own_type y)) (ap is_integer (type_has p n f)) (scalar_integer (own_type y) stays.scalar g) in (
            subst (λ r. HasType r z) (chosen_scalar n y later f g)
                (subst (HasType (usual_of j.model (scalar_in n) (scalar_in y))) (ended k.next as_value (judge_conditional o n y j) j d).0 (chosen_typed j o n y integers)),
            later_ended known k.next as_value (judge_conditional o n y j) later d,
          )

  -- and with a minus
  negative_node : {k : Known} {z : Typed} {end : Known} → IsLater known k → expression (minus (absolute it)) as_value k ≡ Goes z end → HasType p z × IsLater known end
  negative_node {k} later h =
      let one = part (expression (absolute it) as_value (entered k)) (λ x j. finish k.next as_value (judge_minus x j) j) h in
      let first = absolute_node (later_entered known later) one.2 in
      negated p k one.0 (promoted_again known.model stays.scalar) (scalar_has p one.0 first.0) first.1 one.3

-- ---- told apart

-- an integer that fits keeps its value in its promoted type
fitted_keeps : (here : Around) (at : At) (t : Scalar) (v : Value) → scalar_of (type_of v) ≡ Some t → Numbers here.program.model t v → Keeps here (promoted here.program.model t) v at
fitted_keeps here at t v h numbers = elim numbers [
  | inl g ↦ subst (λ r. Keeps here r v at) (sym g.1) (itself_keeps here t v at g.0)
  | inr g ↦ promoted_keeps here t v at h (g here at)
]

-- an integer that fits, and a value of its promoted type
fitted_kept : (m : DataModel) (t : Scalar) (x y : Typed) → scalar_of (own_type x) ≡ Some t → IsFitted m t x → HasType (promoted m t) y → IsKept m x y
fitted_kept m t x y h fitted g =
    record {
      integers = both_true (is_integer (own_type x)) (is_integer (own_type y)) (scalar_integer (own_type x) t h) (ap is_integer (type_has (promoted m t) y g));
      type = promoted m t;
      usual = ap (λ s. usual_of m s (scalar_in y)) (scalar_by x t h) ∙ ap (usual_of m t) (scalar_has (promoted m t) y g) ∙ promoted_usual m t;
      left = λ here at e. subst (λ model. Keeps here (promoted model t) (value_in x) at) e (fitted_keeps here at t (value_in x) (ap scalar_of fitted.own ∙ h) (subst (λ model. Numbers model t (value_in x)) (sym e) fitted.numbers));
      right = λ here at e. subst (λ w. Keeps here (promoted m t) w at) (sym (value_by y g.0 g.1)) (itself_keeps here (promoted m t) g.0 at g.2);
    }

absolute_is_pure : (it : c.Expression) → is_pure it ≡ true → is_pure (absolute it) ≡ true
absolute_is_pure it pure = both_true (is_pure it && true && is_pure it) (is_pure it) (both_true (is_pure it && true) (is_pure it) (both_true (is_pure it) true pure refl) pure) pure

module _ (exact : DifferencesAreExact) (notes : LabelsNoteTheirPredicates) (known : Known) (it : c.Expression) (pure : is_pure it ≡ true) where
  module _ (fits : is_fitting it ≡ true) (stays : StaysInteger known it) where
    typed_apart : (other : c.Expression) → is_pure other ≡ true → ((k : Known) (z : Typed) (end : Known) → IsLater known k → expression other as_value k ≡ Goes z end → HasType (promoted known.model stays.scalar) z × IsLater known end) → AreToldApart known it other
    typed_apart other o typed z behind d =
        told_apart exact notes known it other z behind pure o d (λ x y k j h g.
        let first = typed_later known stays (later_entered known (later_itself known)) h in
        fitted_kept known.model stays.scalar x y first.1 (fitting_node known.model it (entered known) fits pure refl h stays.scalar first.1) (typed k y j first.0 g).0)

    both_apart : AllByRecursion (AreToldApart known it) (absolute it ∷ minus (absolute it) ∷ [])
    both_apart = (
      typed_apart (absolute it) (absolute_is_pure it pure) (λ k z end later h. absolute_node known it stays later h),
      (typed_apart (minus (absolute it)) (absolute_is_pure it pure) (λ k z end later h. negative_node known it stays later h), tt),
    )

  absolutes_by : (b : Bool) → (b ≡ true → (is_fitting it ≡ true) × StaysInteger known it) → AllByRecursion (AreToldApart known it) (if b then absolute it ∷ minus (absolute it) ∷ [] else [])
  absolutes_by true f = let them = f refl in both_apart them.0 them.1
  absolutes_by false f = tt

  signed_integer : (m : DataModel) (t : CType) → is_signed_integer m t ≡ true → is_integer t ≡ true
  signed_integer m t h = by (scalar_of t) refl h
    where
      by : (found : Option Scalar) → scalar_of t ≡ found → elim (found) as (λ _. Bool) [ None ↦ false | Some s ↦ is_signed m s ] ≡ true → is_integer t ≡ true
      by None e h = absurd (false≢true h)
      by (Some s) e h = scalar_integer t s e

  of_absolutes : (m : DataModel) (t : CType) → (is_integer t ≡ true → StaysInteger known it) → AllByRecursion (AreToldApart known it) (absolute_mutants m t it)
  of_absolutes m t stays =
      absolutes_by (is_fitting it && is_signed_integer m t) (λ h. (first_true (is_fitting it) (is_signed_integer m t) h, stays (signed_integer m t (second_true (is_fitting it) (is_signed_integer m t) h))))

pub all_told_apart : DifferencesAreExact → LabelsNoteTheirPredicates → MutantsAreToldApart
all_told_apart exact notes known it pure = (
  of_connectors exact notes known it pure,
  λ t u. of_relations exact notes known t u it pure,
  λ t u them. of_arithmetic exact notes known t u it pure them,
  λ m t stays. of_absolutes exact notes known it pure m t stays,
)
