-- Expressions of which absolute values are taken, as integers: their numbers are values of their types, or their types are promoted already.
use Rattle.std.proofs.Common.{◌≡◌, ◌⊎◌, inl, inr, ℕ, ℤ, pos, List, [], ◌∷◌, ◌++◌, Option, Some, None, Bool, true, false, refl, sym, ap, ◌∙◌, subst}
use Rattle.std.proofs.lemmas.Bool.{false≢true}
use Rattle.std.specs.Prelude.{◌&&◌, if◌then◌else◌, option_and_then}
use Rattle.lt_model.specs.declared.operator.Op.{Op}
use Rattle.lt_model.specs.declared.operator.Op.TheVariants as O
use Rattle.lt_model.specs.declared.scalar.DataModel.{DataModel}
use Rattle.lt_model.specs.declared.scalar.DataModel.TheVariants.{Ilp32, Lp64, Llp64, Ilp32U, Lp64U, Llp64U}
use Rattle.lt_model.specs.declared.scalar.Scalar.{Scalar}
use Rattle.lt_model.specs.declared.scalar.Scalar.TheVariants as S
use Rattle.lt_model.specs.Scalar.{IsValue, difference_type}
use Rattle.lt_model.specs.Conversions.{promoted, usual_of}
use Rattle.lt_tree.specs.declared.expression.UnaryOp.TheVariants as unary
use Rattle.lt_tree.specs.Tree as c
use Rattle.lt_tree.specs.Purity.{is_pure}
use Rattle.lt_tree.specs.Typing.Types.{CType, Num, Array, scalar_of, target_of, is_pointer, is_struct, is_array, unqualified}
use Rattle.lt_tree.specs.Typing.Extents.{Placed, is_complete}
use Rattle.lt_tree.specs.Typing.TypedTree as e
use Rattle.lt_tree.specs.Typing.TypedTree.{Value, Place, type_of, type_at}
use Rattle.lt_tree.specs.Typing.Rules.{Rule, function_as_value, bad_address}
use Rattle.lt_tree.specs.Typing.Entities.{Known, Entity, an_object, a_function, a_typedef, an_enumerator, meaning_of}
use Rattle.lt_tree.specs.Typing.Steps.{Goes, goes_on}
use Rattle.lt_tree.specs.Typing.Operands.{are_integers, points_to}
use Rattle.lt_tree.specs.Typing.Expressions.{Form, a_value, a_place, a_designator, Typed, as_value, as_place, Judged, judgement, nothing, own_type, value_at, value_in, scalar_in, used, read, varies, placed, faults_of_any, finish}
use Rattle.lt_tree.specs.Typing.Operations.{judge_name, object_named, judge_part, judge_index, judge_member, judge_arrow, judge_dereference, member_in, target_in, constant_address, pointer_among, element_size, side_of}
use Rattle.lt_tree.specs.Typing.BinaryOperations.{judge_binary, on_integers, on_pointers, distance, moved, beside}
use Rattle.lt_tree.specs.Typing.ExpressionTyping.{expression}
use Rattle.lt_ir.specs.Evaluation.{valued}
use Rattle.lt_model.specs.declared.cell.Content.TheVariants as content
use Rattle.lt_meaning.specs.Expressions.{Around, wanted, tracking, eval, place_of}
use Rattle.lt_ir.specs.Running.{At}
use Rattle.lt_mark_laws.specs.Mutants.{entered}
use Rattle.lt_objectives.specs.Mutants.{is_fitting}
use Rattle.lt_mutation_labels.proofs.Steps.{part, ended}
use Rattle.lt_mutation_labels.proofs.Pure.{first_true, second_true}
use Rattle.lt_mutation_labels.proofs.PureTyping.{typed_pure}
use Rattle.lt_mutation_labels.proofs.Numbers.{Sure, HasNumber, then_sure, any, given, read_has}
use Rattle.lt_mutation_labels.proofs.Inequalities.{own_by, value_by, IsOfType}
use Rattle.lt_mutation_labels.proofs.Others.{IsArithmetic, on_integers_typed, binary_typed}

-- Numbers of a value of this type: they are values of it wherever it is evaluated, or the type is promoted, so that no operator converts it.
abbrev pub Numbers : DataModel → Scalar → Value → Type 0
Numbers m t v =
    ((type_of v ≡ Num t) × (promoted m t ≡ t)) ⊎ ((here : Around) (at : At) → Sure (HasNumber (IsValue here.program.model t)) (eval (tracking false here) wanted v) at)

pub record IsFitted (m : DataModel) (t : Scalar) (x : Typed) : Type 0 where
  pub own : type_of (value_in x) ≡ own_type x
  pub numbers : Numbers m t (value_in x)

abbrev pub Fits : DataModel → Typed → Type 0
Fits m x = (t : Scalar) → scalar_of (own_type x) ≡ Some t → IsFitted m t x

fits_by : (m : DataModel) (x : Typed) (v : Value) → x.form ≡ a_value v → ((t : Scalar) → scalar_of (type_of v) ≡ Some t → Numbers m t v) → Fits m x
fits_by m x v h f t k =
    let own = own_by x v (type_of v) h refl in
    let value = value_by x v h in
    record { own = ap type_of value ∙ sym own; numbers = subst (Numbers m t) (sym value) (f t (ap scalar_of (sym own) ∙ k)) }

-- a value of a promoted type
promoted_fits : (m : DataModel) (x : Typed) (v : Value) (s : Scalar) → x.form ≡ a_value v → type_of v ≡ Num s → promoted m s ≡ s → Fits m x
promoted_fits m x v s h g p = fits_by m x v h (λ t k. let same = only s t (sym (ap scalar_of g) ∙ k) in inl (g ∙ ap Num same, ap (promoted m) (sym same) ∙ p ∙ same))
  where
    only : (s t : Scalar) → Some s ≡ Some t → s ≡ t
    only s t e = cc

-- a value of this type whose numbers are values of it
of_type_fits : (m : DataModel) (s : Scalar) (x : Typed) → IsOfType s x → Fits m x
of_type_fits m s x p = fits_by m x p.value p.form
    (λ t k. inr (λ here at. subst (λ r. Sure (HasNumber (IsValue here.program.model r)) (eval (tracking false here) wanted p.value) at) (only s t (sym (ap scalar_of p.type) ∙ k)) (p.numbers here at)))
  where
    only : (s t : Scalar) → Some s ≡ Some t → s ≡ t
    only s t e = cc

-- ---- places

-- the value of a place: a scalar has a value of its type, and what isn't one is an address
place_numbers : (t : CType) (p : Place) (s : Scalar) → scalar_of (type_of (value_at t p)) ≡ Some s → (here : Around) (at : At) → Sure (HasNumber (IsValue here.program.model s)) (eval (tracking false here) wanted (value_at t p)) at
place_numbers (Array t n) p s h here at = absurd cc
place_numbers t p s h here at = by (is_struct t) h
  where
    by : (b : Bool) → scalar_of (type_of (if b then e.Whole (unqualified t) p else e.Load (unqualified t) p)) ≡ Some s
        → Sure (HasNumber (IsValue here.program.model s)) (eval (tracking false here) wanted (if b then e.Whole (unqualified t) p else e.Load (unqualified t) p)) at
    by true k = then_sure (place_of (tracking false here) p) _ (any (place_of (tracking false here) p) at) (λ x at1 _. given (valued (content.Address x.value) x.footprint) tt)
    by false k = read_has here (unqualified t) p s at k

read_fits : (m : DataModel) (p : Place) (x : Typed) → Fits m (read p x)
read_fits m p x = by (is_array (type_at p))
  where
    by : (b : Bool) → Fits m (if b then record x { form = a_value (value_at (type_at p) p) } else varies (value_at (type_at p) p))
    by true = fits_by m (record x { form = a_value (value_at (type_at p) p) }) (value_at (type_at p) p) refl (λ t k. inr (place_numbers (type_at p) p t k))
    by false = fits_by m (varies (value_at (type_at p) p)) (value_at (type_at p) p) refl (λ t k. inr (place_numbers (type_at p) p t k))

place_fits : (m : DataModel) (x : Typed) (p : Place) → x.form ≡ a_place p → Fits m (used as_value x)
place_fits m x p h = subst (λ (f : Form). Fits m (elim (f) as (λ _. Typed) [ a_value v ↦ x | a_place place ↦ read place x | a_designator name type ↦ x ])) (sym h) (read_fits m p x)

zero_fits : (m : DataModel) (x : Typed) (z : ℤ) → x.form ≡ a_value (e.Constant (Num S.Int) z) → Fits m x
zero_fits m x z h = promoted_fits m x (e.Constant (Num S.Int) z) S.Int h refl refl

part_fits : (m : DataModel) (x : Typed) (found : Option Placed) → Fits m (used as_value (judge_part x found).typed)
part_fits m x None = zero_fits m _ (pos 0) refl
part_fits m x (Some it) = place_fits m (judge_part x (Some it)).typed _ refl

-- ---- names

no_fault : {rules : List Rule} → function_as_value ∷ rules ≡ [] → ⊥
no_fault e = cc

name_fits : (m : DataModel) (w : List ℕ) (found : Option Entity) (k : Known) (more : List Rule) → (judge_name as_value w found k).faults ++ more ≡ [] → Fits m (used as_value (judge_name as_value w found k).typed)
unfolding judge_name
name_fits m w None k more h = zero_fits m _ (pos 0) refl
name_fits m w (Some (a_typedef t)) k more h = zero_fits m _ (pos 0) refl
name_fits m w (Some (an_object n is_register)) k more h = place_fits m (object_named k n is_register) _ refl
name_fits m w (Some a_function) k more h = absurd (no_fault h)
name_fits m w (Some (an_enumerator z)) k more h = zero_fits m _ z refl

index_fits : (m : DataModel) (x y : Typed) (k : Known) → Fits m (used as_value (judge_index x y k).typed)
unfolding judge_index
index_fits m x y k = place_fits m (judge_index x y k).typed _ refl

member_fits : (m : DataModel) (x : Typed) (name : List ℕ) (k : Known) → Fits m (used as_value (judge_member x name k).typed)
unfolding judge_member
member_fits m x name k = part_fits m x (member_in k (own_type x) name)

arrow_fits : (m : DataModel) (x : Typed) (name : List ℕ) (k : Known) → Fits m (used as_value (judge_arrow x name k).typed)
unfolding judge_arrow
arrow_fits m x name k = part_fits m (placed (e.Pointed (target_in x) (value_in x)) (constant_address x.constancy)) (option_and_then (λ t. member_in k t name) (target_of (own_type x)))

either_fits : (m : DataModel) (b : Bool) (i j : Judged) → Fits m (used as_value i.typed) → Fits m (used as_value j.typed) → Fits m (used as_value (if b then i else j).typed)
either_fits m true i j h g = h
either_fits m false i j h g = g

dereference_fits : (m : DataModel) (x : Typed) (k : Known) → Fits m (used as_value (judge_dereference x k).typed)
unfolding judge_dereference
dereference_fits m x k =
    either_fits m (points_to (is_complete k.structs) (own_type x)) (judgement [] (placed (e.Pointed (target_in x) (value_in x)) (constant_address x.constancy))) (judgement (bad_address ∷ []) nothing)
    (place_fits m (placed (e.Pointed (target_in x) (value_in x)) (constant_address x.constancy)) _ refl) (zero_fits m nothing (pos 0) refl)

-- ---- arithmetic

difference_promoted : (m : DataModel) → promoted m (difference_type m) ≡ difference_type m
difference_promoted Ilp32 = refl
difference_promoted Lp64 = refl
difference_promoted Llp64 = refl
difference_promoted Ilp32U = refl
difference_promoted Lp64U = refl
difference_promoted Llp64U = refl

-- a pointer that is moved has no number
moved_fits : (m : DataModel) (op : Op) (k : Known) (x y : Typed) → Fits m (used as_value (moved k op x y))
moved_fits m op k x y =
    fits_by m (used as_value (moved k op x y)) (e.Move (own_type (pointer_among x y)) op (element_size k x y) (side_of x) (value_in x) (value_in y)) refl (λ t h. inr (λ here at.
    then_sure (eval (tracking false here) wanted (value_in x)) _ (any (eval (tracking false here) wanted (value_in x)) at) (λ a at1 _.
    then_sure (eval (tracking false here) wanted (value_in y)) _ (any (eval (tracking false here) wanted (value_in y)) at1) (λ b at2 _.
    then_sure _ _ (any _ at2) (λ p at3 _. given (valued (content.Address p) a.footprint) tt)))))

distance_fits : (m : DataModel) (k : Known) (x y : Typed) → k.model ≡ m → Fits m (used as_value (distance k x y))
distance_fits m k x y h =
    promoted_fits m (used as_value (distance k x y)) (e.Distance (Num (difference_type k.model)) (element_size k x y) (value_in x) (value_in y)) (difference_type k.model) refl refl
    (ap (λ model. promoted model (difference_type k.model)) (sym h) ∙ difference_promoted k.model)

compared_fits : (m : DataModel) (op : Op) (x y : Typed) (z : Typed) → z.form ≡ a_value (e.Compare (Num S.Int) op (beside x y) (beside y x)) → Fits m z
compared_fits m op x y z h = promoted_fits m z (e.Compare (Num S.Int) op (beside x y) (beside y x)) S.Int h refl refl

pointers_fit : (m : DataModel) (op : Op) (k : Known) (x y : Typed) → k.model ≡ m → Fits m (used as_value (on_pointers k op x y))
pointers_fit m O.Sub k x y h = by (is_pointer (own_type x) && is_pointer (own_type y))
  where
    by : (b : Bool) → Fits m (used as_value (if b then distance k x y else moved k O.Sub x y))
    by true = distance_fits m k x y h
    by false = moved_fits m O.Sub k x y
pointers_fit m O.Add k x y h = moved_fits m O.Add k x y
pointers_fit m op k x y h = compared_fits m op x y _ refl

binary_fits : (m : DataModel) (op : Op) → IsArithmetic op → (k : Known) (x y : Typed) → k.model ≡ m → Fits m (used as_value (judge_binary op x y k).typed)
unfolding judge_binary
binary_fits m op h k x y g = by (are_integers (own_type x) (own_type y))
  where
    by : (b : Bool) → Fits m (used as_value (if b then on_integers k op x y else on_pointers k op x y))
    by true = of_type_fits m (usual_of k.model (scalar_in x) (scalar_in y)) (used as_value (on_integers k op x y)) (on_integers_typed op h k x y)
    by false = pointers_fit m op k x y g

-- ---- nodes

-- an expression that fits, as an integer
pub fitting_node : (m : DataModel) (it : c.Expression) (k : Known) {x : Typed} {end : Known} → is_fitting it ≡ true → is_pure it ≡ true → k.model ≡ m → expression it as_value k ≡ Goes x end → Fits m x
fitting_node m (c.Name w) k h p g f =
    let first : Known = entered k in
    let it = ended k.next as_value (judge_name as_value w (meaning_of w first) first) first f in
    subst (Fits m) it.0 (name_fits m w (meaning_of w first) first (faults_of_any first.structs as_value (judge_name as_value w (meaning_of w first) first).typed) it.2)
fitting_node m (c.Index whole index) k h p g f =
    let one = part (expression whole as_value (entered k)) (λ x j. goes_on (expression index as_value j) (λ y j. finish k.next as_value (judge_index x y j) j)) f in
    let two = part (expression index as_value one.1) (λ y j. finish k.next as_value (judge_index one.0 y j) j) one.3 in
    subst (Fits m) (ended k.next as_value (judge_index one.0 two.0 two.1) two.1 two.3).0 (index_fits m one.0 two.0 two.1)
fitting_node m (c.Member whole w) k h p g f =
    let one = part (expression whole as_place (entered k)) (λ x j. finish k.next as_value (judge_member x w j) j) f in
    subst (Fits m) (ended k.next as_value (judge_member one.0 w one.1) one.1 one.3).0 (member_fits m one.0 w one.1)
fitting_node m (c.Arrow pointer w) k h p g f =
    let one = part (expression pointer as_value (entered k)) (λ x j. finish k.next as_value (judge_arrow x w j) j) f in
    subst (Fits m) (ended k.next as_value (judge_arrow one.0 w one.1) one.1 one.3).0 (arrow_fits m one.0 w one.1)
fitting_node m (c.Unary unary.Dereference operand) k h p g f =
    let one = part (expression operand as_value (entered k)) (λ x j. finish k.next as_value (judge_dereference x j) j) f in
    subst (Fits m) (ended k.next as_value (judge_dereference one.0 one.1) one.1 one.3).0 (dereference_fits m one.0 one.1)
fitting_node m (c.Binary op left right) k h p g f =
    let it = binary_typed op left right k f in
    let first = typed_pure left as_value (entered k) (first_true (is_pure left) (is_pure right) p) g it.left_typed in
    let second = typed_pure right as_value it.between (second_true (is_pure left) (is_pure right) p) first.1 it.right_typed in
    subst (Fits m) it.value (binary_fits m op h it.behind it.x it.y second.1)
fitting_node m _ k h p g f = absurd (false≢true h)
