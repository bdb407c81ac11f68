-- The value of a pure expression that is typed is pure.
use Rattle.std.proofs.Common.{◌≡◌, ℕ, pos, List, Option, Some, None, Bool, true, false, refl}
use Rattle.std.proofs.lemmas.Bool.{false≢true}
use Rattle.std.specs.Prelude.{◌&&◌, ◌||◌, option_and_then, if◌then◌else◌}
use Rattle.lt_model.specs.Conversions.{promoted}
use Rattle.lt_model.specs.declared.operator.Op.{Op}
use Rattle.lt_model.specs.declared.operator.Op.TheVariants as O
use Rattle.lt_tree.specs.declared.expression.LogicalOp.{LogicalOp}
use Rattle.lt_tree.specs.declared.expression.UnaryOp.{UnaryOp}
use Rattle.lt_tree.specs.declared.expression.UnaryOp.TheVariants as unary
use Rattle.lt_tree.specs.Typing.Types.{CType, Void, Num, Array, unqualified, is_struct, is_array, is_pointer, is_integer, target_of, same}
use Rattle.lt_tree.specs.Typing.Extents.{is_complete, Placed}
use Rattle.lt_tree.specs.Typing.Constants.{TypedConstant}
use Rattle.lt_tree.specs.Typing.TypedTree as e
use Rattle.lt_tree.specs.Typing.TypedTree.{Value, Values, Place, letters}
use Rattle.lt_tree.specs.Typing.Entities.{Known, Entity, an_object, a_function, a_typedef, an_enumerator}
use Rattle.lt_tree.specs.Typing.Operands.{points_to, are_integers}
use Rattle.lt_tree.specs.Typing.Expressions.{Form, a_value, a_place, a_designator, Typed, Use, Judged, placed, own_type, value_at, value_in, place_in, converted_to, cast_to, scalar_in, is_read, read, as_it_is_read, used}
use Rattle.lt_tree.specs.Typing.Operations.{judge_name, judge_constant, judge_size, judge_member, judge_arrow, judge_index, judge_cast, judge_plus, judge_minus, judge_complement, judge_not, judge_address_of, judge_dereference, judge_part, member_in, target_in, constant_address}
use Rattle.lt_tree.specs.Typing.BinaryOperations.{judge_binary, judge_logical, judge_conditional, judge_comma, on_integers, on_pointers, operation_type, right_type, chosen_type, distance, moved, values_of, beside}
use Rattle.lt_tree.specs.Typing.Specifying.{is_register}
use Rattle.lt_tree.specs.Typing.NodeEnds.{judge_unary}
use Rattle.lt_meaning.specs.Expressions.{is_pure as is_pure_value, is_pure_place, are_pure as are_pure_values}

abbrev pub IsPureForm : Form → Type 0
IsPureForm (a_value v) = is_pure_value v ≡ true
IsPureForm (a_place p) = is_pure_place p ≡ true
IsPureForm (a_designator name t) = Unit {0}

abbrev pub IsPure : Typed → Type 0
IsPure x = IsPureForm x.form

pub both_true : (a b : Bool) → a ≡ true → b ≡ true → (a && b) ≡ true
both_true true b h g = g
both_true false b h g = absurd (false≢true h)

pub first_true : (a b : Bool) → (a && b) ≡ true → a ≡ true
first_true true b h = refl
first_true false b h = absurd (false≢true h)

pub second_true : (a b : Bool) → (a && b) ≡ true → b ≡ true
second_true true b h = h
second_true false b h = absurd (false≢true h)

read_by : (b : Bool) (v w : Value) → is_pure_value v ≡ true → is_pure_value w ≡ true → is_pure_value (if b then v else w) ≡ true
read_by true v w h g = h
read_by false v w h g = g

value_at_pure : (t : CType) (p : Place) → is_pure_place p ≡ true → is_pure_value (value_at t p) ≡ true
value_at_pure (Array t n) p h = h
value_at_pure t p h = read_by (is_struct t) (e.Whole (unqualified t) p) (e.Load (unqualified t) p) h h

value_by : (f : Form) → IsPureForm f → is_pure_value (elim (f) as (λ _. Value) [ a_value v ↦ v | a_place place ↦ value_at (e.type_at place) place | a_designator name type ↦ e.Constant Void (pos 0) ]) ≡ true
value_by (a_value v) h = h
value_by (a_place p) h = value_at_pure (e.type_at p) p h
value_by (a_designator name t) h = refl

pub value_pure : (x : Typed) → IsPure x → is_pure_value (value_in x) ≡ true
value_pure x h = value_by x.form h

place_by : (f : Form) → IsPureForm f → is_pure_place (elim (f) as (λ _. Place) [ a_value v ↦ e.Held (e.type_of v) v | a_place place ↦ place | a_designator name type ↦ e.Held Void (e.Constant Void (pos 0)) ]) ≡ true
place_by (a_value v) h = h
place_by (a_place p) h = h
place_by (a_designator name t) h = refl

place_pure : (x : Typed) → IsPure x → is_pure_place (place_in x) ≡ true
place_pure x h = place_by x.form h

pub converted_pure : (t : CType) (v : Value) → is_pure_value v ≡ true → is_pure_value (converted_to t v) ≡ true
converted_pure t v h = read_by (is_struct t || same t (e.type_of v)) v (cast_to t v) h h

either_pure : (b : Bool) (x y : Typed) → IsPure x → IsPure y → IsPure (if b then x else y)
either_pure true x y h g = h
either_pure false x y h g = g

read_pure : (p : Place) (x : Typed) → is_pure_place p ≡ true → IsPure (read p x)
read_pure p x h = either_pure (is_array (e.type_at p)) _ _ (value_at_pure (e.type_at p) p h) (value_at_pure (e.type_at p) p h)

as_read_by : (f : Form) (x : Typed) → IsPureForm f → IsPure x → IsPure (elim (f) as (λ _. Typed) [ a_value v ↦ x | a_place place ↦ read place x | a_designator name type ↦ x ])
as_read_by (a_value v) x h g = g
as_read_by (a_place p) x h g = read_pure p x h
as_read_by (a_designator name t) x h g = g

pub used_pure : (role : Use) (x : Typed) → IsPure x → IsPure (used role x)
used_pure role x h = either_pure (is_read role) (as_it_is_read x) x (as_read_by x.form x h h) h

-- ---- what operators make of pure values

pub name_pure : (role : Use) (w : List ℕ) (found : Option Entity) (k : Known) → IsPure (judge_name role w found k).typed
unfolding judge_name
name_pure role w None k = refl
name_pure role w (Some (a_typedef t)) k = refl
name_pure role w (Some (an_object n is_register)) k = refl
name_pure role w (Some a_function) k = tt
name_pure role w (Some (an_enumerator z)) k = refl

pub constant_pure : (found : Option TypedConstant) → IsPure (judge_constant found).typed
unfolding judge_constant
constant_pure None = refl
constant_pure (Some it) = refl

pub index_pure : (x y : Typed) (k : Known) → IsPure x → IsPure y → IsPure (judge_index x y k).typed
unfolding judge_index
index_pure x y k h g = both_true (is_pure_value (value_in x)) (is_pure_value (value_in y)) (value_pure x h) (value_pure y g)

part_pure : (x : Typed) (found : Option Placed) → IsPure x → IsPure (judge_part x found).typed
part_pure x None h = refl
part_pure x (Some it) h = place_pure x h

pub member_pure : (x : Typed) (name : List ℕ) (k : Known) → IsPure x → IsPure (judge_member x name k).typed
unfolding judge_member
member_pure x name k h = part_pure x (member_in k (own_type x) name) h

pub arrow_pure : (x : Typed) (name : List ℕ) (k : Known) → IsPure x → IsPure (judge_arrow x name k).typed
unfolding judge_arrow
arrow_pure x name k h = part_pure (placed (e.Pointed (target_in x) (value_in x)) (constant_address x.constancy)) (option_and_then (λ t. member_in k t name) (target_of (own_type x))) (value_pure x h)

judged_either : (b : Bool) (x y : Judged) → IsPure x.typed → IsPure y.typed → IsPure (if b then x else y).typed
judged_either true x y h g = h
judged_either false x y h g = g

pub unary_pure : (op : UnaryOp) (x : Typed) (k : Known) → IsPure x → IsPure (judge_unary op x k).typed
unfolding judge_address_of judge_dereference judge_plus judge_minus judge_complement judge_not
unary_pure unary.AddressOf x k h = place_pure x h
unary_pure unary.Dereference x k h = judged_either (points_to (is_complete k.structs) (own_type x)) _ _ (value_pure x h) refl
unary_pure unary.Plus x k h = value_pure x h
unary_pure unary.Minus x k h = converted_pure (Num (promoted k.model (scalar_in x))) (value_in x) (value_pure x h)
unary_pure unary.Complement x k h = converted_pure (Num (promoted k.model (scalar_in x))) (value_in x) (value_pure x h)
unary_pure unary.Not x k h = value_pure x h

pub size_pure : (t : CType) (k : Known) → IsPure (judge_size t k).typed
unfolding judge_size
size_pure t k = refl

pub cast_pure : (t : CType) (x : Typed) (k : Known) → IsPure x → IsPure (judge_cast t x k).typed
unfolding judge_cast
cast_pure t x k h = value_pure x h

pointers_pure : (op : Op) (x y : Typed) (k : Known) → IsPure x → IsPure y → IsPure (on_pointers k op x y)
pointers_pure O.Sub x y k h g =
    let them = both_true (is_pure_value (value_in x)) (is_pure_value (value_in y)) (value_pure x h) (value_pure y g) in
    either_pure (is_pointer (own_type x) && is_pointer (own_type y)) (distance k x y) (moved k O.Sub x y) them them
pointers_pure O.Add x y k h g = both_true (is_pure_value (value_in x)) (is_pure_value (value_in y)) (value_pure x h) (value_pure y g)
pointers_pure _ x y k h g =
    both_true (is_pure_value (beside x y)) (is_pure_value (beside y x))
    (read_by (is_integer (own_type x)) (converted_to (own_type y) (value_in x)) (value_in x) (converted_pure (own_type y) (value_in x) (value_pure x h)) (value_pure x h))
    (read_by (is_integer (own_type y)) (converted_to (own_type x) (value_in y)) (value_in y) (converted_pure (own_type x) (value_in y) (value_pure y g)) (value_pure y g))

pub integers_pure : (op : Op) (x y : Typed) (k : Known) → IsPure x → IsPure y → IsPure (on_integers k op x y)
integers_pure op x y k h g =
    both_true (is_pure_value (converted_to (Num (operation_type k op x y)) (value_in x))) (is_pure_value (converted_to (Num (right_type k op x y)) (value_in y)))
    (converted_pure (Num (operation_type k op x y)) (value_in x) (value_pure x h)) (converted_pure (Num (right_type k op x y)) (value_in y) (value_pure y g))

pub binary_pure : (op : Op) (x y : Typed) (k : Known) → IsPure x → IsPure y → IsPure (judge_binary op x y k).typed
unfolding judge_binary
binary_pure op x y k h g = either_pure (are_integers (own_type x) (own_type y)) (on_integers k op x y) (on_pointers k op x y) (integers_pure op x y k h g) (pointers_pure op x y k h g)

pub logical_pure : (op : LogicalOp) (x y : Typed) → IsPure x → IsPure y → IsPure (judge_logical op x y).typed
unfolding judge_logical
logical_pure op x y h g = both_true (is_pure_value (value_in x)) (is_pure_value (value_in y)) (value_pure x h) (value_pure y g)

pub conditional_pure : (p x y : Typed) (k : Known) → IsPure p → IsPure x → IsPure y → IsPure (judge_conditional p x y k).typed
unfolding judge_conditional
conditional_pure p x y k f h g =
    let t = chosen_type k x y in
    both_true (is_pure_value (value_in p)) (is_pure_value (converted_to t (value_in x)) && is_pure_value (converted_to t (value_in y))) (value_pure p f)
    (both_true (is_pure_value (converted_to t (value_in x))) (is_pure_value (converted_to t (value_in y))) (converted_pure t (value_in x) (value_pure x h)) (converted_pure t (value_in y) (value_pure y g)))

pub comma_pure : (xs : List Typed) → are_pure_values (values_of xs) ≡ true → IsPure (judge_comma xs).typed
unfolding judge_comma
comma_pure xs h = h
