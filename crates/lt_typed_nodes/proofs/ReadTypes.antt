-- The types of expressions and those of their values.
use Rattle.std.proofs.Common.{◌≡◌, refl, sym, subst, inl, inr, Bool, true, false, if◌then◌else◌}
use Rattle.lt_tree.specs.Typing.Types.{CType, Void, Num, Pointer, Array, Struct, Function, Floating, Qualified, is_struct, is_array, unqualified, value_type}
use Rattle.lt_tree.specs.Typing.TypedTree as e
use Rattle.lt_tree.specs.Typing.TypedTree.{Place, type_of, type_at}
use Rattle.lt_tree.specs.Typing.Expressions.{Typed, Form, a_value, a_place, a_designator, own_type, value_at, varies, as_it_is_read}
use Rattle.lt_typed_nodes.specs.Laws.{IsReadAs, ValuesHaveTheirTypes}

-- a type is read as itself, and as that of its values
same_read : (t : CType) → IsReadAs t t
same_read t = record { integer = refl; sign = λ m. refl; pointer = λ is. is; pointed = λ is. inl is }

value_read : (t : CType) → IsReadAs t (value_type t)
value_read (Array t n) = record { integer = refl; sign = λ m. refl; pointer = λ is. refl; pointed = λ is. inr refl }
value_read Void = same_read Void
value_read (Num s) = same_read (Num s)
value_read (Pointer t) = same_read (Pointer t)
value_read (Struct k) = same_read (Struct k)
value_read (Function t ts dots) = same_read (Function t ts dots)
value_read Floating = same_read Floating
value_read (Qualified q t) = record { integer = refl; sign = λ m. refl; pointer = λ is. is; pointed = λ is. inl is }

type_of_scalar : (whole : Bool) (t : CType) (place : Place) → type_of (if whole then e.Whole (unqualified t) place else e.Load (unqualified t) place) ≡ unqualified t
type_of_scalar true t place = refl
type_of_scalar false t place = refl

type_of_value : (t : CType) (place : Place) → type_of (value_at t place) ≡ value_type t
type_of_value (Array t n) place = refl
type_of_value Void place = refl
type_of_value (Num s) place = refl
type_of_value (Pointer t) place = refl
type_of_value (Struct k) place = refl
type_of_value (Function t ts dots) place = refl
type_of_value Floating place = refl
type_of_value (Qualified q t) place = type_of_scalar (is_struct t) (Qualified q t) place

-- a place that is read
type_of_read : (keeps : Bool) (place : Place) (x : Typed)
    → own_type (if keeps then record x { form = a_value (value_at (type_at place) place) } else varies (value_at (type_at place) place)) ≡ value_type (type_at place)
type_of_read true place x = type_of_value (type_at place) place
type_of_read false place x = type_of_value (type_at place) place

-- an expression by its form
abbrev with_form : Typed → Form → Typed
with_form x form = record x { form = form }

form_read : (x : Typed) (form : Form) → IsReadAs (own_type (with_form x form)) (own_type (as_it_is_read (with_form x form)))
form_read x (a_value v) = same_read (type_of v)
form_read x (a_place place) = subst (λ u. IsReadAs (type_at place) u) (sym (type_of_read (is_array (type_at place)) place (with_form x (a_place place)))) (value_read (type_at place))
form_read x (a_designator name t) = same_read t

pub values_have_their_types : ValuesHaveTheirTypes
values_have_their_types x = form_read x x.form

-- what is read is read as it is
read_twice_if : (keeps : Bool) (place : Place) (x : Typed)
    → let once = if keeps then record x { form = a_value (value_at (type_at place) place) } else varies (value_at (type_at place) place) in own_type (as_it_is_read once) ≡ own_type once
read_twice_if true place x = refl
read_twice_if false place x = refl

form_twice : (x : Typed) (form : Form) → own_type (as_it_is_read (as_it_is_read (with_form x form))) ≡ own_type (as_it_is_read (with_form x form))
form_twice x (a_value v) = refl
form_twice x (a_place place) = read_twice_if (is_array (type_at place)) place (with_form x (a_place place))
form_twice x (a_designator name t) = refl

pub read_twice : (x : Typed) → own_type (as_it_is_read (as_it_is_read x)) ≡ own_type (as_it_is_read x)
read_twice x = form_twice x x.form
