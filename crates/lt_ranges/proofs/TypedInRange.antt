-- Typed expressions in range, as values and as places.
use Rattle.std.proofs.Common.{◌≡◌, ℕ, ℤ, pos, true, false, [], ◌∷◌, Some, None}
use Rattle.std.specs.Prelude.{if◌then◌else◌, ◌||◌}
use Rattle.lt_model.specs.declared.scalar.Scalar.{Scalar}
use Rattle.lt_tree.specs.Typing.Types.{CType, Void, Array, is_struct, is_array, same, unqualified}
use Rattle.lt_tree.specs.Typing.Constants.{Constancy}
use Rattle.lt_tree.specs.Typing.TypedTree as e
use Rattle.lt_tree.specs.Typing.TypedTree.{Value, Place, Conversion, type_of, type_at}
use Rattle.lt_tree.specs.Typing.Entities.{declared_among}
use Rattle.lt_tree.specs.Typing.Expressions.{Form, a_value, a_place, a_designator, Typed, Use, valued, varies, placed, constant, nothing, own_type, value_at, value_in, place_in, read, as_it_is_read, is_read, used, object_of_place, fact_of, cast_to, converted_to}
use Rattle.lt_tree.specs.Typing.Ranges.{Lists, in_type, in_constancy, in_value, in_place, in_fact, in_option, to_object}
use Rattle.lt_ranges.proofs.References.{Has, none, both, front, back, Kept, later}
use Rattle.lt_ranges.proofs.TypesInRange.{T, C, unqualified_in}

abbrev pub V : Lists → Value → Type 0
V b v = Has b (in_value v)

abbrev pub P : Lists → Place → Type 0
P b place = Has b (in_place place)

-- the name of a function has the type with which it is declared
abbrev pub FormIn : Lists → Form → Type 0
FormIn b (a_value v) = V b v
FormIn b (a_place place) = P b place
FormIn b (a_designator name t) = (declared_among name b.declared ≡ Some t) × T b t

pub record TypedIn (b : Lists) (x : Typed) : Type 0 where
  pub form : FormIn b x.form
  pub constancy : C b x.constancy
  pub erased : C b x.erased

later_form : {b b' : Lists} (f : Form) → Kept b b' → FormIn b f → FormIn b' f
later_form (a_value v) kept h = later kept h
later_form (a_place place) kept h = later kept h
later_form (a_designator name t) kept h = (kept.declared name t h.0, later kept h.1)

pub later_typed : {b b' : Lists} {x : Typed} → Kept b b' → TypedIn b x → TypedIn b' x
later_typed {b} {b'} {x} kept h = record { form = later_form x.form kept h.form; constancy = later kept h.constancy; erased = later kept h.erased }

-- ---- the types of values and places

pub typed_in : {b : Lists} (v : Value) → V b v → T b (type_of v)
typed_in (e.Constant t z) h = h
typed_in (e.Load t place) h = front _ h
typed_in _ h = front _ h

pub placed_in : {b : Lists} (place : Place) → P b place → T b (type_at place)
placed_in (e.Object t n) h = front _ h
placed_in _ h = front _ h

form_type_in : {b : Lists} (f : Form) → FormIn b f → T b (elim f [ a_value v ↦ type_of v | a_place place ↦ type_at place | a_designator name t ↦ t ])
form_type_in (a_value v) h = typed_in v h
form_type_in (a_place place) h = placed_in place h
form_type_in (a_designator name t) h = h.1

pub own_type_in : {b : Lists} {x : Typed} → TypedIn b x → T b (own_type x)
own_type_in {b} {x} h = form_type_in x.form h.form

-- ---- expressions as values and places

value_or_struct_in : {b : Lists} (t : CType) (place : Place) → T b t → P b place → V b (if is_struct t then e.Whole (unqualified t) place else e.Load (unqualified t) place)
value_or_struct_in {b} t place h i =
    elim (is_struct t) as (λ v. V b (if v then e.Whole (unqualified t) place else e.Load (unqualified t) place))
    [ true ↦ both (unqualified_in t h) i | false ↦ both (unqualified_in t h) i ]

pub value_at_in : {b : Lists} (t : CType) (place : Place) → T b t → P b place → V b (value_at t place)
value_at_in (Array t n) place h i = both {rs = in_type t} h i
value_at_in t place h i = value_or_struct_in t place h i

form_value_in : {b : Lists} (f : Form) → FormIn b f → V b (elim f [ a_value v ↦ v | a_place place ↦ value_at (type_at place) place | a_designator name t ↦ e.Constant Void (pos 0) ])
form_value_in (a_value v) h = h
form_value_in (a_place place) h = value_at_in (type_at place) place (placed_in place h) h
form_value_in (a_designator name t) h = none

pub value_in_range : {b : Lists} {x : Typed} → TypedIn b x → V b (value_in x)
value_in_range {b} {x} h = form_value_in x.form h.form

form_place_in : {b : Lists} (f : Form) → FormIn b f → P b (elim f [ a_value v ↦ e.Held (type_of v) v | a_place place ↦ place | a_designator name t ↦ e.Held Void (e.Constant Void (pos 0)) ])
form_place_in (a_value v) h = both (typed_in v h) h
form_place_in (a_place place) h = h
form_place_in (a_designator name t) h = none

pub place_in_range : {b : Lists} {x : Typed} → TypedIn b x → P b (place_in x)
place_in_range {b} {x} h = form_place_in x.form h.form

-- ---- what expressions are made

pub valued_in : {b : Lists} {v : Value} {c d : Constancy} → V b v → C b c → C b d → TypedIn b (valued v c d)
valued_in h i j = record { form = h; constancy = i; erased = j }

pub varies_in : {b : Lists} {v : Value} → V b v → TypedIn b (varies v)
varies_in h = record { form = h; constancy = none; erased = none }

pub placed_typed : {b : Lists} {place : Place} {c : Constancy} → P b place → C b c → TypedIn b (placed place c)
placed_typed h i = record { form = h; constancy = i; erased = i }

pub constant_in : {b : Lists} (s : Scalar) (z : ℤ) → TypedIn b (constant s z)
constant_in s z = record { form = none; constancy = none; erased = none }

pub nothing_in : {b : Lists} → TypedIn b nothing
nothing_in = record { form = none; constancy = none; erased = none }

read_in : {b : Lists} (place : Place) (x : Typed) → P b place → TypedIn b x → TypedIn b (read place x)
read_in {b} place x h i =
    let value : V b (value_at (type_at place) place) = value_at_in (type_at place) place (placed_in place h) h in
    elim (is_array (type_at place)) as (λ v. TypedIn b (if v then record x { form = a_value (value_at (type_at place) place) } else varies (value_at (type_at place) place)))
    [ true ↦ record { form = value; constancy = i.constancy; erased = i.erased } | false ↦ varies_in value ]

form_read_in : {b : Lists} (f : Form) (x : Typed) → FormIn b f → TypedIn b x → TypedIn b (elim f [ a_value v ↦ x | a_place place ↦ read place x | a_designator name t ↦ x ])
form_read_in (a_value v) x h i = i
form_read_in (a_place place) x h i = read_in place x h i
form_read_in (a_designator name t) x h i = i

pub read_typed : {b : Lists} {x : Typed} → TypedIn b x → TypedIn b (as_it_is_read x)
read_typed {b} {x} h = form_read_in x.form x h.form h

pub used_in : {b : Lists} (role : Use) {x : Typed} → TypedIn b x → TypedIn b (used role x)
used_in {b} role {x} h = elim (is_read role) as (λ v. TypedIn b (if v then as_it_is_read x else x)) [ true ↦ read_typed h | false ↦ h ]

object_in : {b : Lists} (place : Place) → P b place → Has b (in_option (λ n. to_object n ∷ []) (object_of_place place))
object_in (e.Object t n) h = back (in_type t) h
object_in _ h = none

form_object_in : {b : Lists} (f : Form) → FormIn b f → Has b (in_option (λ n. to_object n ∷ []) (elim f [ a_value v ↦ None | a_place place ↦ object_of_place place | a_designator name t ↦ None ]))
form_object_in (a_value v) h = none
form_object_in (a_place place) h = object_in place h
form_object_in (a_designator name t) h = none

pub fact_in : {b : Lists} (node : ℕ) {x : Typed} → TypedIn b x → Has b (in_fact (fact_of node x))
fact_in {b} node {x} h = both (own_type_in h) (both {rs = in_constancy x.erased} h.erased (form_object_in x.form h.form))

-- ---- conversions

pub cast_in : {b : Lists} (t : CType) (v : Value) → T b t → V b v → V b (cast_to t v)
cast_in t v h i = both h i

pub converted_value_in : {b : Lists} (t : CType) (v : Value) → T b t → V b v → V b (converted_to t v)
converted_value_in {b} t v h i = elim (is_struct t || same t (type_of v)) as (λ c. V b (if c then v else cast_to t v)) [ true ↦ i | false ↦ cast_in t v h i ]
