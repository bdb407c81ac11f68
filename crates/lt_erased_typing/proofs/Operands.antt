-- Expressions without their marks have the same types, and are read alike.
use Rattle.std.proofs.Common.{◌≡◌, [], Bool, true, false, refl, sym, ap, ◌∙◌, subst}
use Rattle.std.proofs.lemmas.Bool.{false≢true}
use Rattle.std.specs.Prelude.{if◌then◌else◌}
use Rattle.lt_tree.specs.Typing.Types.{CType, Void, Num, Pointer, Array, Struct, Function, Floating, Qualified, is_struct, is_array, is_integer, is_scalar}
use Rattle.lt_tree.specs.Typing.Constants.{Constancy, varying}
use Rattle.lt_tree.specs.Typing.Extents.{Structs}
use Rattle.lt_tree.specs.Typing.TypedTree as e
use Rattle.lt_tree.specs.Typing.TypedTree.{Value, Place, type_of, type_at}
use Rattle.lt_tree.specs.Typing.Expressions.{Form, a_value, a_place, a_designator, Typed, Use, as_value, as_truth, as_place, as_callee, valued, varies, own_type, is_lvalue, is_lvalue_place, value_at, read, as_it_is_read, used, faults_of_any, Judged}
use Rattle.lt_erased_typing.proofs.Constants.{seen, Sees, IsOf, sees_all_varying, varying_no_form}

-- what is known of constants
pub record IsKin (t : CType) (c d p : Constancy) : Type 0 where
  pub sees : Sees c d p
  pub marked : IsOf t c
  pub erasure : IsOf t d
  pub bare : IsOf t p

-- values of one type
pub data AreValues : Form → Form → Type 0 where
  values : {v w : Value} → type_of w ≡ type_of v → AreValues (a_value v) (a_value w)

-- places of one type
pub data ArePlaces : Form → Form → Type 0 where
  places : {p q : Place} → type_at q ≡ type_at p → is_lvalue_place q ≡ is_lvalue_place p → ArePlaces (a_place p) (a_place q)

-- the value of an expression, and that of the expression without its marks
pub record BareValue (x y : Typed) : Type 0 where
  pub form : AreValues x.form y.form
  pub register : y.is_register ≡ x.is_register
  pub constancy : IsKin (own_type x) x.constancy x.erased y.constancy

pub record BarePlace (x y : Typed) : Type 0 where
  pub form : ArePlaces x.form y.form
  pub register : y.is_register ≡ x.is_register
  pub marked : seen x.constancy ≡ varying
  pub erasure : seen x.erased ≡ varying
  pub bare : seen y.constancy ≡ varying

-- an expression, and the expression without its marks
pub data Bare (x y : Typed) : Type 0 where
  a_bare_value : BareValue x y → Bare x y
  a_bare_place : BarePlace x y → Bare x y

-- the same of which only the truth is used
pub record BareTruth (x y : Typed) : Type 0 where
  pub scalar : is_scalar (own_type x) ≡ true → is_scalar (own_type y) ≡ true
  pub value : as_it_is_read x ≡ x
  pub constancy : Sees x.constancy x.erased y.constancy

abbrev pub BareAs : Use → Typed → Typed → Type 0
BareAs as_value x y = BareValue x y
BareAs as_truth x y = BareTruth x y
BareAs as_place x y = Bare x y
BareAs as_callee x y = Unit {0}

-- where the first breaks no rule, nor does the second
abbrev pub BareJudged : Judged → Judged → Type 0
BareJudged j i = j.faults ≡ [] → (i.faults ≡ []) × Bare j.typed i.typed

-- ---- types

values_type : {f g : Form} → AreValues f g
    → elim (g) as (λ _. CType) [ a_value v ↦ type_of v | a_place place ↦ type_at place | a_designator name type ↦ type ]
    ≡ elim (f) as (λ _. CType) [ a_value v ↦ type_of v | a_place place ↦ type_at place | a_designator name type ↦ type ]
values_type (values h) = h

places_type : {f g : Form} → ArePlaces f g
    → elim (g) as (λ _. CType) [ a_value v ↦ type_of v | a_place place ↦ type_at place | a_designator name type ↦ type ]
    ≡ elim (f) as (λ _. CType) [ a_value v ↦ type_of v | a_place place ↦ type_at place | a_designator name type ↦ type ]
places_type (places h l) = h

pub value_type_same : {x y : Typed} → BareValue x y → own_type y ≡ own_type x
value_type_same h = values_type h.form

pub type_same : {x y : Typed} → Bare x y → own_type y ≡ own_type x
type_same (a_bare_value h) = values_type h.form
type_same (a_bare_place h) = places_type h.form

values_lvalue : {f g : Form} → AreValues f g
    → elim (g) as (λ _. Bool) [ a_value v ↦ false | a_place place ↦ is_lvalue_place place | a_designator name type ↦ false ]
    ≡ elim (f) as (λ _. Bool) [ a_value v ↦ false | a_place place ↦ is_lvalue_place place | a_designator name type ↦ false ]
values_lvalue (values h) = refl

places_lvalue : {f g : Form} → ArePlaces f g
    → elim (g) as (λ _. Bool) [ a_value v ↦ false | a_place place ↦ is_lvalue_place place | a_designator name type ↦ false ]
    ≡ elim (f) as (λ _. Bool) [ a_value v ↦ false | a_place place ↦ is_lvalue_place place | a_designator name type ↦ false ]
places_lvalue (places h l) = l

pub lvalue_same : {x y : Typed} → Bare x y → is_lvalue y ≡ is_lvalue x
lvalue_same (a_bare_value h) = values_lvalue h.form
lvalue_same (a_bare_place h) = places_lvalue h.form

pub register_same : {x y : Typed} → Bare x y → y.is_register ≡ x.is_register
register_same (a_bare_value h) = h.register
register_same (a_bare_place h) = h.register

-- ---- what is read

of_varying : (t : CType) (c : Constancy) → is_integer t ≡ false → seen c ≡ varying → IsOf t c
of_varying t c i h = record { integer = λ j. absurd (false≢true (sym i ∙ j)); pointer = λ p. varying_no_form c h }

is_varying : (t : CType) → IsOf t varying
is_varying t = record { integer = λ i. refl; pointer = λ p. refl }

pub kin_varying : (t : CType) → IsKin t varying varying varying
kin_varying t = record { sees = sees_all_varying refl refl refl; marked = is_varying t; erasure = is_varying t; bare = is_varying t }

pub kin_pointer : (t : CType) (c d p : Constancy) → is_integer t ≡ false → seen c ≡ varying → seen d ≡ varying → seen p ≡ varying → IsKin t c d p
kin_pointer t c d p i h g k = record { sees = sees_all_varying h g k; marked = of_varying t c i h; erasure = of_varying t d i g; bare = of_varying t p i k }

pub bare_varies : {v w : Value} → type_of w ≡ type_of v → BareValue (varies v) (varies w)
bare_varies {v} {w} h = record { form = values h; register = refl; constancy = kin_varying (type_of v) }

pub bare_valued : {v w : Value} {c d p q : Constancy} → type_of w ≡ type_of v → IsKin (type_of v) c d p → BareValue (valued v c d) (valued w p q)
bare_valued h k = record { form = values h; register = refl; constancy = k }

-- the values of places of one type
values_there : (t : CType) (p q : Place) → type_of (value_at t q) ≡ type_of (value_at t p)
values_there (Array t n) p q = refl
values_there (Struct k) p q = refl
values_there (Qualified s t) p q = by (is_struct t)
  where
    by : (b : Bool) → type_of (if b then e.Whole t q else e.Load t q) ≡ type_of (if b then e.Whole t p else e.Load t p)
    by true = refl
    by false = refl
values_there Void p q = refl
values_there (Num s) p q = refl
values_there (Pointer t) p q = refl
values_there (Function t ts dots) p q = refl
values_there Floating p q = refl

arrays_decay : (t : CType) (p : Place) → is_array t ≡ true → is_integer (type_of (value_at t p)) ≡ false
arrays_decay (Array t n) p h = refl
arrays_decay (Struct k) p h = absurd (false≢true h)
arrays_decay (Qualified s t) p h = absurd (false≢true h)
arrays_decay Void p h = absurd (false≢true h)
arrays_decay (Num s) p h = absurd (false≢true h)
arrays_decay (Pointer t) p h = absurd (false≢true h)
arrays_decay (Function t ts dots) p h = absurd (false≢true h)
arrays_decay Floating p h = absurd (false≢true h)

read_by : (x y : Typed) (t : CType) (p q : Place) (b : Bool) → is_array t ≡ b → y.is_register ≡ x.is_register → seen x.constancy ≡ varying → seen x.erased ≡ varying → seen y.constancy ≡ varying
    → BareValue (if b then record x { form = a_value (value_at t p) } else varies (value_at t p)) (if b then record y { form = a_value (value_at t q) } else varies (value_at t q))
read_by x y t p q true a r h g k = record { form = values (values_there t p q); register = r; constancy = kin_pointer (type_of (value_at t p)) x.constancy x.erased y.constancy (arrays_decay t p a) h g k }
read_by x y t p q false a r h g k = bare_varies (values_there t p q)

read_form : (x y : Typed) {f g : Form} → ArePlaces f g → y.is_register ≡ x.is_register → seen x.constancy ≡ varying → seen x.erased ≡ varying → seen y.constancy ≡ varying
    → BareValue (as_it_is_read (record x { form = f })) (as_it_is_read (record y { form = g }))
read_form x y (places {p} {q} t l) r h g k =
    subst (λ u. BareValue (read p (record x { form = a_place p })) (if is_array u then record y { form = a_value (value_at u q) } else varies (value_at u q))) (sym t)
    (read_by x y (type_at p) p q (is_array (type_at p)) refl r h g k)

read_value : (x y : Typed) {f g : Form} → AreValues f g → y.is_register ≡ x.is_register → IsKin (own_type (record x { form = f })) x.constancy x.erased y.constancy
    → BareValue (as_it_is_read (record x { form = f })) (as_it_is_read (record y { form = g }))
read_value x y (values h) r k = record { form = values h; register = r; constancy = k }

as_read : {x y : Typed} → Bare x y → BareValue (as_it_is_read x) (as_it_is_read y)
as_read {x} {y} (a_bare_value h) = read_value x y h.form h.register h.constancy
as_read {x} {y} (a_bare_place h) = read_form x y h.form h.register h.marked h.erasure h.bare

value_form : (x : Typed) {f g : Form} → AreValues f g → as_it_is_read (record x { form = f }) ≡ record x { form = f }
value_form x (values h) = refl

-- a value is read as it is
pub value_read : {x y : Typed} → BareValue x y → as_it_is_read x ≡ x
value_read {x} h = value_form x h.form

truth_of : {x y : Typed} → BareValue x y → BareTruth x y
truth_of h = record { scalar = λ s. ap is_scalar (value_type_same h) ∙ s; value = value_read h; constancy = h.constancy.sees }

pub used_as : (role : Use) {x y : Typed} → Bare x y → BareAs role (used role x) (used role y)
used_as as_value m = as_read m
used_as as_truth m = truth_of (as_read m)
used_as as_callee m = tt
used_as as_place m = m

pub any_same : (structs : Structs) (role : Use) {x y : Typed} → Bare x y → faults_of_any structs role y ≡ faults_of_any structs role x
any_same structs role m = rw (type_same m) (rw (lvalue_same m) refl)
