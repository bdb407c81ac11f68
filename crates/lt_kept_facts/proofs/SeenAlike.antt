-- Typed expressions of which the same is noted, but for what no label minds.
use Rattle.std.proofs.Common.{◌≡◌, refl, sym, ap, ◌∙◌, subst, inl, inr, ℕ, List, Bool, true, false, if◌then◌else◌}
use Rattle.std.proofs.lemmas.Bool.{false≢true}
use Rattle.std.specs.Prelude.{◌⊎◌}
use Rattle.lt_tree.specs.Typing.Types.{CType, Void, Num, Pointer, Array, Struct, Function, Floating, Qualified, is_integer, is_array, is_struct}
use Rattle.lt_tree.specs.Typing.Constants.{Constancy, varying, faulty, number, null_constant, null_address, address, is_form, is_number}
use Rattle.lt_tree.specs.Typing.TypedTree as e
use Rattle.lt_tree.specs.Typing.TypedTree.{Value, Place, type_of, type_at}
use Rattle.lt_tree.specs.Typing.Expressions.{Form, a_value, a_place, a_designator, Typed, Use, as_value, as_truth, as_place, as_callee, valued, own_type, value_at, read, as_it_is_read, used}

-- Constants that are the same, or neither of the form of an integer constant.
abbrev pub SameForm : Constancy → Constancy → Type 0
SameForm c d = (d ≡ c) ⊎ ((is_form c ≡ false) × (is_form d ≡ false))

-- values, places or functions, of one type
pub data SameKind : Form → Form → Type 0 where
  values : {v w : Value} → type_of w ≡ type_of v → SameKind (a_value v) (a_value w)
  places : {p q : Place} → type_at q ≡ type_at p → SameKind (a_place p) (a_place q)
  designators : {name : List ℕ} {t : CType} → SameKind (a_designator name t) (a_designator name t)

-- a place has no integer as its address
abbrev pub HasAddress : Form → Constancy → Type 0
HasAddress (a_place p) c = is_form c ≡ false
HasAddress f c = Unit {0}

-- the value of an integer is the same constant
abbrev pub SameInteger : Form → Constancy → Constancy → Type 0
SameInteger (a_value v) c d = is_integer (type_of v) ≡ true → d ≡ c
SameInteger (a_place p) c d = Unit {0}
SameInteger (a_designator name t) c d = d ≡ c

pub record SeenAlike (x y : Typed) : Type 0 where
  pub kind : SameKind x.form y.form
  pub erased : SameForm x.erased y.erased
  pub integer : SameInteger x.form x.erased y.erased
  pub address : HasAddress x.form x.constancy

-- what is read is no place
abbrev pub IsRead : Use → Form → Type 0
IsRead as_place f = Unit {0}
IsRead role (a_place p) = ⊥
IsRead role f = Unit {0}

-- expressions that are used so
pub record SeenAs (role : Use) (x y : Typed) : Type 0 where
  pub alike : SeenAlike x y
  pub read : IsRead role x.form

-- ---- types

kind_type : {f g : Form} → SameKind f g
    → elim (g) as (λ _. CType) [ a_value v ↦ type_of v | a_place place ↦ type_at place | a_designator name type ↦ type ]
    ≡ elim (f) as (λ _. CType) [ a_value v ↦ type_of v | a_place place ↦ type_at place | a_designator name type ↦ type ]
kind_type (values t) = t
kind_type (places t) = t
kind_type designators = refl

pub same_type : (x y : Typed) → SameKind x.form y.form → own_type y ≡ own_type x
same_type x y k = kind_type k

-- ---- constants

-- what makes nothing of other constants makes the same of these
pub same_by : (f : Constancy → Constancy) → ((c : Constancy) → is_form c ≡ false → f c ≡ varying) → {c d : Constancy} → SameForm c d → f d ≡ f c
same_by f none (inl q) = ap f q
same_by f none {c} {d} (inr q) = none d q.1 ∙ sym (none c q.0)

pub same_both : (f : Constancy → Constancy → Constancy) → ((c d : Constancy) → is_form c ≡ false → f c d ≡ varying) → ((c d : Constancy) → is_form d ≡ false → f c d ≡ varying)
    → {a b c d : Constancy} → SameForm a c → SameForm b d → f c d ≡ f a b
same_both f left right {a} {b} {c} {d} (inr p) q = left c d p.1 ∙ sym (left a b p.0)
same_both f left right {a} {b} {c} {d} (inl p) (inr q) = right c d q.1 ∙ sym (right a b q.0)
same_both f left right {a} {b} {c} {d} (inl p) (inl q) = ap (λ it. f it d) p ∙ ap (f a) q

form_number : (c : Constancy) → is_form c ≡ false → is_number c ≡ false
form_number varying h = refl
form_number faulty h = refl
form_number (number z) h = h
form_number null_constant h = refl
form_number null_address h = refl
form_number (address object offset) h = refl

-- what is an integer constant in one is so in the other
pub same_number : {c d : Constancy} → SameForm c d → is_number d ≡ is_number c
same_number (inl q) = ap is_number q
same_number {c} {d} (inr q) = form_number d q.1 ∙ sym (form_number c q.0)

-- ---- what is made of them

-- values with the same constant
pub alike_values : {v w : Value} (a b : Constancy) {c d : Constancy} → type_of w ≡ type_of v → d ≡ c → SeenAlike (valued v a c) (valued w b d)
alike_values a b t e = record { kind = values t; erased = inl e; integer = λ h. e; address = tt }

-- an expression and itself
pub alike_itself : (x : Typed) → HasAddress x.form x.constancy → SeenAlike x x
alike_itself x h = record { kind = kind_itself x.form; erased = inl refl; integer = integer_itself x.form x.erased; address = h }
  where
    kind_itself : (f : Form) → SameKind f f
    kind_itself (a_value v) = values refl
    kind_itself (a_place p) = places refl
    kind_itself (a_designator name t) = designators

    integer_itself : (f : Form) (c : Constancy) → SameInteger f c c
    integer_itself (a_value v) c = λ h. refl
    integer_itself (a_place p) c = tt
    integer_itself (a_designator name t) c = refl

-- ---- what is read

value_at_type : (t : CType) (p q : Place) → type_of (value_at t q) ≡ type_of (value_at t p)
value_at_type (Array t n) p q = refl
value_at_type (Struct k) p q = refl
value_at_type (Qualified o t) p q = by (is_struct t)
  where
    by : (b : Bool) → type_of (if b then e.Whole t q else e.Load t q) ≡ type_of (if b then e.Whole t p else e.Load t p)
    by true = refl
    by false = refl
value_at_type Void p q = refl
value_at_type (Num s) p q = refl
value_at_type (Pointer t) p q = refl
value_at_type (Function t ts dots) p q = refl
value_at_type Floating p q = refl

-- the value of an array is a pointer
array_no_integer : (t : CType) (p : Place) → is_array t ≡ true → is_integer (type_of (value_at t p)) ≡ false
array_no_integer (Array t n) p h = refl
array_no_integer (Struct k) p h = absurd (false≢true h)
array_no_integer (Qualified o t) p h = absurd (false≢true h)
array_no_integer Void p h = absurd (false≢true h)
array_no_integer (Num s) p h = absurd (false≢true h)
array_no_integer (Pointer t) p h = absurd (false≢true h)
array_no_integer (Function t ts dots) p h = absurd (false≢true h)
array_no_integer Floating p h = absurd (false≢true h)

read_alike : (x y : Typed) (b : Bool) (v w : Value) → type_of w ≡ type_of v → SameForm x.erased y.erased → (b ≡ true → is_integer (type_of v) ≡ false)
    → SeenAlike (if b then record x { form = a_value v } else valued v varying varying) (if b then record y { form = a_value w } else valued w varying varying)
read_alike x y true v w t s h = record { kind = values t; erased = s; integer = λ i. absurd (false≢true (sym (h refl) ∙ i)); address = tt }
read_alike x y false v w t s h = alike_values varying varying t refl

as_read_alike : (x y : Typed) {f g : Form} → SameKind f g → SameForm x.erased y.erased → SameInteger f x.erased y.erased
    → SeenAlike (as_it_is_read (record x { form = f })) (as_it_is_read (record y { form = g }))
as_read_alike x y (values t) s i = record { kind = values t; erased = s; integer = i; address = tt }
as_read_alike x y (places {p} {q} t) s i =
    subst (λ u. SeenAlike (read p (record x { form = a_place p })) (if is_array u then record y { form = a_value (value_at u q) } else valued (value_at u q) varying varying)) (sym t)
    (read_alike x y (is_array (type_at p)) (value_at (type_at p) p) (value_at (type_at p) q) (value_at_type (type_at p) p q) s (array_no_integer (type_at p) p))
as_read_alike x y designators s i = record { kind = designators; erased = s; integer = i; address = tt }

pub as_read : (x y : Typed) → SeenAlike x y → SeenAlike (as_it_is_read x) (as_it_is_read y)
as_read x y a = as_read_alike x y a.kind a.erased a.integer

read_so : (role : Use) (f : Form) → IsRead as_value f → IsRead role f
read_so as_value f h = h
read_so as_place f h = tt
read_so as_truth (a_value v) h = tt
read_so as_truth (a_place p) h = h
read_so as_truth (a_designator name t) h = tt
read_so as_callee (a_value v) h = tt
read_so as_callee (a_place p) h = h
read_so as_callee (a_designator name t) h = tt

no_place : (x : Typed) (role : Use) (f : Form) → IsRead as_value (as_it_is_read (record x { form = f })).form
no_place x role (a_value v) = tt
no_place x role (a_place p) = by (is_array (type_at p))
  where
    by : (b : Bool) → IsRead as_value (if b then record x { form = a_value (value_at (type_at p) p) } else valued (value_at (type_at p) p) varying varying).form
    by true = tt
    by false = tt
no_place x role (a_designator name t) = tt

pub read_no_place : (x : Typed) → IsRead as_value (as_it_is_read x).form
read_no_place x = no_place x as_value x.form

-- what is used as a truth, of which no more is noted
pub record SeenTruth (x y : Typed) : Type 0 where
  pub erased : SameForm x.erased y.erased
  pub first : IsRead as_truth x.form
  pub second : IsRead as_truth y.form

-- expressions that are used so, as far as it matters there
abbrev pub SeenIn : Use → Typed → Typed → Type 0
SeenIn as_truth x y = SeenTruth x y
SeenIn role x y = SeenAs role x y

pub used_alike : (role : Use) (x y : Typed) → SeenAlike x y → SeenIn role (used role x) (used role y)
used_alike as_value x y a = record { alike = as_read x y a; read = no_place x as_value x.form }
used_alike as_truth x y a = record {
  erased = (as_read x y a).erased;
  first = read_so as_truth (as_it_is_read x).form (no_place x as_truth x.form);
  second = read_so as_truth (as_it_is_read y).form (no_place y as_truth y.form);
}
used_alike as_callee x y a = record { alike = as_read x y a; read = read_so as_callee (as_it_is_read x).form (no_place x as_callee x.form) }
used_alike as_place x y a = record { alike = a; read = tt }

-- what is read is read as it is
pub read_again : (x : Typed) (f : Form) → IsRead as_truth f → as_it_is_read (record x { form = f }) ≡ record x { form = f }
read_again x (a_value v) h = refl
read_again x (a_place p) h = absurd h
read_again x (a_designator name t) h = refl

-- the integer that a value is
pub integer_of : (x y : Typed) → SeenAs as_value x y → is_integer (own_type x) ≡ true → y.erased ≡ x.erased
integer_of x y s h = by x.form s.alike.integer s.read h
  where
    by : (f : Form) → SameInteger f x.erased y.erased → IsRead as_value f → is_integer (own_type (record x { form = f })) ≡ true → y.erased ≡ x.erased
    by (a_value v) i r h = i h
    by (a_place p) i r h = absurd r
    by (a_designator name t) i r h = i
