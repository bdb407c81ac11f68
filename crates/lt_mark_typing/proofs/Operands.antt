-- Expressions with marks added have the same types, are lvalues or not, and are read and converted alike.
use Rattle.std.proofs.Common.{◌≡◌, ℕ, [], Bool, true, false, refl, sym, ap, ◌∙◌, subst, inl, inr}
use Rattle.std.proofs.lemmas.Bool.{false≢true}
use Rattle.std.specs.Prelude.{◌||◌, ◌&&◌, if◌then◌else◌}
use Rattle.lt_tree.specs.Typing.Types.{CType, Void, Num, Pointer, Array, Struct, Function, Floating, Qualified, same, is_struct, is_array}
use Rattle.lt_tree.specs.Typing.Constants.{Constancy, varying, is_null_constant}
use Rattle.lt_tree.specs.Typing.Extents.{Structs}
use Rattle.lt_tree.specs.Typing.TypedTree as e
use Rattle.lt_tree.specs.Typing.TypedTree.{Value, Place, type_of, type_at}
use Rattle.lt_tree.specs.Typing.Expressions.{Form, a_value, a_place, a_designator, Typed, Use, as_value, as_truth, as_place, as_callee, valued, own_type, value_in, place_in, is_lvalue, is_lvalue_place, value_at, read, as_it_is_read, used, cast_to, how_to, converted_to, faults_of_any, Judged}
use Rattle.lt_tree.specs.Typing.Operations.{counts_as_null}
use Rattle.lt_mark_laws.specs.Added as a
use Rattle.lt_mark_laws.specs.Added.{Adds, AddsPlace, AddsTruth}
use Rattle.lt_mark_typing.specs.Beside.{AddsForm, values, places, designators, IsAtMost, AddsMade, AddsTyped, AddsTest, in_use, AddsAt}
use Rattle.lt_mark_laws.proofs.Itself as unmarked

-- where the first breaks no rule, nor does the second
pub record AddsJudged (new : ℕ → Bool) (j i : Judged) : Type 0 where
  pub faults : j.faults ≡ [] → i.faults ≡ []
  pub typed : AddsMade new j.typed i.typed

pub made : {new : ℕ → Bool} {x y : Typed} → AddsTyped new x y → AddsMade new x y
made p = record { form = p.form; register = p.register; constancy = p.constancy }

pub made_in_use : {new : ℕ → Bool} {x y : Typed} (role : Use) → AddsAt new (in_use role) x y → AddsMade new x y
made_in_use as_truth p = p
made_in_use as_value p = made p
made_in_use as_place p = made p
made_in_use as_callee p = made p

-- what is no null pointer constant
pub no_null : {new : ℕ → Bool} {x y : Typed} → counts_as_null x ≡ false → AddsMade new x y → AddsTyped new x y
no_null h m = record { form = m.form; register = m.register; constancy = m.constancy; null = λ n. absurd (false≢true (sym h ∙ n)) }

module _ {new : ℕ → Bool} where
  -- ---- values and places

  pub value_type : {v w : Value} → Adds new v w → type_of w ≡ type_of v
  value_type (a.in_front is_new free t d) = sym t
  value_type d = refl

  place_type : {p q : Place} → AddsPlace new p q → type_at q ≡ type_at p
  place_type a.Object = refl
  place_type d = refl

  place_lvalue : {p q : Place} → AddsPlace new p q → is_lvalue_place q ≡ is_lvalue_place p
  place_lvalue (a.Part d) = place_lvalue d
  place_lvalue d = refl

  value_there : (t : CType) {p q : Place} → AddsPlace new p q → Adds new (value_at t p) (value_at t q)
  value_there (Array t n) d = a.Decay d
  value_there (Struct k) d = a.Whole d
  value_there (Qualified q t) {p} {q = r} d = by (is_struct t)
    where
      by : (b : Bool) → Adds new (if b then e.Whole t p else e.Load t p) (if b then e.Whole t r else e.Load t r)
      by true = a.Whole d
      by false = a.Load d
  value_there Void d = a.Load d
  value_there (Num s) d = a.Load d
  value_there (Pointer t) d = a.Load d
  value_there (Function t ts dots) d = a.Load d
  value_there Floating d = a.Load d

  -- ---- conversions

  pub cast_adds : (t : CType) {v w : Value} → Adds new v w → Adds new (cast_to t v) (cast_to t w)
  cast_adds t {v} {w} d = subst (λ u. Adds new (cast_to t v) (e.Convert (how_to t u) t w)) (sym (value_type d)) (a.Convert (how_to t (type_of v)) d)

  pub converted_adds : (t : CType) {v w : Value} → Adds new v w → Adds new (converted_to t v) (converted_to t w)
  converted_adds t {v} {w} d =
      subst (λ u. Adds new (converted_to t v) (if is_struct t || same t u then w else e.Convert (how_to t u) t w)) (sym (value_type d)) (by (is_struct t || same t (type_of v)))
    where
      by : (b : Bool) → Adds new (if b then v else cast_to t v) (if b then w else e.Convert (how_to t (type_of v)) t w)
      by true = d
      by false = a.Convert (how_to t (type_of v)) d

  -- ---- typed expressions

  form_type : {f g : Form} → AddsForm new f g
      → elim (g) as (λ _. CType) [ a_value v ↦ type_of v | a_place place ↦ type_at place | a_designator name type ↦ type ]
      ≡ elim (f) as (λ _. CType) [ a_value v ↦ type_of v | a_place place ↦ type_at place | a_designator name type ↦ type ]
  form_type (values d) = value_type d
  form_type (places d) = place_type d
  form_type designators = refl

  pub type_same : {x y : Typed} → AddsMade new x y → own_type y ≡ own_type x
  type_same m = form_type m.form

  form_value : {f g : Form} → AddsForm new f g
      → Adds new (elim (f) as (λ _. Value) [ a_value v ↦ v | a_place place ↦ value_at (type_at place) place | a_designator name type ↦ value_in (record { form = a_designator name type; is_register = false; is_after = false; constancy = varying; erased = varying }) ])
      (elim (g) as (λ _. Value) [ a_value v ↦ v | a_place place ↦ value_at (type_at place) place | a_designator name type ↦ value_in (record { form = a_designator name type; is_register = false; is_after = false; constancy = varying; erased = varying }) ])
  form_value (values d) = d
  form_value (places {p} {q} d) = subst (λ t. Adds new (value_at (type_at p) p) (value_at t q)) (sym (place_type d)) (value_there (type_at p) d)
  form_value designators = a.Constant

  pub value_adds : {x y : Typed} → AddsMade new x y → Adds new (value_in x) (value_in y)
  value_adds m = form_value m.form

  held : {t u : CType} {v w : Value} → u ≡ t → Adds new v w → AddsPlace new (e.Held t v) (e.Held u w)
  held {t} {u} {v} {w} h d = subst (λ it. AddsPlace new (e.Held t v) (e.Held it w)) (sym h) (a.Held d)

  form_place : {f g : Form} → AddsForm new f g
      → AddsPlace new (elim (f) as (λ _. Place) [ a_value v ↦ e.Held (type_of v) v | a_place place ↦ place | a_designator name type ↦ place_in (record { form = a_designator name type; is_register = false; is_after = false; constancy = varying; erased = varying }) ])
      (elim (g) as (λ _. Place) [ a_value v ↦ e.Held (type_of v) v | a_place place ↦ place | a_designator name type ↦ place_in (record { form = a_designator name type; is_register = false; is_after = false; constancy = varying; erased = varying }) ])
  form_place (values d) = held (value_type d) d
  form_place (places d) = d
  form_place designators = a.Held a.Constant

  pub place_adds : {x y : Typed} → AddsMade new x y → AddsPlace new (place_in x) (place_in y)
  place_adds m = form_place m.form

  form_lvalue : {f g : Form} → AddsForm new f g
      → elim (g) as (λ _. Bool) [ a_value v ↦ false | a_place place ↦ is_lvalue_place place | a_designator name type ↦ false ]
      ≡ elim (f) as (λ _. Bool) [ a_value v ↦ false | a_place place ↦ is_lvalue_place place | a_designator name type ↦ false ]
  form_lvalue (values d) = refl
  form_lvalue (places d) = place_lvalue d
  form_lvalue designators = refl

  pub lvalue_same : {x y : Typed} → AddsMade new x y → is_lvalue y ≡ is_lvalue x
  lvalue_same m = form_lvalue m.form

  -- ---- null pointer constants

  pub null_same : {x y : Typed} → AddsTyped new x y → is_null_constant y.constancy ≡ is_null_constant x.constancy
  null_same {x} {y} p = by (is_null_constant x.constancy) refl p.constancy
    where
      by : (b : Bool) → is_null_constant x.constancy ≡ b → IsAtMost x.constancy y.constancy → is_null_constant y.constancy ≡ b
      by true h c = ap is_null_constant (p.null (ap (λ b. b || (x.is_after && is_null_constant x.erased)) h)).0 ∙ h
      by false h (inl c) = ap is_null_constant c ∙ h
      by false h (inr c) = ap is_null_constant c

  -- ---- what operators make

  pub made_itself : (x : Typed) → AddsMade new x x
  made_itself x = record { form = form_itself x.form; register = λ h. h; constancy = inl refl }
    where
      form_itself : (f : Form) → AddsForm new f f
      form_itself (a_value v) = values (unmarked.itself new v)
      form_itself (a_place p) = places (unmarked.place new p)
      form_itself (a_designator name t) = designators

  pub typed_itself : (x : Typed) → AddsTyped new x x
  typed_itself x = let m = made_itself x in record { form = m.form; register = m.register; constancy = m.constancy; null = λ h. (refl, h) }

  pub test_of : {x y : Typed} → AddsMade new x y → AddsTest new x y
  test_of m = record { value = a.as_value (value_adds m); type = inl (type_same m); constancy = m.constancy }

  pub valued_adds : {v w : Value} {c d k m : Constancy} → Adds new v w → IsAtMost c d → AddsMade new (valued v c k) (valued w d m)
  valued_adds h i = record { form = values h; register = λ r. r; constancy = i }

  pub varies_adds : {v w : Value} → Adds new v w → AddsMade new (valued v varying varying) (valued w varying varying)
  varies_adds h = valued_adds h (inl refl)

  -- ---- what is read

  read_adds : (x y : Typed) (b : Bool) {v w : Value} → Adds new v w → (x.is_register ≡ false → y.is_register ≡ false) → IsAtMost x.constancy y.constancy
      → AddsMade new (if b then record x { form = a_value v } else valued v varying varying) (if b then record y { form = a_value w } else valued w varying varying)
  read_adds x y true h r c = record { form = values h; register = r; constancy = c }
  read_adds x y false h r c = varies_adds h

  as_read_adds : (x y : Typed) {f g : Form} → AddsForm new f g → (x.is_register ≡ false → y.is_register ≡ false) → IsAtMost x.constancy y.constancy
      → AddsMade new (as_it_is_read (record x { form = f })) (as_it_is_read (record y { form = g }))
  as_read_adds x y (values h) r c = record { form = values h; register = r; constancy = c }
  as_read_adds x y (places {p} {q} h) r c =
      subst (λ t. AddsMade new (read p (record x { form = a_place p })) (if is_array t then record y { form = a_value (value_at t q) } else valued (value_at t q) varying varying)) (sym (place_type h))
      (read_adds x y (is_array (type_at p)) (value_there (type_at p) h) r c)
  as_read_adds x y designators r c = record { form = designators; register = r; constancy = c }

  pub as_read : {x y : Typed} → AddsMade new x y → AddsMade new (as_it_is_read x) (as_it_is_read y)
  as_read {x} {y} m = as_read_adds x y m.form m.register m.constancy

  pub used_adds : (role : Use) {x y : Typed} → AddsMade new x y → AddsMade new (used role x) (used role y)
  used_adds as_value m = as_read m
  used_adds as_truth m = as_read m
  used_adds as_callee m = as_read m
  used_adds as_place m = m

  -- ---- what is judged at each expression

  pub any_same : (structs : Structs) (role : Use) {x y : Typed} → AddsMade new x y → faults_of_any structs role y ≡ faults_of_any structs role x
  any_same structs role m = rw (type_same m) (rw (lvalue_same m) refl)
