-- What operators make of operands that are seen alike is seen alike: C11 6.5.1 to 6.5.4.
use Rattle.std.proofs.Common.{◌≡◌, refl, sym, ap, ◌∙◌, subst, inr, ℕ, ℤ, pos, negsuc, List, [], ◌∷◌, Option, Some, None, Bool, true, false, if◌then◌else◌}
use Rattle.std.proofs.lemmas.Bool.{false≢true}
use Rattle.std.specs.Prelude.{◌&&◌, ◌||◌, not, nat_le, ◌-ℤ◌, option_and_then, unwrap_or}
use Rattle.lt_model.specs.declared.scalar.DataModel.{DataModel}
use Rattle.lt_model.specs.declared.scalar.Scalar.{Scalar}
use Rattle.lt_model.specs.declared.scalar.Scalar.TheVariants as S
use Rattle.lt_model.specs.declared.operator.Op.{Op}
use Rattle.lt_model.specs.declared.operator.Op.TheVariants as O
use Rattle.lt_model.specs.Conversions.{promoted}
use Rattle.lt_tree.specs.Typing.Types.{CType, Void, Num, Pointer, Array, Struct, Function, Floating, Qualified, target_of, unqualified, qualified, qualifiers_of, is_integer, is_pointer}
use Rattle.lt_tree.specs.Typing.Extents.{is_complete, size_of, Placed}
use Rattle.lt_tree.specs.Typing.Constants.{Constancy, varying, faulty, number, null_constant, null_address, address, is_form, converted, applied, negated, moved_to, moved_by}
use Rattle.lt_tree.specs.Typing.Rules.{unless, bad_cast, bad_address, bad_call}
use Rattle.lt_tree.specs.Typing.TypedTree as e
use Rattle.lt_tree.specs.Typing.TypedTree.{Value, When, type_of}
use Rattle.lt_tree.specs.Typing.Entities.{Known}
use Rattle.lt_tree.specs.Typing.Operands.{points_to, can_be_cast}
use Rattle.lt_tree.specs.Typing.Expressions.{Form, a_value, a_place, a_designator, Typed, as_value, valued, placed, nothing, own_type, is_lvalue, is_lvalue_place, value_in, place_in, Judged, judgement, cast_to, scalar_in, null_of, constancy_as_pointer, constancy_as_number, constancy_to}
use Rattle.lt_tree.specs.Typing.Operations.{judge_plus, judge_minus, judge_complement, judge_not, judge_address_of, judge_dereference, judge_step, judge_part, part_of, judge_member, judge_arrow, judge_index, judge_function, judge_call, judge_cast, constant_address, target_in, member_in, stepped, object_size, element_size, pointer_among, other_among}
use Rattle.lt_kept_facts.proofs.SeenAlike.{SameForm, SameKind, values, places, designators, HasAddress, SeenAlike, SeenAs, same_type, same_by, alike_values, alike_itself, integer_of}

-- ---- constants that are no integers

pub converted_none : (m : DataModel) (s : Scalar) (c : Constancy) → is_form c ≡ false → converted m s c ≡ varying
converted_none m s varying h = refl
converted_none m s faulty h = absurd (false≢true (sym h))
converted_none m s (number z) h = absurd (false≢true (sym h))
converted_none m s null_constant h = refl
converted_none m s null_address h = refl
converted_none m s (address object offset) h = refl

negated_none : (c : Constancy) → is_form c ≡ false → negated c ≡ varying
negated_none varying h = refl
negated_none faulty h = absurd (false≢true (sym h))
negated_none (number z) h = absurd (false≢true (sym h))
negated_none null_constant h = refl
negated_none null_address h = refl
negated_none (address object offset) h = refl

constant_none : (c : Constancy) → is_form (constant_address c) ≡ false
constant_none varying = refl
constant_none faulty = refl
constant_none (number z) = refl
constant_none null_constant = refl
constant_none null_address = refl
constant_none (address object offset) = refl

moved_none : (object size : ℕ) (z : ℤ) → is_form (moved_to object size z) ≡ false
moved_none object size (negsuc n) = refl
moved_none object size (pos n) = by (nat_le n size)
  where
    by : (b : Bool) → is_form (if b then address object n else varying) ≡ false
    by true = refl
    by false = refl

pub moved_by_none : (sizes : ℕ → ℕ) (size : ℕ) (c d : Constancy) → is_form (moved_by sizes size c d) ≡ false
moved_by_none sizes size varying d = refl
moved_by_none sizes size faulty d = refl
moved_by_none sizes size (number z) d = refl
moved_by_none sizes size null_constant d = refl
moved_by_none sizes size null_address d = refl
moved_by_none sizes size (address object offset) varying = refl
moved_by_none sizes size (address object offset) faulty = refl
moved_by_none sizes size (address object offset) (number z) = moved_none object (sizes object) _
moved_by_none sizes size (address object offset) null_constant = refl
moved_by_none sizes size (address object offset) null_address = refl
moved_by_none sizes size (address object offset) (address other at) = refl

part_none : (x : Typed) (member : Placed) (c : Constancy) → is_form (part_of (record x { constancy = c }) member).constancy ≡ false
part_none x member varying = refl
part_none x member faulty = refl
part_none x member (number z) = refl
part_none x member null_constant = refl
part_none x member null_address = refl
part_none x member (address object offset) = refl

null_none : (b : Bool) → is_form (if b then null_constant else null_address) ≡ false
null_none true = refl
null_none false = refl

pointer_none : (t : CType) (c : Constancy) → is_form (constancy_as_pointer t c) ≡ false
pointer_none t varying = refl
pointer_none t faulty = refl
pointer_none t (number z) = by _
  where
    by : (b : Bool) → is_form (if b then null_of t else varying) ≡ false
    by true = null_none _
    by false = refl
pointer_none t null_constant = refl
pointer_none t null_address = refl
pointer_none t (address object offset) = refl

-- ---- places

pub alike_places : {p q : e.Place} (c d : Constancy) → e.type_at q ≡ e.type_at p → is_form c ≡ false → is_form d ≡ false → SeenAlike (placed p c) (placed q d)
alike_places c d t g h = record { kind = places t; erased = inr (g, h); integer = tt; address = g }

-- ---- operators on one operand

module _ {x y : Typed} (s : SeenAlike x y) where
  pub plus_seen : (known : Known) → SeenAlike (judge_plus x known).typed (judge_plus y known).typed
  unfolding judge_plus
  plus_seen known = rw (same_type x y s.kind) (alike_values _ _ refl (same_by (converted known.model (promoted known.model (scalar_in x))) (converted_none known.model (promoted known.model (scalar_in x))) s.erased))

  pub minus_seen : (known : Known) → SeenAlike (judge_minus x known).typed (judge_minus y known).typed
  unfolding judge_minus
  minus_seen known = rw (same_type x y s.kind) (alike_values _ _ refl (same_by (λ c. applied known.model O.Sub (promoted known.model (scalar_in x)) (number (pos 0)) (converted known.model (promoted known.model (scalar_in x)) c))
      (λ c h. ap (applied known.model O.Sub (promoted known.model (scalar_in x)) (number (pos 0))) (converted_none known.model (promoted known.model (scalar_in x)) c h)) s.erased))

  pub complement_seen : (known : Known) → SeenAlike (judge_complement x known).typed (judge_complement y known).typed
  unfolding judge_complement
  complement_seen known = rw (same_type x y s.kind) (alike_values _ _ refl (same_by (λ c. applied known.model O.Xor (promoted known.model (scalar_in x)) (converted known.model (promoted known.model (scalar_in x)) (number (pos 0 -ℤ pos 1))) (converted known.model (promoted known.model (scalar_in x)) c))
      (λ c h. ap (applied known.model O.Xor (promoted known.model (scalar_in x)) (converted known.model (promoted known.model (scalar_in x)) (number (pos 0 -ℤ pos 1)))) (converted_none known.model (promoted known.model (scalar_in x)) c h)) s.erased))

  address_there : (f : Form) → elim (f) as (λ _. Bool) [ a_value v ↦ false | a_place place ↦ is_lvalue_place place | a_designator name type ↦ false ] ≡ true → HasAddress f x.constancy → is_form x.constancy ≡ false
  address_there (a_value v) h a = absurd (false≢true h)
  address_there (a_place p) h a = a
  address_there (a_designator name t) h a = absurd (false≢true h)

  pub address_of_seen : (is_form x.constancy ≡ false → is_form y.constancy ≡ false) → (judge_address_of x).faults ≡ [] → SeenAlike (judge_address_of x).typed (judge_address_of y).typed
  unfolding judge_address_of
  address_of_seen too h = record { kind = values (ap Pointer (same_type x y s.kind)); erased = inr (none, too none); integer = λ i. absurd (false≢true i); address = tt }
    where
      lvalue_by : (b r : Bool) → unless (b && not r) bad_address ≡ [] → b ≡ true
      lvalue_by true r q = refl
      lvalue_by false r q = absurd cc

      none : is_form x.constancy ≡ false
      none = address_there x.form (lvalue_by (is_lvalue x) x.is_register h) s.address

  pub pointed_seen : SeenAlike (placed (e.Pointed (target_in x) (value_in x)) (constant_address x.constancy)) (placed (e.Pointed (target_in y) (value_in y)) (constant_address y.constancy))
  pointed_seen = alike_places (constant_address x.constancy) (constant_address y.constancy) (ap (λ t. unwrap_or (target_of t) (Num S.Int)) (same_type x y s.kind)) (constant_none x.constancy) (constant_none y.constancy)

  pub dereference_seen : (known : Known) → SeenAlike (judge_dereference x known).typed (judge_dereference y known).typed
  unfolding judge_dereference
  dereference_seen known = subst (λ t. SeenAlike (judge_dereference x known).typed (if points_to (is_complete known.structs) t then judgement [] (placed (e.Pointed (target_in y) (value_in y)) (constant_address y.constancy)) else judgement (bad_address ∷ []) nothing).typed)
      (sym (same_type x y s.kind)) (by (points_to (is_complete known.structs) (own_type x)))
    where
      by : (b : Bool) → SeenAlike (if b then judgement [] (placed (e.Pointed (target_in x) (value_in x)) (constant_address x.constancy)) else judgement (bad_address ∷ []) nothing).typed
          (if b then judgement [] (placed (e.Pointed (target_in y) (value_in y)) (constant_address y.constancy)) else judgement (bad_address ∷ []) nothing).typed
      by true = pointed_seen
      by false = alike_itself nothing tt

  part_seen : (found : Option Placed) → SeenAlike (judge_part x found).typed (judge_part y found).typed
  part_seen None = alike_itself nothing tt
  part_seen (Some member) = record {
    kind = places (ap (λ t. qualified (qualifiers_of t) member.type) (same_type x y s.kind));
    erased = inr (part_none x member x.constancy, part_none y member y.constancy);
    integer = tt;
    address = part_none x member x.constancy;
  }

  pub member_seen : (name : List ℕ) (known : Known) → SeenAlike (judge_member x name known).typed (judge_member y name known).typed
  unfolding judge_member
  member_seen name known = subst (λ t. SeenAlike (judge_part x (member_in known (own_type x) name)).typed (judge_part y (member_in known t name)).typed) (sym (same_type x y s.kind)) (part_seen (member_in known (own_type x) name))

  pub step_seen : (when : When) (op : Op) (known other : Known) → SeenAlike (judge_step when op x known).typed (judge_step when op y other).typed
  unfolding judge_step
  step_seen when op known other = alike_values varying varying (stepped_type other y ∙ ap unqualified (same_type x y s.kind) ∙ sym (stepped_type known x)) refl
    where
      either : (t : CType) (a b : Value) (p : Bool) → type_of a ≡ t → type_of b ≡ t → type_of (if p then a else b) ≡ t
      either t a b true h g = h
      either t a b false h g = g

      stepped_type : (known : Known) (x : Typed) → type_of (stepped known when op x) ≡ unqualified (own_type x)
      stepped_type known x = either (unqualified (own_type x)) (e.StepPointer (unqualified (own_type x)) when op (size_of known.model known.structs (target_in x)) (place_in x))
          (e.Step (unqualified (own_type x)) when op (promoted known.model (scalar_in x)) (place_in x)) (is_pointer (own_type x)) refl refl

pub arrow_seen : {x y : Typed} → SeenAlike x y → (name : List ℕ) (known : Known) → SeenAlike (judge_arrow x name known).typed (judge_arrow y name known).typed
unfolding judge_arrow
arrow_seen {x} {y} s name known =
    subst (λ t. SeenAlike (judge_arrow x name known).typed (judge_part (placed (e.Pointed (target_in y) (value_in y)) (constant_address y.constancy)) (option_and_then (λ t. member_in known t name) (target_of t))).typed) (sym (same_type x y s.kind))
    (part_seen (pointed_seen s) (option_and_then (λ t. member_in known t name) (target_of (own_type x))))

-- `!x`, of whose operand the truth is used
pub not_seen : (x y : Typed) → SameForm x.erased y.erased → SeenAlike (judge_not x).typed (judge_not y).typed
unfolding judge_not
not_seen x y f = alike_values _ _ refl (same_by negated negated_none f)

-- ---- elements

module _ {x y v w : Typed} (s : SeenAlike x y) (r : SeenAlike v w) where
  -- the operand that is the pointer
  pub pointer_type : own_type (pointer_among y w) ≡ own_type (pointer_among x v)
  pointer_type = ap (λ t. own_type (if is_pointer t then y else w)) (same_type x y s.kind) ∙ by (is_pointer (own_type x))
    where
      by : (b : Bool) → own_type (if b then y else w) ≡ own_type (if b then x else v)
      by true = same_type x y s.kind
      by false = same_type v w r.kind

  pub index_seen : (known other : Known) → SeenAlike (judge_index x v known).typed (judge_index y w other).typed
  unfolding judge_index
  index_seen known other = record {
    kind = places (ap (λ t. unwrap_or (target_of t) (Num S.Int)) pointer_type);
    erased = inr (none known x v, none other y w);
    integer = tt;
    address = none known x v;
  }
    where
      none : (known : Known) (x v : Typed) → is_form (moved_by (object_size known) (element_size known x v) (pointer_among x v).constancy (other_among x v).constancy) ≡ false
      none known x v = moved_by_none (object_size known) (element_size known x v) (pointer_among x v).constancy (other_among x v).constancy

-- ---- calls

function_seen : (name : List ℕ) (t : CType) (xs ys : List Typed) (known other : Known) → SeenAlike (judge_function known name t xs).typed (judge_function other name t ys).typed
unfolding judge_function
function_seen name (Function result ts dots) xs ys known other = alike_values varying varying refl refl
function_seen name Void xs ys known other = alike_itself nothing tt
function_seen name (Num s) xs ys known other = alike_itself nothing tt
function_seen name (Pointer t) xs ys known other = alike_itself nothing tt
function_seen name (Array t n) xs ys known other = alike_itself nothing tt
function_seen name (Struct k) xs ys known other = alike_itself nothing tt
function_seen name Floating xs ys known other = alike_itself nothing tt
function_seen name (Qualified q t) xs ys known other = alike_itself nothing tt

-- a call of what a form is
abbrev call_of : List Typed → Known → Form → Judged
call_of xs known (a_value v) = judgement (bad_call ∷ []) nothing
call_of xs known (a_place place) = judgement (bad_call ∷ []) nothing
call_of xs known (a_designator w t) = judge_function known w t xs

pub call_seen : {f g : Typed} → SeenAlike f g → (xs ys : List Typed) (known other : Known) → SeenAlike (judge_call f xs known).typed (judge_call g ys other).typed
unfolding judge_call
call_seen s xs ys known other = by s.kind
  where
    by : {f g : Form} → SameKind f g → SeenAlike (call_of xs known f).typed (call_of ys other g).typed
    by (values t) = alike_itself nothing tt
    by (places t) = alike_itself nothing tt
    by (designators {name} {t}) = function_seen name t xs ys known other

-- ---- casts

integer_only : (b : Bool) → (b || false) || false ≡ true → b ≡ true
integer_only true h = refl
integer_only false h = h

number_cast : (q : CType) (s : Scalar) (u : CType) (c : Constancy) → unqualified q ≡ Num s → can_be_cast q u c ≡ true → is_integer u ≡ true
number_cast (Num r) s u c e h = integer_only (is_integer u) h
number_cast (Qualified o t) s u c e h = integer_only (is_integer u) (subst (λ t. can_be_cast t u c ≡ true) e h)
number_cast Void s u c e h = absurd cc
number_cast (Pointer t) s u c e h = absurd cc
number_cast (Array t n) s u c e h = absurd cc
number_cast (Struct k) s u c e h = absurd cc
number_cast (Function t ts dots) s u c e h = absurd cc
number_cast Floating s u c e h = absurd cc

pub cast_seen : {x y : Typed} → SeenAs as_value x y → (t : CType) (known : Known) → (judge_cast t x known).faults ≡ [] → SeenAlike (judge_cast t x known).typed (judge_cast t y known).typed
unfolding judge_cast
cast_seen {x} {y} s t known h = by (unqualified t) refl
  where
    by : (u : CType) → unqualified t ≡ u → SeenAlike (valued (cast_to u (value_in x)) (constancy_to known.model u x.constancy) (constancy_to known.model u x.erased)) (valued (cast_to u (value_in y)) (constancy_to known.model u y.constancy) (constancy_to known.model u y.erased))
    by (Num r) q = alike_values _ _ refl (ap (constancy_as_number known.model r) (integer_of x y s (number_cast t r (own_type x) x.constancy q (unless_true _ h))))
      where
        unless_true : (b : Bool) → unless b bad_cast ≡ [] → b ≡ true
        unless_true true g = refl
        unless_true false g = absurd cc
    by (Pointer u) q = record { kind = values refl; erased = inr (pointer_none (Pointer u) x.erased, pointer_none (Pointer u) y.erased); integer = λ i. absurd (false≢true i); address = tt }
    by Void q = alike_values _ _ refl refl
    by (Array u n) q = alike_values _ _ refl refl
    by (Struct k) q = alike_values _ _ refl refl
    by (Function u us dots) q = alike_values _ _ refl refl
    by Floating q = alike_values _ _ refl refl
    by (Qualified o u) q = alike_values _ _ refl refl
