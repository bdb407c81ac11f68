-- Operators make the same of expressions without their marks: C11 6.5.1 to 6.5.4.
use Rattle.std.proofs.Common.{◌≡◌, ℕ, List, [], ◌∷◌, Option, Some, None, Bool, true, false, refl, sym, ap, ◌∙◌, subst}
use Rattle.std.proofs.lemmas.Bool.{false≢true, and_parts, and_from}
use Rattle.std.specs.Prelude.{◌+◌, ◌&&◌, not, if◌then◌else◌, ℤ, pos, ◌-ℤ◌, option_and_then}
use Rattle.lt_model.specs.declared.scalar.DataModel.{DataModel}
use Rattle.lt_model.specs.declared.scalar.Scalar.{Scalar}
use Rattle.lt_model.specs.declared.scalar.Scalar.TheVariants as S
use Rattle.lt_model.specs.declared.operator.Op.TheVariants as O
use Rattle.lt_model.specs.Conversions.{promoted}
use Rattle.lt_tree.specs.declared.expression.UnaryOp.{UnaryOp}
use Rattle.lt_tree.specs.declared.expression.UnaryOp.TheVariants as unary
use Rattle.lt_tree.specs.Typing.Types.{CType, Num, Pointer, target_of, is_integer, is_pointer, is_scalar, unqualified, qualified, qualifiers_of}
use Rattle.lt_tree.specs.Typing.Extents.{Placed, is_complete}
use Rattle.lt_tree.specs.Typing.Constants.{Constancy, varying, number, address, converted, applied, TypedConstant, constant_of}
use Rattle.lt_tree.specs.Typing.Rules.{unless, not_scalar, bad_address, bad_cast, function_as_value}
use Rattle.lt_tree.specs.Typing.TypedTree as e
use Rattle.lt_tree.specs.Typing.Entities.{Known, Entity, meaning_of, type_of_object}
use Rattle.lt_tree.specs.Typing.Operands.{points_to, can_be_cast}
use Rattle.lt_tree.specs.Typing.Expressions.{Form, Typed, Use, constant, placed, nothing as no_value, own_type, value_in, place_in, is_lvalue, is_lvalue_place, judgement, constancy_to, scalar_in}
use Rattle.lt_tree.specs.Typing.Operations.{judge_name, judge_constant, judge_plus, judge_minus, judge_complement, judge_not, judge_address_of, judge_dereference, judge_member, judge_arrow, judge_part, judge_index, judge_size, judge_cast, object_named, lives_from_the_start, constant_address, target_in, member_in, pointer_among, other_among, element_size, object_size, is_callee}
use Rattle.lt_tree.specs.Typing.NodeEnds.{judge_unary, operand_of, text_at}
use Rattle.lt_erased_typing.proofs.Scopes.{Own, StandAlike, nothing, objects, functions, typedefs, enumerators, AreScopesAlike}
use Rattle.lt_erased_typing.proofs.Going.{IsBeside, beside, names_beside}
use Rattle.lt_erased_typing.proofs.Constants.{seen, integral_seen, Sees, IsOf, sees_itself, sees_plain, converted_sees, converted_is, from_zero_sees, turned_sees, applied_is, negated_sees, negated_is, conversion_varies, conversion_is, pointer_sees, moved_seen, zero_more}
use Rattle.lt_erased_typing.proofs.Operands.{AreValues, values, ArePlaces, places, BareValue, BarePlace, Bare, a_bare_value, a_bare_place, BareTruth, BareAs, BareJudged, value_type_same, type_same, lvalue_same, register_same, kin_pointer, bare_valued}
use Rattle.lt_erased_typing.proofs.Ends.{unless_true, true_unless}
use Rattle.lt_erased_typing.proofs.Conditions.{cast_integer, cast_more}

-- a constant of an integer type is itself
bare_number : (s : Scalar) (z : ℤ) → BareValue (constant s z) (constant s z)
bare_number s z = record {
  form = values refl;
  register = refl;
  constancy = record { sees = sees_itself (number z); marked = number_is; erasure = number_is; bare = number_is };
}
  where
    number_is : IsOf (Num s) (number z)
    number_is = record { integer = λ i. refl; pointer = λ p. absurd (false≢true p) }

-- ---- names and constants

start_seen : (b : Bool) (n : ℕ) → seen (if b then address n 0 else varying) ≡ varying
start_seen true n = refl
start_seen false n = refl

bare_object : (k j : Known) (n m : ℕ) (is_register : Bool) → type_of_object j m ≡ type_of_object k n
    → Bare (object_named k n is_register) (object_named j m is_register)
bare_object k j n m is_register e =
    let h = start_seen (lives_from_the_start k n) n in
    a_bare_place (record { form = places e refl; register = refl; marked = h; erasure = h; bare = start_seen (lives_from_the_start j m) m })

unless_callee : (role : Use) → is_callee role ≡ false → unless (is_callee role) function_as_value ≡ [] → ⊥
unless_callee role h g = false≢true (sym h ∙ unless_true (is_callee role) function_as_value g)

name_by : {texts : Bool} (k j : Known) (role : Use) (name : List ℕ) {found other : Option Entity} → is_callee role ≡ false → StandAlike texts k.objects j.objects found other
    → BareJudged (judge_name role name found k) (judge_name role name other j)
unfolding judge_name
name_by k j role name c nothing = λ h. absurd cc
name_by k j role name c (typedefs t) = λ h. absurd cc
name_by k j role name c (objects {n} {m} is_register l g e) = λ h. (h, bare_object k j n m is_register e)
name_by k j role name c functions = λ h. absurd (unless_callee role c h)
name_by k j role name c (enumerators z) = λ h. (h, a_bare_value (bare_number S.Int z))

-- a name stands for the same, or for objects of one type
pub name_bare : {texts : Bool} {known : Known} {own : Own} {k j : Known} (role : Use) (name : List ℕ) → is_callee role ≡ false → AreScopesAlike texts known own
    → IsBeside texts known own k j → BareJudged (judge_name role name (meaning_of name k) k) (judge_name role name (meaning_of name j) j)
name_bare {k = k} {j = j} role name c alike b = name_by k j role name c (names_beside alike b name)

constant_by : (found : Option TypedConstant) → BareJudged (judge_constant found) (judge_constant found)
unfolding judge_constant
constant_by None = λ h. absurd cc
constant_by (Some c) = λ h. (h, a_bare_value (bare_number c.type c.value))

pub constant_bare : {texts : Bool} {known : Known} {own : Own} {k j : Known} (text : List ℕ) → IsBeside texts known own k j
    → BareJudged (judge_constant (constant_of k.model text)) (judge_constant (constant_of j.model text))
constant_bare {known = known} text (beside more other) = constant_by (constant_of known.model text)

-- a string literal, by different numbers of objects
pub text_bare : (k j : Known) (bytes : List ℕ) (n m : ℕ) → BareJudged (text_at k bytes n) (text_at j bytes m)
unfolding text_at
text_bare k j bytes n m = λ h. (refl, a_bare_place (record { form = places refl refl; register = refl; marked = refl; erasure = refl; bare = refl }))

-- ---- operators on one operand

module _ {texts : Bool} {known : Known} {own : Own} {x y : Typed} where
  plus_bare : {k j : Known} → IsBeside texts known own k j → BareValue x y → BareJudged (judge_plus x k) (judge_plus y j)
  unfolding judge_plus
  plus_bare (beside more other) p = λ h. rw (value_type_same p) (
    h,
    a_bare_value (bare_valued refl (record {
      sees = converted_sees known.model (promoted known.model (scalar_in x)) p.constancy.sees;
      marked = converted_is known.model (promoted known.model (scalar_in x)) x.constancy;
      erasure = converted_is known.model (promoted known.model (scalar_in x)) x.erased;
      bare = converted_is known.model (promoted known.model (scalar_in x)) y.constancy;
    })),
  )

  minus_bare : {k j : Known} → IsBeside texts known own k j → BareValue x y → BareJudged (judge_minus x k) (judge_minus y j)
  unfolding judge_minus
  minus_bare (beside more other) p =
      let m = known.model in
      let s = promoted known.model (scalar_in x) in
      let is : (c : Constancy) → IsOf (Num s) (applied m O.Sub s (number (pos 0)) (converted m s c)) = λ c. applied_is m s (Num s) O.Sub (number (pos 0)) (converted m s c) refl in
      λ h. rw (value_type_same p) (h, a_bare_value (bare_valued refl (record { sees = from_zero_sees m s p.constancy.sees; marked = is x.constancy; erasure = is x.erased; bare = is y.constancy })))

  complement_bare : {k j : Known} → IsBeside texts known own k j → BareValue x y → BareJudged (judge_complement x k) (judge_complement y j)
  unfolding judge_complement
  complement_bare (beside more other) p =
      let m = known.model in
      let s = promoted known.model (scalar_in x) in
      let is : (c : Constancy) → IsOf (Num s) (applied m O.Xor s (converted m s (number (pos 0 -ℤ pos 1))) (converted m s c)) =
      λ c. applied_is m s (Num s) O.Xor (converted m s (number (pos 0 -ℤ pos 1))) (converted m s c) refl in
      λ h. rw (value_type_same p) (h, a_bare_value (bare_valued refl (record { sees = turned_sees m s p.constancy.sees; marked = is x.constancy; erasure = is x.erased; bare = is y.constancy })))

-- what has an address is a place
values_no_lvalue : (x : Typed) {f g : Form} → AreValues f g → is_lvalue (record x { form = f }) ≡ true → ⊥
values_no_lvalue x (values h) l = false≢true l

module _ {x y : Typed} where
  not_bare : BareTruth x y → BareJudged (judge_not x) (judge_not y)
  unfolding judge_not
  not_bare p = λ h. (
    true_unless (is_scalar (own_type y)) not_scalar (p.scalar (unless_true (is_scalar (own_type x)) not_scalar h)),
    a_bare_value (bare_valued refl (record {
      sees = negated_sees p.constancy;
      marked = negated_is (Num S.Int) x.constancy refl;
      erasure = negated_is (Num S.Int) x.erased refl;
      bare = negated_is (Num S.Int) y.constancy refl;
    })),
  )

  address_by : Bare x y → is_lvalue x ≡ true → BarePlace x y
  address_by (a_bare_value h) l = absurd (values_no_lvalue x h.form l)
  address_by (a_bare_place h) l = h

  -- what has an address isn't seen as a constant
  pub address_marked : Bare x y → (judge_address_of x).faults ≡ [] → seen x.constancy ≡ varying
  unfolding judge_address_of
  address_marked p h = (address_by p (and_parts (is_lvalue x) (not x.is_register) (unless_true (is_lvalue x && not x.is_register) bad_address h)).0).marked

  address_of_bare : Bare x y → BareJudged (judge_address_of x) (judge_address_of y)
  unfolding judge_address_of
  address_of_bare p = λ h.
      let both = unless_true (is_lvalue x && not x.is_register) bad_address h in
      let place = address_by p (and_parts (is_lvalue x) (not x.is_register) both).0 in (
        true_unless (is_lvalue y && not y.is_register) bad_address
            (and_from (is_lvalue y) (not y.is_register) (lvalue_same p ∙ (and_parts (is_lvalue x) (not x.is_register) both).0)
            (ap not (register_same p) ∙ (and_parts (is_lvalue x) (not x.is_register) both).1)),
        a_bare_value (bare_valued (ap Pointer (type_same p)) (kin_pointer (Pointer (own_type x)) x.constancy x.constancy y.constancy refl place.marked place.marked place.bare)),
      )

pub address_seen : (c : Constancy) → seen (constant_address c) ≡ varying
address_seen (address object offset) = refl
address_seen _ = refl

-- what a pointer points to
pointed_bare : {x y : Typed} → BareValue x y
    → Bare (placed (e.Pointed (target_in x) (value_in x)) (constant_address x.constancy)) (placed (e.Pointed (target_in y) (value_in y)) (constant_address y.constancy))
pointed_bare {x} {y} p = rw (value_type_same p) (a_bare_place (record { form = places refl refl; register = refl; marked = address_seen x.constancy; erasure = address_seen x.constancy; bare = address_seen y.constancy }))

module _ {texts : Bool} {known : Known} {own : Own} {x y : Typed} where
  dereference_bare : {k j : Known} → IsBeside texts known own k j → BareValue x y → BareJudged (judge_dereference x k) (judge_dereference y j)
  unfolding judge_dereference
  dereference_bare (beside more other) p = rw (value_type_same p) (by (points_to (is_complete known.structs) (own_type x)) (rw (value_type_same p) at (pointed_bare p)))
    where
      by : (b : Bool)
          → Bare (placed (e.Pointed (target_in x) (value_in x)) (constant_address x.constancy)) (placed (e.Pointed (target_in x) (value_in y)) (constant_address y.constancy))
          → BareJudged (if b then judgement [] (placed (e.Pointed (target_in x) (value_in x)) (constant_address x.constancy)) else judgement (bad_address ∷ []) no_value)
          (if b then judgement [] (placed (e.Pointed (target_in x) (value_in y)) (constant_address y.constancy)) else judgement (bad_address ∷ []) no_value)
      by true m = λ h. (h, m)
      by false m = λ h. absurd cc

  pub size_bare : {k j : Known} → IsBeside texts known own k j → Bare x y → BareJudged (judge_size (own_type x) k) (judge_size (own_type y) j)
  unfolding judge_size
  size_bare (beside more other) p = rw (type_same p) (λ h. (h, a_bare_value (bare_number _ _)))

module _ {texts : Bool} {known : Known} {own : Own} where
  pub unary_bare : {k j : Known} (op : UnaryOp) (x y : Typed) → IsBeside texts known own k j → BareAs (operand_of op) x y
      → BareJudged (judge_unary op x k) (judge_unary op y j)
  unary_bare unary.AddressOf x y b p = address_of_bare p
  unary_bare unary.Dereference x y b p = dereference_bare b p
  unary_bare unary.Plus x y b p = plus_bare b p
  unary_bare unary.Minus x y b p = minus_bare b p
  unary_bare unary.Complement x y b p = complement_bare b p
  unary_bare unary.Not x y b p = not_bare p

pub size_same : {texts : Bool} {known : Known} {own : Own} {k j : Known} (t : CType) → IsBeside texts known own k j
    → BareJudged (judge_size t k) (judge_size t j)
unfolding judge_size
size_same t (beside more other) = λ h. (h, a_bare_value (bare_number _ _))

-- ---- members and elements

abbrev pub behind : Placed → Constancy → Constancy
behind member (address object offset) = address object (offset + member.offset)
behind member _ = varying

pub behind_seen : (member : Placed) (c : Constancy) → seen (behind member c) ≡ varying
behind_seen member (address object offset) = refl
behind_seen member _ = refl

values_place : (x y : Typed) {f g : Form} → AreValues f g → is_lvalue_place (place_in (record y { form = g })) ≡ is_lvalue_place (place_in (record x { form = f }))
values_place x y (values h) = refl

places_place : (x y : Typed) {f g : Form} → ArePlaces f g → is_lvalue_place (place_in (record y { form = g })) ≡ is_lvalue_place (place_in (record x { form = f }))
places_place x y (places h l) = l

place_lvalue : {x y : Typed} → Bare x y → is_lvalue_place (place_in y) ≡ is_lvalue_place (place_in x)
place_lvalue {x} {y} (a_bare_value h) = values_place x y h.form
place_lvalue {x} {y} (a_bare_place h) = places_place x y h.form

part_bare : {x y : Typed} (found : Option Placed) → Bare x y → BareJudged (judge_part x found) (judge_part y found)
part_bare None m = λ h. absurd cc
part_bare {x} {y} (Some member) m = λ h. (
  refl,
  a_bare_place (record {
    form = places (ap (λ t. qualified (qualifiers_of t) member.type) (type_same m)) (place_lvalue m);
    register = register_same m;
    marked = behind_seen member x.constancy;
    erasure = behind_seen member x.constancy;
    bare = behind_seen member y.constancy;
  }),
)

-- one of two operands
pick : {x y v w : Typed} (b : Bool) → BareValue x y → BareValue v w → BareValue (if b then x else v) (if b then y else w)
pick true p q = p
pick false p q = q

-- the operand that is the pointer
pub pointers : {x y v w : Typed} → BareValue x y → BareValue v w → BareValue (pointer_among x v) (if is_pointer (own_type x) then y else w)
pointers {x} p q = pick (is_pointer (own_type x)) p q

module _ {texts : Bool} {known : Known} {own : Own} {x y : Typed} where
  pub member_bare : {k j : Known} (name : List ℕ) → IsBeside texts known own k j → Bare x y → BareJudged (judge_member x name k) (judge_member y name j)
  unfolding judge_member
  member_bare name (beside more other) p = rw (type_same p) (part_bare (member_in known (own_type x) name) p)

  pub arrow_bare : {k j : Known} (name : List ℕ) → IsBeside texts known own k j → BareValue x y → BareJudged (judge_arrow x name k) (judge_arrow y name j)
  unfolding judge_arrow
  arrow_bare name (beside more other) p =
      let both = part_bare (option_and_then (λ t. member_in known t name) (target_of (own_type x))) (pointed_bare p) in
      subst (λ t. BareJudged (judge_part (placed (e.Pointed (target_in x) (value_in x)) (constant_address x.constancy)) (option_and_then (λ t. member_in known t name) (target_of (own_type x))))
      (judge_part (placed (e.Pointed (target_in y) (value_in y)) (constant_address y.constancy)) (option_and_then (λ t. member_in known t name) (target_of t)))) (sym (value_type_same p)) both

  pub index_bare : {v w : Typed} {k j : Known} → IsBeside texts known own k j → BareValue x y → BareValue v w → BareJudged (judge_index x v k) (judge_index y w j)
  unfolding judge_index
  index_bare {v} {w} {k} {j} (beside more other) p q = rw (value_type_same p) (rw (value_type_same q) (rw (value_type_same (pointers p q)) (λ h. (
    h,
    a_bare_place (record {
      form = places refl refl;
      register = (pointers p q).register;
      marked = moved_seen (object_size k) (element_size known x v) (pointer_among x v).constancy (other_among x v).constancy;
      erasure = moved_seen (object_size k) (element_size known x v) (pointer_among x v).constancy (other_among x v).constancy;
      bare = moved_seen (object_size j) (element_size known x v) (if is_pointer (own_type x) then y else w).constancy (if is_pointer (own_type x) then w else y).constancy;
    }),
  ))))

-- ---- casts

module _ {x y : Typed} where
  cast_sees : (t : CType) (m : DataModel) → BareValue x y → can_be_cast t (own_type x) x.constancy ≡ true
      → Sees (constancy_to m (unqualified t) x.constancy) (constancy_to m (unqualified t) x.erased) (constancy_to m (unqualified t) y.constancy)
  cast_sees t m p h = by (is_integer (unqualified t)) refl
    where
      by : (b : Bool) → is_integer (unqualified t) ≡ b
          → Sees (constancy_to m (unqualified t) x.constancy) (constancy_to m (unqualified t) x.erased) (constancy_to m (unqualified t) y.constancy)
      by true i =
          let n = cast_integer t (own_type x) x.constancy h i in
          sees_plain (constancy_to m (unqualified t)) (conversion_varies m (unqualified t)) (integral_seen x.constancy (p.constancy.marked.integer n)) (integral_seen x.erased (p.constancy.erasure.integer n)) (integral_seen y.constancy (p.constancy.bare.integer n)) p.constancy.sees
      by false i = pointer_sees m (unqualified t) i p.constancy.sees

module _ {texts : Bool} {known : Known} {own : Own} {x y : Typed} where
  pub cast_bare : {k j : Known} (t : CType) → IsBeside texts known own k j → BareValue x y → BareJudged (judge_cast t x k) (judge_cast t y j)
  unfolding judge_cast
  cast_bare t (beside more other) p = rw (value_type_same p) (λ h.
      let can = unless_true (can_be_cast t (own_type x) x.constancy) bad_cast h in (
        true_unless (can_be_cast t (own_type x) y.constancy) bad_cast (cast_more t (own_type x) x.constancy y.constancy (zero_more p.constancy.sees) can),
        a_bare_value (bare_valued refl (record {
          sees = cast_sees t known.model p can;
          marked = conversion_is known.model (unqualified t) x.constancy;
          erasure = conversion_is known.model (unqualified t) x.erased;
          bare = conversion_is known.model (unqualified t) y.constancy;
        })),
      ))
