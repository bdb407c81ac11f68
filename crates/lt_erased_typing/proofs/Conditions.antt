-- What the conditions of operators say of kinds of types.
use Rattle.std.proofs.Common.{◌≡◌, Bool, true, false, refl, sym, ap, ◌∙◌, inl, inr}
use Rattle.std.proofs.lemmas.Bool.{false≢true, and_parts, or_cases}
use Rattle.std.specs.Prelude.{◌⊎◌, ◌||◌, ◌&&◌}
use Rattle.lt_tree.specs.Typing.Types.{CType, Void, Num, Pointer, Array, Struct, Function, Floating, Qualified, is_void, is_integer, is_pointer, is_struct, unqualified, same, same_qualifiers, alike}
use Rattle.lt_tree.specs.Typing.Extents.{Structs, has_size}
use Rattle.lt_tree.specs.Typing.Constants.{Constancy, is_zero, is_null_constant}
use Rattle.lt_tree.specs.Typing.Operands.{are_integers, points_to, is_movable, point_alike, is_pointer_to_void, can_be_added, can_be_subtracted, can_be_ordered, are_structs_alike, goes_with_any_pointer, can_be_compared, can_be_chosen_from, can_be_cast}

or_first : (a b : Bool) → a ≡ true → a || b ≡ true
or_first a b h = ap (λ it. it || b) h

or_second : (a b : Bool) → b ≡ true → a || b ≡ true
or_second true b h = refl
or_second false b h = h

-- ---- kinds

pub pointer_no_integer : (t : CType) → is_pointer t ≡ true → is_integer t ≡ false
pointer_no_integer (Pointer t) h = refl
pointer_no_integer (Qualified q t) h = pointer_no_integer t h
pointer_no_integer Void h = refl
pointer_no_integer (Num s) h = absurd (false≢true h)
pointer_no_integer (Array t n) h = refl
pointer_no_integer (Struct k) h = refl
pointer_no_integer (Function t ts dots) h = refl
pointer_no_integer Floating h = refl

integer_no_void : (t : CType) → is_integer t ≡ true → is_void t ≡ false
integer_no_void (Num s) h = refl
integer_no_void (Qualified q t) h = integer_no_void t h
integer_no_void (Pointer t) h = refl
integer_no_void Void h = absurd (false≢true h)
integer_no_void (Array t n) h = refl
integer_no_void (Struct k) h = refl
integer_no_void (Function t ts dots) h = refl
integer_no_void Floating h = refl

integer_no_pointer : (t : CType) → is_integer t ≡ true → is_pointer t ≡ false
integer_no_pointer (Num s) h = refl
integer_no_pointer (Qualified q t) h = integer_no_pointer t h
integer_no_pointer (Pointer t) h = absurd (false≢true h)
integer_no_pointer Void h = refl
integer_no_pointer (Array t n) h = refl
integer_no_pointer (Struct k) h = refl
integer_no_pointer (Function t ts dots) h = refl
integer_no_pointer Floating h = refl

pointer_no_void : (t : CType) → is_pointer t ≡ true → is_void t ≡ false
pointer_no_void (Pointer t) h = refl
pointer_no_void (Qualified q t) h = pointer_no_void t h
pointer_no_void Void h = absurd (false≢true h)
pointer_no_void (Num s) h = refl
pointer_no_void (Array t n) h = refl
pointer_no_void (Struct k) h = refl
pointer_no_void (Function t ts dots) h = refl
pointer_no_void Floating h = refl

unqualified_integer : (t : CType) → is_integer (unqualified t) ≡ is_integer t
unqualified_integer (Qualified q t) = refl
unqualified_integer Void = refl
unqualified_integer (Num s) = refl
unqualified_integer (Pointer t) = refl
unqualified_integer (Array t n) = refl
unqualified_integer (Struct k) = refl
unqualified_integer (Function t ts dots) = refl
unqualified_integer Floating = refl

unqualified_pointer : (t : CType) → is_pointer (unqualified t) ≡ is_pointer t
unqualified_pointer (Qualified q t) = refl
unqualified_pointer Void = refl
unqualified_pointer (Num s) = refl
unqualified_pointer (Pointer t) = refl
unqualified_pointer (Array t n) = refl
unqualified_pointer (Struct k) = refl
unqualified_pointer (Function t ts dots) = refl
unqualified_pointer Floating = refl

unqualified_struct : (t : CType) → is_struct (unqualified t) ≡ is_struct t
unqualified_struct (Qualified q t) = refl
unqualified_struct Void = refl
unqualified_struct (Num s) = refl
unqualified_struct (Pointer t) = refl
unqualified_struct (Array t n) = refl
unqualified_struct (Struct k) = refl
unqualified_struct (Function t ts dots) = refl
unqualified_struct Floating = refl

-- what points to something is a pointer
pointing : (test : CType → Bool) (t : CType) → points_to test t ≡ true → is_pointer t ≡ true
pointing test (Pointer t) h = refl
pointing test (Qualified q t) h = pointing test t h
pointing test Void h = absurd (false≢true h)
pointing test (Num s) h = absurd (false≢true h)
pointing test (Array t n) h = absurd (false≢true h)
pointing test (Struct k) h = absurd (false≢true h)
pointing test (Function t ts dots) h = absurd (false≢true h)
pointing test Floating h = absurd (false≢true h)

-- a struct is compatible with no pointer
struct_by : (t u : CType) → same t u ≡ true → is_struct t ≡ true → is_pointer u ≡ true → ⊥
struct_by (Struct k) (Struct j) h s p = false≢true p
struct_by (Struct k) (Pointer u) h s p = false≢true h
struct_by (Struct k) (Qualified q u) h s p = false≢true h
struct_by (Struct k) Void h s p = false≢true p
struct_by (Struct k) (Num r) h s p = false≢true p
struct_by (Struct k) (Array u n) h s p = false≢true p
struct_by (Struct k) (Function u us dots) h s p = false≢true p
struct_by (Struct k) Floating h s p = false≢true p
struct_by (Qualified q t) (Qualified r u) h s p = struct_by t u (and_parts (same_qualifiers q r) (same t u) h).1 s p
struct_by (Qualified q t) (Pointer u) h s p = false≢true h
struct_by (Qualified q t) (Struct j) h s p = false≢true p
struct_by (Qualified q t) Void h s p = false≢true p
struct_by (Qualified q t) (Num r) h s p = false≢true p
struct_by (Qualified q t) (Array u n) h s p = false≢true p
struct_by (Qualified q t) (Function u us dots) h s p = false≢true p
struct_by (Qualified q t) Floating h s p = false≢true p
struct_by Void u h s p = false≢true s
struct_by (Num r) u h s p = false≢true s
struct_by (Pointer t) u h s p = false≢true s
struct_by (Array t n) u h s p = false≢true s
struct_by (Function t ts dots) u h s p = false≢true s
struct_by Floating u h s p = false≢true s

-- ---- conditions

-- `a + b` that isn't of integers, and `a - b`, have a pointer
pub added : (structs : Structs) (t u : CType) → are_integers t u ≡ false → can_be_added structs t u ≡ true → (is_pointer t ≡ true) ⊎ (is_pointer u ≡ true)
added structs t u i h = by (or_cases (are_integers t u || (is_movable structs t && is_integer u)) (is_movable structs u && is_integer t) h)
  where
    front : (are_integers t u ≡ true) ⊎ ((is_movable structs t && is_integer u) ≡ true) → (is_pointer t ≡ true) ⊎ (is_pointer u ≡ true)
    front (inl g) = absurd (false≢true (sym i ∙ g))
    front (inr g) = inl (pointing (has_size structs) t (and_parts (is_movable structs t) (is_integer u) g).0)

    by : (are_integers t u || (is_movable structs t && is_integer u) ≡ true) ⊎ ((is_movable structs u && is_integer t) ≡ true) → (is_pointer t ≡ true) ⊎ (is_pointer u ≡ true)
    by (inl g) = front (or_cases (are_integers t u) (is_movable structs t && is_integer u) g)
    by (inr g) = inr (pointing (has_size structs) u (and_parts (is_movable structs u) (is_integer t) g).0)

pub subtracted : (structs : Structs) (t u : CType) → are_integers t u ≡ false → can_be_subtracted structs t u ≡ true → is_pointer t ≡ true
subtracted structs t u i h = by (or_cases (are_integers t u || (is_movable structs t && is_integer u)) (is_movable structs t && is_movable structs u && point_alike t u) h)
  where
    front : (are_integers t u ≡ true) ⊎ ((is_movable structs t && is_integer u) ≡ true) → is_pointer t ≡ true
    front (inl g) = absurd (false≢true (sym i ∙ g))
    front (inr g) = pointing (has_size structs) t (and_parts (is_movable structs t) (is_integer u) g).0

    by : (are_integers t u || (is_movable structs t && is_integer u) ≡ true) ⊎ ((is_movable structs t && is_movable structs u && point_alike t u) ≡ true) → is_pointer t ≡ true
    by (inl g) = front (or_cases (are_integers t u) (is_movable structs t && is_integer u) g)
    by (inr g) = pointing (has_size structs) t (and_parts (is_movable structs t) (is_movable structs u) (and_parts (is_movable structs t && is_movable structs u) (point_alike t u) g).0).0

-- a cast to an integer is one of an integer
pub cast_integer : (t u : CType) (c : Constancy) → can_be_cast t u c ≡ true → is_integer (unqualified t) ≡ true → is_integer u ≡ true
cast_integer t u c h i = by (is_void t) (integer_no_void t whole) (is_integer t) (is_pointer t) (integer_no_pointer t whole) (is_integer u) h
  where
    whole : is_integer t ≡ true
    whole = sym (unqualified_integer t) ∙ i

    by : (v : Bool) → v ≡ false → (a p : Bool) → p ≡ false → (b : Bool) → v || (a && b) || (p && is_pointer u) || (p && b && is_zero c) ≡ true → b ≡ true
    by v h a p k true g = refl
    by true h a p k false g = absurd (false≢true (sym h))
    by false h true true k false g = absurd (false≢true (sym k))
    by false h true false k false g = absurd (false≢true g)
    by false h false true k false g = absurd (false≢true (sym k))
    by false h false false k false g = absurd (false≢true g)

-- a cast of what is no pointer to a pointer is one of 0
pub cast_zero : (t u : CType) (c : Constancy) → can_be_cast t u c ≡ true → is_pointer (unqualified t) ≡ true → is_pointer u ≡ false → is_zero c ≡ true
cast_zero t u c h p q = by (is_void t) (pointer_no_void t whole) (is_integer t) (pointer_no_integer t whole) (is_integer u) (is_pointer u) q h
  where
    whole : is_pointer t ≡ true
    whole = sym (unqualified_pointer t) ∙ p

    last : (a b : Bool) → (a && b && is_zero c) ≡ true → is_zero c ≡ true
    last a b g = (and_parts (a && b) (is_zero c) g).1

    by : (v : Bool) → v ≡ false → (i : Bool) → i ≡ false → (b r : Bool) → r ≡ false → v || (i && b) || (is_pointer t && r) || (is_pointer t && b && is_zero c) ≡ true → is_zero c ≡ true
    by true h i j b r k g = absurd (false≢true (sym h))
    by false h true j b r k g = absurd (false≢true (sym j))
    by false h false j b true k g = absurd (false≢true (sym k))
    by false h false j b false k g = front (is_pointer t) g
      where
        front : (a : Bool) → (a && false) || (a && b && is_zero c) ≡ true → is_zero c ≡ true
        front true f = last true b f
        front false f = absurd (false≢true f)

pub cast_more : (t u : CType) (c d : Constancy) → (is_zero c ≡ true → is_zero d ≡ true) → can_be_cast t u c ≡ true → can_be_cast t u d ≡ true
cast_more t u c d z h = by (is_void t || are_integers t u || (is_pointer t && is_pointer u)) (is_pointer t && is_integer u) (is_zero c) (is_zero d) z h
  where
    by : (a b m n : Bool) → (m ≡ true → n ≡ true) → a || (b && m) ≡ true → a || (b && n) ≡ true
    by true b m n z g = refl
    by false true m n z g = z g
    by false false m n z g = g

any_pointer_more : (t u : CType) (c d : Constancy) → (is_null_constant c ≡ true → is_null_constant d ≡ true) → goes_with_any_pointer t c u ≡ true → goes_with_any_pointer t d u ≡ true
any_pointer_more t u c d n h = by (is_pointer u) (is_pointer_to_void t) (is_null_constant c) (is_null_constant d) n h
  where
    by : (a b m n : Bool) → (m ≡ true → n ≡ true) → a && (m || b) ≡ true → a && (n || b) ≡ true
    by true b true n z g = or_first n b (z refl)
    by true b false n z g = or_second n b g
    by false b m n z g = g

either_more : (a b m n : Bool) → (a ≡ true → m ≡ true) → (b ≡ true → n ≡ true) → a || b ≡ true → m || n ≡ true
either_more true b m n f g h = or_first m n (f refl)
either_more false b m n f g h = or_second m n (g h)

module _ (t u : CType) (c d k m : Constancy) (n : is_null_constant c ≡ true → is_null_constant k ≡ true) (o : is_null_constant d ≡ true → is_null_constant m ≡ true) where
  pub compared_more : can_be_compared t c u d ≡ true → can_be_compared t k u m ≡ true
  compared_more = either_more (can_be_ordered t u || goes_with_any_pointer t c u) (goes_with_any_pointer u d t) (can_be_ordered t u || goes_with_any_pointer t k u) (goes_with_any_pointer u m t)
      (either_more (can_be_ordered t u) (goes_with_any_pointer t c u) (can_be_ordered t u) (goes_with_any_pointer t k u) (λ h. h) (any_pointer_more t u c k n)) (any_pointer_more u t d m o)

  pub chosen_more : can_be_chosen_from t c u d ≡ true → can_be_chosen_from t k u m ≡ true
  chosen_more = either_more front' (goes_with_any_pointer u d t) front (goes_with_any_pointer u m t)
      (either_more (can_be_ordered t u || (is_void t && is_void u) || are_structs_alike t u) (goes_with_any_pointer t c u) (can_be_ordered t u || (is_void t && is_void u) || are_structs_alike t u) (goes_with_any_pointer t k u)
      (λ h. h) (any_pointer_more t u c k n)) (any_pointer_more u t d m o)
    where
      front : Bool
      front = can_be_ordered t u || (is_void t && is_void u) || are_structs_alike t u || goes_with_any_pointer t k u

      front' : Bool
      front' = can_be_ordered t u || (is_void t && is_void u) || are_structs_alike t u || goes_with_any_pointer t c u

-- what is no pointer and chosen beside one is a null pointer constant
pub null_beside : (t u : CType) (c d : Constancy) → is_pointer t ≡ false → is_pointer u ≡ true → can_be_chosen_from t c u d ≡ true → is_null_constant c ≡ true
null_beside t u c d p q h = last (or_cases front (goes_with_any_pointer u d t) h)
  where
    front : Bool
    front = can_be_ordered t u || (is_void t && is_void u) || are_structs_alike t u || goes_with_any_pointer t c u

    no_pointer : (test : CType → Bool) → points_to test t ≡ true → ⊥
    no_pointer test g = false≢true (sym p ∙ pointing test t g)

    ordered : (are_integers t u ≡ true) ⊎ (point_alike t u ≡ true) → ⊥
    ordered (inl g) = false≢true (sym (pointer_no_integer u q) ∙ (and_parts (is_integer t) (is_integer u) g).1)
    ordered (inr g) = no_pointer (λ a. points_to (alike a) u) g

    structs : are_structs_alike t u ≡ true → ⊥
    structs g = struct_by (unqualified t) (unqualified u) (and_parts (is_struct t) (alike t u) g).1 (unqualified_struct t ∙ (and_parts (is_struct t) (alike t u) g).0) (unqualified_pointer u ∙ q)

    voids : (is_void t && is_void u) ≡ true → ⊥
    voids g = false≢true (sym (pointer_no_void u q) ∙ (and_parts (is_void t) (is_void u) g).1)

    null : (is_null_constant c ≡ true) ⊎ (is_pointer_to_void t ≡ true) → is_null_constant c ≡ true
    null (inl g) = g
    null (inr g) = absurd (no_pointer is_void g)

    one : (can_be_ordered t u ≡ true) ⊎ ((is_void t && is_void u) ≡ true) → is_null_constant c ≡ true
    one (inl g) = absurd (ordered (or_cases (are_integers t u) (point_alike t u) g))
    one (inr g) = absurd (voids g)

    two : (can_be_ordered t u || (is_void t && is_void u) ≡ true) ⊎ (are_structs_alike t u ≡ true) → is_null_constant c ≡ true
    two (inl g) = one (or_cases (can_be_ordered t u) (is_void t && is_void u) g)
    two (inr g) = absurd (structs g)

    three : (can_be_ordered t u || (is_void t && is_void u) || are_structs_alike t u ≡ true) ⊎ (goes_with_any_pointer t c u ≡ true) → is_null_constant c ≡ true
    three (inl g) = two (or_cases (can_be_ordered t u || (is_void t && is_void u)) (are_structs_alike t u) g)
    three (inr g) = null (or_cases (is_null_constant c) (is_pointer_to_void t) (and_parts (is_pointer u) (is_null_constant c || is_pointer_to_void t) g).1)

    last : (front ≡ true) ⊎ (goes_with_any_pointer u d t ≡ true) → is_null_constant c ≡ true
    last (inl g) = three (or_cases (can_be_ordered t u || (is_void t && is_void u) || are_structs_alike t u) (goes_with_any_pointer t c u) g)
    last (inr g) = absurd (false≢true (sym p ∙ (and_parts (is_pointer t) (is_null_constant d || is_pointer_to_void u) g).0))

pointing_second : (test : CType → CType → Bool) (t u : CType) → points_to (λ a. points_to (test a) u) t ≡ true → is_pointer u ≡ true
pointing_second test (Pointer t) u h = pointing (test t) u h
pointing_second test (Qualified q t) u h = pointing_second test t u h
pointing_second test Void u h = absurd (false≢true h)
pointing_second test (Num s) u h = absurd (false≢true h)
pointing_second test (Array t n) u h = absurd (false≢true h)
pointing_second test (Struct k) u h = absurd (false≢true h)
pointing_second test (Function t ts dots) u h = absurd (false≢true h)
pointing_second test Floating u h = absurd (false≢true h)

pointer_no_struct : (t : CType) → is_pointer t ≡ true → is_struct t ≡ false
pointer_no_struct (Pointer t) h = refl
pointer_no_struct (Qualified q t) h = pointer_no_struct t h
pointer_no_struct Void h = refl
pointer_no_struct (Num s) h = refl
pointer_no_struct (Array t n) h = refl
pointer_no_struct (Struct k) h = absurd (false≢true h)
pointer_no_struct (Function t ts dots) h = refl
pointer_no_struct Floating h = refl

pub null_behind : (t u : CType) (c d : Constancy) → is_pointer t ≡ true → is_pointer u ≡ false → can_be_chosen_from t c u d ≡ true → is_null_constant d ≡ true
null_behind t u c d p q h = last (or_cases front (goes_with_any_pointer u d t) h)
  where
    front : Bool
    front = can_be_ordered t u || (is_void t && is_void u) || are_structs_alike t u || goes_with_any_pointer t c u

    ordered : (are_integers t u ≡ true) ⊎ (point_alike t u ≡ true) → ⊥
    ordered (inl g) = false≢true (sym (pointer_no_integer t p) ∙ (and_parts (is_integer t) (is_integer u) g).0)
    ordered (inr g) = false≢true (sym q ∙ pointing_second alike t u g)

    null : (is_null_constant d ≡ true) ⊎ (is_pointer_to_void u ≡ true) → is_null_constant d ≡ true
    null (inl g) = g
    null (inr g) = absurd (false≢true (sym q ∙ pointing is_void u g))

    one : (can_be_ordered t u ≡ true) ⊎ ((is_void t && is_void u) ≡ true) → ⊥
    one (inl g) = ordered (or_cases (are_integers t u) (point_alike t u) g)
    one (inr g) = false≢true (sym (pointer_no_void t p) ∙ (and_parts (is_void t) (is_void u) g).0)

    two : (can_be_ordered t u || (is_void t && is_void u) ≡ true) ⊎ (are_structs_alike t u ≡ true) → ⊥
    two (inl g) = one (or_cases (can_be_ordered t u) (is_void t && is_void u) g)
    two (inr g) = false≢true (sym (pointer_no_struct t p) ∙ (and_parts (is_struct t) (alike t u) g).0)

    three : (can_be_ordered t u || (is_void t && is_void u) || are_structs_alike t u ≡ true) ⊎ (goes_with_any_pointer t c u ≡ true) → ⊥
    three (inl g) = two (or_cases (can_be_ordered t u || (is_void t && is_void u)) (are_structs_alike t u) g)
    three (inr g) = false≢true (sym q ∙ (and_parts (is_pointer u) (is_null_constant c || is_pointer_to_void t) g).0)

    last : (front ≡ true) ⊎ (goes_with_any_pointer u d t ≡ true) → is_null_constant d ≡ true
    last (inl g) = absurd (three (or_cases (can_be_ordered t u || (is_void t && is_void u) || are_structs_alike t u) (goes_with_any_pointer t c u) g))
    last (inr g) = null (or_cases (is_null_constant d) (is_pointer_to_void u) (and_parts (is_pointer t) (is_null_constant d || is_pointer_to_void u) g).1)
