-- When types are the same, qualifiers aside.
use Rattle.std.proofs.Common.{◌≡◌, ℕ, zero, suc, ◌+◌, ◌-◌, ◌<◌, ◌≤◌, ◌==◌, Bool, true, false, Option, Some, None, refl, sym, ap, ◌∙◌, arith}
use Rattle.std.specs.Prelude.{◌&&◌}
use Rattle.lt_model.specs.declared.scalar.Scalar.{Scalar}
use Rattle.lt_tree.specs.Typing.Types.{CType, Void, Num, Pointer, Array, Struct, Function, Floating, Qualified, bare, same, scalar_of, target_of, struct_of, is_void, is_floating}
use Rattle.lt_entry.specs.Naming.{is_pointed}
use Rattle.lt_table.proofs.TableSame.{same_exact, same_self}
use Rattle.lt_input_names.specs.Blocks.{pointers}
use Rattle.lt_input_names.specs.Kinds.{bare_array_of}
use Rattle.lt_input_names.specs.Parts.{has_scalar, has_number}

both_ways : (a b : Bool) → (a ≡ true → b ≡ true) → (b ≡ true → a ≡ true) → a ≡ b
both_ways true b f g = sym (f refl)
both_ways false true f g = g refl
both_ways false false f g = refl

turned : (x y : CType) → same x y ≡ true → same y x ≡ true
turned x y h = ap (λ z. same z x) (sym (same_exact x y h)) ∙ same_self x

-- either may stand first
pub swapped : (t u : CType) → is_pointed t u ≡ is_pointed u t
swapped t u = both_ways (same (bare t) (bare u)) (same (bare u) (bare t)) (turned (bare t) (bare u)) (turned (bare u) (bare t))

-- ---- bases

pub scalar_law : (t : CType) (s : Scalar) → is_pointed t (Num s) ≡ has_scalar s (scalar_of t)
scalar_law (Num r) s = refl
scalar_law (Qualified q t) s = scalar_law t s
scalar_law Void s = refl
scalar_law (Pointer t) s = refl
scalar_law (Array t n) s = refl
scalar_law (Struct k) s = refl
scalar_law (Function t ts dots) s = refl
scalar_law Floating s = refl

pub struct_law : (t : CType) (k : ℕ) → is_pointed t (Struct k) ≡ has_number k (struct_of t)
struct_law (Num r) k = refl
struct_law (Qualified q t) k = struct_law t k
struct_law Void k = refl
struct_law (Pointer t) k = refl
struct_law (Array t n) k = refl
struct_law (Struct j) k = refl
struct_law (Function t ts dots) k = refl
struct_law Floating k = refl

pub void_law : (t : CType) → is_pointed t Void ≡ is_void t
void_law (Num r) = refl
void_law (Qualified q t) = void_law t
void_law Void = refl
void_law (Pointer t) = refl
void_law (Array t n) = refl
void_law (Struct j) = refl
void_law (Function t ts dots) = refl
void_law Floating = refl

pub floating_law : (t : CType) → is_pointed t Floating ≡ is_floating t
floating_law (Num r) = refl
floating_law (Qualified q t) = floating_law t
floating_law Void = refl
floating_law (Pointer t) = refl
floating_law (Array t n) = refl
floating_law (Struct j) = refl
floating_law (Function t ts dots) = refl
floating_law Floating = refl

-- ---- arrays

abbrev pub is_array_of : Option (CType × ℕ) → CType → ℕ → Bool
is_array_of None e n = false
is_array_of (Some array) e n = (array.1 == n) && is_pointed array.0 e

pub array_law : (t e : CType) (n : ℕ) → is_pointed t (Array e n) ≡ is_array_of (bare_array_of t) e n
array_law (Num r) e n = refl
array_law (Qualified q t) e n = array_law t e n
array_law Void e n = refl
array_law (Pointer t) e n = refl
array_law (Array t k) e n = refl
array_law (Struct j) e n = refl
array_law (Function t ts dots) e n = refl
array_law Floating e n = refl

-- a pointer is no array
pub no_array : (n : ℕ) (t : CType) → 0 < n → None ≡ bare_array_of (pointers n t)
no_array zero t more = absurd (omega (arith, more))
no_array (suc n) t more = refl

-- ---- pointers

abbrev pub points_to : Option CType → CType → Bool
points_to None u = false
points_to (Some t) u = is_pointed t u

pub pointer_law : (t u : CType) → is_pointed t (Pointer u) ≡ points_to (target_of t) u
pointer_law (Num r) u = refl
pointer_law (Qualified q t) u = pointer_law t u
pointer_law Void u = refl
pointer_law (Pointer t) u = refl
pointer_law (Array t n) u = refl
pointer_law (Struct j) u = refl
pointer_law (Function t ts dots) u = refl
pointer_law Floating u = refl

-- as many pointers fall away from both
pub stripped : (m n : ℕ) (t u : CType) → m ≤ n → is_pointed (pointers m t) (pointers n u) ≡ is_pointed t (pointers (n - m) u)
stripped zero n t u h = let e : n ≡ n - 0 = omega arith in ap (λ k. is_pointed t (pointers k u)) e
stripped (suc m) zero t u h = absurd (omega (arith, h))
stripped (suc m) (suc n) t u h = stripped m n t u (omega (arith, h)) ∙ (let e : n - m ≡ suc n - suc m = omega arith in ap (λ k. is_pointed t (pointers k u)) e)

-- one pointer of several
pub one_pointer : (t u : CType) (n i : ℕ) → i < n → is_pointed t (pointers (n - i) u) ≡ points_to (target_of t) (pointers (n - (i + 1)) u)
one_pointer t u n i h = (let e : n - i ≡ suc (n - (i + 1)) = omega (arith, h) in ap (λ k. is_pointed t (pointers k u)) e) ∙ pointer_law t (pointers (n - (i + 1)) u)
