-- What the operators on bits give is among the rows' numbers, and the rows grow with the operands.
use Rattle.std.proofs.Common.{arith, ◌≡◌, refl, sym, ap₂, subst, ℕ, ℤ, pos, negsuc, ◌≤ℤ◌, ◌-◌, ◌^◌, ◌<◌, ◌≤◌, Bool, true, false, ◌&&◌}
use Rattle.std.specs.Prelude.{unsigned_abs, ◌==◌, if◌then◌else◌, int_le, bit_and}
use Rattle.std.specs.Int.{int_min, int_max}
use Rattle.std.proofs.lemmas.Int.{ints, clamps}
use Rattle.std.proofs.lemmas.Bool.{eqb-true, eq-eqb}
use Rattle.std.proofs.lemmas.Nat.{and_le_l, and_le_r}
use Rattle.std.proofs.Math.Nat.{dvd-zero, one-dvd, mod-eq_of_lt, one-le-pow}
use Rattle.lt_model.specs.declared.scalar.DataModel.{DataModel}
use Rattle.lt_model.specs.declared.scalar.Scalar.{Scalar}
use Rattle.lt_model.specs.Scalar.{least_of, greatest_of, IsValue}
use Rattle.lt_model.specs.Operators.{bits_of, bitwise}
use Rattle.lt_model.proofs.Ranges.{Bounds, bounds_of, IsValue-wrapped}
use Rattle.lt_value.specs.Num.{Holds, IsBelow}
use Rattle.lt_value.specs.Entry.{Entry, entry_of, IsIn, written, range_of}
use Rattle.lt_value.specs.Table.{exact_or_row, and_row, or_row, mask_of}
use Rattle.lt_value.specs.declared.num.Num.{Num}
use Rattle.lt_value.proofs.Orders.{le_true, le_false, le_test}
use Rattle.lt_value.proofs.Members.{lo_holds, hi_holds}
use Rattle.lt_model.proofs.Whole.{abs_up}
use Rattle.lt_value.proofs.Entries.{one_member, one_congruent, IsCongruent-same}
use Rattle.lt_value.proofs.Masks.{greatest_power, mask_is, mask_least, mask_grows}
use Rattle.lt_value.proofs.Products.{still_single}
use Rattle.lt_value.proofs.Settled.{IsWider, wrapped_same}

both_true : (a b : Bool) → (a && b) ≡ true → (a ≡ true) × (b ≡ true)
both_true true true e = (refl, refl)
both_true true false e = cc
both_true false b e = cc

and_true : (a b : Bool) → a ≡ true → b ≡ true → (a && b) ≡ true
and_true a b p q = cc

-- ---- the bits of a value that isn't negative
bits_small : (m : DataModel) (s : Scalar) (x : ℤ) → pos 0 ≤ℤ x → x ≤ℤ greatest_of m s → bits_of m s x ≡ unsigned_abs x
bits_small m s (pos n) p q =
    let b : Bounds m s = bounds_of m s in
    mod-eq_of_lt (omega (arith, ints, b.span, b.not_above))
bits_small m s (negsuc n) p q = absurd (omega (arith, ints))

bits_value : (m : DataModel) (s : Scalar) (n : ℕ) → pos n ≤ℤ greatest_of m s → IsValue m s (pos n)
bits_value m s n h = let b : Bounds m s = bounds_of m s in record { above = omega (arith, ints, b.not_above); below = h }

-- v is one of the numbers from 0 to top
abbrev IsUpTo : ℤ → ℤ → Type 0
IsUpTo v top = (pos 0 ≤ℤ v) × (v ≤ℤ top)

plain_result : (f : ℕ → ℕ → ℕ) (m : DataModel) (s : Scalar) (x y : ℤ) (n : ℕ) → f (bits_of m s x) (bits_of m s y) ≤ n → pos n ≤ℤ greatest_of m s → IsUpTo (bitwise f m s x y) (pos n)
plain_result f m s x y n le top =
    let k : ℕ = f (bits_of m s x) (bits_of m s y) in
    let is : bitwise f m s x y ≡ pos k = wrapped_same m s (pos k) (bits_value m s k (omega (arith, ints))) in
    (omega (arith, ints), omega (arith, ints))

and_left : (m : DataModel) (s : Scalar) (x y : ℤ) → pos 0 ≤ℤ x → IsValue m s x → IsUpTo (bitwise bit_and m s x y) x
and_left m s x y p v =
    let is = bits_small m s x p v.below in
    let le : bit_and (bits_of m s x) (bits_of m s y) ≤ unsigned_abs x = omega (arith, and_le_l (bits_of m s x) (bits_of m s y)) in
    subst (IsUpTo (bitwise bit_and m s x y)) (abs_up x p) (plain_result bit_and m s x y (unsigned_abs x) le (subst (λ z. z ≤ℤ greatest_of m s) (sym (abs_up x p)) v.below))

and_right : (m : DataModel) (s : Scalar) (x y : ℤ) → pos 0 ≤ℤ y → IsValue m s y → IsUpTo (bitwise bit_and m s x y) y
and_right m s x y p v =
    let is = bits_small m s y p v.below in
    let le : bit_and (bits_of m s x) (bits_of m s y) ≤ unsigned_abs y = omega (arith, and_le_r (bits_of m s x) (bits_of m s y)) in
    subst (IsUpTo (bitwise bit_and m s x y)) (abs_up y p) (plain_result bit_and m s x y (unsigned_abs y) le (subst (λ z. z ≤ℤ greatest_of m s) (sym (abs_up y p)) v.below))

-- an operator that needs no more bits than its operands
abbrev pub IsNoLonger : (ℕ → ℕ → ℕ) → Type 0
IsNoLonger f = (k a b : ℕ) → a < 2 ^ k → b < 2 ^ k → f a b < 2 ^ k

within_mask : (f : ℕ → ℕ → ℕ) (m : DataModel) (s : Scalar) (x y : ℤ) (n : ℕ) → IsNoLonger f → pos 0 ≤ℤ x → pos 0 ≤ℤ y → x ≤ℤ pos n → y ≤ℤ pos n → pos n ≤ℤ greatest_of m s → IsUpTo (bitwise f m s x y) (pos (mask_of n))
within_mask f m s x y n short p q u v top =
    let (j, is, le) = greatest_power m s in
    let b : Bounds m s = bounds_of m s in
    let high : n < 2 ^ j = power_above n j (omega (arith, ints)) in
    let wide : n < 2 ^ 64 = omega (arith, ints, b.high) in
    let (k, mask) = mask_is n wide in
    let first : bits_of m s x < 2 ^ k = omega (arith, ints, bits_small m s x p (omega (arith, ints)), abs_up x p, mask.above) in
    let second : bits_of m s y < 2 ^ k = omega (arith, ints, bits_small m s y q (omega (arith, ints)), abs_up y q, mask.above) in
    let most = mask_least n j wide high in
    plain_result f m s x y (mask_of n) (omega (arith, short k (bits_of m s x) (bits_of m s y) first second, mask.is)) (omega (arith, ints))
  where
    power_above : (n j : ℕ) → n ≤ 2 ^ j - 1 → n < 2 ^ j
    power_above n j h = omega (arith, one-le-pow j 2 (omega arith))

-- ---- single numbers
wider_single : (row : Entry) (v : ℤ) → IsIn row v → IsWider (entry_of v v 0 v) row
wider_single row v h = record { low = h.above; high = h.below; step = dvd-zero row.step; rest = h.congruent }

single_holds : (u v : ℤ) → v ≡ u → IsIn (entry_of u u 0 u) v
single_holds u v e = record { above = omega (arith, ints); below = omega (arith, ints); congruent = IsCongruent-same 0 v u e }

pub exact_holds : (f : ℕ → ℕ → ℕ) (m : DataModel) (s : Scalar) (a b : Num) (x y : ℤ) (row : Entry) → Holds a x → Holds b y → IsIn row (bitwise f m s x y) → IsIn (exact_or_row f m s (written a) (written b) row) (bitwise f m s x y)
exact_holds f m s a b x y row p q h = by_test ((a.step == 0) && (b.step == 0)) refl
  where
    one : Entry
    one = entry_of (bitwise f m s a.lo b.lo) (bitwise f m s a.lo b.lo) 0 (bitwise f m s a.lo b.lo)

    by_test : (t : Bool) → ((a.step == 0) && (b.step == 0)) ≡ t → IsIn (if t then one else row) (bitwise f m s x y)
    by_test true e =
        let h = both_true (a.step == 0) (b.step == 0) e in
        single_holds (bitwise f m s a.lo b.lo) (bitwise f m s x y) (ap₂ (bitwise f m s) (one_member a x (eqb-true a.step 0 h.0) p) (one_member b y (eqb-true b.step 0 h.1) q))
    by_test false e = h

pub exact_wider : (f : ℕ → ℕ → ℕ) (m : DataModel) (s : Scalar) (a b c d : Num) (row next : Entry) → IsBelow a c → IsBelow b d → IsIn next (bitwise f m s a.lo b.lo) → IsWider row next → IsWider (exact_or_row f m s (written a) (written b) row) (exact_or_row f m s (written c) (written d) next)
exact_wider f m s a b c d row next g h one wide = by_tests ((c.step == 0) && (d.step == 0)) ((a.step == 0) && (b.step == 0)) refl refl
  where
    small : Entry
    small = entry_of (bitwise f m s a.lo b.lo) (bitwise f m s a.lo b.lo) 0 (bitwise f m s a.lo b.lo)

    large : Entry
    large = entry_of (bitwise f m s c.lo d.lo) (bitwise f m s c.lo d.lo) 0 (bitwise f m s c.lo d.lo)

    singles : ((c.step == 0) && (d.step == 0)) ≡ true → ((a.step ≡ 0) × (a.lo ≡ c.lo)) × ((b.step ≡ 0) × (b.lo ≡ d.lo))
    singles e =
        let k = both_true (c.step == 0) (d.step == 0) e in
        (still_single a c g (eqb-true c.step 0 k.0), still_single b d h (eqb-true d.step 0 k.1))

    by_tests : (t u : Bool) → ((c.step == 0) && (d.step == 0)) ≡ t → ((a.step == 0) && (b.step == 0)) ≡ u → IsWider (if u then small else row) (if t then large else next)
    by_tests true true e i =
        let k = singles e in
        wider_single large (bitwise f m s a.lo b.lo) (single_holds (bitwise f m s c.lo d.lo) (bitwise f m s a.lo b.lo) (ap₂ (bitwise f m s) k.0.1 k.1.1))
    by_tests true false e i =
        let k = singles e in
        let both : ((a.step == 0) && (b.step == 0)) ≡ true = and_true (a.step == 0) (b.step == 0) (eq-eqb a.step 0 k.0.0) (eq-eqb b.step 0 k.1.0) in
        cc
    by_tests false true e i = wider_single next (bitwise f m s a.lo b.lo) one
    by_tests false false e i = wide

-- ---- the rows
by_ones : (lo hi v : ℤ) → lo ≤ℤ v → v ≤ℤ hi → IsIn (entry_of lo hi 1 (pos 0)) v
by_ones lo hi v p q = record { above = p; below = q; congruent = one_congruent (pos 0) v }

wider_ones : (l h lo hi : ℤ) → lo ≤ℤ l → h ≤ℤ hi → IsWider (entry_of l h 1 (pos 0)) (entry_of lo hi 1 (pos 0))
wider_ones l h lo hi p q = record { low = p; high = q; step = one-dvd 1; rest = one_congruent (pos 0) (pos 0) }

-- values of the type alone
pub record AreValues (m : DataModel) (s : Scalar) (a : Num) : Type 0 where
  pub first : IsValue m s a.lo
  pub last : IsValue m s a.hi

pub member_value : (m : DataModel) (s : Scalar) (a : Num) (x : ℤ) → AreValues m s a → Holds a x → IsValue m s x
member_value m s a x v h = record { above = omega (arith, ints, v.first.above, h.above); below = omega (arith, ints, v.last.below, h.below) }

in_range : (m : DataModel) (s : Scalar) (v : ℤ) → IsValue m s v → IsIn (range_of m s) v
in_range m s v h = by_ones (least_of m s) (greatest_of m s) v h.above h.below

and_row_holds : (m : DataModel) (s : Scalar) (a b : Num) (x y : ℤ) → AreValues m s a → AreValues m s b → Holds a x → Holds b y → IsIn (and_row m s (written a) (written b)) (bitwise bit_and m s x y)
and_row_holds m s a b x y va vb p q = by_tests (int_le (pos 0) a.lo) (int_le (pos 0) b.lo) refl refl
  where
    v : ℤ
    v = bitwise bit_and m s x y

    left : int_le (pos 0) a.lo ≡ true → IsUpTo v x
    left t = and_left m s x y (omega (arith, ints, le_true (pos 0) a.lo t, p.above)) (member_value m s a x va p)

    right : int_le (pos 0) b.lo ≡ true → IsUpTo v y
    right t = and_right m s x y (omega (arith, ints, le_true (pos 0) b.lo t, q.above)) (member_value m s b y vb q)

    by_tests : (t u : Bool) → int_le (pos 0) a.lo ≡ t → int_le (pos 0) b.lo ≡ u
        → IsIn (if t then (if u then entry_of (pos 0) (int_min a.hi b.hi) 1 (pos 0) else entry_of (pos 0) a.hi 1 (pos 0)) else (if u then entry_of (pos 0) b.hi 1 (pos 0) else range_of m s)) v
    by_tests true true e f = by_ones (pos 0) (int_min a.hi b.hi) v (left e).0 (omega (arith, ints, clamps, (left e).1, (right f).1, p.below, q.below))
    by_tests true false e f = by_ones (pos 0) a.hi v (left e).0 (omega (arith, ints, (left e).1, p.below))
    by_tests false true e f = by_ones (pos 0) b.hi v (right f).0 (omega (arith, ints, (right f).1, q.below))
    by_tests false false e f = in_range m s v (IsValue-wrapped m s (pos (bit_and (bits_of m s x) (bits_of m s y))))

and_row_wider : (m : DataModel) (s : Scalar) (a b c d : Num) → AreValues m s c → AreValues m s d → IsBelow a c → IsBelow b d → IsWider (and_row m s (written a) (written b)) (and_row m s (written c) (written d))
and_row_wider m s a b c d vc vd f g = by_tests (int_le (pos 0) c.lo) (int_le (pos 0) d.lo) (int_le (pos 0) a.lo) (int_le (pos 0) b.lo) refl refl refl refl
  where
    la : c.lo ≤ℤ a.lo
    la = (f a.lo (lo_holds a)).above

    ha : a.hi ≤ℤ c.hi
    ha = (f a.hi (hi_holds a)).below

    lb : d.lo ≤ℤ b.lo
    lb = (g b.lo (lo_holds b)).above

    hb : b.hi ≤ℤ d.hi
    hb = (g b.hi (hi_holds b)).below

    low : least_of m s ≤ℤ pos 0
    low = (bounds_of m s).not_above

    by_tests : (t u v w : Bool) → int_le (pos 0) c.lo ≡ t → int_le (pos 0) d.lo ≡ u → int_le (pos 0) a.lo ≡ v → int_le (pos 0) b.lo ≡ w
        → IsWider
        (if v then (if w then entry_of (pos 0) (int_min a.hi b.hi) 1 (pos 0) else entry_of (pos 0) a.hi 1 (pos 0)) else (if w then entry_of (pos 0) b.hi 1 (pos 0) else range_of m s))
        (if t then (if u then entry_of (pos 0) (int_min c.hi d.hi) 1 (pos 0) else entry_of (pos 0) c.hi 1 (pos 0)) else (if u then entry_of (pos 0) d.hi 1 (pos 0) else range_of m s))
    by_tests true u false w p q r o = absurd (omega (arith, ints, le_true (pos 0) c.lo p, le_false (pos 0) a.lo r, la))
    by_tests t true v false p q r o = absurd (omega (arith, ints, le_true (pos 0) d.lo q, le_false (pos 0) b.lo o, lb))
    by_tests true true true true p q r o = wider_ones (pos 0) (int_min a.hi b.hi) (pos 0) (int_min c.hi d.hi) (omega (arith, ints)) (omega (arith, ints, clamps, ha, hb))
    by_tests true false true true p q r o = wider_ones (pos 0) (int_min a.hi b.hi) (pos 0) c.hi (omega (arith, ints)) (omega (arith, ints, clamps, ha))
    by_tests true false true false p q r o = wider_ones (pos 0) a.hi (pos 0) c.hi (omega (arith, ints)) ha
    by_tests false true true true p q r o = wider_ones (pos 0) (int_min a.hi b.hi) (pos 0) d.hi (omega (arith, ints)) (omega (arith, ints, clamps, hb))
    by_tests false true false true p q r o = wider_ones (pos 0) b.hi (pos 0) d.hi (omega (arith, ints)) hb
    by_tests false false true true p q r o = wider_ones (pos 0) (int_min a.hi b.hi) (least_of m s) (greatest_of m s) low (omega (arith, ints, clamps, ha, vc.last.below))
    by_tests false false true false p q r o = wider_ones (pos 0) a.hi (least_of m s) (greatest_of m s) low (omega (arith, ints, ha, vc.last.below))
    by_tests false false false true p q r o = wider_ones (pos 0) b.hi (least_of m s) (greatest_of m s) low (omega (arith, ints, hb, vd.last.below))
    by_tests false false false false p q r o = wider_ones (least_of m s) (greatest_of m s) (least_of m s) (greatest_of m s) (omega (arith, ints)) (omega (arith, ints))

or_row_holds : (f : ℕ → ℕ → ℕ) (m : DataModel) (s : Scalar) (a b : Num) (x y : ℤ) → IsNoLonger f → AreValues m s a → AreValues m s b → Holds a x → Holds b y → IsIn (or_row m s (written a) (written b)) (bitwise f m s x y)
or_row_holds f m s a b x y short va vb p q = by_test (int_le (pos 0) a.lo && int_le (pos 0) b.lo) refl
  where
    v : ℤ
    v = bitwise f m s x y

    n : ℕ
    n = unsigned_abs (int_max a.hi b.hi)

    by_test : (t : Bool) → (int_le (pos 0) a.lo && int_le (pos 0) b.lo) ≡ t → IsIn (if t then entry_of (pos 0) (pos (mask_of n)) 1 (pos 0) else range_of m s) v
    by_test true e =
        let h = both_true (int_le (pos 0) a.lo) (int_le (pos 0) b.lo) e in
        let u : pos 0 ≤ℤ x = omega (arith, ints, le_true (pos 0) a.lo h.0, p.above) in
        let w : pos 0 ≤ℤ y = omega (arith, ints, le_true (pos 0) b.lo h.1, q.above) in
        let is : pos n ≡ int_max a.hi b.hi = abs_up (int_max a.hi b.hi) (omega (arith, ints, clamps, p.below)) in
        let r : IsUpTo v (pos (mask_of n)) = within_mask f m s x y n short u w (omega (arith, ints, clamps, p.below)) (omega (arith, ints, clamps, q.below)) (omega (arith, ints, clamps, va.last.below, vb.last.below)) in
        by_ones (pos 0) (pos (mask_of n)) v r.0 r.1
    by_test false e = in_range m s v (IsValue-wrapped m s (pos (f (bits_of m s x) (bits_of m s y))))

pub mask_value : (m : DataModel) (s : Scalar) (n : ℕ) → pos n ≤ℤ greatest_of m s → (pos (mask_of n) ≤ℤ greatest_of m s) × (n < 2 ^ 64)
mask_value m s n top =
    let (j, is, le) = greatest_power m s in
    let b : Bounds m s = bounds_of m s in
    let wide : n < 2 ^ 64 = omega (arith, ints, b.high) in
    let most = mask_least n j wide (omega (arith, ints, one-le-pow j 2 (omega arith))) in
    (omega (arith, ints), wide)

or_row_wider : (m : DataModel) (s : Scalar) (a b c d : Num) → AreValues m s c → AreValues m s d → IsBelow a c → IsBelow b d → IsWider (or_row m s (written a) (written b)) (or_row m s (written c) (written d))
or_row_wider m s a b c d vc vd f g = by_tests (int_le (pos 0) c.lo && int_le (pos 0) d.lo) (int_le (pos 0) a.lo && int_le (pos 0) b.lo) refl refl
  where
    n : ℕ
    n = unsigned_abs (int_max a.hi b.hi)

    o : ℕ
    o = unsigned_abs (int_max c.hi d.hi)

    size : (int_le (pos 0) a.lo && int_le (pos 0) b.lo) ≡ true → (pos n ≡ int_max a.hi b.hi) × (pos n ≤ℤ greatest_of m s)
    size e =
        let h = both_true (int_le (pos 0) a.lo) (int_le (pos 0) b.lo) e in
        let is : pos n ≡ int_max a.hi b.hi = abs_up (int_max a.hi b.hi) (omega (arith, ints, clamps, le_true (pos 0) a.lo h.0, a.canonical.ordered)) in
        (is, omega (arith, ints, clamps, (f a.hi (hi_holds a)).below, (g b.hi (hi_holds b)).below, vc.last.below, vd.last.below))

    by_tests : (t u : Bool) → (int_le (pos 0) c.lo && int_le (pos 0) d.lo) ≡ t → (int_le (pos 0) a.lo && int_le (pos 0) b.lo) ≡ u
        → IsWider (if u then entry_of (pos 0) (pos (mask_of n)) 1 (pos 0) else range_of m s) (if t then entry_of (pos 0) (pos (mask_of o)) 1 (pos 0) else range_of m s)
    by_tests true true e i =
        let h = both_true (int_le (pos 0) c.lo) (int_le (pos 0) d.lo) e in
        let is : pos o ≡ int_max c.hi d.hi = abs_up (int_max c.hi d.hi) (omega (arith, ints, clamps, le_true (pos 0) c.lo h.0, c.canonical.ordered)) in
        let wide = mask_value m s o (omega (arith, ints, clamps, vc.last.below, vd.last.below)) in
        let grows : mask_of n ≤ mask_of o = mask_grows n o (omega (arith, ints, clamps, (size i).0, (f a.hi (hi_holds a)).below, (g b.hi (hi_holds b)).below)) wide.1 in
        wider_ones (pos 0) (pos (mask_of n)) (pos 0) (pos (mask_of o)) (omega (arith, ints)) (omega (arith, ints))
    by_tests true false e i =
        let h = both_true (int_le (pos 0) c.lo) (int_le (pos 0) d.lo) e in
        let both : (int_le (pos 0) a.lo && int_le (pos 0) b.lo) ≡ true = and_true (int_le (pos 0) a.lo) (int_le (pos 0) b.lo) (le_test (pos 0) a.lo (omega (arith, ints, le_true (pos 0) c.lo h.0, (f a.lo (lo_holds a)).above))) (le_test (pos 0) b.lo (omega (arith, ints, le_true (pos 0) d.lo h.1, (g b.lo (lo_holds b)).above))) in
        cc
    by_tests false true e i = wider_ones (pos 0) (pos (mask_of n)) (least_of m s) (greatest_of m s) (bounds_of m s).not_above (mask_value m s n (size i).1).0
    by_tests false false e i = wider_ones (least_of m s) (greatest_of m s) (least_of m s) (greatest_of m s) (omega (arith, ints)) (omega (arith, ints))

-- ---- the rows with the exact numbers
pub and_holds : (m : DataModel) (s : Scalar) (a b : Num) (x y : ℤ) → AreValues m s a → AreValues m s b → Holds a x → Holds b y → IsIn (exact_or_row bit_and m s (written a) (written b) (and_row m s (written a) (written b))) (bitwise bit_and m s x y)
and_holds m s a b x y va vb p q = exact_holds bit_and m s a b x y (and_row m s (written a) (written b)) p q (and_row_holds m s a b x y va vb p q)

pub and_wider : (m : DataModel) (s : Scalar) (a b c d : Num) → AreValues m s c → AreValues m s d → IsBelow a c → IsBelow b d → IsWider (exact_or_row bit_and m s (written a) (written b) (and_row m s (written a) (written b))) (exact_or_row bit_and m s (written c) (written d) (and_row m s (written c) (written d)))
and_wider m s a b c d vc vd f g =
    exact_wider bit_and m s a b c d (and_row m s (written a) (written b)) (and_row m s (written c) (written d)) f g
    (and_row_holds m s c d a.lo b.lo vc vd (f a.lo (lo_holds a)) (g b.lo (lo_holds b)))
    (and_row_wider m s a b c d vc vd f g)

pub or_holds : (f : ℕ → ℕ → ℕ) (m : DataModel) (s : Scalar) (a b : Num) (x y : ℤ) → IsNoLonger f → AreValues m s a → AreValues m s b → Holds a x → Holds b y → IsIn (exact_or_row f m s (written a) (written b) (or_row m s (written a) (written b))) (bitwise f m s x y)
or_holds f m s a b x y short va vb p q = exact_holds f m s a b x y (or_row m s (written a) (written b)) p q (or_row_holds f m s a b x y short va vb p q)

pub or_wider : (o : ℕ → ℕ → ℕ) (m : DataModel) (s : Scalar) (a b c d : Num) → IsNoLonger o → AreValues m s c → AreValues m s d → IsBelow a c → IsBelow b d → IsWider (exact_or_row o m s (written a) (written b) (or_row m s (written a) (written b))) (exact_or_row o m s (written c) (written d) (or_row m s (written c) (written d)))
or_wider o m s a b c d short vc vd f g =
    exact_wider o m s a b c d (or_row m s (written a) (written b)) (or_row m s (written c) (written d)) f g
    (or_row_holds o m s c d a.lo b.lo short vc vd (f a.lo (lo_holds a)) (g b.lo (lo_holds b)))
    (or_row_wider m s a b c d vc vd f g)
