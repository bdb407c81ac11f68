-- What is left of an entry in a type, as the code computes it.
use Rattle.std.proofs.Common.{arith, ◌≡◌, refl, sym, ◌∙◌, ap, subst, ℕ, ℤ, pos, negsuc, ◌+ℤ◌, ◌-ℤ◌, ◌≤ℤ◌, ◌<ℤ◌, ◌-◌, ◌%◌, ◌<◌, ◌≤◌, ◌^◌, ◌↔◌, Bool, true, false, ◌||◌, ◌*◌, to_z, of_z}
use Rattle.std.specs.Prelude.{unsigned_abs, neg_ℤ}
use Rattle.std.specs.Int.{int_rem_euclid, int_min, int_max, IsGcd, IsNonNegative, w128}
use mir.Val.{SFits}
use Rattle.std.proofs.lemmas.Int.{ints, clamps, to_z_pos, to_z-of_z}
use Rattle.std.proofs.Math.Nat.{dvd_trans, le_of_dvd, mod-eq_of_lt, mod-lt}
use Rattle.lt_model.specs.declared.scalar.DataModel.{DataModel}
use Rattle.lt_model.specs.declared.scalar.Scalar.{Scalar}
use Rattle.lt_model.specs.Scalar.{width_of, is_signed, least_of, greatest_of}
use Rattle.lt_model.proofs.Ranges.{Bounds, bounds_of}
use Rattle.lt_value.specs.Num.{IsExactly}
use Rattle.lt_value.specs.Entry.{Entry, entry_of, IsIn, IsCongruent, IsSkip, IsKept, IsReduced, IsSettled, is_within, gcd_of}
use Rattle.lt_value.specs.declared.num.Num.{Num}
use Rattle.lt_value.proofs.Settled.{within_from_test, test_from_within}
use Rattle.lt_model.proofs.Whole.{abs_up}
use Rattle.lt_value.proofs.Entries.{IsGcd-gcd_of, congruent_from_rests, IsCongruent-trans, IsCongruent-sym}
use Rattle.lt_value.proofs.Settling.{exactly_as, settled_kept, settled_reduced, skip_is}

-- ---- as the code computes them
difference_code : (lo rest : ℤ) → unsigned_abs lo ≤ 2 ^ 64 → unsigned_abs rest ≤ 2 ^ 126 → to_z w128 (of_z w128 (to_z w128 (of_z w128 rest) -ℤ to_z w128 (of_z w128 lo))) ≡ rest -ℤ lo
difference_code lo rest p q =
    let a = of_size lo (2 ^ 64) p in
    let b = of_size rest (2 ^ 126) q in
    near lo rest a.0 a.1 b.0 b.1
  where
    of_size : (r : ℤ) (m : ℕ) → unsigned_abs r ≤ m → (neg_ℤ (pos m) ≤ℤ r) × (r ≤ℤ pos m)
    of_size (pos n) m h = (omega (arith, ints), omega (arith, ints))
    of_size (negsuc n) m h = (omega (arith, ints), omega (arith, ints))

    near : (lo rest : ℤ) → neg_ℤ (pos (2 ^ 64)) ≤ℤ lo → lo ≤ℤ pos (2 ^ 64) → neg_ℤ (pos (2 ^ 126)) ≤ℤ rest → rest ≤ℤ pos (2 ^ 126) → to_z w128 (of_z w128 (to_z w128 (of_z w128 rest) -ℤ to_z w128 (of_z w128 lo))) ≡ rest -ℤ lo
    near lo rest p q r s = omega (arith, ints)

pub skip_code : (lo rest r : ℤ) (step : ℕ) → 0 < step → step < 2 ^ 127 → unsigned_abs lo ≤ 2 ^ 64 → unsigned_abs rest ≤ 2 ^ 126 → r ≡ int_rem_euclid (to_z w128 (of_z w128 (to_z w128 (of_z w128 rest) -ℤ to_z w128 (of_z w128 lo)))) (to_z w128 step) → IsNonNegative r → unsigned_abs r < unsigned_abs (to_z w128 step) → IsSkip lo step rest (unsigned_abs (to_z w128 (of_z w128 r)))
skip_code lo rest r step some small p q e up' less =
    let s : to_z w128 step ≡ pos step = to_z_pos w128 step small in
    let is : r ≡ int_rem_euclid (to_z w128 (of_z w128 (to_z w128 (of_z w128 rest) -ℤ to_z w128 (of_z w128 lo)))) (pos step) = e ∙ ap (int_rem_euclid _) s in
    let below : unsigned_abs r < step = subst (λ (k : ℤ). unsigned_abs r < unsigned_abs k) s less in
    let up'' : pos 0 ≤ℤ r = non_negative r up' in
    let same : to_z w128 (of_z w128 r) ≡ r = fitting r step up'' below small in
    subst (λ (k : ℤ). IsSkip lo step rest (unsigned_abs k)) (sym same) (skip_is lo rest _ r step some (difference_code lo rest p q) is up'' below)
  where
    non_negative : (r : ℤ) → IsNonNegative r → pos 0 ≤ℤ r
    non_negative (pos n) h = omega (arith, ints)
    non_negative (negsuc n) h = absurd h

    fitting : (r : ℤ) (step : ℕ) → pos 0 ≤ℤ r → unsigned_abs r < step → step < 2 ^ 127 → to_z w128 (of_z w128 r) ≡ r
    fitting (pos n) step p q s = omega (arith, ints)
    fitting (negsuc n) step p q s = absurd (omega (arith, ints))

pub first_code : (lo hi : ℤ) (skip room : ℕ) → negsuc (2 ^ 63 - 1) ≤ℤ lo → hi ≤ℤ pos (2 ^ 64 - 1) → SFits w128 lo → SFits w128 hi → pos room ≡ to_z w128 (of_z w128 hi) -ℤ to_z w128 (of_z w128 lo) → skip ≤ room → to_z w128 (of_z w128 (to_z w128 (of_z w128 lo) +ℤ to_z w128 skip)) ≡ lo +ℤ pos skip
first_code lo hi skip room p q f g e le =
    let is : pos room ≡ hi -ℤ lo = e ∙ simp to_z-of_z in
    omega (arith, ints)

pub low_code : (m : DataModel) (s : Scalar) (lo l low : ℤ) → SFits w128 lo → l ≡ least_of m s → low ≡ int_max (to_z w128 (of_z w128 lo)) (to_z w128 (of_z w128 l)) → (low ≡ int_max lo (least_of m s)) × SFits w128 low
low_code m s lo l low f e is =
    let b : Bounds m s = bounds_of m s in
    let g : SFits w128 l = omega (arith, ints, b.low, b.not_above) in
    let k : low ≡ int_max lo l = is ∙ simp to_z-of_z in
    (k ∙ ap (int_max lo) e, omega (arith, ints, clamps))

pub high_code : (m : DataModel) (s : Scalar) (hi g high : ℤ) → SFits w128 hi → g ≡ greatest_of m s → high ≡ int_min (to_z w128 (of_z w128 hi)) (to_z w128 (of_z w128 g)) → (high ≡ int_min hi (greatest_of m s)) × SFits w128 high
high_code m s hi g high f e is =
    let b : Bounds m s = bounds_of m s in
    let h : SFits w128 g = omega (arith, ints, b.one, b.high) in
    let k : high ≡ int_min hi g = is ∙ simp to_z-of_z in
    (k ∙ ap (int_min hi) e, omega (arith, ints, clamps))

pub power_of_width : (m : DataModel) (s : Scalar) (w : ℕ) → w ≡ width_of m s → (1 * 2 ^ w) % 2 ^ 128 ≡ 2 ^ width_of m s
power_of_width m s w e =
    let b : Bounds m s = bounds_of m s in
    ap (λ k. (1 * 2 ^ k) % 2 ^ 128) e ∙ one (2 ^ width_of m s) (omega (arith, b.power))
  where
    one : (n : ℕ) → n < 2 ^ 128 → (1 * n) % 2 ^ 128 ≡ n
    one n h = ap (λ k. k % 2 ^ 128) (whole n) ∙ mod-eq_of_lt h
      where
        whole : (n : ℕ) → 1 * n ≡ n
        whole n = omega arith

pub power_code : (m : DataModel) (s : Scalar) (step w g : ℕ) → w ≡ width_of m s → IsGcd step ((1 * 2 ^ w) % 2 ^ 128) g → IsGcd step (2 ^ width_of m s) g
power_code m s step w g e d = subst (λ (k : ℕ). IsGcd step k g) (power_of_width m s w e) d

pub gcd_small : (m : DataModel) (s : Scalar) (step g : ℕ) → IsGcd step (2 ^ width_of m s) g → g < 2 ^ 127
gcd_small m s step g d =
    let b : Bounds m s = bounds_of m s in
    let le : g ≤ 2 ^ width_of m s = le_of_dvd b.some d.1 in
    omega (arith, b.power)

-- ---- of an unsigned type
pub fit_code : (m : DataModel) (s : Scalar) (hi : ℕ) (g : ℤ) → g ≡ greatest_of m s → hi ≤ unsigned_abs g → pos hi ≤ℤ greatest_of m s
fit_code m s hi g e le =
    let b : Bounds m s = bounds_of m s in
    omega (arith, ints, abs_up g (omega (arith, ints, b.one)))

pub passed_code : (m : DataModel) (s : Scalar) (hi : ℕ) (g : ℤ) → g ≡ greatest_of m s → unsigned_abs g < hi → greatest_of m s <ℤ pos hi
passed_code m s hi g e less =
    let b : Bounds m s = bounds_of m s in
    omega (arith, ints, abs_up g (omega (arith, ints, b.one)))

pub unsigned_least : (m : DataModel) (s : Scalar) → is_signed m s ≡ false → least_of m s ≡ pos 0
unsigned_least m s e = rw e refl

or_is : (a b c : Bool) → a ≡ false → b ≡ c → (a || b) ≡ c
or_is a b c p q = rw p q

not_true : (b : Bool) → (b ≡ true → ⊥) → b ≡ false
not_true true f = absurd (f refl)
not_true false f = refl

to_z_small : (n : ℕ) → n ≤ 2 ^ 64 → to_z w128 n ≡ pos n
to_z_small n h = to_z_pos w128 n (omega arith)

pub fit_settled : (m : DataModel) (s : Scalar) (n : Num) (lo hi : ℕ) (lo' hi' : ℤ) (step : ℕ) → is_signed m s ≡ false → lo ≤ hi → pos hi ≤ℤ greatest_of m s → lo' ≡ to_z w128 lo → hi' ≡ to_z w128 hi → IsExactly (IsIn (entry_of lo' hi' step lo')) n → IsExactly (IsSettled m s (entry_of (pos lo) (pos hi) step (pos lo))) n
fit_settled m s n lo hi lo' hi' step unsigned le top p q is =
    let b : Bounds m s = bounds_of m s in
    let f : lo' ≡ pos lo = p ∙ to_z_small lo (omega (arith, ints, b.high)) in
    let g : hi' ≡ pos hi = q ∙ to_z_small hi (omega (arith, ints, b.high)) in
    exactly_as (IsIn (entry_of lo' hi' step lo')) (IsSettled m s e) n
    (λ z h. (stays z).1 (
      record { above = omega (arith, ints, h.above); below = omega (arith, ints, h.below); congruent = subst (λ (k : ℤ). IsCongruent step k z) f h.congruent },
      record { above = omega (arith, ints, h.above, b.not_above); below = omega (arith, ints, h.below) },
    ))
    (λ z h. let k = (stays z).0 h in record { above = omega (arith, ints, k.0.above); below = omega (arith, ints, k.0.below); congruent = subst (λ (k : ℤ). IsCongruent step k z) (sym f) k.0.congruent })
    is
  where
    e : Entry
    e = entry_of (pos lo) (pos hi) step (pos lo)

    stays : (z : ℤ) → IsSettled m s e z ↔ IsKept m s e z
    stays = settled_kept m s e (is_signed m s || is_within m s e) refl (or_is (is_signed m s) (is_within m s e) true unsigned (test_from_within m s e (omega (arith, ints, (bounds_of m s).not_above)) top))

pub unfit_settled : (m : DataModel) (s : Scalar) (lo hi step w : ℕ) (rest : ℤ) → is_signed m s ≡ false → greatest_of m s <ℤ pos hi → w ≡ width_of m s → rest ≡ to_z w128 (lo % ((1 * 2 ^ w) % 2 ^ 128)) → (z : ℤ) → IsSettled m s (entry_of (pos lo) (pos hi) step (pos lo)) z ↔ IsReduced m s step rest z
unfit_settled m s lo hi step w rest unsigned top e is z =
    let r = reduces z in (
      λ h. let k = r.0 h in (IsCongruent-trans g rest (pos lo) z (IsCongruent-sym g (pos lo) rest near) k.0, k.1),
      λ k. r.1 (IsCongruent-trans g (pos lo) rest z near k.0, k.1),
    )
  where
    n : ℕ
    n = 2 ^ width_of m s

    g : ℕ
    g = gcd_of step n

    row : Entry
    row = entry_of (pos lo) (pos hi) step (pos lo)

    fails : is_within m s row ≡ true → ⊥
    fails t = omega (arith, ints, (within_from_test m s row t).1)

    reduces : (z : ℤ) → IsSettled m s row z ↔ IsReduced m s step (pos lo) z
    reduces = settled_reduced m s row (is_signed m s || is_within m s row) refl (or_is (is_signed m s) (is_within m s row) false unsigned (not_true (is_within m s row) fails))

    size : lo % n ≤ 2 ^ 64
    size = omega (arith, mod-lt lo (bounds_of m s).some, (bounds_of m s).power)

    rest_is : rest ≡ pos (lo % n)
    rest_is = is ∙ ap (λ (k : ℕ). to_z w128 (lo % k)) (power_of_width m s w e) ∙ to_z_small (lo % n) size

    near : IsCongruent g (pos lo) rest
    near =
        let same : int_rem_euclid (pos (lo % n)) (pos n) ≡ int_rem_euclid (pos lo) (pos n) = ap pos (mod-eq_of_lt (mod-lt lo (bounds_of m s).some)) in
        let d : IsCongruent n (pos lo) (pos (lo % n)) = congruent_from_rests n (pos (lo % n)) (pos lo) (bounds_of m s).some same in
        subst (IsCongruent g (pos lo)) (sym rest_is) (dvd_trans g (IsGcd-gcd_of step n).1 d)
