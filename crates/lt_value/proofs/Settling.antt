-- The least `Num` of an entry, and of what is left of one in a type.
use Rattle.std.proofs.Common.{arith, ◌≡◌, sym, ◌∙◌, ap, subst, ℕ, ℤ, pos, negsuc, ◌+ℤ◌, ◌-ℤ◌, ◌≤ℤ◌, ◌<ℤ◌, ◌<◌, ◌≤◌, ◌⊎◌, inl, inr, ◌^◌, ◌↔◌, Bool, true, false, ◌||◌}
use Rattle.std.specs.Prelude.{unsigned_abs, Option, IfSome, IfNone}
use Rattle.std.specs.Int.{◌∣◌, int_rem_euclid, int_min, int_max, IsGcd}
use Rattle.std.specs.Bool.{MatchBool}
use Rattle.std.proofs.lemmas.Int.{ints, clamps, by_lt_z}
use Rattle.std.proofs.Math.Nat.{dvd-zero, le_of_dvd, eq-zero-or-pos, eq-zero_of_zero-dvd, mod-eq_of_lt}
use Rattle.lt_model.specs.declared.scalar.DataModel.{DataModel}
use Rattle.lt_model.specs.declared.scalar.Scalar.{Scalar}
use Rattle.lt_model.specs.Scalar.{width_of, is_signed, least_of, greatest_of}
use Rattle.lt_value.specs.Num.{Holds, IsExactly, IsEmpty, IsRun}
use Rattle.lt_value.specs.Entry.{Entry, entry_of, IsIn, IsCongruent, IsSkip, IsKept, IsReduced, IsSettled, is_within, gcd_of}
use Rattle.lt_value.specs.declared.num.Num.{Num}
use Rattle.lt_value.proofs.Members.{gap_is}
use Rattle.lt_value.proofs.Cuts.{if_some_as, if_none_as}
use Rattle.lt_model.proofs.Whole.{abs_up}
use Rattle.lt_value.proofs.Entries.{congruent_from_rests, gcd_is, IsCongruent-trans, IsCongruent-sym, IsCongruent-same}

-- ---- sets that are the same
pub exactly_as : (p q : ℤ → Type 0) (n : Num) → ((z : ℤ) → p z → q z) → ((z : ℤ) → q z → p z) → IsExactly p n → IsExactly q n
exactly_as p q n f g is z = (λ h. f z ((is z).0 h), λ h. (is z).1 (g z h))

pub empty_as : (p q : ℤ → Type 0) → ((z : ℤ) → q z → p z) → IsEmpty p → IsEmpty q
empty_as p q g none z h = none z (g z h)

-- ---- by a step from lo
pub stepped_is : (n : Num) (lo hi lo' hi' : ℤ) (step reach room : ℕ) → lo' ≡ lo → hi' ≡ hi → pos room ≡ hi' -ℤ lo' → ((reach ≡ 0) × (room < step)) ⊎ (reach ≡ step) → IsRun lo' reach room n → IsExactly (IsIn (entry_of lo hi step lo)) n
stepped_is n lo hi lo' hi' step reach room same_lo same_hi far h run z = (forth, back)
  where
    size : (y : ℕ) → pos y ≡ z -ℤ lo → y ≡ unsigned_abs (z -ℤ lo)
    size y e = ap unsigned_abs e

    forth : Holds n z → IsIn (entry_of lo hi step lo) z
    forth m =
        let (y, is, within, d) = (run z).0 m in
        let at : pos y ≡ z -ℤ lo = omega (arith, ints) in
        let whole : step ∣ y = elim h [
          | inl k ↦ subst (λ (i : ℕ). step ∣ i) (sym (eq-zero_of_zero-dvd (subst (λ (i : ℕ). i ∣ y) k.0 d))) (dvd-zero step)
          | inr e ↦ subst (λ (i : ℕ). i ∣ y) e d
        ] in
        record { above = omega (arith, ints); below = omega (arith, ints); congruent = subst (λ (i : ℕ). step ∣ i) (size y at) whole }

    back : IsIn (entry_of lo hi step lo) z → Holds n z
    back m =
        let (y, is) = gap_is lo z m.above in
        let within : y ≤ room = omega (arith, ints, m.below) in
        let d : step ∣ y = subst (λ (i : ℕ). step ∣ i) (sym (size y is)) m.congruent in
        let whole : reach ∣ y = elim h [
          | inl k ↦ elim (eq-zero-or-pos y) [
            | inl none ↦ subst (λ (i : ℕ). reach ∣ i) (sym none) (dvd-zero reach)
            | inr some ↦ absurd (omega (arith, le_of_dvd some d))
          ]
          | inr e ↦ subst (λ (i : ℕ). i ∣ y) (sym e) d
        ] in
        (run z).1 (y, omega (arith, ints), within, whole)

-- ---- from the first number that is congruent to the rest
first_least : (lo z rest : ℤ) (step skip : ℕ) → IsSkip lo step rest skip → lo ≤ℤ z → IsCongruent step rest z → (lo +ℤ pos skip) ≤ℤ z
first_least lo z rest step skip s above c =
    by_lt_z z (lo +ℤ pos skip)
    (λ less.
    let first : ℤ = lo +ℤ pos skip in
    let d : step ∣ unsigned_abs (first -ℤ z) = IsCongruent-trans step z rest first (IsCongruent-sym step rest z c) s.congruent in
    let is : pos (unsigned_abs (first -ℤ z)) ≡ first -ℤ z = abs_up (first -ℤ z) (omega (arith, ints)) in
    absurd (omega (arith, ints, le_of_dvd (omega (arith, ints)) d, s.below)))
    (λ more. more)

pub from_first : (n : Num) (lo hi rest first : ℤ) (step skip : ℕ) → first ≡ lo +ℤ pos skip → IsSkip lo step rest skip → IsExactly (IsIn (entry_of first hi step first)) n → IsExactly (IsIn (entry_of lo hi step rest)) n
from_first n lo hi rest first step skip e s =
    exactly_as (IsIn (entry_of first hi step first)) (IsIn (entry_of lo hi step rest)) n
    (λ z h. record { above = omega (arith, ints, h.above); below = h.below; congruent = IsCongruent-trans step rest first z at h.congruent })
    (λ z h. record { above = omega (arith, ints, first_least lo z rest step skip s h.above h.congruent); below = h.below; congruent = IsCongruent-trans step first rest z (IsCongruent-sym step rest first at) h.congruent })
  where
    at : IsCongruent step rest first
    at = subst (IsCongruent step rest) (sym e) s.congruent

pub none_from_first : (lo hi lo' hi' rest : ℤ) (step skip room : ℕ) → lo' ≡ lo → hi' ≡ hi → pos room ≡ hi' -ℤ lo' → room < skip → IsSkip lo step rest skip → IsEmpty (IsIn (entry_of lo hi step rest))
none_from_first lo hi lo' hi' rest step skip room p q far less s z h = omega (arith, ints, first_least lo z rest step skip s h.above h.congruent, h.below)

-- by step 0 the rest alone
alone : (step : ℕ) (rest z : ℤ) → step ≡ 0 → IsCongruent step rest z → z ≡ rest
alone step rest z none d =
    let is : unsigned_abs (z -ℤ rest) ≡ 0 = eq-zero_of_zero-dvd (subst (λ (k : ℕ). k ∣ unsigned_abs (z -ℤ rest)) none d) in
    apart z rest (nothing (z -ℤ rest) is)
  where
    nothing : (x : ℤ) → unsigned_abs x ≡ 0 → x ≡ pos 0
    nothing (pos k) e = ap pos e
    nothing (negsuc k) e = absurd (omega arith)

    apart : (x y : ℤ) → x -ℤ y ≡ pos 0 → x ≡ y
    apart x y e = omega (arith, ints)

pub rest_alone : (n : Num) (lo hi rest rest' : ℤ) (step : ℕ) → step ≡ 0 → rest' ≡ rest → lo ≤ℤ rest → rest ≤ℤ hi → ((z : ℤ) → Holds n z ↔ (z ≡ rest')) → IsExactly (IsIn (entry_of lo hi step rest)) n
rest_alone n lo hi rest rest' step none same p q is z = (
  λ h. let e = (is z).0 h in record { above = omega (arith, ints); below = omega (arith, ints); congruent = IsCongruent-same step z rest (e ∙ same) },
  λ h. (is z).1 (alone step rest z none h.congruent ∙ sym same),
)

pub no_rest : (lo hi rest : ℤ) (step : ℕ) → step ≡ 0 → (rest <ℤ lo) ⊎ (hi <ℤ rest) → IsEmpty (IsIn (entry_of lo hi step rest))
no_rest lo hi rest step none far z h =
    let e = alone step rest z none h.congruent in
    elim far [ inl less ↦ omega (arith, ints, h.above) | inr more ↦ omega (arith, ints, h.below) ]

-- ---- the skip
pub skip_is : (lo rest d r : ℤ) (step : ℕ) → 0 < step → d ≡ rest -ℤ lo → r ≡ int_rem_euclid d (pos step) → pos 0 ≤ℤ r → unsigned_abs r < step → IsSkip lo step rest (unsigned_abs r)
skip_is lo rest d r step some e is up' less = record {
  congruent =
      let skip : ℕ = unsigned_abs r in
      let same : int_rem_euclid (pos skip) (pos step) ≡ int_rem_euclid d (pos step) = ap pos (mod-eq_of_lt less) ∙ abs_up r up' ∙ is in
      let k : step ∣ unsigned_abs (pos skip -ℤ d) = congruent_from_rests step (pos skip) d some same in
      subst (λ (z : ℤ). step ∣ unsigned_abs z) (regroup lo rest d (pos skip) e) k;
  below = less;
}
  where
    regroup : (lo rest d k : ℤ) → d ≡ rest -ℤ lo → k -ℤ d ≡ (lo +ℤ k) -ℤ rest
    regroup lo rest d k e = omega (arith, ints)

-- ---- what is left in a type
pub kept_is : (m : DataModel) (s : Scalar) (n : Num) (lo hi low high : ℤ) (step : ℕ) → low ≡ int_max lo (least_of m s) → high ≡ int_min hi (greatest_of m s) → IsExactly (IsIn (entry_of low high step lo)) n → IsExactly (IsKept m s (entry_of lo hi step lo)) n
kept_is m s n lo hi low high step p q =
    exactly_as (IsIn (entry_of low high step lo)) (IsKept m s (entry_of lo hi step lo)) n
    (λ z h. (
      record { above = omega (arith, ints, clamps, h.above); below = omega (arith, ints, clamps, h.below); congruent = h.congruent },
      record { above = omega (arith, ints, clamps, h.above); below = omega (arith, ints, clamps, h.below) },
    ))
    (λ z h. record { above = omega (arith, ints, clamps, h.0.above, h.1.above); below = omega (arith, ints, clamps, h.0.below, h.1.below); congruent = h.0.congruent })

pub none_kept : (m : DataModel) (s : Scalar) (lo hi low high : ℤ) (step : ℕ) → low ≡ int_max lo (least_of m s) → high ≡ int_min hi (greatest_of m s) → IsEmpty (IsIn (entry_of low high step lo)) → IsEmpty (IsKept m s (entry_of lo hi step lo))
none_kept m s lo hi low high step p q none z h =
    none z (record { above = omega (arith, ints, clamps, h.0.above, h.1.above); below = omega (arith, ints, clamps, h.0.below, h.1.below); congruent = h.0.congruent })

pub reduced_is : (m : DataModel) (s : Scalar) (n : Num) (lo hi rest : ℤ) (step g : ℕ) → lo ≡ least_of m s → hi ≡ greatest_of m s → IsGcd step (2 ^ width_of m s) g → IsExactly (IsIn (entry_of lo hi g rest)) n → IsExactly (IsReduced m s step rest) n
reduced_is m s n lo hi rest step g p q d =
    exactly_as (IsIn (entry_of lo hi g rest)) (IsReduced m s step rest) n
    (λ z h. (subst (λ (k : ℕ). IsCongruent k rest z) e h.congruent, record { above = omega (arith, ints, h.above); below = omega (arith, ints, h.below) }))
    (λ z h. record { above = omega (arith, ints, h.1.above); below = omega (arith, ints, h.1.below); congruent = subst (λ (k : ℕ). IsCongruent k rest z) (sym e) h.0 })
  where
    e : g ≡ gcd_of step (2 ^ width_of m s)
    e = gcd_is step (2 ^ width_of m s) g d

pub none_reduced : (m : DataModel) (s : Scalar) (lo hi rest : ℤ) (step g : ℕ) → lo ≡ least_of m s → hi ≡ greatest_of m s → IsGcd step (2 ^ width_of m s) g → IsEmpty (IsIn (entry_of lo hi g rest)) → IsEmpty (IsReduced m s step rest)
none_reduced m s lo hi rest step g p q d none z h =
    none z (record { above = omega (arith, ints, h.1.above); below = omega (arith, ints, h.1.below); congruent = subst (λ (k : ℕ). IsCongruent k rest z) (sym (gcd_is step (2 ^ width_of m s) g d)) h.0 })

-- what isn't reduced, and what is
pub settled_kept : (m : DataModel) (s : Scalar) (e : Entry) (t : Bool) → (t ≡ (is_signed m s || is_within m s e)) → t ≡ true → (z : ℤ) → IsSettled m s e z ↔ IsKept m s e z
settled_kept m s e t is yes' z = by_test (is_signed m s || is_within m s e) (sym is ∙ yes')
  where
    by_test : (u : Bool) → u ≡ true → MatchBool u (IsKept m s e z) (IsReduced m s e.step e.rest z) ↔ IsKept m s e z
    by_test true h = (λ k. k, λ k. k)
    by_test false h = cc

pub settled_reduced : (m : DataModel) (s : Scalar) (e : Entry) (t : Bool) → (t ≡ (is_signed m s || is_within m s e)) → t ≡ false → (z : ℤ) → IsSettled m s e z ↔ IsReduced m s e.step e.rest z
settled_reduced m s e t is no' z = by_test (is_signed m s || is_within m s e) (sym is ∙ no')
  where
    by_test : (u : Bool) → u ≡ false → MatchBool u (IsKept m s e z) (IsReduced m s e.step e.rest z) ↔ IsReduced m s e.step e.rest z
    by_test true h = cc
    by_test false h = (λ k. k, λ k. k)

pub some_as : (p q : ℤ → Type 0) (o : Option Num) → ((z : ℤ) → q z ↔ p z) → IfSome o (IsExactly p) → IfSome o (IsExactly q)
some_as p q o f = if_some_as (IsExactly p) (IsExactly q) (λ n. exactly_as p q n (λ z. (f z).1) (λ z. (f z).0)) o

pub none_as : (p q : ℤ → Type 0) (o : Option Num) → ((z : ℤ) → q z ↔ p z) → IfNone o (IsEmpty p) → IfNone o (IsEmpty q)
none_as p q o f = if_none_as (IsEmpty p) (IsEmpty q) (empty_as p q (λ z. (f z).0)) o
