-- The height of a set falls from each rounded set to every set strictly above it.
use Rattle.std.proofs.Common.{arith, ◌≡◌, refl, sym, ◌∙◌, ap, subst, zero, suc, ℕ, ℤ, ◌≤ℤ◌, ◌<ℤ◌, ◌<◌, ◌≤◌, ◌+◌, ◌*◌, ◌/◌, ◌^◌, Bool, true, false, inl, inr, List, [], ◌∷◌, cond}
use Rattle.std.specs.Prelude.{count_by, int_le}
use Rattle.std.specs.Int.{◌∣◌}
use Rattle.std.specs.List.{Contains}
use Rattle.std.proofs.lemmas.Bool.{cases_lt}
use Rattle.std.proofs.Math.Dec.{eqb-suc-zero}
use Rattle.std.proofs.lemmas.Bool.Decides.{eqb_tells}
use Rattle.std.proofs.lemmas.Int.{ints, by_lt_z}
use Rattle.std.proofs.lemmas.List.Sums.{sum_by-le-sum_by, sum_by-cons}
use Rattle.std.proofs.lemmas.Nat.{leading_top}
use Rattle.std.proofs.Math.Nat.{dvd_refl, le_of_dvd, eq-zero-or-pos, div-mul_cancel, pos_of_dvd_of_pos, pow-le-pow_right, pow-suc}
use Rattle.lt_value.specs.declared.num.Num.{Num}
use Rattle.lt_value.specs.Num.{Holds, IsBelow, IsExactly}
use Rattle.lt_value.specs.Entry.{rest_of, IsCongruent}
use Rattle.lt_value.specs.Rounding.{IsUnder, IsOver, IsLowEnd, IsHighEnd, IsRounded, step_bits, height}
use Rattle.lt_value.proofs.Orders.{le_true, le_test}
use Rattle.lt_value.proofs.Members.{gap_is, apart_by_step, lo_holds, hi_holds, step_divides}
use Rattle.lt_value.proofs.Entries.{member_congruent, IsCongruent-trans, IsCongruent-sym}
use Rattle.lt_value.proofs.Below.{below_by_ends}
use Rattle.lt_value.proofs.Conversions.{rests_agree}

-- ---- counts
one_le : (t u : Bool) → (t ≡ true → u ≡ true) → cond t 1 0 ≤ cond u 1 0
one_le true true f = omega arith
one_le true false f = cc (f refl)
one_le false true f = omega arith
one_le false false f = omega arith

count_le : (p q : ℤ → Bool) (ts : List ℤ) → ((x : ℤ) → p x ≡ true → q x ≡ true) → count_by p ts ≤ count_by q ts
count_le p q ts f = sum_by-le-sum_by (λ x. cond (p x) 1 0) (λ x. cond (q x) 1 0) ts (λ x. one_le (p x) (q x) (f x))

one_more : (t u : Bool) (m n : ℕ) → t ≡ false → u ≡ true → m ≤ n → cond t 1 0 + m < cond u 1 0 + n
one_more true u m n e f h = cc
one_more false true m n e f h = omega arith
one_more false false m n e f h = cc

count_less : (p q : ℤ → Bool) (ts : List ℤ) (t : ℤ) → ((x : ℤ) → p x ≡ true → q x ≡ true) → Contains ts t → p t ≡ false → q t ≡ true → count_by p ts < count_by q ts
count_less p q [] t f (k, within, at) no' yes' = absurd (omega arith)
count_less p q (x ∷ xs) t f (zero, within, at) no' yes' =
    let more = one_more (p x) (q x) (count_by p xs) (count_by q xs) (ap p at ∙ no') (ap q at ∙ yes') (count_le p q xs f) in
    omega (arith, more, sum_by-cons (λ x. cond (p x) 1 0) x xs, sum_by-cons (λ x. cond (q x) 1 0) x xs)
count_less p q (x ∷ xs) t f (suc k, within, at) no' yes' =
    omega (arith, count_less p q xs t f (k, omega arith, at) no' yes', one_le (p x) (q x) (f x), sum_by-cons (λ x. cond (p x) 1 0) x xs, sum_by-cons (λ x. cond (q x) 1 0) x xs)

-- ---- bits of steps
single_bits : (s : ℕ) → s ≡ 0 → step_bits s ≡ 66
single_bits s e = rw e refl

power_le : (i j : ℕ) → i ≤ j → 2 ^ i ≤ 2 ^ j
power_le i j h = pow-le-pow_right (omega arith) h

several_bits : (s : ℕ) → 0 < s → s < 2 ^ 66 → (j : ℕ) × (step_bits s ≡ suc j) × (2 ^ j ≤ s) × (s < 2 ^ suc j)
several_bits zero some small = absurd (omega arith)
several_bits (suc k) some small =
    let (j, e, low, high) = leading_top 66 (suc k) some small in
    (j, rw (eqb-suc-zero k) (omega (arith, e)), low, high)

twice : (k s t : ℕ) → k * s ≡ t → 0 < t → (s ≡ t → ⊥) → s + s ≤ t
twice zero s t e some ne = absurd (omega arith)
twice (suc zero) s t e some ne = absurd (ne (omega arith))
twice (suc (suc m)) s t e some ne = let all : m * s + (s + s) ≡ t = grind arith in omega arith

apart_bits : (i j s t : ℕ) → 2 ^ i ≤ s → s + s ≤ t → t < 2 ^ suc j → i < j
apart_bits i j s t p q r =
    elim (cases_lt i j) [
      | inl less ↦ less
      | inr more ↦
          let le : 2 ^ j ≤ 2 ^ i = power_le j i more in
          absurd (omega (arith, pow-suc 2 j))
    ]

short_bits : (i s : ℕ) → 2 ^ i ≤ s → s < 2 ^ 65 → i < 65
short_bits i s p q = elim (cases_lt i 65) [
  | inl less ↦ less
  | inr more ↦ let le : 2 ^ 65 ≤ 2 ^ i = power_le 65 i more in absurd (omega arith)
]

bits_fall : (s t : ℕ) → s ∣ t → (s ≡ t → ⊥) → s < 2 ^ 65 → t < 2 ^ 65 → step_bits s < step_bits t
bits_fall s t d ne small_s small_t =
    elim (eq-zero-or-pos t) [
      | inl none ↦
          let (i, e, low, high) = several_bits s (positive s (λ z. ne (z ∙ sym none))) (omega arith) in
          let short : i < 65 = short_bits i s low small_s in
          omega (arith, single_bits t none)
      | inr some ↦
          let (i, e, low, high) = several_bits s (pos_of_dvd_of_pos d some) (omega arith) in
          let (j, f, least, most) = several_bits t some (omega arith) in
          let less : i < j = apart_bits i j s t low (twice (t / s) s t (div-mul_cancel s d) some ne) most in
          omega arith
    ]
  where
    positive : (k : ℕ) → (k ≡ 0 → ⊥) → 0 < k
    positive zero h = absurd (h refl)
    positive (suc k) h = omega arith

-- a step is no longer than the numbers are apart
step_short : (n : Num) → n.step < 2 ^ 65
step_short n = elim (eq-zero-or-pos n.step) [
  | inl none ↦ omega arith
  | inr some ↦
      let (g, e) = gap_is n.lo n.hi n.canonical.ordered in
      let d : n.step ∣ g = apart_by_step n n.lo n.hi g (lo_holds n) (hi_holds n) e in
      let up : n.lo <ℤ n.hi = n.canonical.several some in
      let wide : n.step ≤ g = le_of_dvd (omega (arith, ints)) d in
      omega (arith, ints, n.canonical.least, n.canonical.greatest)
]

-- ---- a threshold between the ends of two sets of one step
le_fails : (a b : ℤ) → b <ℤ a → int_le a b ≡ false
le_fails a b h = grind (arith, ints)

-- an end of b is congruent to the members of a
end_congruent : (a b : Num) (z : ℤ) → IsBelow a b → b.step ≡ a.step → Holds b z → IsCongruent a.step (rest_of a) z
end_congruent a b z below e h =
    subst (λ (k : ℕ). IsCongruent k (rest_of a) z) e
    (IsCongruent-trans b.step (rest_of a) (rest_of b) z (IsCongruent-sym b.step (rest_of b) (rest_of a) (rests_agree a b below)) (member_congruent b z h))

low_counts : (ts : List ℤ) (a b : Num) (t : ℤ) → IsExactly (IsRounded ts a) a → IsBelow a b → b.step ≡ a.step → IsUnder ts b.lo t → b.lo <ℤ a.lo → count_by (λ t. int_le t b.lo) ts < count_by (λ t. int_le t a.lo) ts
low_counts ts a b t is below e under less = by_end first.low_is
  where
    first : IsRounded ts a a.lo
    first = (is a.lo).0 (lo_holds a)

    above : first.low ≤ℤ b.lo → ⊥
    above le =
        let there : Holds a b.lo = (is b.lo).1 (record {
          low = first.low;
          high = first.high;
          low_is = first.low_is;
          high_is = first.high_is;
          among = record { above = le; below = omega (arith, ints, first.among.below); congruent = end_congruent a b b.lo below e (lo_holds b) };
        }) in
        omega (arith, ints, there.above)

    by_end : IsLowEnd ts a.lo first.low → count_by (λ t. int_le t b.lo) ts < count_by (λ t. int_le t a.lo) ts
    by_end (inl h) =
        count_less (λ t. int_le t b.lo) (λ t. int_le t a.lo) ts first.low (λ x g. le_test x a.lo (omega (arith, ints, le_true x b.lo g))) h.0.0.0
        (le_fails first.low b.lo (by_lt_z b.lo first.low (λ k. k) (λ k. absurd (above k)))) (le_test first.low a.lo h.0.1)
    by_end (inr h) = absurd (h.1 t (under.0, omega (arith, ints, under.1)))

high_counts : (ts : List ℤ) (a b : Num) (t : ℤ) → IsExactly (IsRounded ts a) a → IsBelow a b → b.step ≡ a.step → IsOver ts b.hi t → a.hi <ℤ b.hi → count_by (λ t. int_le b.hi t) ts < count_by (λ t. int_le a.hi t) ts
high_counts ts a b t is below e over less = by_end last.high_is
  where
    last : IsRounded ts a a.hi
    last = (is a.hi).0 (hi_holds a)

    under : b.hi ≤ℤ last.high → ⊥
    under le =
        let there : Holds a b.hi = (is b.hi).1 (record {
          low = last.low;
          high = last.high;
          low_is = last.low_is;
          high_is = last.high_is;
          among = record { above = omega (arith, ints, last.among.above); below = le; congruent = end_congruent a b b.hi below e (hi_holds b) };
        }) in
        omega (arith, ints, there.below)

    by_end : IsHighEnd ts a.hi last.high → count_by (λ t. int_le b.hi t) ts < count_by (λ t. int_le a.hi t) ts
    by_end (inl h) =
        count_less (λ t. int_le b.hi t) (λ t. int_le a.hi t) ts last.high (λ x g. le_test a.hi x (omega (arith, ints, le_true b.hi x g))) h.0.0.0
        (le_fails b.hi last.high (by_lt_z last.high b.hi (λ k. k) (λ k. absurd (under k)))) (le_test a.hi last.high h.0.1)
    by_end (inr h) = absurd (h.1 t (over.0, omega (arith, ints, over.1)))

pub height_falls : (ts : List ℤ) (a b : Num) (t u : ℤ) → IsExactly (IsRounded ts a) a → IsBelow a b → (IsBelow b a → ⊥) → IsUnder ts b.lo t → IsOver ts b.hi u → height ts b < height ts a
height_falls ts a b t u is below strict under over = elim (eqb_tells b.step a.step) [
  | inl same ↦ by_lt_z b.lo a.lo
      (λ less. omega (arith, low_counts ts a b t is below same.1 under less, highs, ap step_bits same.1))
      (λ low. by_lt_z a.hi b.hi
      (λ less. omega (arith, high_counts ts a b u is below same.1 over less, lows, ap step_bits same.1))
      (λ high. absurd (strict (below_by_ends b a (subst (Holds a) (omega (arith, ints, low, (below a.lo (lo_holds a)).above)) (lo_holds a)) high (subst (λ (k : ℕ). k ∣ b.step) same.1 (dvd_refl b.step))))))
  | inr other ↦ omega (arith, lows, highs, bits_fall b.step a.step (step_divides a b below) other.1 (step_short b) (step_short a))
]
  where
    lows : count_by (λ t. int_le t b.lo) ts ≤ count_by (λ t. int_le t a.lo) ts
    lows = count_le (λ t. int_le t b.lo) (λ t. int_le t a.lo) ts (λ x g. le_test x a.lo (omega (arith, ints, le_true x b.lo g, (below a.lo (lo_holds a)).above)))

    highs : count_by (λ t. int_le b.hi t) ts ≤ count_by (λ t. int_le a.hi t) ts
    highs = count_le (λ t. int_le b.hi t) (λ t. int_le a.hi t) ts (λ x g. le_test a.hi x (omega (arith, ints, le_true b.hi x g, (below a.hi (hi_holds a)).below)))
