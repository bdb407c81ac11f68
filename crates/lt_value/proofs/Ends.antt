-- The ends of a rounded set, as a walk over the thresholds finds them.
use Rattle.std.proofs.Common.{arith, ℕ, ℤ, pos, negsuc, ◌≡◌, ◌∙◌, sym, subst, ◌≤ℤ◌, ◌<ℤ◌, ◌<◌, ◌≤◌, ◌+◌, ◌-◌, ◌^◌, ◌⊎◌, inl, inr, List, length, get_or}
use Rattle.std.specs.Prelude.{int_le, false}
use Rattle.std.specs.List.{Contains}
use Rattle.std.proofs.lemmas.Int.{ints}
use Rattle.std.proofs.lemmas.List.{get_or_default}
use borrow.Author.Count.{below_more}
use Rattle.lt_value.proofs.Orders.{le_false}
use Rattle.lt_value.specs.Rounding.{IsUnder, IsOver, IsLowEnd, IsHighEnd}

-- low is below all values or a threshold, and none before the index is between it and lo
pub record IsLowSoFar (ts : List ℤ) (lo : ℤ) (index : ℕ) (low : ℤ) : Type 0 where
  pub least : negsuc (2 ^ 63) ≤ℤ low
  pub some : (low ≡ negsuc (2 ^ 63)) ⊎ (Contains ts low × (low ≤ℤ lo))
  pub none : (k : ℕ) → k < index → get_or ts k (pos 0) ≤ℤ lo → get_or ts k (pos 0) ≤ℤ low

pub record IsHighSoFar (ts : List ℤ) (hi : ℤ) (index : ℕ) (high : ℤ) : Type 0 where
  pub greatest : high ≤ℤ pos (2 ^ 64)
  pub some : (high ≡ pos (2 ^ 64)) ⊎ (Contains ts high × (hi ≤ℤ high))
  pub none : (k : ℕ) → k < index → hi ≤ℤ get_or ts k (pos 0) → high ≤ℤ get_or ts k (pos 0)

passed_low : (ts : List ℤ) (lo low : ℤ) (index : ℕ) → length ts ≤ index → IsLowSoFar ts lo index low → (t : ℤ) → IsUnder ts lo t → t ≤ℤ low
passed_low ts lo low index all so t h =
    let (k, within, at) = h.0.0 in
    let same : get_or ts k (pos 0) ≡ t = get_or_default ts k (pos 0) t within ∙ at in
    subst (λ (z : ℤ). z ≤ℤ low) same (so.none k (omega arith) (subst (λ (z : ℤ). z ≤ℤ lo) (sym same) h.1))

passed_high : (ts : List ℤ) (hi high : ℤ) (index : ℕ) → length ts ≤ index → IsHighSoFar ts hi index high → (t : ℤ) → IsOver ts hi t → high ≤ℤ t
passed_high ts hi high index all so t h =
    let (k, within, at) = h.0.0 in
    let same : get_or ts k (pos 0) ≡ t = get_or_default ts k (pos 0) t within ∙ at in
    subst (λ (z : ℤ). high ≤ℤ z) same (so.none k (omega arith) (subst (λ (z : ℤ). hi ≤ℤ z) (sym same) h.1))

pub low_stays : (ts : List ℤ) (lo low : ℤ) (index : ℕ) → length ts ≤ index → IsLowSoFar ts lo index low → low <ℤ negsuc (2 ^ 63 - 1) → IsLowEnd ts lo lo
low_stays ts lo low index all so less = inr (omega (arith, ints), λ t h. omega (arith, ints, passed_low ts lo low index all so t h, h.0.1))

pub low_moves : (ts : List ℤ) (lo low : ℤ) (index : ℕ) → length ts ≤ index → lo ≤ℤ pos (2 ^ 64 - 1) → IsLowSoFar ts lo index low → negsuc (2 ^ 63 - 1) ≤ℤ low → IsLowEnd ts lo low
low_moves ts lo low index all top so more = elim so.some [
  | inl none ↦ absurd (omega (arith, ints))
  | inr some ↦ inl (((some.0, more, omega (arith, ints, some.1)), some.1), passed_low ts lo low index all so)
]

pub high_stays : (ts : List ℤ) (hi high : ℤ) (index : ℕ) → length ts ≤ index → IsHighSoFar ts hi index high → pos (2 ^ 64 - 1) <ℤ high → IsHighEnd ts hi hi
high_stays ts hi high index all so more = inr (omega (arith, ints), λ t h. omega (arith, ints, passed_high ts hi high index all so t h, h.0.2))

pub high_moves : (ts : List ℤ) (hi high : ℤ) (index : ℕ) → length ts ≤ index → negsuc (2 ^ 63 - 1) ≤ℤ hi → IsHighSoFar ts hi index high → high ≤ℤ pos (2 ^ 64 - 1) → IsHighEnd ts hi high
high_moves ts hi high index all least so less = elim so.some [
  | inl none ↦ absurd (omega (arith, ints))
  | inr some ↦ inl (((some.0, omega (arith, ints, some.1), less), some.1), passed_high ts hi high index all so)
]

-- a step of the walk that takes a threshold, and one that doesn't
pub high_taken : (ts : List ℤ) (hi high t : ℤ) (index : ℕ) → IsHighSoFar ts hi index high → index < length ts → t ≡ get_or ts index (pos 0) → hi ≤ℤ t → t <ℤ high → IsHighSoFar ts hi (index + 1) t
high_taken ts hi high t index so within is over less = record {
  greatest = omega (arith, ints, so.greatest);
  some = inr ((index, within, get_or_default ts index t (pos 0) within ∙ sym is), over);
  none = below_more (λ k. hi ≤ℤ get_or ts k (pos 0) → t ≤ℤ get_or ts k (pos 0)) index (λ k h le. omega (arith, ints, so.none k h le)) (λ le. omega (arith, ints));
}

pub high_kept : (ts : List ℤ) (hi high t : ℤ) (index : ℕ) → IsHighSoFar ts hi index high → t ≡ get_or ts index (pos 0) → (hi ≤ℤ t → high ≤ℤ t) → IsHighSoFar ts hi (index + 1) high
high_kept ts hi high t index so is le = record {
  greatest = so.greatest;
  some = so.some;
  none = below_more (λ k. hi ≤ℤ get_or ts k (pos 0) → high ≤ℤ get_or ts k (pos 0)) index so.none (subst (λ (z : ℤ). hi ≤ℤ z → high ≤ℤ z) is le);
}

pub unreached : (hi t high : ℤ) → int_le hi t ≡ false → hi ≤ℤ t → high ≤ℤ t
unreached hi t high e h = absurd (omega (arith, ints, le_false hi t e))
