-- Numbers that are cut off at a limit while their digits are read.
use Rattle.std.proofs.Common.{◌≡◌, refl, sym, ap, ◌∙◌, ℕ, ◌+◌, ◌*◌, ◌≤◌, ◌^◌, min, ◌⊎◌, inl, inr, Bool, true, false, nat_lt, List, [], ◌∷◌, arith}
use Rattle.std.specs.Prelude.{if◌then◌else◌}
use Rattle.lt_tree.specs.Constants.{digit, number_from}
use Rattle.std.proofs.Math.Nat.{le-mul_of_pos_right, mul_comm}
use Rattle.std.proofs.lemmas.Bool.{cases_lt}

-- the limit that both reach, or the number that both are
either : (v w : ℕ) → min v (2 ^ 31) ≡ min w (2 ^ 31) → (v ≡ w) ⊎ ((2 ^ 31 ≤ v) × (2 ^ 31 ≤ w))
either v w same = elim (cases_lt v (2 ^ 31)) [ inl below ↦ inl (omega (arith, same)) | inr above ↦ inr (above, omega (arith, same)) ]

times : (base v : ℕ) → 1 ≤ base → v ≤ base * v
times base v least = rw (mul_comm base v) (le-mul_of_pos_right v least)

-- numbers that are the same where they are cut off go on as the same
pub goes_on : (base v w d : ℕ) → 1 ≤ base → min v (2 ^ 31) ≡ min w (2 ^ 31) → min (base * v + d) (2 ^ 31) ≡ min (base * w + d) (2 ^ 31)
goes_on base v w d least same = elim (either v w same) [
  | inl e ↦ ap (λ x. min (base * x + d) (2 ^ 31)) e
  | inr h ↦ let a : v ≤ base * v = times base v least in let b : w ≤ base * w = times base w least in omega arith
]

-- and so do the numbers that more digits make, and the bytes behind them
pub number_same : (base v w : ℕ) (bytes : List ℕ) → 1 ≤ base → min v (2 ^ 31) ≡ min w (2 ^ 31) →
    (min (number_from base v bytes).0 (2 ^ 31) ≡ min (number_from base w bytes).0 (2 ^ 31)) × ((number_from base v bytes).1 ≡ (number_from base w bytes).1)
number_same base v w [] least same = (same, refl)
number_same base v w (b ∷ bytes) least same =
    let P : Bool → Type 0 = λ test.
    (min (if test then number_from base (base * v + digit b) bytes else (v, b ∷ bytes)).0 (2 ^ 31) ≡ min (if test then number_from base (base * w + digit b) bytes else (w, b ∷ bytes)).0 (2 ^ 31))
    × ((if test then number_from base (base * v + digit b) bytes else (v, b ∷ bytes)).1 ≡ (if test then number_from base (base * w + digit b) bytes else (w, b ∷ bytes)).1) in
    elim (nat_lt (digit b) base) as P [
      | true ↦ number_same base (base * v + digit b) (base * w + digit b) bytes least (goes_on base v w (digit b) least same)
      | false ↦ (same, refl)
    ]

-- one digit read, and cut off
pub digit_read : (base v b r : ℕ) (behind : List ℕ) → 1 ≤ base → nat_lt (digit b) base ≡ true → r ≡ min (base * v + digit b) (2 ^ 31) →
    (min (number_from base r behind).0 (2 ^ 31) ≡ min (number_from base v (b ∷ behind)).0 (2 ^ 31)) × ((number_from base r behind).1 ≡ (number_from base v (b ∷ behind)).1)
digit_read base v b r behind least is_digit is =
    let cut : min r (2 ^ 31) ≡ min (base * v + digit b) (2 ^ 31) = omega (arith, is) in
    let more : number_from base (base * v + digit b) behind ≡ number_from base v (b ∷ behind) = sym (ap (λ test. if test then number_from base (base * v + digit b) behind else (v, b ∷ behind)) is_digit) in
    let same = number_same base r (base * v + digit b) behind least cut in
    (same.0 ∙ ap (λ p. min p.0 (2 ^ 31)) more, same.1 ∙ ap (λ p. p.1) more)
