-- Numbers of elements, where those from 2 ^ 64 count as that.
use Rattle.std.proofs.Common.{arith, ◌≡◌, ◌∙◌, sym, ap, ℕ, zero, suc, ◌*◌, ◌^◌, ◌≤◌, min, cond, Some, None, ◌⊎◌, inl, inr}
use Rattle.std.proofs.lemmas.Bool.{cases_lt, le-ltb}
use Rattle.std.proofs.Math.Nat.{mul-le-mul_left, mul-zero, zero-mul, mul_comm}
use Rattle.lt_model.specs.Layout.{within}

capped_by : (top x y : ℕ) → (x ≡ y) ⊎ ((top ≤ x) × (top ≤ y)) → min x top ≡ min y top
capped_by top x y h = elim h [ inl e ↦ ap (λ n. min n top) e | inr p ↦ omega arith ]

-- a cap on a product can be put on its first factor too
pub capped_product : (top a e : ℕ) → min (min a top * e) top ≡ min (a * e) top
capped_product top a zero = simp mul-zero
capped_product top a (suc k) =
    let one : min a top * 1 ≤ min a top * suc k = mul-le-mul_left (min a top) (omega arith) in
    let two : a * 1 ≤ a * suc k = mul-le-mul_left a (omega arith) in
    elim (cases_lt top a) [
      | inl h ↦ capped_by top (min a top * suc k) (a * suc k) (inr (omega arith, omega arith))
      | inr h ↦ capped_by top (min a top * suc k) (a * suc k) (inl (ap (λ n. n * suc k) (omega arith)))
    ]

within_none : (n : ℕ) → 2 ^ 64 ≤ n → within n ≡ None
within_none n h = ap (λ b. cond b (Some n) None) (le-ltb n (2 ^ 64) h)

many_times : (size n : ℕ) → 2 ^ 64 ≤ n → within (suc size * n) ≡ None
many_times size n more =
    let product : n * 1 ≤ n * suc size = mul-le-mul_left n (omega arith) in
    within_none (suc size * n) (omega (arith, product, mul_comm (suc size) n, more))

-- where a number of elements passes 64 bits, so does that of their bytes, unless they have none
pub capped_within : (size n : ℕ) → within (size * min n (2 ^ 64)) ≡ within (size * n)
capped_within zero n = ap within (zero-mul (min n (2 ^ 64)) ∙ sym (zero-mul n))
capped_within (suc size) n = elim (cases_lt n (2 ^ 64)) [
  | inl less ↦ ap (λ k. within (suc size * k)) (omega arith)
  | inr more ↦ many_times size (min n (2 ^ 64)) (omega arith) ∙ sym (many_times size n more)
]
