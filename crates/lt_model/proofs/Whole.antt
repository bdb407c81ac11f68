-- The ring of the whole numbers, and its order.
use Rattle.std.proofs.Common.{arith, ◌≡◌, refl, sym, ◌∙◌, ap, ℕ, ℤ, pos, negsuc, ◌+ℤ◌, ◌-ℤ◌, ◌*ℤ◌, ◌≤ℤ◌, ◌<ℤ◌, ◌+◌, ◌-◌, ◌*◌, ◌<◌, ◌≤◌}
use Rattle.std.specs.Prelude.{neg_ℤ, unsigned_abs}
use Rattle.std.proofs.lemmas.Int.{ints}
use borrow.Author.Differences.{up, down, same_in, neg_is, product_is, sum_is_lem, at_most_in, le_out}

up_product : (a b : ℤ) → up (a *ℤ b) ≡ up a * up b + down a * down b
up_product a b = (product_is a b).0

down_product : (a b : ℤ) → down (a *ℤ b) ≡ up a * down b + down a * up b
down_product a b = (product_is a b).1

pub mul_assoc_ℤ : (a b c : ℤ) → a *ℤ b *ℤ c ≡ a *ℤ (b *ℤ c)
mul_assoc_ℤ a b c = same_in (a *ℤ b *ℤ c) (a *ℤ (b *ℤ c)) (simp (up_product, down_product) (omega arith))

pub mul-add_ℤ : (a b c : ℤ) → a *ℤ (b +ℤ c) ≡ a *ℤ b +ℤ a *ℤ c
mul-add_ℤ a b c = same_in (a *ℤ (b +ℤ c)) (a *ℤ b +ℤ a *ℤ c)
    (omega (arith, sum_is_lem (a *ℤ b) (a *ℤ c), product_is a (b +ℤ c), product_is a b, product_is a c, ap (λ k. up a * k) (sum_is_lem b c), ap (λ k. down a * k) (sum_is_lem b c)))

pub add-mul_ℤ : (a b c : ℤ) → (a +ℤ b) *ℤ c ≡ a *ℤ c +ℤ b *ℤ c
add-mul_ℤ a b c = same_in ((a +ℤ b) *ℤ c) (a *ℤ c +ℤ b *ℤ c)
    (omega (arith, sum_is_lem (a *ℤ c) (b *ℤ c), product_is (a +ℤ b) c, product_is a c, product_is b c, ap (λ k. k * up c) (sum_is_lem a b), ap (λ k. k * down c) (sum_is_lem a b)))

pub mul-≤ℤ : (a b c : ℤ) → pos 0 ≤ℤ c → a ≤ℤ b → (c *ℤ a) ≤ℤ (c *ℤ b)
mul-≤ℤ a b c h k =
    let p : down c ≤ up c = omega (arith, ints) in
    let q : up a + down b ≤ up b + down a = le_out a b k in
    at_most_in (c *ℤ a) (c *ℤ b) (simp (up_product, down_product) (ordered (up a) (down a) (up b) (down b) (up c) (down c) p q))
  where
    ordered : (ua da ub db uc dc : ℕ) → dc ≤ uc → ua + db ≤ ub + da → (uc * ua + dc * da) + (uc * db + dc * ub) ≤ (uc * ub + dc * db) + (uc * da + dc * ua)
    ordered ua da ub db uc dc p q =
        let x : ℕ = uc - dc in
        let y : ℕ = (ub + da) - (ua + db) in
        let e : uc ≡ dc + x = omega arith in
        let f : ub + da ≡ ua + db + y = omega arith in
        grind (arith, ap (λ k. uc * k) f, ap (λ k. dc * k) f, ap (λ k. k * y) e)

pub neg-mul_ℤ : (a b : ℤ) → neg_ℤ a *ℤ b ≡ neg_ℤ (a *ℤ b)
neg-mul_ℤ a b = same_in (neg_ℤ a *ℤ b) (neg_ℤ (a *ℤ b)) (simp (up_product, down_product, up_neg, down_neg) (omega arith))
  where
    up_neg : (z : ℤ) → up (neg_ℤ z) ≡ down z
    up_neg z = (neg_is z).0

    down_neg : (z : ℤ) → down (neg_ℤ z) ≡ up z
    down_neg z = (neg_is z).1

-- ---- sizes
pub abs_up : (z : ℤ) → pos 0 ≤ℤ z → pos (unsigned_abs z) ≡ z
abs_up (pos n) h = refl
abs_up (negsuc n) h = absurd (omega (arith, ints))

pub abs_down : (z : ℤ) → z ≤ℤ pos 0 → pos (unsigned_abs z) ≡ neg_ℤ z
abs_down (pos n) h = omega (arith, ints)
abs_down (negsuc n) h = omega (arith, ints)
