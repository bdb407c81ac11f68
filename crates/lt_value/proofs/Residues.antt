-- Numbers that leave the same rest.
use Rattle.std.proofs.Common.{arith, ◌≡◌, sym, ◌∙◌, ap, ℕ, ◌+◌, ◌-◌, ◌*◌, ◌/◌, ◌%◌, ◌<◌, ◌≤◌}
use Rattle.std.proofs.Math.Nat.{mod-add-mod, add-mul-mod_self_right, mul_comm, mul_assoc, mul-add, mul-le-mul_left, div-add-mod', mod-lt, add_comm}
use Rattle.std.proofs.lemmas.Nat.{mul-mod_first, mul-mod_second}

pub same_add : (m x y k : ℕ) → x % m ≡ y % m → (x + k) % m ≡ (y + k) % m
same_add m x y k e = sym (mod-add-mod x m k) ∙ ap (λ a. (a + k) % m) e ∙ mod-add-mod y m k

pub same_mul : (m x y k : ℕ) → x % m ≡ y % m → (x * k) % m ≡ (y * k) % m
same_mul m x y k e = sym (mul-mod_first x k m) ∙ ap (λ a. (a * k) % m) e ∙ mul-mod_first y k m

-- what is added on both sides may go
pub same_cancel : (m x y k : ℕ) → 0 < m → (x + k) % m ≡ (y + k) % m → x % m ≡ y % m
same_cancel m x y k some e =
    let more : k * 1 ≤ k * m = mul-le-mul_left k some in
    let t : (x + k + (k * m - k)) % m ≡ (y + k + (k * m - k)) % m = same_add m (x + k) (y + k) (k * m - k) e in
    let p : x + k + (k * m - k) ≡ x + k * m = omega arith in
    let q : y + k + (k * m - k) ≡ y + k * m = omega arith in
    sym (add-mul-mod_self_right x k m) ∙ ap (λ a. a % m) (sym p) ∙ t ∙ ap (λ a. a % m) q ∙ add-mul-mod_self_right y k m

-- a product by two halves of a factor
pub halves : (x y m h : ℕ) → (x * (y / h) % m * h + x * (y % h)) % m ≡ (x * y) % m
halves x y m h =
    let e : y / h * h + y % h ≡ y = div-add-mod' y h in
    let p : (x * (y / h) % m * h + x * (y % h)) % m ≡ (x * (y / h) * h + x * (y % h)) % m =
    same_add m (x * (y / h) % m * h) (x * (y / h) * h) (x * (y % h)) (mul-mod_first (x * (y / h)) h m) in
    let q : x * (y / h) * h + x * (y % h) ≡ x * (y / h * h + y % h) = ap (λ a. a + x * (y % h)) (mul_assoc x (y / h) h) ∙ sym (mul-add x (y / h * h) (y % h)) in
    p ∙ ap (λ a. a % m) (q ∙ ap (λ a. x * a) e)

-- one step of the search for an inverse: x = q * y + r
pub inverse_step : (a m u v q x y r next : ℕ) → 0 < m → v < m → x ≡ q * y + r → (a * u) % m ≡ x % m → (a * v) % m ≡ y % m → next ≡ (u + m - (q * v) % m) % m → (a * next) % m ≡ r % m
inverse_step a m u v q x y r next some below is p s e =
    let w : ℕ = (q * v) % m in
    let small : w < m = mod-lt (q * v) some in
    let flat : u + m - w + w ≡ u + 1 * m = omega arith in
    let back : (next + w) % m ≡ u % m =
    ap (λ k. (k + w) % m) e ∙ mod-add-mod (u + m - w) m w ∙ ap (λ k. k % m) flat ∙ add-mul-mod_self_right u 1 m in
    let turned : a * (q * v) ≡ a * v * q = ap (λ k. a * k) (mul_comm q v) ∙ sym (mul_assoc a v q) in
    let taken : (a * w) % m ≡ (q * y) % m =
    mul-mod_second a (q * v) m ∙ ap (λ k. k % m) turned ∙ same_mul m (a * v) y q s ∙ ap (λ k. k % m) (mul_comm y q) in
    let whole : (a * next + a * w) % m ≡ x % m =
    ap (λ k. k % m) (sym (mul-add a next w) ∙ mul_comm a (next + w)) ∙ same_mul m (next + w) u a back ∙ ap (λ k. k % m) (mul_comm u a) ∙ p in
    let moved : (a * w + a * next) % m ≡ (q * y + a * next) % m = same_add m (a * w) (q * y) (a * next) taken in
    same_cancel m (a * next) r (q * y) some (ap (λ k. k % m) (add_comm (a * next) (q * y)) ∙ sym moved ∙ ap (λ k. k % m) (add_comm (a * w) (a * next)) ∙ whole ∙ ap (λ k. k % m) (is ∙ add_comm (q * y) r))
