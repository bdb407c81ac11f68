-- Two integers leave the same rest by s exactly where s divides how far they are apart.
use Rattle.std.proofs.Common.{arith, ◌≡◌, refl, sym, ◌∙◌, ap, subst, ℕ, ℤ, pos, ◌+ℤ◌, ◌-ℤ◌, ◌+◌, ◌-◌, ◌*◌, ◌/◌, ◌%◌, ◌<◌, ◌≤◌}
use Rattle.std.specs.Int.{◌∣◌, int_rem_euclid}
use Rattle.std.proofs.lemmas.Int.{ints, int_rem_euclid_is}
use Rattle.std.proofs.Math.Nat.{dvd-sub, dvd-mul_left, div-add-mod', add-mul-mod_self_right, mul-le-mul_left, div-mul_cancel}
use borrow.Author.Differences.{up, down}

-- on naturals
pub dvd_from_same : (s m g : ℕ) → m % s ≡ (m + g) % s → s ∣ g
dvd_from_same s m g e =
    let p : m / s * s + m % s ≡ m = div-add-mod' m s in
    let q : (m + g) / s * s + (m + g) % s ≡ m + g = div-add-mod' (m + g) s in
    let d : s ∣ (m + g) / s * s - m / s * s = dvd-sub s (dvd-mul_left s ((m + g) / s)) (dvd-mul_left s (m / s)) in
    let is : (m + g) / s * s - m / s * s ≡ g = omega arith in
    subst (λ (n : ℕ). s ∣ n) is d

pub same_from_dvd : (s m g : ℕ) → s ∣ g → m % s ≡ (m + g) % s
same_from_dvd s m g d =
    let e : g / s * s ≡ g = div-mul_cancel s d in
    sym (add-mul-mod_self_right m (g / s) s) ∙ ap (λ x. (m + x) % s) e

-- x, moved up by a multiple of s to a natural
moved : (s k : ℕ) (x : ℤ) → 0 < s → down x ≤ k → x +ℤ pos (k * s) ≡ pos (up x + k * s - down x)
moved s k x some h =
    let more : k * 1 ≤ k * s = mul-le-mul_left k some in
    omega (arith, ints)

rest_of : (s k : ℕ) (x : ℤ) → 0 < s → down x ≤ k → int_rem_euclid x (pos s) ≡ pos ((up x + k * s - down x) % s)
rest_of s k x some h = int_rem_euclid_is x (pos s) s k (up x + k * s - down x) some refl (moved s k x some h)

apart : (s k g : ℕ) (x y : ℤ) → 0 < s → down x ≤ k → pos g ≡ y -ℤ x → up y + k * s - down y ≡ (up x + k * s - down x) + g
apart s k g x y some h e =
    let more : k * 1 ≤ k * s = mul-le-mul_left k some in
    omega (arith, ints)

pub dvd_from_rests : (s g : ℕ) (x y : ℤ) → 0 < s → pos g ≡ y -ℤ x → int_rem_euclid x (pos s) ≡ int_rem_euclid y (pos s) → s ∣ g
dvd_from_rests s g x y some e same =
    let k : ℕ = down x + down y in
    let n : ℕ = up x + k * s - down x in
    let is : up y + k * s - down y ≡ n + g = apart s k g x y some (omega arith) e in
    let p : pos (n % s) ≡ pos ((up y + k * s - down y) % s) = sym (rest_of s k x some (omega arith)) ∙ same ∙ rest_of s k y some (omega arith) in
    dvd_from_same s n g (ap up p ∙ ap (λ (a : ℕ). a % s) is)

pub rests_from_dvd : (s g : ℕ) (x y : ℤ) → 0 < s → pos g ≡ y -ℤ x → s ∣ g → int_rem_euclid x (pos s) ≡ int_rem_euclid y (pos s)
rests_from_dvd s g x y some e d =
    let k : ℕ = down x + down y in
    let n : ℕ = up x + k * s - down x in
    let is : up y + k * s - down y ≡ n + g = apart s k g x y some (omega arith) e in
    let p : n % s ≡ (up y + k * s - down y) % s = same_from_dvd s n g d ∙ ap (λ (a : ℕ). a % s) (sym is) in
    rest_of s k x some (omega arith) ∙ ap pos p ∙ sym (rest_of s k y some (omega arith))
