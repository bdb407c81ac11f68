-- Greatest common divisors.
use Rattle.std.proofs.Common.{arith, ◌≡◌, refl, ℕ, suc, zero, ◌%◌, ◌<◌, Bool, true, false, mod-lt, pos_of_ne-zero, List, [], ◌∷◌}
use Rattle.std.specs.Prelude.{◌==◌, unsigned_abs}
use Rattle.std.specs.Int.{◌∣◌, IsGcd}
use Rattle.std.proofs.lemmas.Bool.{eqb-true, eqb-false}
use Rattle.std.proofs.lemmas.Nat.Gcd.{IsGcd-from_zero, IsGcd-from_mod, dvd_trans, mod-eq-zero_of_dvd}
use Rattle.lt_lin.specs.Terms.{Term}
use Rattle.lt_elim.specs.Divisor.{gcd_by, gcd_of, content}

gcd_by_is : (fuel a b : ℕ) → b < fuel → IsGcd a b (gcd_by fuel a b)
gcd_by_is zero a b h = absurd (omega arith)
gcd_by_is (suc fuel) a b h = by_test (b == 0) refl (λ some. gcd_by_is fuel b (a % b) (omega (arith, mod-lt a some)))
  where
    by_test : (t : Bool) → (b == 0) ≡ t → (0 < b → IsGcd b (a % b) (gcd_by fuel b (a % b))) → IsGcd a b (elim t [ true ↦ a | false ↦ gcd_by fuel b (a % b) ])
    by_test true e next = IsGcd-from_zero a b (eqb-true b 0 e)
    by_test false e next =
        let some : 0 < b = pos_of_ne-zero (eqb-false b 0 e) in
        IsGcd-from_mod a b (gcd_by fuel b (a % b)) (next some)

pub gcd_is : (a b : ℕ) → IsGcd a b (gcd_of a b)
unfolding gcd_of
gcd_is a b = gcd_by_is (suc b) a b (omega arith)

-- what divides a positive number is positive
pub divisor_positive : (g n : ℕ) → g ∣ n → 0 < n → 0 < g
divisor_positive zero n h k = absurd (let z : n % zero ≡ 0 = mod-eq-zero_of_dvd zero h in omega arith)
divisor_positive (suc g) n h k = omega arith

-- each factor is a multiple of d
abbrev pub Divides : ℕ → List Term → Type 0
Divides d [] = Unit {0}
Divides d (t ∷ ts) = (d ∣ unsigned_abs t.1) × Divides d ts

divides_all : (c d : ℕ) (ts : List Term) → c ∣ d → Divides d ts → Divides c ts
divides_all c d [] h k = tt
divides_all c d (t ∷ ts) h k = (dvd_trans c h k.0, divides_all c d ts h k.1)

pub content_divides : (ts : List Term) → Divides (content ts) ts
content_divides [] = tt
content_divides (t ∷ ts) =
    let g = gcd_is (unsigned_abs t.1) (content ts) in
    (g.0, divides_all (content (t ∷ ts)) (content ts) ts g.1 (content_divides ts))
