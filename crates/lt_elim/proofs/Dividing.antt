-- What dividing a row by the greatest common divisor of its factors gives.
use Rattle.std.proofs.Common.{arith, ◌≡◌, refl, sym, ◌∙◌, ap, subst, ℕ, suc, zero, ℤ, pos, ◌+ℤ◌, ◌*ℤ◌, ◌≤ℤ◌, ◌<ℤ◌, ◌<◌, ◌≤◌, List}
use Rattle.std.specs.Prelude.{map}
use Rattle.std.specs.Int.{int_div_euclid}
use Rattle.std.proofs.lemmas.Int.{ints}
use Rattle.lt_lin.specs.declared.row.Row.{Row}
use Rattle.lt_lin.specs.Terms.{Term, scaled}
use Rattle.lt_elim.specs.Divisor.{content}
use Rattle.lt_elim.specs.Combination.{divided, normalised}
use Rattle.lt_lin.specs.Refutation.{IsQuotient}
use Rattle.lt_lin.proofs.Whole.{floor_low, floor_high}
use Rattle.lt_elim.proofs.Divisors.{Divides, content_divides}
use Rattle.lt_elim.proofs.Edges.{divided_one}
use Rattle.lt_elim.proofs.Refuting.{scaled_back}

small_divisor : (d : ℕ) (r : Row) → d ≤ 1 → divided d r ≡ r
small_divisor zero r h = refl
small_divisor (suc zero) r h = divided_one r
small_divisor (suc (suc d)) r h = absurd (omega arith)

pub undivided : (ts : List Term) (c : ℤ) (d : ℕ) → d ≡ content ts → d ≤ 1 → normalised (record { terms = ts; constant = c }) ≡ record { terms = ts; constant = c }
undivided ts c d e h = ap (λ (k : ℕ). divided k (record { terms = ts; constant = c })) (sym e) ∙ small_divisor d (record { terms = ts; constant = c }) h

-- the quotient by the divisor of all factors
pub quotient_by : (ts us : List Term) (c k d : ℤ) (n : ℕ) → n ≡ content ts → 1 < n → d ≡ pos n → us ≡ map (λ t. (t.0, int_div_euclid t.1 d)) ts → k ≡ int_div_euclid c d → IsQuotient (record { terms = ts; constant = c }) d (record { terms = us; constant = k })
quotient_by ts us c k d n e m f g h =
    subst (λ (z : ℤ). IsQuotient (record { terms = ts; constant = c }) z (record { terms = us; constant = k })) (sym f) (record {
      positive = omega (arith, ints);
      terms = scaled_back n ts (omega arith) (subst (λ (x : ℕ). Divides x ts) (sym e) (content_divides ts)) ∙ ap (scaled (pos n)) (sym (g ∙ ap (λ (z : ℤ). map (λ t. (t.0, int_div_euclid t.1 z)) ts) f));
      at_most = subst (λ (z : ℤ). (pos n *ℤ z) ≤ℤ c) (sym is) (floor_low c (pos n) (omega (arith, ints)));
      above = subst (λ (z : ℤ). c <ℤ (pos n *ℤ z +ℤ pos n)) (sym is) (floor_high c (pos n) (omega (arith, ints)));
    })
  where
    is : k ≡ int_div_euclid c (pos n)
    is = h ∙ ap (int_div_euclid c) f
