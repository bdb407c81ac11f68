use Rattle.std.proofs.Common.{sym, subst, ◌≡◌, ℕ, ◌%◌, arith}
use Rattle.std.specs.Int.{◌∣◌}
use Rattle.std.proofs.lemmas.Bool.Decides.{nat_tests}
use Rattle.std.proofs.Math.Nat.{dvd-zero, eq-zero_of_zero-dvd, mod-eq-zero_of_dvd, dvd_of_mod-eq-zero}
use Rattle.lt_value.proofs.modular.divides.Goals as goal

none_is : (step n : ℕ) → step ≡ 0 → step ∣ n → n ≡ 0
none_is step n e d = eq-zero_of_zero-dvd (subst (λ (k : ℕ). k ∣ n) e d)

is_none : (step n : ℕ) → n ≡ 0 → step ∣ n
is_none step n e = subst (λ (k : ℕ). step ∣ k) (sym e) (dvd-zero step)

pub returns-then-step-eq0 : goal.returns-then-step-eq0
returns-then-step-eq0 c =
    (λ t. is_none _ _ (grind (arith, nat_tests)), λ d. let e : c.args.n ≡ 0 = none_is _ _ c.if-step-eq0.true d in grind (arith, nat_tests))

pub returns-else-step-eq0 : goal.returns-else-step-eq0
returns-else-step-eq0 c =
    (λ t. dvd_of_mod-eq-zero _ (grind (arith, nat_tests)), λ d. let e : c.args.n % c.args.step ≡ 0 = mod-eq-zero_of_dvd _ d in grind (arith, nat_tests))
