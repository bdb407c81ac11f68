use Rattle.std.proofs.Common.{sym, subst, ℕ, ◌<◌, ◌≤◌, ◌/◌}
use Rattle.lt_elim.proofs.Reckoning.{divisor_some, divisor_bound, part_some, other_some}
use Rattle.lt_elim.proofs.arithmetic.common_divisor.Goals as goal

pub returns-clause-positive : goal.returns-clause-positive
returns-clause-positive c = subst (λ (g : ℕ). 0 < g) (sym c.gcd.ensures) (divisor_some c.args.a c.args.b c.requires)

pub returns-clause-bound : goal.returns-clause-bound
returns-clause-bound c = subst (λ (g : ℕ). g ≤ c.args.b) (sym c.gcd.ensures) (divisor_bound c.args.a c.args.b c.requires)

pub returns-clause-part : goal.returns-clause-part
returns-clause-part c = subst (λ (g : ℕ). 0 < c.args.b / g) (sym c.gcd.ensures) (part_some c.args.a c.args.b c.requires)

pub returns-clause-other : goal.returns-clause-other
returns-clause-other c = λ h. subst (λ (g : ℕ). 0 < c.args.a / g) (sym c.gcd.ensures) (other_some c.args.a c.args.b h)
