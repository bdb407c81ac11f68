use Rattle.std.proofs.lemmas.Nat.Gcd.{IsGcd-from_zero, IsGcd-from_mod, same_from_IsGcd}
use Rattle.lt_elim.specs.Divisor.{gcd_of}
use Rattle.lt_elim.proofs.Divisors.{gcd_is}
use Rattle.lt_elim.proofs.divisor.gcd.Goals as goal

pub steps-preserved : goal.steps-preserved
steps-preserved c = λ g h. c.steps.invariant g (IsGcd-from_mod c.steps.x c.steps.y g h)

pub returns : goal.returns
returns c = same_from_IsGcd c.args.a c.args.b c.steps.x (gcd_of c.args.a c.args.b) (c.steps.invariant c.steps.x (IsGcd-from_zero c.steps.x c.steps.y c.steps-test.false)) (gcd_is c.args.a c.args.b)
