use Rattle.lt_value.proofs.Entries.{IsGcd-gcd_of}
use Rattle.lt_value.proofs.law.common_divisor_law.Goals as goal

pub returns : goal.returns
returns c = IsGcd-gcd_of c.args.a c.args.b
