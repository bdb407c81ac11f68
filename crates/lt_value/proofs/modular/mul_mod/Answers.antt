use Rattle.lt_value.proofs.Residues.{halves}
use Rattle.lt_value.proofs.modular.mul_mod.Goals as goal

pub returns-clause-value : goal.returns-clause-value
returns-clause-value c = halves c.args.x c.args.y c.args.m 0x2_0000_0000
