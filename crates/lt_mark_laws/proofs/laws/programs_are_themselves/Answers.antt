use Rattle.lt_mark_laws.proofs.Itself.{themselves}
use Rattle.lt_mark_laws.proofs.laws.programs_are_themselves.Goals as goal

pub returns : goal.returns
returns c = themselves
