use Rattle.lt_decl.proofs.CompleteUnits.{units_are_one}
use Rattle.lt_decl.proofs.laws.at_most_one_unit.Goals as goal

pub returns : goal.returns
returns c = units_are_one
