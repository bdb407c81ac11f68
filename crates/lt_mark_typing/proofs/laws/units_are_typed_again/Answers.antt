use Rattle.lt_mark_typing.proofs.Units.{units_again}
use Rattle.lt_mark_typing.proofs.laws.units_are_typed_again.Goals as goal

pub returns : goal.returns
returns c = units_again
