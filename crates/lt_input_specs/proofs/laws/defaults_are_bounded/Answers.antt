use Rattle.lt_input_specs.proofs.BoundLaws.{default_bounded}
use Rattle.lt_input_specs.proofs.laws.defaults_are_bounded.Goals as goal

pub returns : goal.returns
returns c = default_bounded
