use Rattle.lt_input_specs.proofs.BoundLaws.{text_bounded}
use Rattle.lt_input_specs.proofs.laws.specifications_are_bounded.Goals as goal

pub returns : goal.returns
returns c = text_bounded
