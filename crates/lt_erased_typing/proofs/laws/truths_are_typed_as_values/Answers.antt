use Rattle.lt_erased_typing.proofs.Whole.{truths_as_values}
use Rattle.lt_erased_typing.proofs.laws.truths_are_typed_as_values.Goals as goal

pub returns : goal.returns
returns c = truths_as_values
