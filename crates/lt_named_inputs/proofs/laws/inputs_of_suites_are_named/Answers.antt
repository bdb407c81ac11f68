use Rattle.lt_named_inputs.proofs.NamedInputs.{inputs_of_suites_are_named}
use Rattle.lt_named_inputs.proofs.laws.inputs_of_suites_are_named.Goals as goal

pub returns : goal.returns
returns c = inputs_of_suites_are_named
