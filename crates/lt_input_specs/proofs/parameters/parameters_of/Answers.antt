use Rattle.std.proofs.Common.{◌∙◌}
use Rattle.lt_input_specs.proofs.Lists.{ok_map}
use Rattle.lt_input_specs.proofs.parameters.parameters_of.Goals as goal

pub returns : goal.returns
returns c = ok_map _ _ c.objects_at.result (λ objects h. h ∙ c.numbers_of.ensures) c.objects_at.ensures
