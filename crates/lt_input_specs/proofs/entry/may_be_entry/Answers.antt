use Rattle.std.proofs.Common.{ap, ◌∙◌}
use Rattle.std.specs.List.{list_all}
use Rattle.lt_tree.specs.Typing.Types.{is_scalar}
use Rattle.lt_entry.specs.Naming.{Root}
use Rattle.lt_input_specs.proofs.entry.may_be_entry.Goals as goal

pub returns : goal.returns
returns c = c.are_scalars.ensures ∙ ap (list_all (λ (parameter : Root). is_scalar parameter.type)) c.numbers_of.ensures
