use Rattle.std.proofs.Common.{ap, ◌∙◌}
use Rattle.lt_model.specs.declared.run.End.TheVariants.{NoInput}
use Rattle.lt_merge.proofs.outcomes.without_input.Goals as goal

pub returns : goal.returns
returns c = ap NoInput (c.in_ok-name.ensures ∙ c.as_slice.ensures)
