use Rattle.std.proofs.Common.{◌∙◌}
use Rattle.lt_input_values.proofs.Sets.{held_well}
use Rattle.lt_input_values.proofs.meeting.cell_holds_well.Goals as goal

pub returns : goal.returns
returns c = c.holds_well.ensures ∙ held_well c.args.cell.now c.args.finder.now.input.now _ c.last_set.ensures
