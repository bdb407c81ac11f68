use Rattle.std.proofs.Common.{◌≡◌, take, true}
use Rattle.std.specs.List.{list_all}
use Rattle.lt_entry.specs.Meeting.{held, is_wanted}
use Rattle.lt_input_values.proofs.meeting.cells_hold_well.Given as goal

abbrev pub invariant-loop-cell : goal.invariant-loop-cell
invariant-loop-cell l = list_all (λ cell. is_wanted cell.want (held l.finder.input.now cell)) (take l.cell-index l.cell-items) ≡ true
