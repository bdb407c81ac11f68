use Rattle.std.proofs.Common.{◌≡◌, take, true}
use Rattle.std.specs.List.{list_all}
use Rattle.lt_entry.specs.Meeting.{sets_free_cell}
use Rattle.lt_input_values.proofs.meeting.sets_free_cells.Given as goal

abbrev pub invariant-loop-it : goal.invariant-loop-it
invariant-loop-it l = list_all (sets_free_cell l.finder.spec.now) (take l.it-index l.it-items) ≡ true
