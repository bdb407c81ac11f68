use Rattle.std.proofs.Common.{◌≡◌, take, true}
use Rattle.std.specs.List.{list_all}
use Rattle.lt_entry.specs.Meeting.{needs_hold}
use Rattle.lt_input_values.proofs.needs.needs_hold.Given as goal

abbrev pub invariant-loop-need : goal.invariant-loop-need
invariant-loop-need l = list_all (needs_hold l.finder.spec.now l.finder.input.now) (take l.need-index l.need-items) ≡ true
