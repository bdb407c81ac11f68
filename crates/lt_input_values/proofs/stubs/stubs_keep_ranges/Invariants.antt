use Rattle.std.proofs.Common.{◌≡◌, take, true}
use Rattle.std.specs.List.{list_all}
use Rattle.lt_entry.specs.Meeting.{keeps_range}
use Rattle.lt_input_values.proofs.stubs.stubs_keep_ranges.Given as goal

abbrev pub invariant-loop-it : goal.invariant-loop-it
invariant-loop-it l = list_all (λ it. list_all (λ range. keeps_range range it) l.finder.spec.now.stubs) (take l.it-index l.it-items) ≡ true
