use Rattle.std.proofs.Common.{◌≡◌, ◌==◌, length, drop}
use Rattle.std.specs.List.{slice_split}
use Rattle.lt_command.specs.Plan.{criteria_of, with_names}
use Rattle.lt_command.proofs.criteria.criteria_of.Given as goal

abbrev pub invariant-loop-name : goal.invariant-loop-name
invariant-loop-name l = with_names l.set.0 (drop (length l.yielded) (slice_split (λ b. b == 44) l.list)) ≡ criteria_of l.list
