use Rattle.std.proofs.Common.{◌≡◌, true, map, take, length}
use Rattle.std.specs.Prelude.{not, ◌==◌}
use Rattle.std.specs.List.{list_all}
use Rattle.lt_entry.specs.Naming.{targets_of}
use Rattle.lt_entry.specs.Views.{target_view}
use Rattle.lt_input_names.specs.Views.{scope_of, type_at}
use Rattle.lt_spec_reader.proofs.points.are_targets.Given as goal

abbrev pub invariant-loop-target : goal.invariant-loop-target
invariant-loop-target l =
    list_all (λ target. not (length (targets_of (scope_of l.names) (type_at l.names l.pointed) target) == 0)) (map target_view (take l.target-index l.targets)) ≡ true
