use Rattle.std.proofs.Common.{◌≡◌, map, take}
use Rattle.std.specs.List.{flat_map}
use Rattle.lt_entry.specs.Naming.{targets_of}
use Rattle.lt_entry.specs.Views.{target_view}
use Rattle.lt_input_names.specs.Views.{scope_of, type_at}
use Rattle.lt_spec_reader.proofs.points.all_targets.Given as goal

abbrev pub invariant-loop-target : goal.invariant-loop-target
invariant-loop-target l = l.all.items ≡ flat_map (targets_of (scope_of l.names) (type_at l.names l.pointed)) (map target_view (take l.target-index l.targets))
