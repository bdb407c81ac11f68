use Rattle.std.proofs.Common.{◌≡◌, ◌++◌}
use Rattle.std.specs.Prelude.{flat_map, option_to_list}
use Rattle.lt_spec_reader.specs.Objects.{cell_by}
use Rattle.lt_spec_reader.proofs.objects.Lookups.put_cells.Given as goal

abbrev pub invariant-cell : goal.invariant-cell
invariant-cell l = l.cells.items ≡ l.initial.cells.items ++ flat_map (λ p. option_to_list (cell_by l.self l.name p.0.now p.1.now)) l.yielded
