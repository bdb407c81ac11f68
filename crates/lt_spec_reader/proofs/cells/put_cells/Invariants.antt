use Rattle.std.proofs.Common.{◌≡◌, ◌++◌, map, take}
use Rattle.std.specs.Prelude.{option_map}
use Rattle.lt_input_specs.specs.Defaults.{want_to}
use Rattle.lt_spec_reader.specs.Cells.{cell_in}
use Rattle.lt_spec_reader.proofs.cells.put_cells.Given as goal

abbrev pub invariant-loop-it : goal.invariant-loop-it
invariant-loop-it l = l.cells.items ≡ l.initial.cells.items ++ map (cell_in l.wants l.model l.name (want_to (option_map (λ b. b.now) l.block))) (take l.it-index l.shape)
