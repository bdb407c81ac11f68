use Rattle.std.proofs.Common.{◌≡◌, take, map}
use Rattle.lt_input_blocks.specs.Cells.{struct_cells_by}
use Rattle.lt_input_blocks.proofs.cells.next_cells.Given as goal

abbrev pub invariant-loop-it : goal.invariant-loop-it
invariant-loop-it l = l.next.items ≡ map (λ it. struct_cells_by l.facts l.cells it) (take l.it-index l.structs)
