use Rattle.std.proofs.Common.{◌≡◌, ◌++◌, List, take}
use Rattle.std.specs.List.{flat_map}
use Rattle.lt_entry.specs.Naming.{Scope}
use Rattle.lt_entry.specs.SpecificationLines.{Line}
use Rattle.lt_spec_reader.specs.Said.{HasSaid}
use Rattle.lt_spec_reader.proofs.CellLaws.{block_cells}
use Rattle.lt_spec_reader.proofs.cells.put_block_cells.Given as goal

abbrev pub invariant-loop-block : goal.invariant-loop-block
invariant-loop-block l =
    (scope : Scope) (lines : List Line) → scope.program.model ≡ l.model → HasSaid scope lines l.wants → l.cells.items ≡ l.initial.cells.items ++ flat_map (block_cells scope lines) (take l.block-index l.blocks)
