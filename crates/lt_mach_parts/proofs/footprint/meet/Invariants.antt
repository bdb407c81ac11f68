use Rattle.std.proofs.Common.{◌≡◌, drop}
use Rattle.std.specs.List.{list_any}
use Rattle.lt_model.specs.State.{same_cell}
use Rattle.lt_mach_parts.specs.Cells.{name_of}
use Rattle.lt_mach_parts.proofs.footprint.meet.Given as goal

abbrev pub invariant-loop-cell : goal.invariant-loop-cell
invariant-loop-cell l =
    list_any (λ cell. list_any (λ other. same_cell (name_of cell) (name_of other)) l.others) l.cells
    ≡ list_any (λ cell. list_any (λ other. same_cell (name_of cell) (name_of other)) l.others) (drop l.cell-index l.cells)
