use Rattle.std.proofs.Common.{◌≡◌, ◌++◌}
use Rattle.lt_tables.specs.Stretches.{cells_left}
use Rattle.lt_tables.specs.Views.{types_at, program_at}
use Rattle.lt_tables.proofs.tables.Tables.take_all.Given as goal

abbrev pub invariant-loop-step : goal.invariant-loop-step
invariant-loop-step l =
    l.cells.items ++ cells_left (program_at l.self) (types_at l.self) l.left.items ≡ l.initial.cells.items ++ cells_left (program_at l.self) (types_at l.self) l.fn.stretches.items
