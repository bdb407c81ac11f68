use Rattle.std.proofs.Common.{◌≡◌, map, drop}
use Rattle.std.specs.List.{flat_map}
use Rattle.lt_entry.specs.Naming.{parts_at}
use Rattle.lt_entry.specs.Views.{step_view}
use Rattle.lt_input_names.specs.Parts.{part_at, pieces_at}
use Rattle.lt_input_names.specs.Views.{program_at, type_at}
use Rattle.lt_input_names.proofs.names.Names.pieces.Given as goal

abbrev pub invariant-loop-step : goal.invariant-loop-step
invariant-loop-step l =
    flat_map (parts_at (program_at l.self) (map step_view (drop l.step-index l.steps))) (pieces_at l.self l.pieces) ≡ parts_at (program_at l.self) (map step_view l.steps) (part_at (type_at l.self l.fn.ty) 0)
