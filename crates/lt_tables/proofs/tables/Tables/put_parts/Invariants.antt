use Rattle.std.proofs.Common.{◌≡◌, map, drop}
use Rattle.lt_tree.specs.Typing.StatementView.{start_part_of}
use Rattle.lt_meaning.specs.Runs.{all_parts_in}
use Rattle.lt_tables.specs.Filling.{AreOffsets}
use Rattle.lt_tables.specs.Views.{types_at, program_at}
use Rattle.lt_tables.proofs.tables.Tables.put_parts.Given as goal

abbrev pub invariant-loop-part : goal.invariant-loop-part
invariant-loop-part l = record {
  cells : all_parts_in (program_at l.self) (map (start_part_of (types_at l.self)) (drop l.part-index l.parts)) l.cells
      ≡ all_parts_in (program_at l.self) (map (start_part_of (types_at l.self)) l.parts) l.initial.cells;
  places : AreOffsets l.places l.cells;
}
