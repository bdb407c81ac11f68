use Rattle.std.proofs.Common.{map, ap, ◌∙◌}
use Rattle.std.specs.Ordering.{nat_cmp}
use Rattle.std.specs.BTreeMap.{get}
use Rattle.lt_tree.specs.Typing.StatementView.{start_part_of}
use Rattle.lt_meaning.specs.Runs.{all_parts_in}
use Rattle.lt_tables.specs.Views.{types_at, program_at}
use Rattle.lt_tables.proofs.FilledCells.{offsets_stay, part_stays, offsets}
use Rattle.lt_tables.proofs.StaticRows.{part_more}
use Rattle.lt_tables.proofs.tables.Tables.put_parts.Goals as goal

pub loop-part-preserved : goal.loop-part-preserved
loop-part-preserved c =
    let program = program_at c.args.self.now in
    let types = types_at c.args.self.now in
    let before = c.loop-part.invariant in
    record {
      cells = part_more program types c.args.parts.now c.loop-part.part-index c.part-item.result c.loop-part.cells c.put_part.new.cells
          (all_parts_in program (map (start_part_of types) c.args.parts.now) c.args.cells.now) c.loop-part-test.true c.part-item.is c.put_part.ensures before.cells;
      places = offsets_stay (get nat_cmp c.args.places.now) c.loop-part.cells c.put_part.new.cells
          (ap offsets c.put_part.ensures ∙ part_stays program (start_part_of types c.part-item.result) c.loop-part.cells) before.places;
    }
