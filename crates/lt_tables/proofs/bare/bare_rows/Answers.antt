use Rattle.std.proofs.Common.{take, sym, subst}
use Rattle.lt_tree.specs.Typing.Types.{Void}
use Rattle.lt_tree.specs.Typing.TypeRows.{types_of_rows}
use Rattle.lt_table.proofs.TableMade.{grows_through}
use Rattle.lt_tables.specs.BareTypes.{AreBareOf}
use Rattle.lt_tables.proofs.BareRows.{row_more, all_grown, bare_grown}
use Rattle.lt_tables.proofs.bare.bare_rows.Goals as goal

pub loop-row-preserved : goal.loop-row-preserved
loop-row-preserved c =
    let front = types_of_rows (take c.loop-row.row-index c.args.rows.now) in
    record {
      grows = grows_through c.args.table.now c.loop-row.table c.bare_row.new.table c.loop-row.invariant.grows c.in_ok-it.ensures.grows;
      all = λ none.
          row_more c.bare_row.new.table c.args.rows.now c.loop-row.row-index c.row-item.result c.loop-row.bare.items c.push.new.self.items c.in_ok-it.it c.loop-row-test.true c.row-item.is
          (all_grown c.loop-row.table c.bare_row.new.table front c.loop-row.bare.items c.in_ok-it.ensures.grows (c.loop-row.invariant.all none))
          (c.in_ok-it.ensures.bare front (subst (AreBareOf c.loop-row.table front) (sym c.deref.ensures.value) (c.loop-row.invariant.all none)) (bare_grown c.args.table.now c.loop-row.table Void c.args.void c.loop-row.invariant.grows none))
          c.in_ok-push.ensures.items;
    }
