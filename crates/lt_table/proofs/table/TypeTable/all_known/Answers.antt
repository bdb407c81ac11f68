use Rattle.lt_tree.specs.Typing.TypeRows.{types_of_rows}
use Rattle.lt_table.proofs.TableMade.{all_stand_more}
use Rattle.lt_table.proofs.table.TypeTable.all_known.Goals as goal

pub loop-t-preserved : goal.loop-t-preserved
loop-t-preserved c = all_stand_more (types_of_rows c.args.self.now) c.args.types.now c.loop-t.t-index _ c.loop-t.invariant c.in_ok-known.ensures
