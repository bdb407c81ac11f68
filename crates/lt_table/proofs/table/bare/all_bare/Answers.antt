use Rattle.lt_table.proofs.TableBare.{bare_of-more}
use Rattle.lt_table.proofs.table.bare.all_bare.Goals as goal

pub loop-t-preserved : goal.loop-t-preserved
loop-t-preserved c =
    bare_of-more c.args.ids.now c.args.types.now c.loop-t.all.items c.push.new.self.items c.loop-t.t-index _ c.in_ok-id.id c.loop-t.invariant c.loop-t-test.true c.in_ok-id.ensures c.in_ok-push.ensures.items
