use Rattle.lt_cover.proofs.Loops.{more_pushed, all_pushed}
use Rattle.lt_merge.proofs.union.add_names.Goals as goal

pub loop-name-preserved : goal.loop-name-preserved
loop-name-preserved c = more_pushed _ _ _ _ _ _ c.loop-name-test.true c.name-item.is c.loop-name.invariant c.in_ok-add_name.ensures

pub returns : goal.returns
returns c = all_pushed _ _ _ _ c.loop-name-test.false c.loop-name.invariant
