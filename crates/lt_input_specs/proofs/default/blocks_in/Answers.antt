use Rattle.lt_input_specs.proofs.Lists.{pick_step}
use Rattle.lt_input_specs.proofs.default.blocks_in.Goals as goal

pub loop-object-preserved : goal.loop-object-preserved
loop-object-preserved c =
    pick_step _ c.args.parameters.now c.loop-object.object-index c.object-item.result _ _ c.loop-object-test.true c.object-item.is c.loop-object.invariant c.in_ok-put_block.ensures
