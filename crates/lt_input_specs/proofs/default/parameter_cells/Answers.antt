use Rattle.std.proofs.Common.{[]}
use Rattle.lt_input_specs.proofs.Lists.{flat_more}
use Rattle.lt_input_specs.proofs.default.parameter_cells.Goals as goal

pub loop-object-preserved : goal.loop-object-preserved
loop-object-preserved c =
    flat_more _ c.args.parameters.now c.loop-object.object-index c.object-item.result [] _ _ c.loop-object-test.true c.object-item.is c.loop-object.invariant c.in_ok-put_parameter.ensures
