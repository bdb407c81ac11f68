use Rattle.std.proofs.Common.{get_or}
use Rattle.lt_input_specs.proofs.Lists.{pick_one, item_is}
use Rattle.lt_input_specs.proofs.parameters.objects_at.Goals as goal

pub loop-number-preserved : goal.loop-number-preserved
loop-number-preserved c =
    let numbers = c.args.numbers.now in
    pick_one _ numbers c.loop-number.number-index (get_or numbers c.loop-number.number-index 0) _ _ c.loop-number-test.true (item_is numbers c.loop-number.number-index 0 c.loop-number-test.true) c.loop-number.invariant
    c.in_ok-put_object.ensures
