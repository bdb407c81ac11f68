use Rattle.std.proofs.Common.{get_or}
use Rattle.lt_input_specs.proofs.Lists.{all_one, item_is}
use Rattle.lt_input_specs.proofs.entry.are_scalars.Goals as goal

pub loop-number-preserved : goal.loop-number-preserved
loop-number-preserved c =
    let numbers = c.args.numbers.now in
    all_one _ _ numbers c.loop-number.number-index (get_or numbers c.loop-number.number-index 0) c.loop-number.are c.is_scalar-are.result c.loop-number-test.true (item_is numbers c.loop-number.number-index 0 c.loop-number-test.true)
    c.loop-number.invariant c.is_scalar-are.ensures
