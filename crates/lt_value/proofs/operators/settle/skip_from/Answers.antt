use Rattle.lt_value.proofs.MadeSettled.{skip_code}
use Rattle.lt_value.proofs.operators.settle.skip_from.Goals as goal

pub returns : goal.returns
returns c =
    let r = c.requires in
    let e = c.rem_euclid.ensures in
    skip_code c.args.lo c.args.rest c.rem_euclid.result c.args.step r.step r.step_below r.lo r.rest e.value e.lower_bound e.upper_bound
