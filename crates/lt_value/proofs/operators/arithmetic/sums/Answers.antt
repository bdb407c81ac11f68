use Rattle.std.proofs.Common.{arith, ◌^◌}
use Rattle.lt_value.specs.Entry.{written}
use Rattle.lt_value.specs.Table.{sum_row}
use Rattle.lt_value.proofs.Members.{step_fits}
use Rattle.lt_value.proofs.Made.{made_some, made_none, gcd_below, sum_made, sum_code, lo_most, hi_least}
use Rattle.lt_value.proofs.operators.arithmetic.sums.Goals as goal

pub settle-requires-clause-step : goal.settle-requires-clause-step
settle-requires-clause-step c =
    let below = gcd_below _ _ _ (2 ^ 66) c.gcd.ensures (step_fits c.args.a.now) (step_fits c.args.b.now) in
    omega arith

pub returns-clause-some : goal.returns-clause-some
returns-clause-some c =
    let a = c.args.a.now in
    let b = c.args.b.now in
    made_some c.args.model c.args.ty (sum_row (written a) (written b)) _ _ c.gcd.result c.settle.result
    (sum_made a b _ _ _ (sum_code a.lo b.lo a.canonical.least (lo_most a) b.canonical.least (lo_most b)) (sum_code a.hi b.hi (hi_least a) a.canonical.greatest (hi_least b) b.canonical.greatest) c.gcd.ensures)
    c.settle.ensures.some

pub returns-clause-none : goal.returns-clause-none
returns-clause-none c =
    let a = c.args.a.now in
    let b = c.args.b.now in
    made_none c.args.model c.args.ty (sum_row (written a) (written b)) _ _ c.gcd.result c.settle.result
    (sum_made a b _ _ _ (sum_code a.lo b.lo a.canonical.least (lo_most a) b.canonical.least (lo_most b)) (sum_code a.hi b.hi (hi_least a) a.canonical.greatest (hi_least b) b.canonical.greatest) c.gcd.ensures)
    c.settle.ensures.none
