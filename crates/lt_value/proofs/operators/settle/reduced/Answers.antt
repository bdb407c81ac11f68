use Rattle.std.proofs.Common.{◌^◌}
use Rattle.std.specs.Int.{IsGcd}
use Rattle.lt_model.specs.Scalar.{width_of}
use Rattle.std.specs.Int.{w128}
use mir.Val.{SFits}
use Rattle.std.proofs.lemmas.Int.{to_z-of_z}
use Rattle.lt_value.proofs.Cuts.{if_some_as, if_none_as}
use Rattle.lt_value.proofs.Operands.{least_code, greatest_code}
use Rattle.lt_value.proofs.Settling.{reduced_is, none_reduced}
use Rattle.lt_value.proofs.MadeSettled.{power_code, gcd_small}
use Rattle.lt_value.proofs.operators.settle.reduced.Goals as goal

common : (c : goal.After-greatest) → IsGcd c.args.step (2 ^ width_of c.args.model c.args.ty) c.gcd-common.result
common c = power_code c.args.model c.args.ty c.args.step c.width.result c.gcd-common.result c.width.ensures c.gcd-common.ensures

pub congruent-requires-clause-step : goal.congruent-requires-clause-step
congruent-requires-clause-step c = gcd_small c.args.model c.args.ty c.args.step c.gcd-common.result (common c)

pub returns-clause-some : goal.returns-clause-some
returns-clause-some c =
    let h : SFits w128 c.args.rest = c.ranges.rest in
    if_some_as _ _
    (λ n. reduced_is c.args.model c.args.ty n _ _ c.args.rest c.args.step c.gcd-common.result (least_code c.args.model c.args.ty c.least.result c.least.ensures) (greatest_code c.args.model c.args.ty c.greatest.result c.greatest.ensures) (power_code c.args.model c.args.ty c.args.step c.width.result c.gcd-common.result c.width.ensures c.gcd-common.ensures)) c.congruent.result
    (rw (to_z-of_z w128 c.args.rest h) at c.congruent.ensures.some)

pub returns-clause-none : goal.returns-clause-none
returns-clause-none c =
    let h : SFits w128 c.args.rest = c.ranges.rest in
    if_none_as _ _
    (none_reduced c.args.model c.args.ty _ _ c.args.rest c.args.step c.gcd-common.result (least_code c.args.model c.args.ty c.least.result c.least.ensures) (greatest_code c.args.model c.args.ty c.greatest.result c.greatest.ensures) (power_code c.args.model c.args.ty c.args.step c.width.result c.gcd-common.result c.width.ensures c.gcd-common.ensures)) c.congruent.result
    (rw (to_z-of_z w128 c.args.rest h) at c.congruent.ensures.none)
