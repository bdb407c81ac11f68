use Rattle.std.proofs.Common.{rules}
use Rattle.std.proofs.lemmas.Int.{to_z-of_z}
use Rattle.std.specs.Int.{w128}
use mir.Val.{SFits}
use Rattle.lt_model.specs.Scalar.{IsValue}
use Rattle.lt_model.proofs.Ranges.{IsValue-wrapped, convert_of-other}
use Rattle.lt_model.proofs.conversion.convert.Goals as goal

pub returns-in_default : goal.returns-in_default
returns-in_default c =
    let fv = c.ranges.v in
    let f : SFits w128 c.wrap.result = search rules in
    let w = simp to_z-of_z at c.wrap.ensures in
    let e = convert_of-other c.args.model c.args.to c.args.v c.in_default.not-Bool in
    let fits : IsValue c.args.model c.args.to c.wrap.result = rw c.wrap.ensures (IsValue-wrapped _ _ _) in
    simp to_z-of_z (record { is = cc; fits = fits })
