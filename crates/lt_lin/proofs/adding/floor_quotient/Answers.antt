use Rattle.std.proofs.Common.{rules}
use mir.Val.{SFits}
use mir.Syntax.{w128}
use Rattle.std.proofs.lemmas.Int.{to_z-of_z}
use Rattle.lt_lin.proofs.Whole.{floor_low, floor_high}
use Rattle.lt_lin.proofs.adding.floor_quotient.Goals as goal

pub returns-clause-at_most : goal.returns-clause-at_most
returns-clause-at_most c =
    let fc = c.ranges.c in
    let fd = c.ranges.divisor in
    let fq : SFits w128 c.div_euclid.result = search rules in
    let d = simp to_z-of_z at c.div_euclid.ensures in
    simp to_z-of_z (rw d (floor_low c.args.c c.args.divisor c.requires))

pub returns-clause-above : goal.returns-clause-above
returns-clause-above c =
    let fc = c.ranges.c in
    let fd = c.ranges.divisor in
    let fq : SFits w128 c.div_euclid.result = search rules in
    let d = simp to_z-of_z at c.div_euclid.ensures in
    simp to_z-of_z (rw d (floor_high c.args.c c.args.divisor c.requires))
