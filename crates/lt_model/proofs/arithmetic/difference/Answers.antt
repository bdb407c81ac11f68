use Rattle.std.proofs.Common.{◌-ℤ◌}
use Rattle.std.proofs.lemmas.Int.{to_z-of_z}
use Rattle.std.specs.Int.{w128}
use mir.Val.{SFits}
use Rattle.lt_model.proofs.Ranges.{difference_fits}
use Rattle.lt_model.proofs.arithmetic.difference.Goals as goal

pub returns : goal.returns
returns c =
    let fa = c.ranges.a in
    let fb = c.ranges.b in
    let f : SFits w128 (c.args.a -ℤ c.args.b) = difference_fits c.args.model c.args.ty c.args.a c.args.b c.requires.left c.requires.right in
    simp to_z-of_z at c.settled.ensures
