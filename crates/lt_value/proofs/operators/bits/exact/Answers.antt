use Rattle.std.specs.Int.{w128}
use Rattle.std.proofs.lemmas.Int.{to_z-of_z}
use Rattle.lt_value.proofs.MadeBits.{exact_is, value_fits}
use Rattle.lt_value.proofs.operators.bits.exact.Goals as goal

pub returns-in-Ok-clause-some : goal.returns-in-Ok-clause-some
returns-in-Ok-clause-some c =
    let e = rw (to_z-of_z w128 c.args.x c.ranges.x, to_z-of_z w128 c.args.y c.ranges.y) at c.in-Ok.ensures.is in
    exact_is c.single.result c.in-Ok.z _ _ e (to_z-of_z w128 _ (value_fits c.args.model c.args.ty c.in-Ok.z c.in-Ok.ensures.fits)) c.single.ensures
