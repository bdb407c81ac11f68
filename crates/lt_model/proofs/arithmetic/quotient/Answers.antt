use Rattle.std.specs.Int.{w128}
use Rattle.std.proofs.lemmas.Int.{quot_is}
use Rattle.lt_model.proofs.Ranges.{quotient_fits}
use Rattle.lt_model.proofs.arithmetic.quotient.Goals as goal

pub returns : goal.returns
returns c = quot_is w128 c.args.a c.args.b c.ranges.a c.ranges.b (quotient_fits c.args.model c.args.ty c.args.a c.args.b c.requires.left)
