use Rattle.std.proofs.lemmas.Int.{to_z-of_z}
use Rattle.lt_model.proofs.Results.{value_of_fits}
use Rattle.lt_model.proofs.arithmetic.apply.Goals as goal

pub returns-clause-fits : goal.returns-clause-fits
returns-clause-fits c =
    let fa = c.ranges.a in
    let fb = c.ranges.b in
    value_of_fits c.args.model c.args.op c.args.ty c.args.a c.args.b _ (simp to_z-of_z at c.operated.ensures) c.requires.left
