use Rattle.std.proofs.Common.{sym, ◌∙◌}
use Rattle.std.specs.Int.{w128}
use Rattle.std.proofs.lemmas.Int.{to_z-of_z}
use Rattle.lt_value.proofs.Members.{lo_fits}
use Rattle.lt_value.proofs.Conversions.{reduced_as}
use Rattle.lt_value.proofs.conversion.convert.Goals as goal

pub returns-in-Bool : goal.returns-in-Bool
returns-in-Bool c = rw c.in-Bool.is c.truths.ensures

pub returns-else-fits : goal.returns-else-fits
returns-else-fits c =
    let n = c.args.n.now in
    reduced_as c.args.model c.args.to n c.residues.result _ c.in_default.not-Bool (sym c.fits.ensures ∙ c.if-fits.false) (to_z-of_z w128 n.lo (lo_fits n)) c.residues.ensures
