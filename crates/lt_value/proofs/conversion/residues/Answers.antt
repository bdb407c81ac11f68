use Rattle.std.specs.Int.{w128}
use Rattle.std.proofs.lemmas.Int.{to_z-of_z}
use Rattle.lt_value.proofs.Conversions.{some_residue}
use Rattle.lt_value.proofs.conversion.residues.Goals as goal

pub unreachable-requires : goal.unreachable-requires
unreachable-requires c = c.in-None.ensures.none _ (some_residue c.args.model c.args.ty c.args.step _)

pub returns : goal.returns
returns c = rw (to_z-of_z w128 c.args.rest c.ranges.rest) at c.in-Some.ensures.some
