use Rattle.std.proofs.Common.{◌≡◌, to_z-of_z}
use Rattle.lt_ir.specs.Evaluation.{is_integer}
use Rattle.lt_model.specs.declared.operator.Op.TheVariants.{Shl, Shr}
use Rattle.lt_acts.proofs.ShiftCounts.{counts}
use Rattle.lt_acts.proofs.computing.is_right_operand.Goals as goal

pub returns-in-Shl-clause-means : goal.returns-in-Shl-clause-means
returns-in-Shl-clause-means c =
    let f = c.ranges.z in
    let e : c.is_integer.result ≡ is_integer c.args.z = simp to_z-of_z at c.is_integer.ensures in
    rw c.in-Shl.is (counts c.args.model Shl c.args.ty c.args.z c.is_integer.result tt e)

pub returns-in-Shr-clause-means : goal.returns-in-Shr-clause-means
returns-in-Shr-clause-means c =
    let f = c.ranges.z in
    let e : c.is_integer-in-Shr.result ≡ is_integer c.args.z = simp to_z-of_z at c.is_integer-in-Shr.ensures in
    rw c.in-Shr.is (counts c.args.model Shr c.args.ty c.args.z c.is_integer-in-Shr.result tt e)
