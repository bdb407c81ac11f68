use Rattle.std.proofs.Common.{refl}
use Rattle.lt_address.proofs.Parts.{false_by_number}
use Rattle.lt_address.proofs.truth.can_be_false.Goals as goal

pub returns-in-Some : goal.returns-in-Some
returns-in-Some c = false_by_number c.args.value.now c.in-Some.n c.is_member.result _ refl c.in-Some.is c.if-value.false c.is_member.ensures
