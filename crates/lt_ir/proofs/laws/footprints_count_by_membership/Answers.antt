use Rattle.lt_ir.proofs.Membership.{by_membership}
use Rattle.lt_ir.proofs.laws.footprints_count_by_membership.Goals as goal

pub returns : goal.returns
returns c = by_membership
