use Rattle.std.proofs.Common.{sym}
use Rattle.lt_table.proofs.types.Types.member_of.Goals as goal

pub returns : goal.returns
returns c = rw (sym c.self.view_is) (c.member_of.ensures c.self.inside.table c.self.invariant.0)
