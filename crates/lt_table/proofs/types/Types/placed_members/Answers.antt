use Rattle.std.proofs.Common.{sym}
use Rattle.lt_table.proofs.StructMembers.{each_ok}
use Rattle.lt_table.proofs.types.Types.placed_members.Goals as goal

pub returns : goal.returns
returns c = rw (sym c.self.view_is) (each_ok c.placed_members.result c.placed_members.ensures (λ them f. f c.self.inside.table c.self.invariant.0 c.self.invariant.1))
