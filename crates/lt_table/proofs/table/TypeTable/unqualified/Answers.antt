use Rattle.std.proofs.Common.{subst}
use Rattle.lt_tree.specs.Typing.TypeRows.{types_of_rows}
use Rattle.lt_table.specs.TableRows.{CanFollow}
use Rattle.lt_table.proofs.TableMade.{within_rows}
use Rattle.lt_table.proofs.table.TypeTable.unqualified.Goals as goal

pub returns-in-Qualified-clause-within : goal.returns-in-Qualified-clause-within
returns-in-Qualified-clause-within c =
    within_rows c.args.self.now c.in-Qualified.u (subst (CanFollow (types_of_rows c.args.self.now)) c.in-Qualified.is c.in_ok-u.ensures.is.follows).0
