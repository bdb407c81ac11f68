use Rattle.lt_tree.proofs.UnitRows.{cases_are}
use Rattle.lt_tree.proofs.makes.statement.switch.Goals as goal

pub returns : goal.returns
returns c = cc (cases_are c.args.cases)
