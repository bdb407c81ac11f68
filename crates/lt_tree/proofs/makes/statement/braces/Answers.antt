use Rattle.lt_tree.proofs.UnitRows.{initialisers_are}
use Rattle.lt_tree.proofs.makes.statement.braces.Goals as goal

pub returns : goal.returns
returns c = cc (initialisers_are c.args.parts)
