use Rattle.lt_tree.proofs.UnitRows.{items_are}
use Rattle.lt_tree.proofs.makes.statement.compound.Goals as goal

pub returns : goal.returns
returns c = cc (items_are c.args.items)
