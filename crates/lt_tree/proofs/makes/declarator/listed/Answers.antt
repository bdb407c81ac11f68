use Rattle.lt_tree.proofs.Rows.{parameters_are}
use Rattle.lt_tree.proofs.makes.declarator.listed.Goals as goal

pub returns : goal.returns
returns c = cc (parameters_are c.args.list)
