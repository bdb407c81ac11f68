use Rattle.lt_tree.proofs.Rows.{members_are}
use Rattle.lt_tree.proofs.makes.specifier.struct_with.Goals as goal

pub returns : goal.returns
returns c = cc (members_are c.args.members)
