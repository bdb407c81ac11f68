use Rattle.lt_tree.proofs.Rows.{enumerators_are}
use Rattle.lt_tree.proofs.makes.specifier.enum_with.Goals as goal

pub returns : goal.returns
returns c = cc (enumerators_are c.args.enumerators)
