use Rattle.lt_tree.proofs.Rows.{sizeof_is}
use Rattle.lt_tree.proofs.makes.expression.sizeof_type.Goals as goal

pub returns : goal.returns
returns c = sizeof_is c.in_ok-new.field-0 c.args.name c.in_ok-new.ensures.ok
