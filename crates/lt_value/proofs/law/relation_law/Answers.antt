use Rattle.lt_value.proofs.Truths.{relates_is}
use Rattle.lt_value.proofs.law.relation_law.Goals as goal

pub returns : goal.returns
returns c = relates_is c.args.model c.args.op c.args.ty c.args.x c.args.y c.requires
