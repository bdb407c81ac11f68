use Rattle.lt_value.proofs.Wholes.{relation_result}
use Rattle.lt_value.proofs.operators.operate.Goals as goal

pub returns-in-Lt-clause-some : goal.returns-in-Lt-clause-some
returns-in-Lt-clause-some c = relation_result c.args.model c.args.op c.args.ty c.args.a.now c.args.b.now c.answers.result c.in-Lt.is c.answers.ensures
