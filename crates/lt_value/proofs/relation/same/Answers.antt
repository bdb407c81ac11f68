use Rattle.lt_value.proofs.Relations.{same_refined}
use Rattle.lt_value.proofs.relation.same.Goals as goal

pub returns-clause-some : goal.returns-clause-some
returns-clause-some c = same_refined c.args.a.now c.args.b.now c.in_ok-common.common c.in_ok-common.ensures.some
