use Rattle.lt_value.proofs.Relations.{other_refined}
use Rattle.lt_value.proofs.relation.different.Goals as goal

pub returns-clause-some : goal.returns-clause-some
returns-clause-some c = other_refined c.args.a.now c.args.b.now c.in_ok-left.left c.in_ok-right.right c.in_ok-left.ensures.some c.in_ok-right.ensures.some
