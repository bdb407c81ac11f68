use Rattle.std.specs.Int.{w128}
use Rattle.std.proofs.lemmas.Int.{to_z-of_z}
use Rattle.lt_value.proofs.Relations.{more_refined}
use Rattle.lt_value.proofs.relation.more.Goals as goal

pub returns-clause-some : goal.returns-clause-some
returns-clause-some c = more_refined c.args.a.now c.args.b.now c.in_ok-right.left c.in_ok-right.right c.args.gap _ (to_z-of_z w128 _ c.ranges.gap) c.in_ok-right.ensures.some
