use Rattle.std.specs.Int.{w128}
use Rattle.std.proofs.lemmas.Int.{to_z-of_z}
use Rattle.lt_value.proofs.Cuts.{if_some_as, if_none_as, met_from, unmet_from}
use Rattle.lt_value.proofs.Members.{hi_fits}
use Rattle.lt_value.proofs.cut.from_on.Goals as goal

pub returns-else-limit-n-clause-some : goal.returns-else-limit-n-clause-some
returns-else-limit-n-clause-some c =
    if_some_as _ _ (λ m. met_from c.args.n.now c.between.result m _ _ c.args.limit (to_z-of_z w128 _ (hi_fits c.args.n.now)) (to_z-of_z w128 _ c.ranges.limit) c.between.ensures) c.meet.result c.meet.ensures.some

pub returns-else-limit-n-clause-none : goal.returns-else-limit-n-clause-none
returns-else-limit-n-clause-none c =
    if_none_as _ _ (unmet_from c.args.n.now c.between.result _ _ c.args.limit (to_z-of_z w128 _ (hi_fits c.args.n.now)) (to_z-of_z w128 _ c.ranges.limit) c.between.ensures) c.meet.result c.meet.ensures.none
