use Rattle.std.specs.Int.{w128}
use Rattle.std.proofs.lemmas.Int.{to_z-of_z}
use Rattle.lt_value.proofs.Cuts.{if_some_as, if_none_as, met_up_to, unmet_up_to}
use Rattle.lt_value.proofs.Members.{lo_fits}
use Rattle.lt_value.proofs.cut.up_to.Goals as goal

pub returns-else-n-limit-clause-some : goal.returns-else-n-limit-clause-some
returns-else-n-limit-clause-some c =
    if_some_as _ _ (λ m. met_up_to c.args.n.now c.between.result m _ _ c.args.limit (to_z-of_z w128 _ (lo_fits c.args.n.now)) (to_z-of_z w128 _ c.ranges.limit) c.between.ensures) c.meet.result c.meet.ensures.some

pub returns-else-n-limit-clause-none : goal.returns-else-n-limit-clause-none
returns-else-n-limit-clause-none c =
    if_none_as _ _ (unmet_up_to c.args.n.now c.between.result _ _ c.args.limit (to_z-of_z w128 _ (lo_fits c.args.n.now)) (to_z-of_z w128 _ c.ranges.limit) c.between.ensures) c.meet.result c.meet.ensures.none
