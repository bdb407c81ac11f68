use Rattle.std.specs.Int.{w128}
use Rattle.std.proofs.lemmas.Int.{to_z-of_z}
use Rattle.lt_value.proofs.Members.{lo_fits, hi_fits}
use Rattle.lt_value.proofs.MadeAnswers.{related_le, related_gt, related_ge, related_eq, related_ne}
use Rattle.lt_value.proofs.operators.truth.can_hold.Goals as goal

pub returns-in-Le : goal.returns-in-Le
returns-in-Le c = related_le c.args.op c.args.a.now c.args.b.now _ _ c.in-Le.is (to_z-of_z w128 _ (lo_fits c.args.a.now)) (to_z-of_z w128 _ (hi_fits c.args.b.now))

pub returns-in-Gt : goal.returns-in-Gt
returns-in-Gt c = related_gt c.args.op c.args.a.now c.args.b.now _ _ c.in-Gt.is (to_z-of_z w128 _ (lo_fits c.args.b.now)) (to_z-of_z w128 _ (hi_fits c.args.a.now))

pub returns-in-Ge : goal.returns-in-Ge
returns-in-Ge c = related_ge c.args.op c.args.a.now c.args.b.now _ _ c.in-Ge.is (to_z-of_z w128 _ (lo_fits c.args.b.now)) (to_z-of_z w128 _ (hi_fits c.args.a.now))

pub returns-in-Eq : goal.returns-in-Eq
returns-in-Eq c = related_eq c.args.op c.args.a.now c.args.b.now c.meets.result c.in-Eq.is c.meets.ensures

pub returns-in-Ne : goal.returns-in-Ne
returns-in-Ne c = related_ne c.args.op c.args.a.now c.args.b.now c.differ.result c.in-Ne.is c.differ.ensures
