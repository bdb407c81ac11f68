use Rattle.std.specs.Int.{w128}
use Rattle.std.proofs.Math.Nat.{pos_of_ne-zero}
use Rattle.std.proofs.lemmas.Int.{to_z-of_z}
use Rattle.lt_value.proofs.Members.{lo_fits}
use Rattle.lt_value.proofs.Cuts.{if_some_as, if_none_as}
use Rattle.lt_value.proofs.Relations.{other_by_one, other_none, other_by_several}
use Rattle.lt_value.proofs.relation.other.Goals as goal

pub returns-then-b-eq0-clause-some : goal.returns-then-b-eq0-clause-some
returns-then-b-eq0-clause-some c =
    if_some_as _ _ (λ m. other_by_one c.args.a.now c.args.b.now m _ (to_z-of_z w128 _ (lo_fits c.args.b.now)) c.if-b-eq0.true) c.without.result c.without.ensures.some

pub returns-then-b-eq0-clause-none : goal.returns-then-b-eq0-clause-none
returns-then-b-eq0-clause-none c =
    if_none_as _ _ (other_none c.args.a.now c.args.b.now _ (to_z-of_z w128 _ (lo_fits c.args.b.now)) c.if-b-eq0.true) c.without.result c.without.ensures.none

pub returns-else-b-eq0-clause-some : goal.returns-else-b-eq0-clause-some
returns-else-b-eq0-clause-some c = other_by_several c.args.a.now c.args.b.now (pos_of_ne-zero c.if-b-eq0.false)
