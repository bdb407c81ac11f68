use Rattle.std.proofs.Common.{◌≡◌, length, arith}
use Rattle.std.proofs.lemmas.Grind.{common_steps}
use Rattle.lt_placing.proofs.Gathering.{one_decided, all_decided}
use Rattle.lt_placing.proofs.place.inside_decisions.Goals as goal

pub decisions-preserved : goal.decisions-preserved
decisions-preserved c = one_decided _ _ _ _ _ _ c.in-Some.ensures.items c.in_ok-all.ensures c.decisions.invariant

pub returns : goal.returns
returns c =
    let none : length c.decisions.left.items ≡ 0 = grind (arith, common_steps, c.in_default.ensures.cases, c.decisions.left.ok.0) in
    all_decided c.decisions.left.items _ _ none c.decisions.invariant
