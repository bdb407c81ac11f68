use Rattle.std.proofs.Common.{ℤ, pos, ◌-◌, Some, get_or, subst, SFits, rules, arith}
use Rattle.std.specs.Int.{w128}
use Rattle.std.specs.Ordering.{int_cmp}
use Rattle.std.specs.BTreeMap.{Updates}
use Rattle.std.proofs.lemmas.Int.{to_z-of_z}
use Rattle.lt_ir.specs.declared.node.Arm.{Arm}
use Rattle.lt_lower.proofs.Tables.{finds_none, finds_more, finds_all, at_most_one}
use Rattle.lt_lower.proofs.flow.labels.nodes_by_value.Goals as goal

pub arms-init : goal.arms-init
arms-init c = finds_none c.new-nodes.result c.args.arms.now _ (omega arith) c.new-nodes.ensures.empty

pub returns : goal.returns
returns c = finds_all c.arms.nodes c.args.arms.now c.arms.at (omega arith) c.arms.invariant

pub arms-preserved : goal.arms-preserved
arms-preserved c =
    let none : Arm = record { value = pos 0; next = 0 } in
    let arm = get_or c.args.arms.now (c.arms.at - 1) none in
    let fits : SFits w128 arm.value = search rules in
    let Puts : ℤ → Type 0 = λ key. Updates int_cmp c.arms.nodes c.insert.new.self key (Some arm.next) in
    finds_more c.arms.nodes c.insert.new.self c.args.arms.now c.arms.at none c.arms-test.true (omega (arith, c.arms.auto.at)) c.arms.invariant
    (subst Puts (to_z-of_z w128 arm.value fits) c.in_ok-insert.ensures.updates) (at_most_one _ _ _ c.in_ok-insert.ensures.len)
