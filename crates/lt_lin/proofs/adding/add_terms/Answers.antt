use Rattle.std.proofs.Common.{arith, rules, ◌+◌}
use mir.Val.{SFits}
use mir.Syntax.{w128}
use Rattle.std.proofs.lemmas.Int.{to_z-of_z}
use Rattle.lt_lin.proofs.Merging.{turned, stopped, finished, shorter_after}
use Rattle.lt_lin.proofs.adding.add_terms.Goals as goal

pub returns-in-None-clause-unfit : goal.returns-in-None-clause-unfit
returns-in-None-clause-unfit c = λ _.
    let fb = c.ranges.by in
    let fo : SFits w128 c.split_factor-old.result.0 = search rules in
    let ff : SFits w128 c.split_factor-factor.result.0 = search rules in
    let p = simp to_z-of_z at c.terms.invariant.merging in
    stopped _ _ _ _ _ _ p.0 _ _ _ p.1 c.in-Some.ensures c.split_factor-old.ensures.factor c.split_factor-factor.ensures.factor (simp to_z-of_z at c.in-None.ensures)

pub terms-preserved : goal.terms-preserved
terms-preserved c =
    let fb = c.ranges.by in
    let fo : SFits w128 c.split_factor-old.result.0 = search rules in
    let ff : SFits w128 c.split_factor-factor.result.0 = search rules in
    let fc : SFits w128 c.in-Some-add_product.c = search rules in
    let p = simp to_z-of_z at c.terms.invariant.merging in
    let less = shorter_after _ _ _ _ _ _ p.0 _ _ _ p.1 c.in-Some.ensures c.split_factor-old.ensures.rest c.split_factor-factor.ensures.rest in
    record {
      merging = (c.in-Some.x + 1, simp to_z-of_z (turned _ _ _ _ _ _ p.0 _ _ _ _ _ _ _ p.1 c.in-Some.ensures c.split_factor-old.ensures.factor c.split_factor-factor.ensures.factor c.split_factor-old.ensures.rest c.split_factor-factor.ensures.rest (simp to_z-of_z at c.in-Some-add_product.ensures) (simp to_z-of_z at c.push_factor.ensures.items)));
      room = omega (arith, c.push_factor.ensures.len, c.terms.invariant.room, less);
      capacity = omega (arith, c.push_factor.ensures.capacity, c.terms.invariant.capacity);
    }

pub returns-clause-added : goal.returns-clause-added
returns-clause-added c = λ _.
    let fb = c.ranges.by in
    let p = simp to_z-of_z at c.terms.invariant.merging in
    finished _ _ _ _ _ _ p.0 p.1 c.in_default.ensures
