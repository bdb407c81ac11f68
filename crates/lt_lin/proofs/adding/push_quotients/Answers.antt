use Rattle.std.proofs.Common.{arith, rules, sym, subst, ◌≡◌, ◌∙◌, refl, get_or, pos, ◌+◌, take, List, ℕ, ℤ}
use mir.Val.{SFits}
use mir.Syntax.{w128}
use Rattle.std.proofs.lemmas.Int.{to_z-of_z}
use Rattle.lt_lin.specs.Terms.{scaled}
use Rattle.lt_lin.proofs.Scaling.{scaled_at, scaled_more}
use Rattle.lt_lin.proofs.adding.push_quotients.Goals as goal

pub returns-in-None-clause-other : goal.returns-in-None-clause-other
returns-in-None-clause-other c = λ _ ts e.
    let fd = c.ranges.divisor in
    let fe : SFits w128 (get_or c.args.terms.now c.terms.x-index (0, pos 0)).1 = search rules in
    let n = simp to_z-of_z at (c.in-None.ensures {u = tt}) in
    let p = scaled_at c.args.divisor ts c.args.terms.now c.terms.x-index (0, pos 0) c.terms-test.true e in
    n p.0 p.1

pub terms-preserved : goal.terms-preserved
terms-preserved c =
    let fd = c.ranges.divisor in
    let fe : SFits w128 (get_or c.args.terms.now c.terms.x-index (0, pos 0)).1 = search rules in
    let fq : SFits w128 c.in-Some.q = search rules in
    let n = simp to_z-of_z at (c.in-Some.ensures {u = tt}) in
    let i = simp to_z-of_z at c.terms.invariant.items in
    let k = simp to_z-of_z at c.push_reserved.ensures.items in
    record {
      items = simp to_z-of_z (subst (λ (ts : List (ℕ × ℤ)). take (c.terms.x-index + 1) c.args.terms.now ≡ scaled c.args.divisor ts) (sym k) (scaled_more c.args.divisor c.args.terms.now c.terms.new.items c.terms.x-index _ _ c.in-Some.q (0, pos 0) c.terms-test.true i refl refl n));
      len = omega (arith, c.push_reserved.ensures.len, c.terms.invariant.len);
      capacity = c.push_reserved.ensures.capacity ∙ c.terms.invariant.capacity;
    }
