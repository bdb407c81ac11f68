use Rattle.std.proofs.Common.{arith, rules, subst, get_or, pos, take_all}
use Rattle.std.specs.Prelude.{All, neg_ℤ}
use mir.Val.{SFits}
use mir.Syntax.{w128}
use Rattle.std.proofs.lemmas.Int.{ints}
use Rattle.lt_lin.specs.Terms.{Fits}
use Rattle.lt_lin.proofs.Scaling.{All-more}
use Rattle.lt_lin.proofs.derive.can_negate.Goals as goal

pub terms-preserved : goal.terms-preserved
terms-preserved c =
    let fe : SFits w128 (get_or c.args.terms.now c.terms.c-index (0, pos 0)).1 = search rules in
    let f : Fits (neg_ℤ (get_or c.args.terms.now c.terms.c-index (0, pos 0)).1) = (omega (arith, ints, c.if-c.false), omega (arith, ints, c.if-c.false)) in
    All-more (λ t. Fits (neg_ℤ t.1)) c.args.terms.now c.terms.c-index (0, pos 0) c.terms-test.true c.terms.invariant f

pub returns : goal.returns
returns c = (
  λ _. subst (All (λ t. Fits (neg_ℤ t.1))) (take_all c.terms.c-index c.args.terms.now (omega (arith, c.terms-test.false))) c.terms.invariant,
  λ _. search rules,
)
