use Rattle.std.proofs.Common.{sym, rules}
use mir.Syntax.{w128}
use mir.Val.{SFits, to_z}
use Rattle.lt_input_values.proofs.Bounded.{sum_step}
use Rattle.lt_input_values.proofs.needs.sum_of.Goals as goal

pub loop-term-preserved : goal.loop-term-preserved
loop-term-preserved c =
    let fits : SFits w128 c.in_ok-sum.field-0 = search rules in
    let step = sum_step c.args.finder.now.spec.now c.args.finder.now.input.now c.args.terms.now c.loop-term.term-index c.term-item.result (to_z w128 c.loop-term.sum-bits) c.in_ok-sum.field-0 c.loop-term-test.true c.term-item.is c.requires.few fits (sym c.in_ok-sum.ensures.product) c.in_ok-sum.ensures.small c.loop-term.invariant.within c.loop-term.invariant.rest in
    record { within = step.0; rest = step.1 }
