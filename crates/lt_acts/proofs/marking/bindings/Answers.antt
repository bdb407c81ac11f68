use Rattle.std.proofs.Common.{◌<◌, length, arith, ◌∙◌, [], None, subst}
use Rattle.lt_ir.specs.PureView.{pure_of}
use Rattle.lt_acts.specs.Looking.{Quietly, number_looked}
use Rattle.lt_acts.proofs.Quiet.{none_bound, all_bound, shorter}
use Rattle.lt_acts.proofs.marking.bindings.Goals as goal

pub returns-in-None : goal.returns-in-None
returns-in-None c = λ at.
    let t = c.loop-i-test.true in
    let m = c.min-count.ensures in
    let h : c.loop-i.i < length c.args.names.now = omega arith in
    let k : c.loop-i.i < length c.args.values.now = omega arith in
    c.loop-i.invariant at ∙ none_bound c.args.memory.now.model c.args.scope.now c.args.memory.now.blocks c.loop-i.bound.items c.args.names.now c.args.values.now c.loop-i.i [] c.index-values-i.result at h k
    (subst (λ q. Quietly (number_looked c.args.memory.now.model (pure_of q)) c.args.scope.now c.args.memory.now.blocks None) c.index-values-i.is c.in-None.ensures)

pub returns : goal.returns
returns c = λ at.
    c.loop-i.invariant at ∙ all_bound c.args.memory.now.model c.args.scope.now c.args.memory.now.blocks c.loop-i.bound.items c.args.names.now c.args.values.now c.loop-i.i at
    (shorter (length c.args.names.now) (length c.args.values.now) c.min-count.result c.loop-i.i c.min-count.ensures c.loop-i-test.false)
