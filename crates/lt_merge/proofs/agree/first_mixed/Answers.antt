use Rattle.std.proofs.Common.{refl}
use Rattle.std.proofs.lemmas.Bool.{false≢true}
use Rattle.lt_merge.proofs.KeyLists.{keys_past, keys_differ, keys_more, keys_longer}
use Rattle.lt_merge.proofs.agree.first_mixed.Goals as goal

pub returns-then-i-b : goal.returns-then-i-b
returns-then-i-b c = keys_past c.args.a.now c.args.b.now c.loop-i.i c.requires.first c.loop-i-test.true c.if-i-b.true c.loop-i.invariant

pub returns-then-not-is_same : goal.returns-then-not-is_same
returns-then-not-is_same c = keys_differ c.args.a.now c.args.b.now c.loop-i.i c.min.result c.requires.first c.requires.second c.loop-i-test.true c.if-i-b.false c.loop-i.invariant (λ e. false≢true (c.if-not-is_same.ensures.1 e)) c.min.ensures

pub loop-i-preserved : goal.loop-i-preserved
loop-i-preserved c = keys_more c.args.a.now c.args.b.now c.loop-i.i c.loop-i-test.true c.if-i-b.false c.loop-i.invariant (c.if-not-is_same.ensures.0 refl)

pub returns-then-a-b : goal.returns-then-a-b
returns-then-a-b c = keys_longer c.args.a.now c.args.b.now c.loop-i.i c.requires.second c.loop-i-test.false c.loop-i.auto.i-end c.if-a-b.true c.loop-i.invariant
