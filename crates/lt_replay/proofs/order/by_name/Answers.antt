use Rattle.std.proofs.Common.{List, refl, subst, take_all}
use Rattle.lt_entry.specs.declared.test.Test.{Test}
use Rattle.lt_replay.specs.Order.{AreNamed}
use Rattle.lt_replay.proofs.Naming.{one_named}
use Rattle.lt_replay.proofs.order.by_name.Goals as goal

pub loop-test-preserved : goal.loop-test-preserved
loop-test-preserved c =
    one_named c.args.tests.now c.requires c.loop-test.test-index c.loop-test-test.true c.test-item.result c.test-item.is c.loop-test.named c.insert.new.self c.as_slice.result _ refl
    c.as_slice.ensures c.loop-test.invariant c.in_ok-insert.ensures.updates

pub returns : goal.returns
returns c =
    let P : List Test → Type 0 = λ tests. AreNamed tests c.loop-test.named in
    subst P (take_all c.loop-test.test-index c.args.tests.now c.loop-test-test.false) c.loop-test.invariant
