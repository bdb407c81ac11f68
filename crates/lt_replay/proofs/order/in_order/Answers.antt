use Rattle.std.proofs.Common.{◌≡◌, rules}
use Rattle.std.specs.BTreeMap.{values}
use Rattle.std.proofs.lemmas.Result.{IfOk-weaker}
use Rattle.lt_replay.proofs.Naming.{made_in_order}
use Rattle.lt_replay.proofs.order.in_order.Goals as goal

pub returns : goal.returns
returns c =
    IfOk-weaker c.collect.result (λ order. order.items ≡ values c.in_ok-named.named) _
    (made_in_order c.args.tests.now c.in_ok-named.named c.in_ok-named.ensures c.values.ensures.ordered) (search rules)
