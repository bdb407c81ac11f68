use Rattle.lt_lower.proofs.Tables.{each_table}
use Rattle.lt_lower.proofs.flow.labels.by_value.Goals as goal

pub returns : goal.returns
returns c =
    each_table c.in_order.result c.in_ok-nodes.nodes c.args.arms.now c.in_order.ensures.ordered c.in_ok-nodes.ensures c.in_order.ensures.entries
