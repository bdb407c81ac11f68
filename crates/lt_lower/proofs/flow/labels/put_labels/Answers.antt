use Rattle.std.proofs.Common.{arith}
use Rattle.lt_lower.proofs.Cases.{labels_none, labels_all}
use Rattle.lt_lower.proofs.flow.labels.put_labels.Goals as goal

pub labels-init : goal.labels-init
labels-init c = labels_none c.args.all.now c.args.labels.now _ (omega arith)

pub returns : goal.returns
returns c = labels_all c.args.all.now c.labels.all c.args.labels.now c.labels.at (omega arith) c.labels.invariant
