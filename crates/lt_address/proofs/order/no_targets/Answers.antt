use Rattle.lt_address.proofs.Parts.{no_targets}
use Rattle.lt_address.proofs.order.no_targets.Goals as goal

pub returns : goal.returns
returns c = no_targets c.args.targets.now c.is_empty.result c.is_empty.ensures
