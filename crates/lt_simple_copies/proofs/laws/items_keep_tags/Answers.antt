use Rattle.lt_simple_copies.proofs.KeptUnits.{items_keep}
use Rattle.lt_simple_copies.proofs.laws.items_keep_tags.Goals as goal

pub returns : goal.returns
returns c = items_keep
