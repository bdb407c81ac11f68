use Rattle.lt_merge.proofs.Merges.{associative}
use Rattle.lt_merge.proofs.laws.merge_is_associative.Goals as goal

pub returns : goal.returns
returns c = associative
