use Rattle.lt_merge.proofs.Merges.{commutative}
use Rattle.lt_merge.proofs.laws.merge_is_commutative.Goals as goal

pub returns : goal.returns
returns c = commutative
