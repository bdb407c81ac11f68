use Rattle.lt_merge.proofs.Merges.{idempotent}
use Rattle.lt_merge.proofs.laws.merge_is_idempotent.Goals as goal

pub returns : goal.returns
returns c = idempotent
