use Rattle.lt_merge.proofs.Merging.{merge_table}
use Rattle.lt_merge.proofs.laws.merge_is_a_table.Goals as goal

pub returns : goal.returns
returns c = merge_table
