use Rattle.lt_replayed.proofs.OneTable.{suites_have_one_table}
use Rattle.lt_replayed.proofs.laws.a_suite_has_one_table.Goals as goal

pub returns : goal.returns
returns c = suites_have_one_table
