use Rattle.lt_ranges.proofs.IdsHaveRows.{lasting_ids_have_rows}
use Rattle.lt_ranges.proofs.laws.lasting_ids_have_rows.Goals as goal

pub returns : goal.returns
returns c = lasting_ids_have_rows
