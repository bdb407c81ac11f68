use Rattle.lt_token.proofs.Unique.{at_most_one}
use Rattle.lt_token.proofs.laws.at_most_one_reading.Goals as goal

pub returns : goal.returns
returns c = at_most_one
