use Rattle.lt_token.proofs.Placed.{are_placed}
use Rattle.lt_token.proofs.laws.tokens_are_slices.Goals as goal

pub returns : goal.returns
returns c = are_placed
