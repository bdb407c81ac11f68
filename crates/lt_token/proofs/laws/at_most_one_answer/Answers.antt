use Rattle.lt_token.proofs.OneAnswer.{one_answer}
use Rattle.lt_token.proofs.laws.at_most_one_answer.Goals as goal

pub returns : goal.returns
returns c = one_answer
