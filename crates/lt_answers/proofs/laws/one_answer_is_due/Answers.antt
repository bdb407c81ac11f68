use Rattle.lt_answers.proofs.Due.{due_once}
use Rattle.lt_answers.proofs.laws.one_answer_is_due.Goals as goal

pub returns : goal.returns
returns c = due_once
