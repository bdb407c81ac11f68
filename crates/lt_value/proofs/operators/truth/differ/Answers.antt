use Rattle.lt_value.proofs.MadeAnswers.{differ_by_other}
use Rattle.lt_value.proofs.operators.truth.differ.Goals as goal

pub returns-else-a-b : goal.returns-else-a-b
returns-else-a-b c = differ_by_other c.args.a.now c.args.b.now c.if-a-b.false
