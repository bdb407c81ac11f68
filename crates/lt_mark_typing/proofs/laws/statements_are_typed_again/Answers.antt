use Rattle.lt_mark_typing.proofs.Statements.{statements_again}
use Rattle.lt_mark_typing.proofs.laws.statements_are_typed_again.Goals as goal

pub returns : goal.returns
returns c = statements_again
