use Rattle.lt_expr.proofs.CompleteWhole.{expressions_are_one}
use Rattle.lt_expr.proofs.laws.at_most_one_expression.Goals as goal

pub returns : goal.returns
returns c = expressions_are_one
