use Rattle.lt_simple_copies.proofs.KeptExpressions.{expressions_keep}
use Rattle.lt_simple_copies.proofs.laws.expressions_keep_tags.Goals as goal

pub returns : goal.returns
returns c = expressions_keep
