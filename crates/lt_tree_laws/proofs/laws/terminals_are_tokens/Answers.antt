use Rattle.lt_tree_laws.proofs.SignsBack.{terminals}
use Rattle.lt_tree_laws.proofs.laws.terminals_are_tokens.Goals as goal

pub returns : goal.returns
returns c = terminals
