use Rattle.lt_typed_nodes.proofs.FoundFacts.{expressions_are_noted}
use Rattle.lt_typed_nodes.proofs.laws.expressions_are_noted.Goals as goal

pub returns : goal.returns
returns c = expressions_are_noted
