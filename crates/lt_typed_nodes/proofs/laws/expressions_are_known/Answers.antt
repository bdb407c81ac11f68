use Rattle.lt_typed_nodes.proofs.FoundFacts.{facts_are_found, begun_nodes_are_noted, expressions_are_known}
use Rattle.lt_typed_nodes.proofs.laws.expressions_are_known.Goals as goal

pub returns-clause-facts : goal.returns-clause-facts
returns-clause-facts c = facts_are_found

pub returns-clause-begun_nodes : goal.returns-clause-begun_nodes
returns-clause-begun_nodes c = begun_nodes_are_noted

pub returns-clause-expressions : goal.returns-clause-expressions
returns-clause-expressions c = expressions_are_known
