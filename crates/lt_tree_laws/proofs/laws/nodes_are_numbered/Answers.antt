use Rattle.lt_tree_laws.proofs.NumberedUnits.{parts_are_numbered, broken_nodes_are_there}
use Rattle.lt_tree_laws.proofs.laws.nodes_are_numbered.Goals as goal

pub returns-clause-parts : goal.returns-clause-parts
returns-clause-parts c = parts_are_numbered

pub returns-clause-broken : goal.returns-clause-broken
returns-clause-broken c = broken_nodes_are_there
