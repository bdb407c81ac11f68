use Rattle.lt_tree_laws.proofs.WrittenStatements.{loops, choices}
use Rattle.lt_tree_laws.proofs.laws.statements_are_written.Goals as goal

pub returns-clause-loops : goal.returns-clause-loops
returns-clause-loops c = loops

pub returns-clause-choices : goal.returns-clause-choices
returns-clause-choices c = choices
