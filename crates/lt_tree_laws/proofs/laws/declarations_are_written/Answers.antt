use Rattle.lt_tree_laws.proofs.WrittenDeclarations.{declarators, declarations}
use Rattle.lt_tree_laws.proofs.laws.declarations_are_written.Goals as goal

pub returns-clause-declarators : goal.returns-clause-declarators
returns-clause-declarators c = declarators

pub returns-clause-declarations : goal.returns-clause-declarations
returns-clause-declarations c = declarations
