use Rattle.lt_tree_laws.proofs.ReadTexts.{nearest_else}
use Rattle.lt_tree_laws.proofs.ReadForms.{statements}
use Rattle.lt_tree_laws.proofs.laws.statements_are_read.Goals as goal

pub returns-clause-nearest_else : goal.returns-clause-nearest_else
returns-clause-nearest_else c = nearest_else

pub returns-clause-statements : goal.returns-clause-statements
returns-clause-statements c = statements
