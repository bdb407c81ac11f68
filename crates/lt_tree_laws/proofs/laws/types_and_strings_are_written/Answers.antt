use Rattle.lt_tree_laws.proofs.WrittenExpressions.{types, strings}
use Rattle.lt_tree_laws.proofs.laws.types_and_strings_are_written.Goals as goal

pub returns-clause-types : goal.returns-clause-types
returns-clause-types c = types

pub returns-clause-strings : goal.returns-clause-strings
returns-clause-strings c = strings
