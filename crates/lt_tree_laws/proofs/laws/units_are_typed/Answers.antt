use Rattle.lt_tree_laws.proofs.TypedUnits.{first_rule, names, functions, files, types, lengths, initialisers, statements, calls, marks}
use Rattle.lt_tree_laws.proofs.laws.units_are_typed.Goals as goal

pub returns-clause-first_rule : goal.returns-clause-first_rule
returns-clause-first_rule c = first_rule

pub returns-clause-names : goal.returns-clause-names
returns-clause-names c = names

pub returns-clause-functions : goal.returns-clause-functions
returns-clause-functions c = functions

pub returns-clause-files : goal.returns-clause-files
returns-clause-files c = files

pub returns-clause-types : goal.returns-clause-types
returns-clause-types c = types

pub returns-clause-lengths : goal.returns-clause-lengths
returns-clause-lengths c = lengths

pub returns-clause-initialisers : goal.returns-clause-initialisers
returns-clause-initialisers c = initialisers

pub returns-clause-statements : goal.returns-clause-statements
returns-clause-statements c = statements

pub returns-clause-calls : goal.returns-clause-calls
returns-clause-calls c = calls

pub returns-clause-marks : goal.returns-clause-marks
returns-clause-marks c = marks
