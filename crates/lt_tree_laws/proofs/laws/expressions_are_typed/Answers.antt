use Rattle.lt_tree_laws.proofs.TypedExpressions.{constants, names, pointers, integers, assignments, parts}
use Rattle.lt_tree_laws.proofs.laws.expressions_are_typed.Goals as goal

pub returns-clause-constants : goal.returns-clause-constants
returns-clause-constants c = constants

pub returns-clause-names : goal.returns-clause-names
returns-clause-names c = names

pub returns-clause-pointers : goal.returns-clause-pointers
returns-clause-pointers c = pointers

pub returns-clause-integers : goal.returns-clause-integers
returns-clause-integers c = integers

pub returns-clause-assignments : goal.returns-clause-assignments
returns-clause-assignments c = assignments

pub returns-clause-parts : goal.returns-clause-parts
returns-clause-parts c = parts
