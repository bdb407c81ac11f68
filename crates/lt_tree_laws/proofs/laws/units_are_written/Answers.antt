use Rattle.lt_tree_laws.proofs.WrittenUnits.{decisions, relations, bound_names, definitions_and_uses, units}
use Rattle.lt_tree_laws.proofs.laws.units_are_written.Goals as goal

pub returns-clause-decisions : goal.returns-clause-decisions
returns-clause-decisions c = decisions

pub returns-clause-relations : goal.returns-clause-relations
returns-clause-relations c = relations

pub returns-clause-bound_names : goal.returns-clause-bound_names
returns-clause-bound_names c = bound_names

pub returns-clause-definitions_and_uses : goal.returns-clause-definitions_and_uses
returns-clause-definitions_and_uses c = definitions_and_uses

pub returns-clause-units : goal.returns-clause-units
returns-clause-units c = units
