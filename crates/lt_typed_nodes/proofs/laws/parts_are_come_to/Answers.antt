use Rattle.lt_typed_nodes.proofs.ComingToOperands.{operands_are_come_to}
use Rattle.lt_typed_nodes.proofs.ComingToItems.{initialisers_are_come_to, declarations_are_come_to, statements_are_come_to, externals_are_come_to, units_are_come_to}
use Rattle.lt_typed_nodes.proofs.KnownParts.{what_is_come_to_is_known}
use Rattle.lt_typed_nodes.proofs.laws.parts_are_come_to.Goals as goal

pub returns-clause-units : goal.returns-clause-units
returns-clause-units c = units_are_come_to

pub returns-clause-externals : goal.returns-clause-externals
returns-clause-externals c = externals_are_come_to

pub returns-clause-declarations : goal.returns-clause-declarations
returns-clause-declarations c = declarations_are_come_to

pub returns-clause-initialisers : goal.returns-clause-initialisers
returns-clause-initialisers c = initialisers_are_come_to

pub returns-clause-statements : goal.returns-clause-statements
returns-clause-statements c = statements_are_come_to

pub returns-clause-operands : goal.returns-clause-operands
returns-clause-operands c = operands_are_come_to

pub returns-clause-known : goal.returns-clause-known
returns-clause-known c = what_is_come_to_is_known c.nodes_are_numbered.ensures.parts
