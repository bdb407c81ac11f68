use Rattle.lt_typed_nodes.proofs.ReadTypes.{values_have_their_types}
use Rattle.lt_typed_nodes.proofs.OperandTypes.{operands_have_their_types}
use Rattle.lt_typed_nodes.proofs.laws.operands_have_their_types.Goals as goal

pub returns-clause-values : goal.returns-clause-values
returns-clause-values c = values_have_their_types

pub returns-clause-operands : goal.returns-clause-operands
returns-clause-operands c = operands_have_their_types c.nodes_are_numbered.ensures.parts
