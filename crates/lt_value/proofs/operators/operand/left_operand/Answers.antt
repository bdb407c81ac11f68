use Rattle.lt_value.proofs.Operands.{left_by_shl, left_by_values, none_left_by_values}
use Rattle.lt_value.proofs.operators.operand.left_operand.Goals as goal

pub returns-in-Shl-clause-some : goal.returns-in-Shl-clause-some
returns-in-Shl-clause-some c = left_by_shl c.args.model c.args.op c.args.ty c.args.n.now c.shiftable.result c.in-Shl.is c.shiftable.ensures.some

pub returns-in_default : goal.returns-in_default
returns-in_default c = record {
  some = left_by_values c.args.model c.args.op c.args.ty c.args.n.now c.values.result c.in_default.not-Shl c.values.ensures.some;
  none = none_left_by_values c.args.model c.args.op c.args.ty c.args.n.now c.values.result c.in_default.not-Shl c.values.ensures.none;
}
