use Rattle.lt_value.proofs.Operands.{range_is, least_code, greatest_code}
use Rattle.lt_value.proofs.operators.operand.range.Goals as goal

pub returns : goal.returns
returns c = range_is c.args.model c.args.ty c.between.result _ _ (least_code c.args.model c.args.ty c.least.result c.least.ensures) (greatest_code c.args.model c.args.ty c.greatest.result c.greatest.ensures) c.between.ensures
