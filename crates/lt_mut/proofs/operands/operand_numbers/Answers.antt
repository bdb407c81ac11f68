use Rattle.std.proofs.Common.{ap}
use Rattle.lt_tree.specs.View.{expression_of}
use Rattle.lt_mut.proofs.OperandNumbers.{operands_numbered}
use Rattle.lt_mut.proofs.operands.operand_numbers.Goals as goal

pub returns : goal.returns
returns c unit are at =
    operands_numbered unit c.args.k c.behind-right.result c.value_part_number.result c.value_part_number-2.result (expression_of c.args.e.now) _ _ _ (ap expression_of c.in-Binary.is) at
    (λ e there. c.behind-right.ensures unit e are there) (λ e there. c.value_part_number.ensures unit e are there) (λ e there. c.value_part_number-2.ensures unit e are there)
