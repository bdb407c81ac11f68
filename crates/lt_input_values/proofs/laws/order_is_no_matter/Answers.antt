use Rattle.lt_input_values.proofs.AnyOrder.{any_order}
use Rattle.lt_input_values.proofs.laws.order_is_no_matter.Goals as goal

pub returns : goal.returns
returns c = any_order
