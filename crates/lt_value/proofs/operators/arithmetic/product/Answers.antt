use Rattle.lt_model.proofs.Ranges.{product_fits, product_as_code}
use Rattle.lt_value.proofs.Made.{product_size}
use Rattle.lt_value.proofs.operators.arithmetic.product.Goals as goal

pub returns-clause-is : goal.returns-clause-is
returns-clause-is c = product_as_code c.args.x c.args.y c.ranges.x c.ranges.y (product_fits c.args.x c.args.y c.requires.left c.requires.right)

pub returns-clause-small : goal.returns-clause-small
returns-clause-small c = product_size c.args.x c.args.y _ (product_as_code c.args.x c.args.y c.ranges.x c.ranges.y (product_fits c.args.x c.args.y c.requires.left c.requires.right)) c.requires.left c.requires.right
