use Rattle.lt_model.proofs.Ranges.{product_fits, product_as_code}
use Rattle.lt_model.proofs.arithmetic.exact_product.Goals as goal

pub returns : goal.returns
returns c =
    let f = product_fits c.args.a c.args.b c.requires.left c.requires.right in
    product_as_code c.args.a c.args.b c.ranges.a c.ranges.b f
