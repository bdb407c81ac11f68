-- Whether marks in a comma expression hide something.
use Rattle.std.proofs.Common.{◌≡◌, ap, ◌∙◌}
use Rattle.std.specs.Global.{Vec}
use Rattle.lt_tree.specs.declared.expression.Expr.{Expr}
use Rattle.lt_tree.specs.declared.expression.Expr.TheVariants as variant
use Rattle.lt_tree.specs.View.{expression_of}
use Rattle.lt_tree.specs.Records.{expressions_in}
use Rattle.lt_tree.proofs.Rows.{comma_is}
use Rattle.lt_objectives.specs.Copies.{hides, any_hides}

pub hides_comma : (e : Expr) (v : Vec Expr) → e ≡ variant.Comma v → hides (expression_of e) ≡ any_hides (expressions_in v.items)
hides_comma e v is = ap (λ x. hides (expression_of x)) is ∙ ap hides (comma_is v)
