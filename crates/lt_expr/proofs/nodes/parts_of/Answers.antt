use Rattle.std.proofs.Common.{◌≡◌, ap, sym, ◌∙◌}
use Rattle.lt_tree.specs.View.{expression_of}
use Rattle.lt_expr.specs.Fronts.{front_of}
use Rattle.lt_expr.proofs.Rows.{expressions_are}
use Rattle.lt_expr.proofs.nodes.parts_of.Goals as goal

pub returns-in-Comma : goal.returns-in-Comma
returns-in-Comma c = sym (expressions_are c.in-Comma.parts) ∙ ap (λ e. front_of (expression_of e)) (sym c.in-Comma.is ∙ c.into_inner.ensures)
