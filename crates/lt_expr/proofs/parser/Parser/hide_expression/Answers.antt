use Rattle.lt_tree.specs.View.{expression_of}
use Rattle.lt_tree.specs.Scope.{enumerators_in}
use Rattle.lt_expr.proofs.Declared.{hidden}
use Rattle.lt_expr.proofs.parser.Parser.hide_expression.Goals as goal

pub returns : goal.returns
returns c = hidden (enumerators_in (expression_of c.args.e.now)) _ _ c.hide_expression.new.self _ c.self.view_is c.hide_expression.ensures
