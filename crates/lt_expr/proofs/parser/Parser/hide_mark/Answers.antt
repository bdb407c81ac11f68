use Rattle.lt_tree.specs.View.{mark_of}
use Rattle.lt_tree.specs.Scope.{enumerators_in_mark}
use Rattle.lt_expr.proofs.Declared.{hidden}
use Rattle.lt_expr.proofs.parser.Parser.hide_mark.Goals as goal

pub returns : goal.returns
returns c = hidden (enumerators_in_mark (mark_of c.args.mark.now)) _ _ c.hide_mark.new.self _ c.self.view_is c.hide_mark.ensures
