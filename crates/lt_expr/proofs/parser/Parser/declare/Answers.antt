use Rattle.lt_tree.specs.Records.{parts_in}
use Rattle.lt_expr.proofs.Declared.{declared}
use Rattle.lt_expr.proofs.parser.Parser.declare.Goals as goal

pub returns : goal.returns
returns c = declared c.args.is_type c.args.declarator.now.name (parts_in c.args.declarator.now.parts.items) _ _ c.declare_declarator.new.self _ c.self.view_is c.declare_declarator.ensures
