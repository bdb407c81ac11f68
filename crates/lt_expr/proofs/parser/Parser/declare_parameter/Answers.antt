use Rattle.std.specs.Prelude.{false}
use Rattle.lt_expr.proofs.Declared.{named}
use Rattle.lt_expr.proofs.parser.Parser.declare_parameter.Goals as goal

pub returns : goal.returns
returns c = named false c.args.declarator.now.name _ _ c.declare_name.new.self _ c.self.view_is c.declare_name.ensures
