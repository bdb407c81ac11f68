use Rattle.std.specs.Prelude.{false, Some}
use Rattle.lt_expr.proofs.Declared.{named}
use Rattle.lt_expr.proofs.parser.Parser.declare_enumerator.Goals as goal

pub returns : goal.returns
returns c = named false (Some c.args.name.now) _ _ c.declare.new.self _ c.self.view_is c.declare.ensures
