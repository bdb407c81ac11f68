use Rattle.lt_tree.specs.Records.{specifiers_of}
use Rattle.lt_tree.specs.Scope.{enumerators_in_specifiers}
use Rattle.lt_expr.proofs.Hiding.{specifiers_hidden}
use Rattle.lt_expr.proofs.parser.Parser.hide_specifiers.Goals as goal

pub returns : goal.returns
returns c =
    specifiers_hidden c.hide_specifiers.result c.args.self.now _ c.hide_specifiers.new.self (enumerators_in_specifiers (specifiers_of c.args.specifiers.now)) c.self.view_is c.hide_specifiers.ensures
