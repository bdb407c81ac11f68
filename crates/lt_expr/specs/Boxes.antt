-- What boxes of the code hold, as it is read.
use Rattle.std.specs.Global.{Box}
use Rattle.lt_tree.specs.declared.expression.Expr.{Expr}
use Rattle.lt_tree.specs.declared.specifier.TypeName.{TypeName}
use Rattle.lt_tree.specs.Tree as c
use Rattle.lt_tree.specs.View.{expression_of}
use Rattle.lt_tree.specs.Records.{specifiers_of, declarator_of}

abbrev pub boxed : Box Expr → c.Expression
boxed e = expression_of e.value

abbrev pub boxed_type : Box TypeName → c.Specifiers × c.Declarator
boxed_type n = (specifiers_of n.value.specifiers, declarator_of n.value.declarator)
