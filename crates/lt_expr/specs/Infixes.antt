-- Operators of the code, as the grammar has them.
use Rattle.lt_tree.specs.Operators as o
use Rattle.lt_expr.specs.declared.operators.Infix.{Infix}
use Rattle.lt_expr.specs.declared.operators.Infix.TheVariants as v

abbrev pub infix_shown : Infix → o.Infix
infix_shown (v.Arithmetic op) = o.arithmetic op
infix_shown (v.Connective op) = o.connective op
