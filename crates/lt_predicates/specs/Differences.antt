-- That an expression and others have different values.
use Rattle.std.specs.Prelude.{not, List, [], map, filter}
use Rattle.lt_model.specs.declared.operator.Op.{Op}
use Rattle.lt_tree.specs.declared.expression.LogicalOp.{LogicalOp}
use Rattle.lt_tree.specs.Tree as t
use Rattle.lt_tree.specs.Erasure.{erased}
use Rattle.lt_objectives.specs.Decisions.{inequality}
use Rattle.lt_objectives.specs.Mutants.{same_op, with_others}

abbrev pub differences : t.Expression → List t.Expression → List t.Expression
differences e mutants = map (inequality e) mutants

-- an expression with each other of these operators, if its operator is one of them
abbrev pub other_operators : List Op → t.Expression → List t.Expression
other_operators ops (t.Binary op left right) = with_others ops op left right
other_operators ops e = []

-- an expression with this operator, or this connector, in place of its own
abbrev pub with_operator : Op → t.Expression → t.Expression
with_operator op (t.Binary own left right) = t.Binary op left right
with_operator op e = e

abbrev pub with_connector : LogicalOp → t.Expression → t.Expression
with_connector op (t.Logical own left right) = t.Logical op left right
with_connector op e = e

-- the differences of an expression without its marks, and of the same with each of these operators but this one
abbrev pub copied_others : List Op → Op → t.Expression → List t.Expression
copied_others ops op e = map (λ other. inequality (erased e) (with_operator other (erased e))) (filter (λ other. not (same_op op other)) ops)
