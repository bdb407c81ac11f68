-- What each kind of node means for decisions and clauses.
use Rattle.std.specs.Prelude.{Option, Some, None}
use Rattle.lt_tree.specs.declared.expression.UnaryOp.TheVariants as unary
use Rattle.lt_tree.specs.Tree as c
use Rattle.lt_tree.specs.Nodes.{Node, a_statement, an_expression, a_mark}
use Rattle.lt_decisions.specs.declared.turn.Tests.{Tests}
use Rattle.lt_decisions.specs.declared.turn.Tests.TheVariants as tests
use Rattle.lt_decisions.specs.declared.turn.Turn.{Turn}
use Rattle.lt_decisions.specs.declared.turn.Turn.TheVariants as turn
use Rattle.lt_decisions.specs.declared.turn.TestPlace.{TestPlace}
use Rattle.lt_decisions.specs.declared.turn.TestPlace.TheVariants as place

-- where the operands of `&&`, `||` and `!` are looked into
abbrev pub divided : Tests → Turn
divided tests.Decisions = turn.Test
divided tests.Clauses = turn.Operands

abbrev pub turn_in : Tests → c.Expression → Turn
turn_in what (c.Marked marks e) = turn.Inside
turn_in what (c.Decide e when_true when_false tag) = turn.Inside
turn_in what (c.After e id tag) = turn.After
turn_in what (c.Logical op left right) = divided what
turn_in what (c.Unary unary.Not e) = divided what
turn_in what e = turn.Test

abbrev pub turn_at : Tests → Node → Turn
turn_at what (a_mark m) = turn.Skip
turn_at what (an_expression e) = turn_in what e
turn_at what node = turn.Test

-- where the controlling expression of a node stands
abbrev pub test_place : Node → Option TestPlace
test_place (a_statement (c.If test x)) = Some place.First
test_place (a_statement (c.IfElse test x y)) = Some place.First
test_place (a_statement (c.While test x)) = Some place.First
test_place (a_statement (c.Do x test)) = Some place.BehindBody
test_place (a_statement (c.For start (Some test) step x)) = Some place.BehindHead
test_place (an_expression (c.Conditional test left right)) = Some place.First
test_place node = None
