-- Which expressions have an operand that stands for a place.
use Rattle.std.specs.Prelude.{Bool, true, false}
use Rattle.lt_tree.specs.declared.expression.UnaryOp.TheVariants as unary
use Rattle.lt_tree.specs.Tree as c
use Rattle.lt_tree.specs.Nodes.{Node, an_expression}

-- the operand is the first node behind it
abbrev pub has_place_operand : Node → Bool
has_place_operand (an_expression (c.Unary unary.AddressOf e)) = true
has_place_operand (an_expression (c.PostInc e)) = true
has_place_operand (an_expression (c.PostDec e)) = true
has_place_operand (an_expression (c.PreInc e)) = true
has_place_operand (an_expression (c.PreDec e)) = true
has_place_operand (an_expression (c.Assign op target value)) = true
has_place_operand (an_expression (c.Member whole name)) = true
has_place_operand node = false
