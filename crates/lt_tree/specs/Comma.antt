-- Comma expressions, C11 6.5.17: `(a, b), c` and `a, b, c` are one tree.
use Rattle.std.specs.Prelude.{Bool, true, false}
use Rattle.lt_tree.specs.Tree.{Expression, Expressions, Comma, no_expressions, an_expression}

abbrev pub followed_by : Expressions → Expressions → Expressions
followed_by no_expressions others = others
followed_by (an_expression first rest) others = an_expression first (followed_by rest others)

-- an expression with others behind it, each after a comma
abbrev pub comma_of : Expression → Expressions → Expression
comma_of first no_expressions = first
comma_of (Comma parts) (an_expression second rest) = Comma (followed_by parts (an_expression second rest))
comma_of first (an_expression second rest) = Comma (an_expression first (an_expression second rest))

abbrev pub is_comma : Expression → Bool
is_comma (Comma parts) = true
is_comma _ = false
