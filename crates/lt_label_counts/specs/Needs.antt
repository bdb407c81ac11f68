-- How many tokens the nodes of a unit need at least for themselves, marks aside.
use Rattle.std.specs.Prelude.{ℕ, zero, suc, ◌+◌, ◌-◌, List, [], ◌∷◌, length, Some}
use Rattle.lt_tree.specs.Tree as c
use Rattle.lt_tree.specs.Nodes.{Node, an_external, a_declarator, a_statement, an_expression, a_mark, in_mark}

-- Tokens of a node that no other is counted for: one for an expression, a declarator and a function with a body, and one more for each
-- expression that controls a statement or is the first operand of `?:`.
abbrev pub own_need : Node → ℕ
own_need (an_external (c.Defines s d body)) = 1
own_need (a_declarator d) = 1
own_need (a_statement (c.If test x)) = 1
own_need (a_statement (c.IfElse test x y)) = 1
own_need (a_statement (c.While test x)) = 1
own_need (a_statement (c.Do x test)) = 1
own_need (a_statement (c.For start (Some test) step x)) = 1
own_need (an_expression (c.Conditional test left right)) = 2
own_need (an_expression (c.Marked marks e)) = 0
own_need (an_expression (c.Decide e when_true when_false tag)) = 0
own_need (an_expression (c.After e id tag)) = 0
own_need (an_expression e) = 1
own_need node = 0

-- how many nodes behind this one are in the mark that it is
abbrev pub in_mark_behind : Node → ℕ
in_mark_behind (a_mark m) = length (in_mark m) - 1
in_mark_behind node = 0

-- What the nodes need of which the first so many are in a mark: those of marks need nothing.
abbrev pub needs : (in_a_mark : ℕ) → List Node → ℕ
needs in_a_mark [] = 0
needs zero (node ∷ rest) = own_need node + needs (in_mark_behind node) rest
needs (suc in_a_mark) (node ∷ rest) = needs in_a_mark rest
