-- The parts of operands that have their values, by their numbers.
use Rattle.std.specs.Prelude.{ℕ, ◌+◌, length, List, slice_index_or}
use Rattle.lt_tree.specs.Tree as c
use Rattle.lt_tree.specs.Nodes.{in_expression}
use Rattle.lt_objectives.specs.Places.{value_part}
use Rattle.lt_facts.specs.declared.types.Family.{Family}
use Rattle.lt_facts.specs.declared.types.Family.TheVariants as F

-- of the left operand of a binary operator; of another expression its own number
abbrev pub left_number : ℕ → c.Expression → ℕ
left_number k (c.Binary op left right) = (value_part (k + 1) left).number
left_number k e = k

-- of the right operand
abbrev pub right_number : ℕ → c.Expression → ℕ
right_number k (c.Binary op left right) = (value_part (k + 1 + length (in_expression left)) right).number
right_number k e = k

-- of the type of the node of a number
abbrev pub family_at : List Family → ℕ → Family
family_at families k = slice_index_or families k F.Other
