-- Expressions that predicates copy, without their marks.
use Rattle.std.specs.Prelude.{ℕ, Bool, true, false, not, ◌&&◌, ◌||◌, List, length, take, drop}
use Rattle.std.specs.List.{list_all}
use Rattle.lt_tree.specs.Tree as c
use Rattle.lt_tree.specs.Nodes.{in_expression}
use Rattle.lt_tree.specs.Erasure.{erased}
use Rattle.lt_tree.specs.Purity.{is_pure}
use Rattle.lt_objectives.specs.Tags.{fitting_nodes}

-- no mark stands directly around it
abbrev pub is_core : c.Expression → Bool
is_core (c.Marked marks e) = false
is_core (c.Decide e when_true when_false tag) = false
is_core (c.After e id tag) = false
is_core e = true

abbrev pub is_cast : c.Expression → Bool
is_cast (c.Cast s d operand) = true
is_cast _ = false

-- a cast behind a label or in a `pc_after`
abbrev pub is_marked_cast : c.Expression → Bool
is_marked_cast (c.Marked marks e) = is_cast e || is_marked_cast e
is_marked_cast (c.After e id tag) = is_cast e || is_marked_cast e
is_marked_cast _ = false

-- Marks in a pure expression hide something from an operator: that the operand of `.` is an lvalue, C11 6.5.2.3p3, or that an operand of `?:` is a null
-- pointer constant, C11 6.5.15p6. Without them the operator might make something else of it.
abbrev mutual
  pub hides : c.Expression → Bool
  hides (c.Index whole index) = hides whole || hides index
  hides (c.Member whole name) = not (is_core whole) || hides whole
  hides (c.Arrow pointer name) = hides pointer
  hides (c.Unary op operand) = hides operand
  hides (c.Cast s d operand) = hides operand
  hides (c.Binary op left right) = hides left || hides right
  hides (c.Logical op left right) = hides left || hides right
  hides (c.Conditional test left right) = hides test || (is_marked_cast left || hides left) || (is_marked_cast right || hides right)
  hides (c.Comma parts) = any_hides parts
  hides (c.Marked marks e) = hides e
  hides (c.Decide e when_true when_false tag) = hides e
  hides (c.After e id tag) = hides e
  hides _ = false

  pub any_hides : c.Expressions → Bool
  any_hides c.no_expressions = false
  any_hides (c.an_expression first rest) = hides first || any_hides rest

-- A pure expression, with or without marks in it, which hide nothing: without them it is the same.
abbrev pub is_pure_without_marks : c.Expression → Bool
is_pure_without_marks e = is_pure (erased e) && not (hides e)

-- whether all these nodes may be copied, from this number on
abbrev pub all_fit : List Bool → (first size : ℕ) → Bool
all_fit fitting first size = list_all (λ it. it) (take size (drop first fitting))

-- whether each node of an expression of this number may be copied
abbrev pub all_nodes_fit : c.Unit → ℕ → c.Expression → Bool
all_nodes_fit unit k e = all_fit (fitting_nodes unit) k (length (in_expression e))

-- A predicate may copy such an expression of this number, if no type name in it declares a struct or an enum.
abbrev pub can_be_copied : c.Unit → ℕ → c.Expression → Bool
can_be_copied unit k e = is_pure_without_marks e && all_nodes_fit unit k e
