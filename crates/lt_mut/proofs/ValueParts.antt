-- The part of an expression that has its value is within the expression.
use Rattle.std.proofs.Common.{◌≡◌, ap, ℕ, suc, ◌+◌, ◌<◌, [], length, Some, arith}
use Rattle.std.specs.List.{slice_get}
use Rattle.std.proofs.lemmas.List.{length-append}
use Rattle.std.proofs.lemmas.Option.{slice_get_within}
use Rattle.lt_tree.specs.Tree as c
use Rattle.lt_tree.specs.Nodes.{an_expression, in_expression, in_expressions, in_marks, nodes}
use Rattle.lt_objectives.specs.Places.{value_part, last_value_part}
use Rattle.lt_places.proofs.SiteRuns.{expression_headed}
use Rattle.lt_mut.specs.Operands.{left_number, right_number}
use Rattle.lt_mut.proofs.Parts.{part_fits, operands_at}

-- there is a node at the least
some_nodes : (k : ℕ) (e : c.Expression) → k < k + length (in_expression e)
some_nodes k e = let head : length (in_expression e) ≡ suc (length (expression_headed e).0) = ap length (expression_headed e).1 in omega (arith, head)

mutual
  within_part : (k : ℕ) (e : c.Expression) → (value_part k e).number < k + length (in_expression e)
  within_part k (c.Comma parts) = let inner = within_last k (k + 1) parts (omega arith) in omega (arith, inner)
  within_part k (c.Marked marks e) = let inner = within_part (k + 1 + length (in_marks marks)) e in omega (arith, inner, length-append (in_marks marks) (in_expression e))
  within_part k (c.Decide e when_true when_false tag) = let inner = within_part (k + 1) e in omega (arith, inner)
  within_part k (c.After e id tag) = let inner = within_part (k + 1) e in omega (arith, inner)
  within_part k e = some_nodes k e

  within_last : (k j : ℕ) (parts : c.Expressions) → k < j → (last_value_part k j parts).number < j + length (in_expressions parts)
  within_last k j c.no_expressions before = omega (arith, before)
  within_last k j (c.an_expression e c.no_expressions) before = let inner = within_part j e in omega (arith, inner, length-append (in_expression e) [])
  within_last k j (c.an_expression e (c.an_expression next rest)) before =
      let inner = within_last k (j + length (in_expression e)) (c.an_expression next rest) (omega (arith, before)) in
      omega (arith, inner, length-append (in_expression e) (in_expressions (c.an_expression next rest)))

-- the part that has a value begins at a node
part_number_within : (unit : c.Unit) (k : ℕ) (e : c.Expression) → slice_get (nodes unit) k ≡ Some (an_expression e) → (value_part k e).number < length (nodes unit)
part_number_within unit k e at = let inner = within_part k e in let fits = part_fits unit k e at in omega (arith, inner, fits)

pub left_within : (unit : c.Unit) (k : ℕ) (e : c.Expression) → slice_get (nodes unit) k ≡ Some (an_expression e) → left_number k e < length (nodes unit)
left_within unit k (c.Binary op left right) at = part_number_within unit (k + 1) left (operands_at unit k op left right at).left_at
left_within unit k e at = slice_get_within (nodes unit) k (an_expression e) at

pub right_within : (unit : c.Unit) (k : ℕ) (e : c.Expression) → slice_get (nodes unit) k ≡ Some (an_expression e) → right_number k e < length (nodes unit)
right_within unit k (c.Binary op left right) at = part_number_within unit (k + 1 + length (in_expression left)) right (operands_at unit k op left right at).right_at
right_within unit k e at = slice_get_within (nodes unit) k (an_expression e) at
