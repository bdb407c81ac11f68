-- Conjunctions of one more clause.
use Rattle.std.specs.Prelude.{List, [], ◌∷◌}
use Rattle.std.specs.List.{flat_map}
use Rattle.lt_tree.specs.declared.expression.Expr.{Expr}
use Rattle.lt_tree.specs.Tree as t
use Rattle.lt_tree.specs.View.{expression_of}
use Rattle.lt_objectives.specs.Decisions.{conjunction, negation}

-- an expression and a clause or its negation
abbrev pub extensions : t.Expression → t.Expression → List t.Expression
extensions made e = conjunction made e ∷ conjunction made (negation e) ∷ []

-- each of these with the clause, and with its negation
abbrev pub all_extensions : List Expr → t.Expression → List t.Expression
all_extensions made e = flat_map (λ m. extensions (expression_of m) e) made
