-- Decisions and their clauses.
use Rattle.std.specs.Prelude.{ℕ, suc, ◌+◌, ◌-◌, nat_le, nat_lt, Bool, if◌then◌else◌, List, [], ◌∷◌, ◌++◌, length, map, codes, Option, Some, None, unwrap_or}
use Rattle.std.specs.List.{flat_map}
use Rattle.lt_model.specs.declared.operator.Op.TheVariants as O
use Rattle.lt_tree.specs.declared.expression.UnaryOp.TheVariants as unary
use Rattle.lt_tree.specs.declared.expression.LogicalOp.TheVariants as logical
use Rattle.lt_tree.specs.Tree as c
use Rattle.lt_tree.specs.Nodes.{Node, a_statement, an_expression, in_expression, in_marks, in_start, in_statement}
use Rattle.lt_objectives.specs.Places.{sites, Part, part}

-- The controlling expressions of `if`, `while`, `do` and `for`, and the first operand of `?:`, C11 6.8.4, 6.8.5 and 6.5.15, with the marks around
-- them.
abbrev pub controlling : ℕ → Node → List Part
controlling k (a_statement (c.If test x)) = part (k + 1) test ∷ []
controlling k (a_statement (c.IfElse test x y)) = part (k + 1) test ∷ []
controlling k (a_statement (c.While test x)) = part (k + 1) test ∷ []
controlling k (a_statement (c.Do x test)) = part (k + 1 + length (in_statement x)) test ∷ []
controlling k (a_statement (c.For start (Some test) step x)) = part (k + 1 + length (in_start start)) test ∷ []
controlling k (an_expression (c.Conditional test left right)) = part (k + 1) test ∷ []
controlling k node = []

-- A decision or a clause without the marks around it, and the number of what a new `pc_decide` stands around: that expression, or the outermost
-- `pc_after` that stands directly around it. Where a value can't be tested the run is over, and a `pc_after` notes before that that it was evaluated:
-- so it isn't tested inside.
pub record Test : Type 0 where
  pub core : Part
  pub decided : ℕ

-- an expression, with the number of the `pc_after` in which it stands, if it stands in one
abbrev pub test_at : Option ℕ → ℕ → c.Expression → Test
test_at after k e = record { core = part k e; decided = unwrap_or after k }

abbrev pub in_after : Option ℕ → ℕ → Option ℕ
in_after after k = Some (unwrap_or after k)

-- the decision that is an expression with marks around it
abbrev pub decision_of : Option ℕ → ℕ → c.Expression → Test
decision_of after k (c.Marked marks e) = decision_of after (k + 1 + length (in_marks marks)) e
decision_of after k (c.Decide e when_true when_false tag) = decision_of after (k + 1) e
decision_of after k (c.After e id tag) = decision_of (in_after after k) (k + 1) e
decision_of after k e = test_at after k e

-- the clauses of an expression that begins at this number: what `&&`, `||` and `!` leave
abbrev pub clauses_of : Option ℕ → ℕ → c.Expression → List Test
clauses_of after k (c.Logical op left right) = clauses_of None (k + 1) left ++ clauses_of None (k + 1 + length (in_expression left)) right
clauses_of after k (c.Unary unary.Not e) = clauses_of None (k + 1) e
clauses_of after k (c.Marked marks e) = clauses_of after (k + 1 + length (in_marks marks)) e
clauses_of after k (c.Decide e when_true when_false tag) = clauses_of after (k + 1) e
clauses_of after k (c.After e id tag) = clauses_of (in_after after k) (k + 1) e
clauses_of after k e = test_at after k e ∷ []

abbrev pub decisions : c.Unit → List Test
decisions unit = flat_map (λ site. map (λ it. decision_of None it.number it.expression) (controlling site.number site.node)) (sites unit)

abbrev pub clauses : c.Unit → List Test
clauses unit = flat_map (λ site. flat_map (λ it. clauses_of None it.number it.expression) (controlling site.number site.node)) (sites unit)

-- ---- expressions made of clauses

abbrev pub negation : c.Expression → c.Expression
negation e = c.Unary unary.Not e

abbrev pub conjunction : c.Expression → c.Expression → c.Expression
conjunction left right = c.Logical logical.And left right

abbrev pub inequality : c.Expression → c.Expression → c.Expression
inequality left right = c.Binary O.Ne left right

abbrev pub zero_constant : c.Expression
zero_constant = c.Constant (codes "0")

abbrev pub one : c.Expression
one = c.Constant (codes "1")

-- the clauses of a decision that has no marks
abbrev pub clause_list : c.Expression → List c.Expression
clause_list d = map (λ it. it.core.expression) (clauses_of None 0 d)

-- A conjunction that goes on with each of these clauses or its negation, all true first, the last changing fastest.
abbrev pub conjunctions_from : c.Expression → List c.Expression → List c.Expression
conjunctions_from made [] = made ∷ []
conjunctions_from made (e ∷ es) = conjunctions_from (conjunction made e) es ++ conjunctions_from (conjunction made (negation e)) es

-- the conjunctions of each clause or its negation, joined from left to right
abbrev pub conjunctions : List c.Expression → List c.Expression
conjunctions [] = []
conjunctions (e ∷ es) = conjunctions_from e es ++ conjunctions_from (negation e) es

abbrev pub clause_count : c.Expression → ℕ
clause_count d = length (clauses_of None 0 d)

-- a decision without marks whose clause of this number, from 0, is replaced
abbrev pub with_clause : ℕ → c.Expression → c.Expression → c.Expression
with_clause n by (c.Logical op left right) =
    if nat_lt n (clause_count left) then c.Logical op (with_clause n by left) right else c.Logical op left (with_clause (n - clause_count left) by right)
with_clause n by (c.Unary unary.Not e) = negation (with_clause n by e)
with_clause n by e = by

-- that the clause of this number determines the decision
abbrev pub determination : ℕ → c.Expression → c.Expression
determination n d = inequality (with_clause n one d) (with_clause n zero_constant d)

-- for each clause of a decision, from this number on, that it is true and determines the decision, and that it is false and does
abbrev pub active_from : c.Expression → ℕ → List c.Expression → List c.Expression
active_from d n [] = []
active_from d n (e ∷ es) = conjunction e (determination n d) ∷ conjunction (negation e) (determination n d) ∷ active_from d (suc n) es

abbrev pub active_clauses : c.Expression → List c.Expression
active_clauses d = active_from d 0 (clause_list d)

-- the most clauses of a decision whose combinations are objectives
abbrev pub most_clauses : ℕ
most_clauses = 8

abbrev pub has_few_clauses : c.Expression → Bool
has_few_clauses d = nat_le (clause_count d) most_clauses
