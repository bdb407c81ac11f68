-- The clauses of an expression, without where they stand.
use Rattle.std.proofs.Common.{◌≡◌, ℕ, ◌+◌, ◌<◌, arith, List, [], ◌∷◌, ◌++◌, length, map, refl, sym, ap, ◌∙◌}
use Rattle.std.specs.Prelude.{Option, None}
use Rattle.std.proofs.lemmas.List.{map-append, length-append, length-map}
use Rattle.lt_tree.specs.declared.expression.UnaryOp.TheVariants as unary
use Rattle.lt_tree.specs.Tree as t
use Rattle.lt_tree.specs.Nodes.{in_expression, in_marks}
use Rattle.lt_objectives.specs.Decisions.{clauses_of, clause_list, clause_count, in_after}
use Rattle.lt_predicates.specs.Clauses.{insides}

abbrev pub plain_clauses : t.Expression → List t.Expression
plain_clauses (t.Logical op left right) = plain_clauses left ++ plain_clauses right
plain_clauses (t.Unary unary.Not e) = plain_clauses e
plain_clauses (t.Marked marks e) = plain_clauses e
plain_clauses (t.Decide e when_true when_false tag) = plain_clauses e
plain_clauses (t.After e id tag) = plain_clauses e
plain_clauses e = e ∷ []

clauses_are : (after : Option ℕ) (k : ℕ) (e : t.Expression) → map (λ it. it.core.expression) (clauses_of after k e) ≡ plain_clauses e
clauses_are after k (t.Logical op left right) =
    map-append (λ it. it.core.expression) (clauses_of None (k + 1) left) (clauses_of None (k + 1 + length (in_expression left)) right)
    ∙ ap (λ l. l ++ map (λ it. it.core.expression) (clauses_of None (k + 1 + length (in_expression left)) right)) (clauses_are None (k + 1) left)
    ∙ ap (λ l. plain_clauses left ++ l) (clauses_are None (k + 1 + length (in_expression left)) right)
clauses_are after k (t.Unary unary.Not e) = clauses_are None (k + 1) e
clauses_are after k (t.Marked marks e) = clauses_are after (k + 1 + length (in_marks marks)) e
clauses_are after k (t.Decide e when_true when_false tag) = clauses_are after (k + 1) e
clauses_are after k (t.After e id tag) = clauses_are (in_after after k) (k + 1) e
clauses_are after k e = refl

pub list_is : (e : t.Expression) → clause_list e ≡ plain_clauses e
list_is e = clauses_are None 0 e

pub count_is : (e : t.Expression) → clause_count e ≡ length (plain_clauses e)
count_is e = sym (length-map (clauses_of None 0 e) (λ it. it.core.expression)) ∙ ap length (list_is e)

-- ---- by what stands directly in it

pub both_clauses : (e left right : t.Expression) → left ∷ right ∷ [] ≡ insides e → plain_clauses e ≡ plain_clauses left ++ plain_clauses right
both_clauses (t.Logical op l r) left right h = cc
both_clauses (t.Unary unary.Not x) left right h = absurd cc
both_clauses (t.Marked marks x) left right h = absurd cc
both_clauses (t.Decide x when_true when_false tag) left right h = absurd cc
both_clauses (t.After x id tag) left right h = absurd cc
both_clauses e left right h = absurd cc

pub one_clauses : (e inner : t.Expression) → inner ∷ [] ≡ insides e → plain_clauses e ≡ plain_clauses inner
one_clauses (t.Logical op l r) inner h = absurd cc
one_clauses (t.Unary unary.Not x) inner h = cc
one_clauses (t.Marked marks x) inner h = cc
one_clauses (t.Decide x when_true when_false tag) inner h = cc
one_clauses (t.After x id tag) inner h = cc
one_clauses e inner h = absurd cc

pub no_clauses : (e : t.Expression) → [] ≡ insides e → plain_clauses e ≡ e ∷ []
no_clauses (t.Logical op l r) h = absurd cc
no_clauses (t.Unary unary.Not x) h = absurd cc
no_clauses (t.Marked marks x) h = absurd cc
no_clauses (t.Decide x when_true when_false tag) h = absurd cc
no_clauses (t.After x id tag) h = absurd cc
no_clauses e h = refl

-- ---- and its nodes

pub both_less : (e left right : t.Expression) → left ∷ right ∷ [] ≡ insides e → length (in_expression left) + length (in_expression right) < length (in_expression e)
both_less (t.Logical op l r) left right h =
    let first : left ≡ l = cc in
    let second : right ≡ r = cc in
    let m : length (in_expression left) ≡ length (in_expression l) = ap (λ x. length (in_expression x)) first in
    let n : length (in_expression right) ≡ length (in_expression r) = ap (λ x. length (in_expression x)) second in
    omega (arith, length-append (in_expression l) (in_expression r))
both_less (t.Unary unary.Not x) left right h = absurd cc
both_less (t.Marked marks x) left right h = absurd cc
both_less (t.Decide x when_true when_false tag) left right h = absurd cc
both_less (t.After x id tag) left right h = absurd cc
both_less e left right h = absurd cc

same_size : (x inner : t.Expression) → inner ∷ [] ≡ x ∷ [] → length (in_expression inner) ≡ length (in_expression x)
same_size x inner h = let is : inner ≡ x = cc in ap (λ e. length (in_expression e)) is

pub one_less : (e inner : t.Expression) → inner ∷ [] ≡ insides e → length (in_expression inner) < length (in_expression e)
one_less (t.Logical op l r) inner h = absurd cc
one_less (t.Unary unary.Not x) inner h = omega (arith, same_size x inner h)
one_less (t.Marked marks x) inner h = omega (arith, same_size x inner h, length-append (in_marks marks) (in_expression x))
one_less (t.Decide x when_true when_false tag) inner h = omega (arith, same_size x inner h)
one_less (t.After x id tag) inner h = omega (arith, same_size x inner h)
one_less e inner h = absurd cc

pub some_nodes : (e : t.Expression) → 0 < length (in_expression e)
some_nodes (t.Logical op l r) = omega arith
some_nodes e = omega arith
