-- One turn of a loop that reads expressions, and what follows the first part of a comma expression.
use Rattle.std.proofs.Common.{◌≡◌, ℕ, suc, Bool, true, false, cond, List, [], ◌∷◌, ◌++◌, Option, Some, None, refl, sym, ap, ◌∙◌}
use Rattle.lt_tree.specs.declared.expression.Expr.{Expr}
use Rattle.lt_tree.specs.declared.terminal.Terminal.TheVariants as t
use Rattle.lt_tree.specs.Tree as c
use Rattle.lt_tree.specs.Comma.{comma_of, followed_by}
use Rattle.lt_tree.specs.View.{expression_of}
use Rattle.lt_tree.specs.Records.{expressions_in}
use Rattle.lt_tree.specs.Ahead.{sees}
use Rattle.lt_tree.specs.Symbols.{start_of}
use Rattle.lt_tree.specs.Scope.{Scope}
use Rattle.lt_expr.specs.Front.{Rest, Reader, ◌>>=◌, behind, ended, reopened}
use Rattle.lt_expr.specs.Fronts.{after, front_of}
use Rattle.lt_expr.specs.Reading as reading
use Rattle.lt_expr.specs.Parsing.{Parsing, rest_of, scope_of, GoesOn}
use Rattle.lt_expr.proofs.Joins.{more_expressions, last_expressions}
use Rattle.lt_expr.proofs.Commas.{comma_of_parts}
use Rattle.lt_expr.proofs.Scopes.{same_scope}

-- ---- the parts of a comma expression

abbrev parts_behind : ℕ → Scope → c.Expression × Rest → Option (c.Expressions × Rest)
parts_behind n scope x = cond (sees t.Comma x.1.0) (reading.parts n scope (behind x.1) >>= λ y. Some (c.an_expression x.0 y.0, y.1)) (Some (c.an_expression x.0 c.no_expressions, x.1))

parts_are : (n : ℕ) (scope : Scope) (r r' : Rest) (e : c.Expression) → reading.marked n scope r ≡ Some (e, r') → reading.parts (suc n) scope r ≡ parts_behind n scope (e, r')
unfolding reading.expression
parts_are n scope r r' e one = ap (λ read. read >>= parts_behind n scope) one

pub parts_turn : (front all : List Expr) (e : Expr) (depth n : ℕ) (before later next : Parsing)
    → depth ≡ suc n → reading.marked n (scope_of before) (rest_of before) ≡ Some (expression_of e, rest_of later) → GoesOn before later
    → sees t.Comma (rest_of later).0 ≡ true → rest_of next ≡ behind (rest_of later) → GoesOn later next → all ≡ front ++ e ∷ []
    → after (followed_by (expressions_in all)) (reading.parts n (scope_of next) (rest_of next)) ≡ after (followed_by (expressions_in front)) (reading.parts depth (scope_of before) (rest_of before))
parts_turn front all e depth n before later next deep one on more rest on' is =
    let rest_read = reading.parts n (scope_of before) (behind (rest_of later)) in
    ap (λ xs. after (followed_by (expressions_in xs)) (reading.parts n (scope_of next) (rest_of next))) is
    ∙ ap (λ scope. after (followed_by (expressions_in (front ++ e ∷ []))) (reading.parts n scope (rest_of next))) (same_scope later next on' ∙ same_scope before later on)
    ∙ ap (λ r. after (followed_by (expressions_in (front ++ e ∷ []))) (reading.parts n (scope_of before) r)) rest
    ∙ more_expressions front e rest_read
    ∙ ap (λ b. after (followed_by (expressions_in front)) (cond b (rest_read >>= λ y. Some (c.an_expression (expression_of e) y.0, y.1)) (Some (c.an_expression (expression_of e) c.no_expressions, rest_of later)))) (sym more)
    ∙ ap (after (followed_by (expressions_in front))) (sym (parts_are n (scope_of before) (rest_of before) (rest_of later) (expression_of e) one))
    ∙ ap (λ k. after (followed_by (expressions_in front)) (reading.parts k (scope_of before) (rest_of before))) (sym deep)

pub parts_end : (front all : List Expr) (e : Expr) (depth n : ℕ) (before later : Parsing)
    → depth ≡ suc n → reading.marked n (scope_of before) (rest_of before) ≡ Some (expression_of e, rest_of later)
    → sees t.Comma (rest_of later).0 ≡ false → all ≡ front ++ e ∷ []
    → after (followed_by (expressions_in front)) (reading.parts depth (scope_of before) (rest_of before)) ≡ Some (expressions_in all, rest_of later)
parts_end front all e depth n before later deep one none is =
    ap (λ k. after (followed_by (expressions_in front)) (reading.parts k (scope_of before) (rest_of before))) deep
    ∙ ap (after (followed_by (expressions_in front))) (parts_are n (scope_of before) (rest_of before) (rest_of later) (expression_of e) one)
    ∙ ap (λ b. after (followed_by (expressions_in front)) (cond b (reading.parts n (scope_of before) (behind (rest_of later)) >>= λ y. Some (c.an_expression (expression_of e) y.0, y.1)) (Some (c.an_expression (expression_of e) c.no_expressions, rest_of later)))) none
    ∙ last_expressions front e (rest_of later)
    ∙ ap (λ xs. Some (expressions_in xs, rest_of later)) (sym is)

-- ---- arguments

abbrev arguments_behind : ℕ → Scope → c.Expression × Rest → Option (c.Expressions × Rest)
arguments_behind n scope x = cond (sees t.Comma x.1.0) (reading.arguments n scope (behind x.1) >>= λ y. Some (c.an_expression x.0 y.0, y.1)) (Some (c.an_expression x.0 c.no_expressions, x.1))

arguments_are : (n : ℕ) (scope : Scope) (r r' : Rest) (e : c.Expression) → reading.assignment n scope r ≡ Some (e, r') → reading.arguments (suc n) scope r ≡ arguments_behind n scope (e, r')
unfolding reading.expression
arguments_are n scope r r' e one = ap (λ read. read >>= arguments_behind n scope) one

pub arguments_turn : (front all : List Expr) (e : Expr) (depth n : ℕ) (before later next : Parsing)
    → depth ≡ suc n → reading.assignment n (scope_of before) (rest_of before) ≡ Some (expression_of e, rest_of later) → GoesOn before later
    → sees t.Comma (rest_of later).0 ≡ true → rest_of next ≡ behind (rest_of later) → GoesOn later next → all ≡ front ++ e ∷ []
    → after (followed_by (expressions_in all)) (reading.arguments n (scope_of next) (rest_of next)) ≡ after (followed_by (expressions_in front)) (reading.arguments depth (scope_of before) (rest_of before))
arguments_turn front all e depth n before later next deep one on more rest on' is =
    let rest_read = reading.arguments n (scope_of before) (behind (rest_of later)) in
    ap (λ xs. after (followed_by (expressions_in xs)) (reading.arguments n (scope_of next) (rest_of next))) is
    ∙ ap (λ scope. after (followed_by (expressions_in (front ++ e ∷ []))) (reading.arguments n scope (rest_of next))) (same_scope later next on' ∙ same_scope before later on)
    ∙ ap (λ r. after (followed_by (expressions_in (front ++ e ∷ []))) (reading.arguments n (scope_of before) r)) rest
    ∙ more_expressions front e rest_read
    ∙ ap (λ b. after (followed_by (expressions_in front)) (cond b (rest_read >>= λ y. Some (c.an_expression (expression_of e) y.0, y.1)) (Some (c.an_expression (expression_of e) c.no_expressions, rest_of later)))) (sym more)
    ∙ ap (after (followed_by (expressions_in front))) (sym (arguments_are n (scope_of before) (rest_of before) (rest_of later) (expression_of e) one))
    ∙ ap (λ k. after (followed_by (expressions_in front)) (reading.arguments k (scope_of before) (rest_of before))) (sym deep)

-- behind '(' where no ')' follows
pub arguments_begin : (read : Option (c.Expressions × Rest)) (r : Rest) → sees t.CloseParen r.0 ≡ false → cond (sees t.CloseParen r.0) (Some (c.no_expressions, r)) read ≡ read
arguments_begin read r others = ap (λ b. cond b (Some (c.no_expressions, r)) read) others

pub arguments_end : (front all : List Expr) (e : Expr) (depth n : ℕ) (before later : Parsing)
    → depth ≡ suc n → reading.assignment n (scope_of before) (rest_of before) ≡ Some (expression_of e, rest_of later)
    → sees t.Comma (rest_of later).0 ≡ false → all ≡ front ++ e ∷ []
    → after (followed_by (expressions_in front)) (reading.arguments depth (scope_of before) (rest_of before)) ≡ Some (expressions_in all, rest_of later)
arguments_end front all e depth n before later deep one none is =
    ap (λ k. after (followed_by (expressions_in front)) (reading.arguments k (scope_of before) (rest_of before))) deep
    ∙ ap (after (followed_by (expressions_in front))) (arguments_are n (scope_of before) (rest_of before) (rest_of later) (expression_of e) one)
    ∙ ap (λ b. after (followed_by (expressions_in front)) (cond b (reading.arguments n (scope_of before) (behind (rest_of later)) >>= λ y. Some (c.an_expression (expression_of e) y.0, y.1)) (Some (c.an_expression (expression_of e) c.no_expressions, rest_of later)))) none
    ∙ last_expressions front e (rest_of later)
    ∙ ap (λ xs. Some (expressions_in xs, rest_of later)) (sym is)

-- ---- a comma expression as a whole

abbrev commas_behind : ℕ → Scope → Rest → c.Expression × Rest → Option (c.Expression × Rest)
commas_behind n scope r x = cond (sees t.Comma x.1.0) (reading.parts n scope (behind (reopened x.0 x.1)) >>= λ y. Some (comma_of x.0 y.0, ended (start_of r.0) y.1)) (Some x)

expression_is : (n : ℕ) (scope : Scope) (r r' : Rest) (e : c.Expression) → reading.marked n scope r ≡ Some (e, r') → reading.expression (suc n) scope r ≡ commas_behind n scope r (e, r')
unfolding reading.expression
expression_is n scope r r' e one = ap (λ read. read >>= commas_behind n scope r) one

pub commas_read : (depth n : ℕ) (e : c.Expression) (first parts : List Expr) (start : ℕ) (before later opened at done : Parsing)
    → depth ≡ suc n → start ≡ start_of (rest_of before).0
    → reading.marked n (scope_of before) (rest_of before) ≡ Some (e, rest_of later) → GoesOn before later → sees t.Comma (rest_of later).0 ≡ true
    → expressions_in first ≡ front_of e → rest_of opened ≡ reopened e (rest_of later) → GoesOn later opened → rest_of at ≡ behind (rest_of opened) → GoesOn opened at
    → after (followed_by (expressions_in first)) (reading.parts n (scope_of at) (rest_of at)) ≡ Some (expressions_in parts, rest_of done)
    → reading.expression depth (scope_of before) (rest_of before) ≡ Some (c.Comma (expressions_in parts), ended start (rest_of done))
commas_read depth n e first parts start before later opened at done deep begin one on more front opens on' rest on'' read =
    let scope = scope_of before in
    let read_parts = reading.parts n scope (behind (reopened e (rest_of later))) in
    let same : scope_of at ≡ scope = same_scope opened at on'' ∙ same_scope later opened on' ∙ same_scope before later on in
    let place : rest_of at ≡ behind (reopened e (rest_of later)) = rest ∙ ap behind opens in
    let given : after (followed_by (front_of e)) read_parts ≡ Some (expressions_in parts, rest_of done) =
    ap (λ xs. after (followed_by xs) read_parts) (sym front)
    ∙ ap (λ r. after (followed_by (expressions_in first)) (reading.parts n scope r)) (sym place)
    ∙ ap (λ s. after (followed_by (expressions_in first)) (reading.parts n s (rest_of at))) (sym same)
    ∙ read in
    ap (λ k. reading.expression k scope (rest_of before)) deep
    ∙ expression_is n scope (rest_of before) (rest_of later) e one
    ∙ ap (λ b. cond b (read_parts >>= λ y. Some (comma_of e y.0, ended (start_of (rest_of before).0) y.1)) (Some (e, rest_of later))) more
    ∙ comma_of_parts e (start_of (rest_of before).0) n scope (behind (reopened e (rest_of later))) (rest_of done) (expressions_in parts) given
    ∙ ap (λ k. Some (c.Comma (expressions_in parts), ended k (rest_of done))) (sym begin)
