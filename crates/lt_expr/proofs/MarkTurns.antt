-- One turn of a loop that reads marks or what they bind.
use Rattle.std.proofs.Common.{◌≡◌, ℕ, suc, Bool, true, false, cond, List, [], ◌∷◌, ◌++◌, Option, Some, None, refl, sym, ap, ◌∙◌}
use Rattle.lt_tree.specs.declared.mark.Mark.{Mark}
use Rattle.lt_tree.specs.declared.mark.Binding.{Binding}
use Rattle.lt_tree.specs.declared.terminal.Terminal.TheVariants as t
use Rattle.lt_tree.specs.Tree as c
use Rattle.lt_tree.specs.View.{expression_of, mark_of}
use Rattle.lt_tree.specs.Records.{marks_in, bindings_in}
use Rattle.lt_tree.specs.Ahead.{sees}
use Rattle.lt_tree.specs.Scope.{Scope}
use Rattle.lt_expr.specs.Front.{Rest, ◌>>=◌, expect, name_at, begins_mark}
use Rattle.lt_expr.specs.Fronts.{after, marks_before, bindings_before}
use Rattle.lt_expr.specs.Ends.{bound_name}
use Rattle.lt_expr.specs.Reading as reading
use Rattle.lt_expr.specs.Parsing.{Parsing, rest_of, scope_of, GoesOn}
use Rattle.lt_expr.proofs.Joins.{more_marks, last_marks, more_bindings, last_bindings}
use Rattle.lt_expr.proofs.Scopes.{same_scope}

-- ---- marks

abbrev marks_behind : ℕ → Scope → c.Mark → Rest → Option (c.Marks × Rest)
marks_behind n scope m us = cond (begins_mark us.0) (reading.marks n scope us >>= λ y. Some (c.a_mark m y.0, y.1)) (Some (c.a_mark m c.no_marks, us))

marks_are : (n : ℕ) (scope : Scope) (r r' us : Rest) (m : c.Mark) → reading.mark n scope r ≡ Some (m, r') → expect t.Comma r' ≡ Some us → reading.marks (suc n) scope r ≡ marks_behind n scope m us
unfolding reading.expression
marks_are n scope r r' us m one comma =
    ap (λ read. read >>= λ m. expect t.Comma m.1 >>= marks_behind n scope m.0) one
    ∙ ap (λ read. read >>= marks_behind n scope m) comma

pub marks_turn : (front all : List Mark) (m : Mark) (depth n : ℕ) (before later next : Parsing)
    → depth ≡ suc n → reading.mark n (scope_of before) (rest_of before) ≡ Some (mark_of m, rest_of later) → GoesOn before later
    → expect t.Comma (rest_of later) ≡ Some (rest_of next) → GoesOn later next → begins_mark (rest_of next).0 ≡ true → all ≡ front ++ m ∷ []
    → after (marks_before (marks_in all)) (reading.marks n (scope_of next) (rest_of next)) ≡ after (marks_before (marks_in front)) (reading.marks depth (scope_of before) (rest_of before))
marks_turn front all m depth n before later next deep one on comma on' more is =
    let read = reading.marks n (scope_of before) (rest_of next) in
    ap (λ xs. after (marks_before (marks_in xs)) (reading.marks n (scope_of next) (rest_of next))) is
    ∙ ap (λ scope. after (marks_before (marks_in (front ++ m ∷ []))) (reading.marks n scope (rest_of next))) (same_scope later next on' ∙ same_scope before later on)
    ∙ more_marks front m read
    ∙ ap (λ b. after (marks_before (marks_in front)) (cond b (read >>= λ y. Some (c.a_mark (mark_of m) y.0, y.1)) (Some (c.a_mark (mark_of m) c.no_marks, rest_of next)))) (sym more)
    ∙ ap (after (marks_before (marks_in front))) (sym (marks_are n (scope_of before) (rest_of before) (rest_of later) (rest_of next) (mark_of m) one comma))
    ∙ ap (λ k. after (marks_before (marks_in front)) (reading.marks k (scope_of before) (rest_of before))) (sym deep)

pub marks_end : (front all : List Mark) (m : Mark) (depth n : ℕ) (before later next : Parsing)
    → depth ≡ suc n → reading.mark n (scope_of before) (rest_of before) ≡ Some (mark_of m, rest_of later)
    → expect t.Comma (rest_of later) ≡ Some (rest_of next) → begins_mark (rest_of next).0 ≡ false → all ≡ front ++ m ∷ []
    → after (marks_before (marks_in front)) (reading.marks depth (scope_of before) (rest_of before)) ≡ Some (marks_in all, rest_of next)
marks_end front all m depth n before later next deep one comma none is =
    ap (λ k. after (marks_before (marks_in front)) (reading.marks k (scope_of before) (rest_of before))) deep
    ∙ ap (after (marks_before (marks_in front))) (marks_are n (scope_of before) (rest_of before) (rest_of later) (rest_of next) (mark_of m) one comma)
    ∙ ap (λ b. after (marks_before (marks_in front)) (cond b (reading.marks n (scope_of before) (rest_of next) >>= λ y. Some (c.a_mark (mark_of m) y.0, y.1)) (Some (c.a_mark (mark_of m) c.no_marks, rest_of next)))) none
    ∙ last_marks front m (rest_of next)
    ∙ ap (λ xs. Some (marks_in xs, rest_of next)) (sym is)

-- ---- what a mark binds

abbrev Then : Type 0
Then = List ℕ → Rest → Option (c.Bindings × Rest)

abbrev named : List ℕ → Rest → Option (List ℕ × Rest)
named w vs = Some (w, vs)

abbrev go_with : Then → List ℕ × Rest → Option (c.Bindings × Rest)
go_with go w = go w.0 w.1

abbrev comma_named : List ℕ × Rest → Option (List ℕ × Rest)
comma_named w = expect t.Comma w.1 >>= named w.0

comma_then : (w : List ℕ) (read : Option Rest) (go : Then) → (read >>= go w) ≡ ((read >>= named w) >>= go_with go)
comma_then w None go = refl
comma_then w (Some vs) go = refl

name_then : (read : Option (List ℕ × Rest)) (go : Then) → (read >>= λ w. expect t.Comma w.1 >>= go w.0) ≡ ((read >>= comma_named) >>= go_with go)
name_then None go = refl
name_then (Some w) go = comma_then w.0 (expect t.Comma w.1) go

bound_then : (read : Option Rest) (go : Then)
    → (read >>= λ us. name_at us >>= λ w. expect t.Comma w.1 >>= go w.0) ≡ ((read >>= λ us. name_at us >>= comma_named) >>= go_with go)
bound_then None go = refl
bound_then (Some us) go = name_then (name_at us) go

abbrev bindings_behind : ℕ → Scope → List ℕ → c.Expression × Rest → Option (c.Bindings × Rest)
bindings_behind n scope w x = cond (sees t.Comma x.1.0) (reading.bindings n scope x.1 >>= λ y. Some (c.a_binding w x.0 y.0, y.1)) (Some (c.a_binding w x.0 c.no_bindings, x.1))

bindings_are : (n : ℕ) (scope : Scope) (r vs r' : Rest) (w : List ℕ) (e : c.Expression) → bound_name r ≡ Some (w, vs) → reading.assignment n scope vs ≡ Some (e, r') → reading.bindings (suc n) scope r ≡ bindings_behind n scope w (e, r')
unfolding reading.expression
bindings_are n scope r vs r' w e named one =
    bound_then (expect t.Comma r) (λ w vs. reading.assignment n scope vs >>= bindings_behind n scope w)
    ∙ ap (λ read. read >>= λ w. reading.assignment n scope w.1 >>= bindings_behind n scope w.0) named
    ∙ ap (λ read. read >>= bindings_behind n scope w) one

pub bindings_turn : (front all : List Binding) (b : Binding) (depth n : ℕ) (before at later : Parsing)
    → depth ≡ suc n → bound_name (rest_of before) ≡ Some (b.name, rest_of at) → GoesOn before at
    → reading.assignment n (scope_of at) (rest_of at) ≡ Some (expression_of b.value, rest_of later) → GoesOn at later → sees t.Comma (rest_of later).0 ≡ true → all ≡ front ++ b ∷ []
    → after (bindings_before (bindings_in all)) (reading.bindings n (scope_of later) (rest_of later)) ≡ after (bindings_before (bindings_in front)) (reading.bindings depth (scope_of before) (rest_of before))
bindings_turn front all b depth n before at later deep named on one on' more is =
    let read = reading.bindings n (scope_of before) (rest_of later) in
    let one' : reading.assignment n (scope_of before) (rest_of at) ≡ Some (expression_of b.value, rest_of later) = ap (λ scope. reading.assignment n scope (rest_of at)) (sym (same_scope before at on)) ∙ one in
    ap (λ xs. after (bindings_before (bindings_in xs)) (reading.bindings n (scope_of later) (rest_of later))) is
    ∙ ap (λ scope. after (bindings_before (bindings_in (front ++ b ∷ []))) (reading.bindings n scope (rest_of later))) (same_scope at later on' ∙ same_scope before at on)
    ∙ more_bindings front b read
    ∙ ap (λ x. after (bindings_before (bindings_in front)) (cond x (read >>= λ y. Some (c.a_binding b.name (expression_of b.value) y.0, y.1)) (Some (c.a_binding b.name (expression_of b.value) c.no_bindings, rest_of later)))) (sym more)
    ∙ ap (after (bindings_before (bindings_in front))) (sym (bindings_are n (scope_of before) (rest_of before) (rest_of at) (rest_of later) b.name (expression_of b.value) named one'))
    ∙ ap (λ k. after (bindings_before (bindings_in front)) (reading.bindings k (scope_of before) (rest_of before))) (sym deep)

pub bindings_end : (front all : List Binding) (b : Binding) (depth n : ℕ) (before at later : Parsing)
    → depth ≡ suc n → bound_name (rest_of before) ≡ Some (b.name, rest_of at) → GoesOn before at
    → reading.assignment n (scope_of at) (rest_of at) ≡ Some (expression_of b.value, rest_of later) → sees t.Comma (rest_of later).0 ≡ false → all ≡ front ++ b ∷ []
    → after (bindings_before (bindings_in front)) (reading.bindings depth (scope_of before) (rest_of before)) ≡ Some (bindings_in all, rest_of later)
bindings_end front all b depth n before at later deep named on one none is =
    let one' : reading.assignment n (scope_of before) (rest_of at) ≡ Some (expression_of b.value, rest_of later) = ap (λ scope. reading.assignment n scope (rest_of at)) (sym (same_scope before at on)) ∙ one in
    ap (λ k. after (bindings_before (bindings_in front)) (reading.bindings k (scope_of before) (rest_of before))) deep
    ∙ ap (after (bindings_before (bindings_in front))) (bindings_are n (scope_of before) (rest_of before) (rest_of at) (rest_of later) b.name (expression_of b.value) named one')
    ∙ ap (λ x. after (bindings_before (bindings_in front)) (cond x (reading.bindings n (scope_of before) (rest_of later) >>= λ y. Some (c.a_binding b.name (expression_of b.value) y.0, y.1)) (Some (c.a_binding b.name (expression_of b.value) c.no_bindings, rest_of later)))) none
    ∙ last_bindings front b (rest_of later)
    ∙ ap (λ xs. Some (bindings_in xs, rest_of later)) (sym is)
