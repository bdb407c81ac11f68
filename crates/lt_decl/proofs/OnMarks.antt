-- An expression of which the first mark was read, part by part.
use Rattle.std.proofs.Common.{◌≡◌, ℕ, suc, true, false, cond, Option, Some, None, refl, sym, ap, ◌∙◌}
use Rattle.lt_tree.specs.declared.terminal.Terminal.TheVariants as t
use Rattle.lt_tree.specs.Tree as c
use Rattle.lt_tree.specs.Ahead.{sees}
use Rattle.lt_tree.specs.Comma.{followed_by}
use Rattle.lt_tree.specs.Scope.{Scope}
use Rattle.lt_expr.specs.Front.{Rest, ◌>>=◌, behind, ended}
use Rattle.lt_expr.specs.Fronts.{after}
use Rattle.lt_expr.specs.Parsing.{Parsing, scope_of, rest_of, GoesOn}
use Rattle.lt_expr.specs.Reading as ex
use Rattle.lt_decl.specs.Items.{marks_by}
use Rattle.lt_decl.specs.Reading as reading
use Rattle.lt_expr.proofs.Scopes.{same_scope, read_there}

through_put : {A B : Type 0} (put : A → A) (read : Option (A × Rest)) (k : A × Rest → Option B) → (read >>= λ m. k (put m.0, m.1)) ≡ (after put read >>= k)
through_put put None k = refl
through_put put (Some m) k = refl

abbrev more_parts : ℕ → Scope → ℕ → c.Marks → c.Expression × Rest → Option (c.Expression × Rest)
more_parts n scope start ms x =
    ex.parts n scope (behind (ended start x.1)) >>= λ y. Some (c.Comma (c.an_expression (c.Marked ms x.0) y.0), ended start y.1)

abbrev behind_value : ℕ → Scope → ℕ → c.Marks → c.Expression × Rest → Option (c.Expression × Rest)
behind_value n scope start ms x = cond (sees t.Comma x.1.0) (more_parts n scope start ms x) (Some (c.Marked ms x.0, ended start x.1))

abbrev behind_marks : ℕ → Scope → ℕ → c.Marks × Rest → Option (c.Expression × Rest)
behind_marks n scope start m = ex.assignment n scope m.1 >>= λ x. behind_value n scope start m.0 x

on_is : (n : ℕ) (scope : Scope) (start : ℕ) (first : c.Mark) (r : Rest) → reading.expression_on (suc n) scope start first r ≡ (after (c.a_mark first) (marks_by (ex.marks n scope) r) >>= behind_marks n scope start)
unfolding reading.expression_on
on_is n scope start first r = through_put (c.a_mark first) (marks_by (ex.marks n scope) r) (behind_marks n scope start)

value_read : (n depth : ℕ) (scope : Scope) (start : ℕ) (first : c.Mark) (r u v : Rest) (ms : c.Marks) (x : c.Expression) → depth ≡ suc n
    → after (c.a_mark first) (marks_by (ex.marks n scope) r) ≡ Some (ms, u) → ex.assignment n scope u ≡ Some (x, v) → reading.expression_on depth scope start first r ≡ behind_value n scope start ms (x, v)
value_read n depth scope start first r u v ms x deep marks value =
    ap (λ k. reading.expression_on k scope start first r) deep
    ∙ on_is n scope start first r
    ∙ ap (λ read. read >>= behind_marks n scope start) marks
    ∙ ap (λ read. read >>= λ x. behind_value n scope start ms x) value

pub on_without_marks : (n depth : ℕ) (a : Parsing) (start : ℕ) (first : c.Mark) → depth ≡ suc n → after (c.a_mark first) (marks_by (ex.marks n (scope_of a)) (rest_of a)) ≡ None → reading.expression_on depth (scope_of a) start first (rest_of a) ≡ None
on_without_marks n depth a start first deep none =
    ap (λ k. reading.expression_on k (scope_of a) start first (rest_of a)) deep
    ∙ on_is n (scope_of a) start first (rest_of a)
    ∙ ap (λ read. read >>= behind_marks n (scope_of a) start) none

pub on_without_value : (n depth : ℕ) (a b : Parsing) (start : ℕ) (first : c.Mark) (ms : c.Marks) → depth ≡ suc n → after (c.a_mark first) (marks_by (ex.marks n (scope_of a)) (rest_of a)) ≡ Some (ms, rest_of b) → GoesOn a b
    → ex.assignment n (scope_of b) (rest_of b) ≡ None → reading.expression_on depth (scope_of a) start first (rest_of a) ≡ None
on_without_value n depth a b start first ms deep marks on none =
    ap (λ k. reading.expression_on k (scope_of a) start first (rest_of a)) deep
    ∙ on_is n (scope_of a) start first (rest_of a)
    ∙ ap (λ read. read >>= behind_marks n (scope_of a) start) marks
    ∙ ap (λ read. read >>= λ x. behind_value n (scope_of a) start ms x) (ap (λ s. ex.assignment n s (rest_of b)) (sym (same_scope a b on)) ∙ none)

-- up to the value, which ends there
pub on_value : (n depth : ℕ) (a b d g : Parsing) (start : ℕ) (first : c.Mark) (ms : c.Marks) (x : c.Expression) → depth ≡ suc n → after (c.a_mark first) (marks_by (ex.marks n (scope_of a)) (rest_of a)) ≡ Some (ms, rest_of b) → GoesOn a b
    → ex.assignment n (scope_of b) (rest_of b) ≡ Some (x, rest_of d) → rest_of g ≡ ended start (rest_of d)
    → reading.expression_on depth (scope_of a) start first (rest_of a) ≡ cond (sees t.Comma (rest_of g).0) (ex.parts n (scope_of a) (behind (rest_of g)) >>= λ y. Some (c.Comma (c.an_expression (c.Marked ms x) y.0), ended start y.1)) (Some (c.Marked ms x, rest_of g))
on_value n depth a b d g start first ms x deep marks on value ends =
    value_read n depth (scope_of a) start first (rest_of a) (rest_of b) (rest_of d) ms x deep marks (ap (λ s. ex.assignment n s (rest_of b)) (sym (same_scope a b on)) ∙ value)
    ∙ ap (λ (r : Rest). cond (sees t.Comma r.0) (ex.parts n (scope_of a) (behind r) >>= λ y. Some (c.Comma (c.an_expression (c.Marked ms x) y.0), ended start y.1)) (Some (c.Marked ms x, r))) (sym ends)

pub on_alone : (whole : Option (c.Expression × Rest)) (more : Option (c.Expression × Rest)) (g : Parsing) (x y : c.Expression) → whole ≡ cond (sees t.Comma (rest_of g).0) more (Some (x, rest_of g)) → sees t.Comma (rest_of g).0 ≡ false → y ≡ x → whole ≡ Some (y, rest_of g)
on_alone whole more g x y is ends same = is ∙ ap (λ b. cond b more (Some (x, rest_of g))) ends ∙ ap (λ e. Some (e, rest_of g)) (sym same)

-- the parts behind the first one, which was read before them
parts_there : (n : ℕ) (a g h : Parsing) (e : c.Expression) (front : c.Expressions) (answer : Option (c.Expressions × Rest)) → scope_of h ≡ scope_of a → rest_of h ≡ behind (rest_of g)
    → front ≡ c.an_expression e c.no_expressions → after (followed_by front) (ex.parts n (scope_of h) (rest_of h)) ≡ answer → after (c.an_expression e) (ex.parts n (scope_of a) (behind (rest_of g))) ≡ answer
parts_there n a g h e front answer scope at is parts =
    ap (λ xs. after (followed_by xs) (ex.parts n (scope_of a) (behind (rest_of g)))) (sym is)
    ∙ read_there (λ s r. after (followed_by front) (ex.parts n s r)) h _ _ _ scope at parts

comma_is : (n start : ℕ) (a g : Parsing) (e : c.Expression) (other whole : Option (c.Expression × Rest))
    → whole ≡ cond (sees t.Comma (rest_of g).0) (ex.parts n (scope_of a) (behind (rest_of g)) >>= λ y. Some (c.Comma (c.an_expression e y.0), ended start y.1)) other → sees t.Comma (rest_of g).0 ≡ true
    → whole ≡ (after (c.an_expression e) (ex.parts n (scope_of a) (behind (rest_of g))) >>= λ y. Some (c.Comma y.0, ended start y.1))
comma_is n start a g e other whole is comma =
    is
    ∙ ap (λ b. cond b (ex.parts n (scope_of a) (behind (rest_of g)) >>= λ y. Some (c.Comma (c.an_expression e y.0), ended start y.1)) other) comma
    ∙ through_put (c.an_expression e) (ex.parts n (scope_of a) (behind (rest_of g))) (λ y. Some (c.Comma y.0, ended start y.1))

pub on_parts : (n start : ℕ) (a g h k l : Parsing) (e y : c.Expression) (front all : c.Expressions) (other whole : Option (c.Expression × Rest))
    → whole ≡ cond (sees t.Comma (rest_of g).0) (ex.parts n (scope_of a) (behind (rest_of g)) >>= λ y. Some (c.Comma (c.an_expression e y.0), ended start y.1)) other → sees t.Comma (rest_of g).0 ≡ true
    → scope_of h ≡ scope_of a → rest_of h ≡ behind (rest_of g) → front ≡ c.an_expression e c.no_expressions
    → after (followed_by front) (ex.parts n (scope_of h) (rest_of h)) ≡ Some (all, rest_of k) → rest_of l ≡ ended start (rest_of k) → y ≡ c.Comma all
    → whole ≡ Some (y, rest_of l)
on_parts n start a g h k l e y front all other whole is comma scope at first parts ends same =
    comma_is n start a g e other whole is comma
    ∙ ap (λ read. read >>= λ y. Some (c.Comma y.0, ended start y.1)) (parts_there n a g h e front _ scope at first parts)
    ∙ ap (λ r. Some (c.Comma all, r)) (sym ends)
    ∙ ap (λ e. Some (e, rest_of l)) (sym same)

pub on_without_parts : (n start : ℕ) (a g h : Parsing) (e : c.Expression) (front : c.Expressions) (other whole : Option (c.Expression × Rest))
    → whole ≡ cond (sees t.Comma (rest_of g).0) (ex.parts n (scope_of a) (behind (rest_of g)) >>= λ y. Some (c.Comma (c.an_expression e y.0), ended start y.1)) other → sees t.Comma (rest_of g).0 ≡ true
    → scope_of h ≡ scope_of a → rest_of h ≡ behind (rest_of g) → front ≡ c.an_expression e c.no_expressions
    → after (followed_by front) (ex.parts n (scope_of h) (rest_of h)) ≡ None → whole ≡ None
on_without_parts n start a g h e front other whole is comma scope at first none =
    comma_is n start a g e other whole is comma
    ∙ ap (λ read. read >>= λ y. Some (c.Comma y.0, ended start y.1)) (parts_there n a g h e front _ scope at first none)
