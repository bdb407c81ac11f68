-- The parts of a comma expression, put together.
use Rattle.std.proofs.Common.{◌≡◌, ℕ, zero, suc, Bool, true, false, cond, List, drop, Option, Some, None, refl, ap, sym, ◌∙◌, ◌⊎◌, inl, inr}
use Rattle.lt_tree.specs.Tree as c
use Rattle.lt_tree.specs.Comma.{comma_of, followed_by}
use Rattle.lt_tree.specs.declared.terminal.Terminal.TheVariants as t
use Rattle.lt_tree.specs.Ahead.{sees}
use Rattle.lt_tree.specs.Scope.{Scope}
use Rattle.lt_expr.specs.Front.{Rest, ◌>>=◌, behind, ended}
use Rattle.lt_expr.specs.Fronts.{front_of, after}
use Rattle.lt_expr.specs.Reading as reading

-- with one or more parts behind the first, however that is
comma_is : (e first : c.Expression) (rest : c.Expressions) → comma_of e (c.an_expression first rest) ≡ c.Comma (followed_by (front_of e) (c.an_expression first rest))
comma_is (c.Comma parts) first rest = refl
comma_is (c.Name name) first rest = refl
comma_is (c.Constant text) first rest = refl
comma_is (c.Text bytes) first rest = refl
comma_is (c.Index whole index) first rest = refl
comma_is (c.Call callee arguments) first rest = refl
comma_is (c.Member whole name) first rest = refl
comma_is (c.Arrow pointer name) first rest = refl
comma_is (c.PostInc target) first rest = refl
comma_is (c.PostDec target) first rest = refl
comma_is (c.PreInc target) first rest = refl
comma_is (c.PreDec target) first rest = refl
comma_is (c.Unary op operand) first rest = refl
comma_is (c.SizeofExpr operand) first rest = refl
comma_is (c.SizeofType s d) first rest = refl
comma_is (c.Cast s d operand) first rest = refl
comma_is (c.Binary op left right) first rest = refl
comma_is (c.Logical op left right) first rest = refl
comma_is (c.Conditional test left right) first rest = refl
comma_is (c.Assign op target value) first rest = refl
comma_is (c.Marked marks value) first rest = refl
comma_is (c.Decide operand yes_id no_id tag) first rest = refl
comma_is (c.After operand id tag) first rest = refl

abbrev pub comma_with : c.Expression → ℕ → c.Expressions × Rest → Option (c.Expression × Rest)
comma_with e start y = Some (comma_of e y.0, ended start y.1)

abbrev Says : c.Expression → ℕ → Option (c.Expressions × Rest) → Type 0
Says e start read = (ps : c.Expressions) (r : Rest) → after (followed_by (front_of e)) read ≡ Some (ps, r) → (read >>= comma_with e start) ≡ Some (c.Comma ps, ended start r)

some_is : {A : Type 0} (x y : A) → Some x ≡ Some y → x ≡ y
some_is x y e = cc

says_some : (e : c.Expression) (start : ℕ) (first : c.Expression) (rest : c.Expressions) (r : Rest) → Says e start (Some (c.an_expression first rest, r))
says_some e start first rest r ps s is =
    ap (λ x. Some (x, ended start r)) (comma_is e first rest)
    ∙ ap (λ (x : c.Expressions × Rest). Some (c.Comma x.0, ended start x.1)) (some_is (followed_by (front_of e) (c.an_expression first rest), r) (ps, s) is)

says_none : (e : c.Expression) (start : ℕ) → Says e start None
says_none e start ps r is = absurd cc

abbrev put_first : c.Expression → c.Expressions × Rest → Option (c.Expressions × Rest)
put_first first y = Some (c.an_expression first y.0, y.1)

says_more : (e : c.Expression) (start : ℕ) (first : c.Expression) (read : Option (c.Expressions × Rest)) → Says e start (read >>= put_first first)
says_more e start first None = says_none e start
says_more e start first (Some y) = says_some e start first y.0 y.1

says_if : (e : c.Expression) (start : ℕ) (b : Bool) (x y : Option (c.Expressions × Rest)) → Says e start x → Says e start y → Says e start (cond b x y)
says_if e start true x y p q = p
says_if e start false x y p q = q

says_marked : (e : c.Expression) (start : ℕ) (read : Option (c.Expression × Rest)) (go : c.Expression × Rest → Option (c.Expressions × Rest)) → ((x : c.Expression × Rest) → Says e start (go x)) → Says e start (read >>= go)
says_marked e start None go p = says_none e start
says_marked e start (Some x) go p = p x

abbrev parts_behind : ℕ → Scope → c.Expression × Rest → Option (c.Expressions × Rest)
parts_behind n scope x = cond (sees t.Comma x.1.0) (reading.parts n scope (behind x.1) >>= put_first x.0) (Some (c.an_expression x.0 c.no_expressions, x.1))

says : (e : c.Expression) (start n : ℕ) (scope : Scope) (r : Rest) → Says e start (reading.parts n scope r)
unfolding reading.expression
says e start zero scope r = says_none e start
says e start (suc n) scope r =
    says_marked e start (reading.marked n scope r) (parts_behind n scope) (λ x.
    says_if e start (sees t.Comma x.1.0) (reading.parts n scope (behind x.1) >>= put_first x.0) (Some (c.an_expression x.0 c.no_expressions, x.1))
    (says_more e start x.0 (reading.parts n scope (behind x.1)))
    (says_some e start x.0 c.no_expressions x.1))

-- what is read behind the first part of a comma expression
pub comma_of_parts : (e : c.Expression) (start n : ℕ) (scope : Scope) (r rest : Rest) (ps : c.Expressions)
    → after (followed_by (front_of e)) (reading.parts n scope r) ≡ Some (ps, rest)
    → (reading.parts n scope r >>= comma_with e start) ≡ Some (c.Comma ps, ended start rest)
comma_of_parts e start n scope r rest ps is = says e start n scope r ps rest is
