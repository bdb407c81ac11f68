-- Where no new marks are, an expression stays as it is.
use Rattle.std.proofs.Common.{◌≡◌, refl, ap, ◌∙◌, ℕ, ◌+◌, [], length}
use Rattle.lt_tree.specs.Tree as t
use Rattle.lt_tree.specs.Nodes.{in_expression, in_marks, in_specifiers, in_declarator}
use Rattle.lt_objectives.specs.Marked.{within, within_all}
use Rattle.lt_placing.proofs.PlaceLists.{joined_none}

both : {A B C : Type 0} (f : A → B → C) {x y : A} {v w : B} → x ≡ y → v ≡ w → f x v ≡ f y w
both f {x} {y} {v} {w} p q = ap (λ a. f a v) p ∙ ap (f y) q

mutual
  pub nothing_within : (k : ℕ) (e : t.Expression) → within [] k e ≡ e
  nothing_within k (t.Name w) = refl
  nothing_within k (t.Constant w) = refl
  nothing_within k (t.Text bytes) = refl
  nothing_within k (t.Index d e) = both t.Index (nothing_within (k + 1) d) (nothing_within (k + 1 + length (in_expression d)) e)
  nothing_within k (t.Call f es) = both t.Call (nothing_within (k + 1) f) (nothing_in_all (k + 1 + length (in_expression f)) es)
  nothing_within k (t.Member e w) = ap (λ x. t.Member x w) (nothing_within (k + 1) e)
  nothing_within k (t.Arrow e w) = ap (λ x. t.Arrow x w) (nothing_within (k + 1) e)
  nothing_within k (t.PostInc e) = ap t.PostInc (nothing_within (k + 1) e)
  nothing_within k (t.PostDec e) = ap t.PostDec (nothing_within (k + 1) e)
  nothing_within k (t.PreInc e) = ap t.PreInc (nothing_within (k + 1) e)
  nothing_within k (t.PreDec e) = ap t.PreDec (nothing_within (k + 1) e)
  nothing_within k (t.Unary op e) = ap (t.Unary op) (nothing_within (k + 1) e)
  nothing_within k (t.SizeofExpr e) = refl
  nothing_within k (t.SizeofType s d) = refl
  nothing_within k (t.Cast s d e) = ap (t.Cast s d) (nothing_within (k + 1 + length (in_specifiers s) + length (in_declarator d)) e)
  nothing_within k (t.Binary op d e) = both (t.Binary op) (nothing_within (k + 1) d) (nothing_within (k + 1 + length (in_expression d)) e)
  nothing_within k (t.Logical op d e) = both (t.Logical op) (nothing_within (k + 1) d) (nothing_within (k + 1 + length (in_expression d)) e)
  nothing_within k (t.Conditional p d e) =
      both (λ x y. t.Conditional x y (within [] (k + 1 + length (in_expression p) + length (in_expression d)) e)) (nothing_within (k + 1) p) (nothing_within (k + 1 + length (in_expression p)) d)
      ∙ ap (t.Conditional p d) (nothing_within (k + 1 + length (in_expression p) + length (in_expression d)) e)
  nothing_within k (t.Assign op d e) = both (t.Assign op) (nothing_within (k + 1) d) (nothing_within (k + 1 + length (in_expression d)) e)
  nothing_within k (t.Comma es) = ap t.Comma (nothing_in_all (k + 1) es)
  nothing_within k (t.Marked ms e) = both t.Marked (joined_none ms) (nothing_within (k + 1 + length (in_marks ms)) e)
  nothing_within k (t.Decide e p q tag) = ap (λ x. t.Decide x p q tag) (nothing_within (k + 1) e)
  nothing_within k (t.After e p tag) = ap (λ x. t.After x p tag) (nothing_within (k + 1) e)

  pub nothing_in_all : (k : ℕ) (es : t.Expressions) → within_all [] k es ≡ es
  nothing_in_all k t.no_expressions = refl
  nothing_in_all k (t.an_expression e es) = both t.an_expression (nothing_within k e) (nothing_in_all (k + length (in_expression e)) es)
