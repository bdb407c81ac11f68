-- A good expression is good without its marks.
use Rattle.std.proofs.Common.{refl, sym, subst}
use Rattle.lt_tree.specs.Tree as c
use Rattle.lt_tree.specs.Comma.{comma_of}
use Rattle.lt_tree.specs.Scope.{Scope}
use Rattle.lt_tree.specs.Erasure.{erased, erased_expressions, erased_specifiers, erased_declarator}
use Rattle.lt_marked_texts.proofs.Good.{GoodType, Good, GoodAll, longer, all_joined}

module _ (scope : Scope) where
  -- a comma expression that begins another is joined with it
  comma_good : (first : c.Expression) (rest : c.Expressions) → Good scope first → GoodAll scope rest → Good scope (comma_of first rest)
  comma_good first c.no_expressions a b = a
  comma_good (c.Comma parts) (c.an_expression second rest) a b = (longer parts (c.an_expression second rest) a.0, all_joined scope parts (c.an_expression second rest) a.1 b)
  comma_good first (c.an_expression second rest) a b = (refl, (a, b))

  type_good : (s : c.Specifiers) (d : c.Declarator) → GoodType scope s d → GoodType scope (erased_specifiers s) (erased_declarator d)
  type_good s d good =
      subst (λ (x : c.Specifiers). GoodType scope x (erased_declarator d)) (sym good.same_words)
      (subst (λ (x : c.Declarator). GoodType scope s x) (sym good.same_parts) good)

  size_good : (e : c.Expression) → Good scope (c.SizeofExpr e) → Good scope (c.SizeofExpr (erased e))
  size_good e good = subst (λ (x : c.Expression). Good scope (c.SizeofExpr x)) (sym good.1) good

  mutual
    pub without_marks : (e : c.Expression) → Good scope e → Good scope (erased e)
    without_marks (c.Name w) good = good
    without_marks (c.Constant w) good = good
    without_marks (c.Text bytes) good = good
    without_marks (c.Index whole place) good = (without_marks whole good.0, without_marks place good.1)
    without_marks (c.Call callee arguments) good = (without_marks callee good.0, all_without_marks arguments good.1)
    without_marks (c.Member e w) good = (without_marks e good.0, good.1)
    without_marks (c.Arrow e w) good = (without_marks e good.0, good.1)
    without_marks (c.PostInc e) good = without_marks e good
    without_marks (c.PostDec e) good = without_marks e good
    without_marks (c.PreInc e) good = without_marks e good
    without_marks (c.PreDec e) good = without_marks e good
    without_marks (c.Unary op e) good = without_marks e good
    without_marks (c.SizeofExpr e) good = size_good e good
    without_marks (c.SizeofType s d) good = type_good s d good
    without_marks (c.Cast s d e) good = (type_good s d good.0, without_marks e good.1)
    without_marks (c.Binary op left right) good = (without_marks left good.0, without_marks right good.1)
    without_marks (c.Logical op left right) good = (without_marks left good.0, without_marks right good.1)
    without_marks (c.Conditional test left right) good = (without_marks test good.0, without_marks left good.1, without_marks right good.2)
    without_marks (c.Assign op target value) good = (good.0, without_marks target good.1, without_marks value good.2)
    without_marks (c.Comma c.no_expressions) good = absurd good.0
    without_marks (c.Comma (c.an_expression first rest)) good = comma_good (erased first) (erased_expressions rest) (without_marks first good.1.0) (all_without_marks rest good.1.1)
    without_marks (c.Marked marks e) good = without_marks e good.2
    without_marks (c.Decide e when_true when_false tag) good = without_marks e good.0
    without_marks (c.After e id tag) good = without_marks e good.0

    all_without_marks : (es : c.Expressions) → GoodAll scope es → GoodAll scope (erased_expressions es)
    all_without_marks c.no_expressions good = tt
    all_without_marks (c.an_expression e es) good = (without_marks e good.0, all_without_marks es good.1)
