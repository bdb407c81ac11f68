-- A comma expression of the parts that stand in a list.
use Rattle.std.proofs.Common.{◌≡◌, refl, sym, ap, subst, ◌∙◌, ◌<◌, ◌++◌, List, [], ◌∷◌, length, take, drop, slice_index_or, false, arith}
use Rattle.std.specs.Prelude.{Result, IfOk}
use Rattle.std.specs.Global.{Vec}
use Rattle.std.proofs.lemmas.Result.{IfOk-weaker}
use Rattle.lt_tree.specs.declared.declarator.DeclaratorPart.TheOpen as opened
use Rattle.lt_tree.specs.declared.declarator.DeclaratorPart.TheViews as views
use Rattle.lt_tree.specs.declared.expression.Expr.{Expr}
use Rattle.lt_tree.specs.declared.expression.Expr.TheVariants as variant
use Rattle.lt_tree.specs.Tree as t
use Rattle.lt_tree.specs.Comma.{comma_of, followed_by, is_comma}
use Rattle.lt_tree.specs.View.{expression_of}
use Rattle.lt_tree.specs.Records.{expressions_in}
use Rattle.lt_tree.specs.Erasure.{erased_comma, erased_expressions}
use Rattle.lt_tree.proofs.Rows.{comma_is}

pub expressions_joined : (xs ys : List Expr) → expressions_in (xs ++ ys) ≡ followed_by (expressions_in xs) (expressions_in ys)
expressions_joined [] ys = refl
expressions_joined (x ∷ xs) ys = ap (t.an_expression (expression_of x)) (expressions_joined xs ys)

-- no parts
pub none_made : (items : List Expr) (list : t.Expressions) → length items ≡ 0 → expressions_in items ≡ erased_expressions list → t.Comma (expressions_in items) ≡ erased_comma list
none_made [] t.no_expressions none same = refl
none_made [] (t.an_expression x xs) none same = absurd cc
none_made (y ∷ ys) list none same = absurd (omega arith)

-- one part at least
joined : (first : t.Expression) (rest list : t.Expressions) → t.an_expression first rest ≡ erased_expressions list → comma_of first rest ≡ erased_comma list
joined first rest t.no_expressions same = absurd cc
joined first rest (t.an_expression x xs) same = cc

pub some_made : {E : Type 0} (r : Result Expr E) (items others : List Expr) (first : Expr) → items ≡ first ∷ others →
    IfOk r (λ all. expression_of all ≡ comma_of (expression_of first) (expressions_in others)) →
    IfOk r (λ all. (list : t.Expressions) → expressions_in items ≡ erased_expressions list → expression_of all ≡ erased_comma list)
some_made r items others first is h =
    IfOk-weaker r (λ all. expression_of all ≡ comma_of (expression_of first) (expressions_in others))
    (λ all. (list : t.Expressions) → expressions_in items ≡ erased_expressions list → expression_of all ≡ erased_comma list)
    (λ x p list same. p ∙ joined (expression_of first) (expressions_in others) list (sym (ap expressions_in is) ∙ same)) h

-- the first of a list, and the others
pub taken : (items others : List Expr) (first : Expr) → 0 < length items → first ≡ slice_index_or items 0 first → others ≡ take 0 items ++ drop 1 items → items ≡ first ∷ others
taken [] others first some is rest = absurd (omega arith)
taken (x ∷ xs) others first some is rest = cc (is, rest)

-- a comma expression with others behind it
longer_so : (e : t.Expression) (parts : t.Expressions) (others : List Expr) → e ≡ t.Comma parts → 0 < length others → t.Comma (followed_by parts (expressions_in others)) ≡ comma_of e (expressions_in others)
longer_so e parts [] is some = absurd (omega arith)
longer_so e parts (y ∷ ys) is some = sym (ap (λ x. comma_of x (expressions_in (y ∷ ys))) is)

pub longer_is : {E : Type 0} (r : Result Expr E) (first : Expr) (v : Vec Expr) (others : List Expr) → first ≡ variant.Comma v → 0 < length others →
    IfOk r (λ all. expression_of all ≡ t.Comma (followed_by (expressions_in v.items) (expressions_in others))) → IfOk r (λ all. expression_of all ≡ comma_of (expression_of first) (expressions_in others))
longer_is r first v others is some h =
    IfOk-weaker r (λ all. expression_of all ≡ t.Comma (followed_by (expressions_in v.items) (expressions_in others))) (λ all. expression_of all ≡ comma_of (expression_of first) (expressions_in others))
    (λ x p. p ∙ longer_so (expression_of first) (expressions_in v.items) others (ap expression_of is ∙ comma_is v) some) h

-- an expression that is no comma expression
plain_open : (f : _) → ((v : Vec Expr) → views.roll-Expr f ≡ variant.Comma v → ⊥) → is_comma (expression_of (views.roll-Expr f)) ≡ false
unfolding views.roll-Expr denote.Hole.Carrier.roll
plain_open (opened.Comma v) other = absurd (other v refl)
plain_open f other = refl

plain : (e : Expr) → ((v : Vec Expr) → e ≡ variant.Comma v → ⊥) → is_comma (expression_of e) ≡ false
plain e other =
    subst (λ x. is_comma (expression_of x) ≡ false) (views.roll-out-Expr e) (plain_open (views.out-Expr e) (λ v is. other v (sym (views.roll-out-Expr e) ∙ is)))

alone_so : (e : t.Expression) (others : List Expr) → is_comma e ≡ false → 0 < length others → t.Comma (t.an_expression e (expressions_in others)) ≡ comma_of e (expressions_in others)
alone_so e [] is some = absurd (omega arith)
alone_so (t.Comma parts) (y ∷ ys) is some = absurd cc
alone_so e (y ∷ ys) is some = refl

pub alone_is : {E : Type 0} (r : Result Expr E) (first : Expr) (others : List Expr) → ((v : Vec Expr) → first ≡ variant.Comma v → ⊥) → 0 < length others →
    IfOk r (λ all. expression_of all ≡ t.Comma (t.an_expression (expression_of first) (expressions_in others))) → IfOk r (λ all. expression_of all ≡ comma_of (expression_of first) (expressions_in others))
alone_is r first others other some h =
    IfOk-weaker r (λ all. expression_of all ≡ t.Comma (t.an_expression (expression_of first) (expressions_in others))) (λ all. expression_of all ≡ comma_of (expression_of first) (expressions_in others))
    (λ x p. p ∙ alone_so (expression_of first) others (plain first other) some) h
