-- Expressions and declarations with new marks are erased to what they are without.
use Rattle.std.proofs.Common.{◌≡◌, ℕ, List, [], ◌∷◌, Option, Some, None, Bool, true, false, refl, ap, ◌∙◌}
use Rattle.std.specs.Prelude.{◌+◌, suc, if◌then◌else◌, length, map, option_map}
use Rattle.std.specs.Fmt.{decimal}
use Rattle.lt_tree.specs.Tree as t
use Rattle.lt_tree.specs.Comma.{comma_of}
use Rattle.lt_tree.specs.Nodes.{in_expression, in_marks, in_specifiers, in_declarator, in_initialiser, in_init_declarator}
use Rattle.lt_tree.specs.Erasure.{erased, erased_comma, erased_expressions, erased_specifiers, erased_declarator, erased_initialiser, erased_initialisers, erased_init_declarator, erased_declaration, erased_start}
use Rattle.lt_objectives.specs.Objectives.{around}
use Rattle.lt_objectives.specs.Marked.{NewMark, is_there, decided, preceded_by, placed, within, within_all, with_marks, optional_with_marks, initialiser_with_marks, initialisers_with_marks, start_with_marks, declarators_with_marks, declaration_with_marks, for_start_with_marks}

pub both : {A B C : Type 0} (f : A → B → C) {x y : A} {v w : B} → x ≡ y → v ≡ w → f x v ≡ f y w
both f {x} {y} {v} {w} p q = ap (λ a. f a v) p ∙ ap (f y) q

pub three : {A B C D : Type 0} (f : A → B → C → D) {x y : A} {v w : B} {m n : C} → x ≡ y → v ≡ w → m ≡ n → f x v m ≡ f y w n
three f {x} {y} {v} {w} {m} {n} p q r = both (λ a b. f a b m) p q ∙ ap (λ c. f y w c) r

pub four : {A B C D E : Type 0} (f : A → B → C → D → E) {x y : A} {v w : B} {m n : C} {j k : D} → x ≡ y → v ≡ w → m ≡ n → j ≡ k → f x v m j ≡ f y w n k
four f {x} {y} {v} {w} {m} {n} {j} {k} p q r z = three (λ a b c. f a b c j) p q r ∙ ap (λ d. f y w n d) z

erased_decided : (new : List NewMark) (k : ℕ) (e : t.Expression) → erased (decided new k e) ≡ erased e
erased_decided [] k e = refl
erased_decided (it ∷ rest) k e = by (is_there around k it) (erased_decided rest k e)
  where
    by : (b : Bool) → erased (decided rest k e) ≡ erased e → erased (if b then t.Decide (decided rest k e) (decimal it.id) (decimal (suc it.id)) it.objective.tag else decided rest k e) ≡ erased e
    by true h = h
    by false h = h

erased_preceded : (marks : t.Marks) (e : t.Expression) → erased (preceded_by marks e) ≡ erased e
erased_preceded t.no_marks e = refl
erased_preceded (t.a_mark m ms) e = refl

-- what is put around an expression goes again
at : (new : List NewMark) (k : ℕ) (e d : t.Expression) → erased e ≡ erased d → erased (placed new k e) ≡ erased d
at new k e d h = erased_preceded _ (decided new k e) ∙ erased_decided new k e ∙ h

mutual
  in_it : (new : List NewMark) (k : ℕ) (e : t.Expression) → erased (within new k e) ≡ erased e
  in_it new k (t.Name w) = refl
  in_it new k (t.Constant w) = refl
  in_it new k (t.Text bytes) = refl
  in_it new k (t.Index d e) = both t.Index (at new _ _ d (in_it new (k + 1) d)) (at new _ _ e (in_it new (k + 1 + length (in_expression d)) e))
  in_it new k (t.Call f es) = both t.Call (at new _ _ f (in_it new (k + 1) f)) (in_all new (k + 1 + length (in_expression f)) es)
  in_it new k (t.Member e w) = ap (λ x. t.Member x w) (at new _ _ e (in_it new (k + 1) e))
  in_it new k (t.Arrow e w) = ap (λ x. t.Arrow x w) (at new _ _ e (in_it new (k + 1) e))
  in_it new k (t.PostInc e) = ap t.PostInc (at new _ _ e (in_it new (k + 1) e))
  in_it new k (t.PostDec e) = ap t.PostDec (at new _ _ e (in_it new (k + 1) e))
  in_it new k (t.PreInc e) = ap t.PreInc (at new _ _ e (in_it new (k + 1) e))
  in_it new k (t.PreDec e) = ap t.PreDec (at new _ _ e (in_it new (k + 1) e))
  in_it new k (t.Unary op e) = ap (t.Unary op) (at new _ _ e (in_it new (k + 1) e))
  in_it new k (t.SizeofExpr e) = refl
  in_it new k (t.SizeofType s d) = refl
  in_it new k (t.Cast s d e) = ap (t.Cast (erased_specifiers s) (erased_declarator d)) (at new _ _ e (in_it new (k + 1 + length (in_specifiers s) + length (in_declarator d)) e))
  in_it new k (t.Binary op d e) = both (t.Binary op) (at new _ _ d (in_it new (k + 1) d)) (at new _ _ e (in_it new (k + 1 + length (in_expression d)) e))
  in_it new k (t.Logical op d e) = both (t.Logical op) (at new _ _ d (in_it new (k + 1) d)) (at new _ _ e (in_it new (k + 1 + length (in_expression d)) e))
  in_it new k (t.Conditional p d e) = three (λ x y z. t.Conditional x y z) (at new _ _ p (in_it new (k + 1) p)) (at new _ _ d (in_it new (k + 1 + length (in_expression p)) d)) (at new _ _ e (in_it new (k + 1 + length (in_expression p) + length (in_expression d)) e))
  in_it new k (t.Assign op d e) = both (t.Assign op) (at new _ _ d (in_it new (k + 1) d)) (at new _ _ e (in_it new (k + 1 + length (in_expression d)) e))
  in_it new k (t.Comma es) = in_comma new (k + 1) es
  in_it new k (t.Marked ms e) = erased_decided new (k + 1 + length (in_marks ms)) _ ∙ in_it new (k + 1 + length (in_marks ms)) e
  in_it new k (t.Decide e p q tag) = at new _ _ e (in_it new (k + 1) e)
  in_it new k (t.After e id tag) = at new _ _ e (in_it new (k + 1) e)

  in_comma : (new : List NewMark) (k : ℕ) (es : t.Expressions) → erased_comma (within_all new k es) ≡ erased_comma es
  in_comma new k t.no_expressions = refl
  in_comma new k (t.an_expression e es) = both comma_of (at new _ _ e (in_it new k e)) (in_all new (k + length (in_expression e)) es)

  in_all : (new : List NewMark) (k : ℕ) (es : t.Expressions) → erased_expressions (within_all new k es) ≡ erased_expressions es
  in_all new k t.no_expressions = refl
  in_all new k (t.an_expression e es) = both t.an_expression (at new _ _ e (in_it new k e)) (in_all new (k + length (in_expression e)) es)

pub expression : (new : List NewMark) (k : ℕ) (e : t.Expression) → erased (with_marks new k e) ≡ erased e
expression new k e = at new k _ e (in_it new k e)

pub optional : (new : List NewMark) (k : ℕ) (e : Option t.Expression) → option_map erased (optional_with_marks new k e) ≡ option_map erased e
optional new k None = refl
optional new k (Some e) = ap Some (expression new k e)

mutual
  initialiser : (new : List NewMark) (k : ℕ) (i : t.Initialiser) → erased_initialiser (initialiser_with_marks new k i) ≡ erased_initialiser i
  initialiser new k (t.Value e) = ap t.Value (expression new (k + 1) e)
  initialiser new k (t.Braces is) = ap t.Braces (initialisers new (k + 1) is)

  initialisers : (new : List NewMark) (k : ℕ) (is : t.Initialisers) → erased_initialisers (initialisers_with_marks new k is) ≡ erased_initialisers is
  initialisers new k t.no_initialisers = refl
  initialisers new k (t.an_initialiser i is) = both t.an_initialiser (initialiser new k i) (initialisers new (k + length (in_initialiser i)) is)

start : (new : List NewMark) (k : ℕ) (i : Option t.Initialiser) → option_map erased_initialiser (start_with_marks new k i) ≡ option_map erased_initialiser i
start new k None = refl
start new k (Some i) = ap Some (initialiser new k i)

declarators : (new : List NewMark) (k : ℕ) (ds : List t.InitDeclarator) → map erased_init_declarator (declarators_with_marks new k ds) ≡ map erased_init_declarator ds
declarators new k [] = refl
declarators new k (d ∷ ds) = both (λ i l. record { declarator = erased_declarator d.declarator; initialiser = i } ∷ l) (start new (k + length (in_declarator d.declarator)) d.initialiser) (declarators new (k + length (in_init_declarator d)) ds)

pub declaration : (new : List NewMark) (k : ℕ) (d : t.Declaration) → erased_declaration (declaration_with_marks new k d) ≡ erased_declaration d
declaration new k d = ap (λ ds. record { specifiers = erased_specifiers d.specifiers; declarators = ds }) (declarators new (k + length (in_specifiers d.specifiers)) d.declarators)

pub for_start : (new : List NewMark) (k : ℕ) (x : t.ForStart) → erased_start (for_start_with_marks new k x) ≡ erased_start x
for_start new k t.Nothing = refl
for_start new k (t.First e) = ap t.First (expression new k e)
for_start new k (t.Declares d) = ap t.Declares (declaration new k d)
