-- Where all new marks stand at the starts of bodies, nothing else changes.
use Rattle.std.proofs.Common.{◌≡◌, ℕ, ◌+◌, List, [], ◌∷◌, length, Option, Some, None, refl, ap, ◌∙◌}
use Rattle.std.specs.List.{flat_map}
use Rattle.lt_tree.specs.Tree as c
use Rattle.lt_tree.specs.Nodes.{in_expression, in_marks, in_specifiers, in_declarator, in_initialiser, in_init_declarator, in_declaration, in_mark, in_start, in_optional, in_label, in_statement}
use Rattle.lt_objectives.specs.Objectives.{in_front}
use Rattle.lt_objectives.specs.Marked.{NewMark, labels, decided, joined, preceded_by, within, within_all, with_marks, optional_with_marks, initialiser_with_marks, initialisers_with_marks, start_with_marks, declarators_with_marks, declaration_with_marks, for_start_with_marks, statement_with_marks, items_with_marks, cases_with_marks}
use Rattle.lt_marked_texts.proofs.Arguments.{both}

-- no mark in front of an expression and none around one
pub record OnlyAtStarts (new : List NewMark) : Type 0 where
  pub none_before : (k : ℕ) → labels in_front new k ≡ c.no_marks
  pub none_around : (k : ℕ) (e : c.Expression) → decided new k e ≡ e

joined_none : (ms : c.Marks) → joined ms c.no_marks ≡ ms
joined_none c.no_marks = refl
joined_none (c.a_mark m ms) = ap (c.a_mark m) (joined_none ms)

module _ (new : List NewMark) (only : OnlyAtStarts new) where
  same : (k : ℕ) (e : c.Expression) → within new k e ≡ e → with_marks new k e ≡ e
  same k e h = ap (λ ms. preceded_by ms (decided new k (within new k e))) (only.none_before k) ∙ only.none_around k (within new k e) ∙ h

  mutual
    within_same : (k : ℕ) (e : c.Expression) → within new k e ≡ e
    within_same k (c.Name w) = refl
    within_same k (c.Constant w) = refl
    within_same k (c.Text bytes) = refl
    within_same k (c.Index d e) = both c.Index (same (k + 1) d (within_same (k + 1) d)) (same (k + 1 + length (in_expression d)) e (within_same (k + 1 + length (in_expression d)) e))
    within_same k (c.Call f es) = both c.Call (same (k + 1) f (within_same (k + 1) f)) (all_same (k + 1 + length (in_expression f)) es)
    within_same k (c.Member e w) = ap (λ x. c.Member x w) (same (k + 1) e (within_same (k + 1) e))
    within_same k (c.Arrow e w) = ap (λ x. c.Arrow x w) (same (k + 1) e (within_same (k + 1) e))
    within_same k (c.PostInc e) = ap c.PostInc (same (k + 1) e (within_same (k + 1) e))
    within_same k (c.PostDec e) = ap c.PostDec (same (k + 1) e (within_same (k + 1) e))
    within_same k (c.PreInc e) = ap c.PreInc (same (k + 1) e (within_same (k + 1) e))
    within_same k (c.PreDec e) = ap c.PreDec (same (k + 1) e (within_same (k + 1) e))
    within_same k (c.Unary op e) = ap (c.Unary op) (same (k + 1) e (within_same (k + 1) e))
    within_same k (c.SizeofExpr e) = refl
    within_same k (c.SizeofType s d) = refl
    within_same k (c.Cast s d e) = ap (c.Cast s d) (same (k + 1 + length (in_specifiers s) + length (in_declarator d)) e (within_same (k + 1 + length (in_specifiers s) + length (in_declarator d)) e))
    within_same k (c.Binary op d e) = both (c.Binary op) (same (k + 1) d (within_same (k + 1) d)) (same (k + 1 + length (in_expression d)) e (within_same (k + 1 + length (in_expression d)) e))
    within_same k (c.Logical op d e) = both (c.Logical op) (same (k + 1) d (within_same (k + 1) d)) (same (k + 1 + length (in_expression d)) e (within_same (k + 1 + length (in_expression d)) e))
    within_same k (c.Conditional p d e) =
        both (λ x y. c.Conditional x y (with_marks new (k + 1 + length (in_expression p) + length (in_expression d)) e)) (same (k + 1) p (within_same (k + 1) p)) (same (k + 1 + length (in_expression p)) d (within_same (k + 1 + length (in_expression p)) d))
        ∙ ap (c.Conditional p d) (same (k + 1 + length (in_expression p) + length (in_expression d)) e (within_same (k + 1 + length (in_expression p) + length (in_expression d)) e))
    within_same k (c.Assign op d e) = both (c.Assign op) (same (k + 1) d (within_same (k + 1) d)) (same (k + 1 + length (in_expression d)) e (within_same (k + 1 + length (in_expression d)) e))
    within_same k (c.Comma es) = ap c.Comma (all_same (k + 1) es)
    within_same k (c.Marked ms e) =
        let j = k + 1 + length (in_marks ms) in both c.Marked (ap (joined ms) (only.none_before j) ∙ joined_none ms) (only.none_around j (within new j e) ∙ within_same j e)
    within_same k (c.Decide e p q tag) = ap (λ x. c.Decide x p q tag) (same (k + 1) e (within_same (k + 1) e))
    within_same k (c.After e p tag) = ap (λ x. c.After x p tag) (same (k + 1) e (within_same (k + 1) e))

    all_same : (k : ℕ) (es : c.Expressions) → within_all new k es ≡ es
    all_same k c.no_expressions = refl
    all_same k (c.an_expression e es) = both c.an_expression (same k e (within_same k e)) (all_same (k + length (in_expression e)) es)

  expression : (k : ℕ) (e : c.Expression) → with_marks new k e ≡ e
  expression k e = same k e (within_same k e)

  optional : (k : ℕ) (e : Option c.Expression) → optional_with_marks new k e ≡ e
  optional k None = refl
  optional k (Some e) = ap Some (expression k e)

  mutual
    initialiser : (k : ℕ) (i : c.Initialiser) → initialiser_with_marks new k i ≡ i
    initialiser k (c.Value e) = ap c.Value (expression (k + 1) e)
    initialiser k (c.Braces is) = ap c.Braces (initialisers (k + 1) is)

    initialisers : (k : ℕ) (is : c.Initialisers) → initialisers_with_marks new k is ≡ is
    initialisers k c.no_initialisers = refl
    initialisers k (c.an_initialiser i is) = both c.an_initialiser (initialiser k i) (initialisers (k + length (in_initialiser i)) is)

  start : (k : ℕ) (i : Option c.Initialiser) → start_with_marks new k i ≡ i
  start k None = refl
  start k (Some i) = ap Some (initialiser k i)

  declarators : (k : ℕ) (ds : List c.InitDeclarator) → declarators_with_marks new k ds ≡ ds
  declarators k [] = refl
  declarators k (d ∷ ds) =
      both (λ i l. record { declarator = d.declarator; initialiser = i } ∷ l) (start (k + length (in_declarator d.declarator)) d.initialiser) (declarators (k + length (in_init_declarator d)) ds)

  pub declaration : (k : ℕ) (d : c.Declaration) → declaration_with_marks new k d ≡ d
  declaration k d = ap (λ ds. record { specifiers = d.specifiers; declarators = ds }) (declarators (k + length (in_specifiers d.specifiers)) d.declarators)

  for_start : (k : ℕ) (x : c.ForStart) → for_start_with_marks new k x ≡ x
  for_start k c.Nothing = refl
  for_start k (c.First e) = ap c.First (expression k e)
  for_start k (c.Declares d) = ap c.Declares (declaration k d)

  mutual
    statement : (k : ℕ) (x : c.Statement) → statement_with_marks new k x ≡ x
    statement k (c.Compound is) = ap c.Compound (items (k + 1) is)
    statement k (c.Evaluates e) = ap c.Evaluates (expression (k + 1) e)
    statement k c.Null = refl
    statement k (c.If e x) = both c.If (expression (k + 1) e) (statement (k + 1 + length (in_expression e)) x)
    statement k (c.IfElse e x y) =
        let i = k + 1 + length (in_expression e) in
        both (λ a b. c.IfElse a b (statement_with_marks new (i + length (in_statement x)) y)) (expression (k + 1) e) (statement i x) ∙ ap (c.IfElse e x) (statement (i + length (in_statement x)) y)
    statement k (c.While e x) = both c.While (expression (k + 1) e) (statement (k + 1 + length (in_expression e)) x)
    statement k (c.Do x e) = both c.Do (statement (k + 1) x) (expression (k + 1 + length (in_statement x)) e)
    statement k (c.For begin test step x) =
        let i = k + 1 + length (in_start begin) in
        let j = i + length (in_optional test) in
        both (λ a b. c.For a b (optional_with_marks new j step) (statement_with_marks new (j + length (in_optional step)) x)) (for_start (k + 1) begin) (optional i test)
        ∙ both (λ a b. c.For begin test a b) (optional j step) (statement (j + length (in_optional step)) x)
    statement k (c.Switch e cs) = both c.Switch (expression (k + 1) e) (cases (k + 1 + length (in_expression e)) cs)
    statement k c.Break = refl
    statement k c.Continue = refl
    statement k (c.Return e) = ap c.Return (optional (k + 1) e)

    pub items : (k : ℕ) (is : c.Items) → items_with_marks new k is ≡ is
    items k c.no_items = refl
    items k (c.a_declaration d is) = both c.a_declaration (declaration (k + 1) d) (items (k + 1 + length (in_declaration d)) is)
    items k (c.a_statement x is) = both c.a_statement (statement (k + 1) x) (items (k + 1 + length (in_statement x)) is)
    items k (c.a_label m is) = ap (c.a_label m) (items (k + 1 + length (in_mark m)) is)

    cases : (k : ℕ) (cs : c.Cases) → cases_with_marks new k cs ≡ cs
    cases k c.no_cases = refl
    cases k (c.a_case list x cs) =
        both (c.a_case list) (statement (k + length (flat_map in_label list)) x) (cases (k + length (flat_map in_label list) + length (in_statement x)) cs)
