-- A unit with no new marks is the unit.
use Rattle.std.proofs.Common.{◌≡◌, ℕ, ◌+◌, List, [], ◌∷◌, length, Option, Some, None, refl, ap, ◌∙◌}
use Rattle.std.specs.List.{flat_map}
use Rattle.lt_tree.specs.Tree as t
use Rattle.lt_tree.specs.Nodes.{in_expression, in_specifiers, in_declarator, in_initialiser, in_init_declarator, in_declaration, in_mark, in_start, in_optional, in_label, in_statement, in_external}
use Rattle.lt_objectives.specs.Marked.{optional_with_marks, initialiser_with_marks, initialisers_with_marks, start_with_marks, declarators_with_marks, declaration_with_marks, for_start_with_marks, statement_with_marks, items_with_marks, cases_with_marks, after_leading, external_with_marks, externals_with_marks, unit_with_marks}
use Rattle.lt_placing.proofs.Nothing.{nothing_within}

both : {A B C : Type 0} (f : A → B → C) {x y : A} {v w : B} → x ≡ y → v ≡ w → f x v ≡ f y w
both f {x} {y} {v} {w} p q = ap (λ a. f a v) p ∙ ap (f y) q

optional : (k : ℕ) (e : Option t.Expression) → optional_with_marks [] k e ≡ e
optional k None = refl
optional k (Some e) = ap Some (nothing_within k e)

mutual
  initialiser : (k : ℕ) (i : t.Initialiser) → initialiser_with_marks [] k i ≡ i
  initialiser k (t.Value e) = ap t.Value (nothing_within (k + 1) e)
  initialiser k (t.Braces is) = ap t.Braces (initialisers (k + 1) is)

  initialisers : (k : ℕ) (is : t.Initialisers) → initialisers_with_marks [] k is ≡ is
  initialisers k t.no_initialisers = refl
  initialisers k (t.an_initialiser i is) = both t.an_initialiser (initialiser k i) (initialisers (k + length (in_initialiser i)) is)

start : (k : ℕ) (i : Option t.Initialiser) → start_with_marks [] k i ≡ i
start k None = refl
start k (Some i) = ap Some (initialiser k i)

declarators : (k : ℕ) (ds : List t.InitDeclarator) → declarators_with_marks [] k ds ≡ ds
declarators k [] = refl
declarators k (d ∷ ds) =
    both (λ i l. record { declarator = d.declarator; initialiser = i } ∷ l) (start (k + length (in_declarator d.declarator)) d.initialiser) (declarators (k + length (in_init_declarator d)) ds)

declaration : (k : ℕ) (d : t.Declaration) → declaration_with_marks [] k d ≡ d
declaration k d = ap (λ ds. record { specifiers = d.specifiers; declarators = ds }) (declarators (k + length (in_specifiers d.specifiers)) d.declarators)

for_start : (k : ℕ) (x : t.ForStart) → for_start_with_marks [] k x ≡ x
for_start k t.Nothing = refl
for_start k (t.First e) = ap t.First (nothing_within k e)
for_start k (t.Declares d) = ap t.Declares (declaration k d)

mutual
  statement : (k : ℕ) (x : t.Statement) → statement_with_marks [] k x ≡ x
  statement k (t.Compound is) = ap t.Compound (items (k + 1) is)
  statement k (t.Evaluates e) = ap t.Evaluates (nothing_within (k + 1) e)
  statement k t.Null = refl
  statement k (t.If e x) = both t.If (nothing_within (k + 1) e) (statement (k + 1 + length (in_expression e)) x)
  statement k (t.IfElse e x y) =
      let i = k + 1 + length (in_expression e) in
      both (λ a b. t.IfElse a b (statement_with_marks [] (i + length (in_statement x)) y)) (nothing_within (k + 1) e) (statement i x) ∙ ap (t.IfElse e x) (statement (i + length (in_statement x)) y)
  statement k (t.While e x) = both t.While (nothing_within (k + 1) e) (statement (k + 1 + length (in_expression e)) x)
  statement k (t.Do x e) = both t.Do (statement (k + 1) x) (nothing_within (k + 1 + length (in_statement x)) e)
  statement k (t.For begin test step x) =
      let i = k + 1 + length (in_start begin) in
      let j = i + length (in_optional test) in
      both (λ a b. t.For a b (optional_with_marks [] j step) (statement_with_marks [] (j + length (in_optional step)) x)) (for_start (k + 1) begin) (optional i test)
      ∙ both (λ a b. t.For begin test a b) (optional j step) (statement (j + length (in_optional step)) x)
  statement k (t.Switch e cs) = both t.Switch (nothing_within (k + 1) e) (cases (k + 1 + length (in_expression e)) cs)
  statement k t.Break = refl
  statement k t.Continue = refl
  statement k (t.Return e) = ap t.Return (optional (k + 1) e)

  items : (k : ℕ) (is : t.Items) → items_with_marks [] k is ≡ is
  items k t.no_items = refl
  items k (t.a_declaration d is) = both t.a_declaration (declaration (k + 1) d) (items (k + 1 + length (in_declaration d)) is)
  items k (t.a_statement x is) = both t.a_statement (statement (k + 1) x) (items (k + 1 + length (in_statement x)) is)
  items k (t.a_label m is) = ap (t.a_label m) (items (k + 1 + length (in_mark m)) is)

  cases : (k : ℕ) (cs : t.Cases) → cases_with_marks [] k cs ≡ cs
  cases k t.no_cases = refl
  cases k (t.a_case list x cs) =
      both (t.a_case list) (statement (k + length (flat_map in_label list)) x) (cases (k + length (flat_map in_label list) + length (in_statement x)) cs)

leading : (is : t.Items) → after_leading t.no_marks is ≡ is
leading t.no_items = refl
leading (t.a_declaration d is) = refl
leading (t.a_statement x is) = refl
leading (t.a_label m is) = ap (t.a_label m) (leading is)

external : (k : ℕ) (x : t.External) → external_with_marks [] k x ≡ x
external k (t.Defines s d body) =
    ap (t.Defines s d) (leading (items_with_marks [] (k + 1 + length (in_specifiers s) + length (in_declarator d)) body) ∙ items (k + 1 + length (in_specifiers s) + length (in_declarator d)) body)
external k (t.Declared d) = ap t.Declared (declaration (k + 1) d)

externals : (k : ℕ) (unit : t.Unit) → externals_with_marks [] k unit ≡ unit
externals k [] = refl
externals k (x ∷ unit) = both (λ y l. y ∷ l) (external k x) (externals (k + length (in_external x)) unit)

pub no_marks_added : (unit : t.Unit) → unit_with_marks [] unit ≡ unit
no_marks_added unit = externals 0 unit
