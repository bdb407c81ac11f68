-- Statements and units with new marks are erased to what they are without.
use Rattle.std.proofs.Common.{◌≡◌, ℕ, List, [], ◌∷◌, refl, ap, ◌∙◌}
use Rattle.std.specs.Prelude.{◌+◌, length, map}
use Rattle.std.specs.List.{flat_map}
use Rattle.lt_tree.specs.Tree as t
use Rattle.lt_tree.specs.Nodes.{in_expression, in_specifiers, in_declarator, in_declaration, in_mark, in_start, in_optional, in_label, in_statement, in_external}
use Rattle.lt_tree.specs.Erasure.{erased_specifiers, erased_declarator, erased_label, erased_statement, erased_items, erased_cases, erased_external, erased_unit}
use Rattle.lt_tree.specs.Typing.Programs.{Program}
use Rattle.lt_objectives.specs.declared.criteria.Criterion.{Criterion}
use Rattle.lt_objectives.specs.Criteria.{criteria_in}
use Rattle.lt_objectives.specs.Objectives.{at_start, objectives}
use Rattle.lt_objectives.specs.Marked.{NewMark, labels, numbered, next_id, statement_with_marks, items_with_marks, cases_with_marks, labels_before, after_leading, external_with_marks, externals_with_marks, unit_with_marks, marked_by}
use Rattle.lt_objectives.specs.Laws.{MarksAreErased}
use Rattle.lt_objectives.proofs.ErasedExpressions.{both, three, four, expression, optional, declaration, for_start}

mutual
  statement : (new : List NewMark) (k : ℕ) (x : t.Statement) → erased_statement (statement_with_marks new k x) ≡ erased_statement x
  statement new k (t.Compound is) = ap t.Compound (items new (k + 1) is)
  statement new k (t.Evaluates e) = ap t.Evaluates (expression new (k + 1) e)
  statement new k t.Null = refl
  statement new k (t.If e x) = both t.If (expression new (k + 1) e) (statement new (k + 1 + length (in_expression e)) x)
  statement new k (t.IfElse e x y) = three (λ a b c. t.IfElse a b c) (expression new (k + 1) e) (statement new (k + 1 + length (in_expression e)) x) (statement new (k + 1 + length (in_expression e) + length (in_statement x)) y)
  statement new k (t.While e x) = both t.While (expression new (k + 1) e) (statement new (k + 1 + length (in_expression e)) x)
  statement new k (t.Do x e) = both t.Do (statement new (k + 1) x) (expression new (k + 1 + length (in_statement x)) e)
  statement new k (t.For start test step x) =
      four (λ a b c d. t.For a b c d) (for_start new (k + 1) start) (optional new (k + 1 + length (in_start start)) test)
      (optional new (k + 1 + length (in_start start) + length (in_optional test)) step)
      (statement new (k + 1 + length (in_start start) + length (in_optional test) + length (in_optional step)) x)
  statement new k (t.Switch e cs) = both t.Switch (expression new (k + 1) e) (cases new (k + 1 + length (in_expression e)) cs)
  statement new k t.Break = refl
  statement new k t.Continue = refl
  statement new k (t.Return e) = ap t.Return (optional new (k + 1) e)

  items : (new : List NewMark) (k : ℕ) (is : t.Items) → erased_items (items_with_marks new k is) ≡ erased_items is
  items new k t.no_items = refl
  items new k (t.a_declaration d is) = both t.a_declaration (declaration new (k + 1) d) (items new (k + 1 + length (in_declaration d)) is)
  items new k (t.a_statement x is) = both t.a_statement (statement new (k + 1) x) (items new (k + 1 + length (in_statement x)) is)
  items new k (t.a_label m is) = items new (k + 1 + length (in_mark m)) is

  cases : (new : List NewMark) (k : ℕ) (cs : t.Cases) → erased_cases (cases_with_marks new k cs) ≡ erased_cases cs
  cases new k t.no_cases = refl
  cases new k (t.a_case list x cs) =
      both (t.a_case (map erased_label list)) (statement new (k + length (flat_map in_label list)) x) (cases new (k + length (flat_map in_label list) + length (in_statement x)) cs)

before : (marks : t.Marks) (is : t.Items) → erased_items (labels_before marks is) ≡ erased_items is
before t.no_marks is = refl
before (t.a_mark m ms) is = before ms is

leading : (marks : t.Marks) (is : t.Items) → erased_items (after_leading marks is) ≡ erased_items is
leading marks t.no_items = before marks t.no_items
leading marks (t.a_declaration d is) = before marks (t.a_declaration d is)
leading marks (t.a_statement x is) = before marks (t.a_statement x is)
leading marks (t.a_label m is) = leading marks is

external : (new : List NewMark) (k : ℕ) (x : t.External) → erased_external (external_with_marks new k x) ≡ erased_external x
external new k (t.Defines s d body) =
    ap (t.Defines (erased_specifiers s) (erased_declarator d))
    (leading (labels at_start new k) (items_with_marks new (k + 1 + length (in_specifiers s) + length (in_declarator d)) body) ∙ items new (k + 1 + length (in_specifiers s) + length (in_declarator d)) body)
external new k (t.Declared d) = ap t.Declared (declaration new (k + 1) d)

externals : (new : List NewMark) (k : ℕ) (unit : t.Unit) → erased_unit (externals_with_marks new k unit) ≡ erased_unit unit
externals new k [] = refl
externals new k (x ∷ unit) = both (λ y l. y ∷ l) (external new k x) (externals new (k + length (in_external x)) unit)

by_criteria : (list : List Criterion) (unit : t.Unit) (program : Program) (id : ℕ) → erased_unit (marked_by list unit program id) ≡ erased_unit unit
by_criteria [] unit program id = refl
by_criteria (criterion ∷ list) unit program id =
    let them = objectives unit program criterion in
    by_criteria list (unit_with_marks (numbered id them) unit) program (next_id id them) ∙ externals (numbered id them) 0 unit

pub marks_go : MarksAreErased
marks_go = (λ new unit. externals new 0 unit, λ unit program set id. by_criteria (criteria_in set) unit program id)
