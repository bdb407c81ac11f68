-- What holds of the nodes of statements and units holds of those with new marks, if adding a mark keeps it.
use Rattle.std.proofs.Common.{ℕ, List, [], ◌∷◌, ◌++◌, refl}
use Rattle.std.specs.Prelude.{◌+◌, length}
use Rattle.std.specs.List.{AllByRecursion, flat_map}
use Rattle.lt_tree.specs.Tree as c
use Rattle.lt_tree.specs.Nodes.{Node, a_marked_item, in_expression, in_marks, in_mark, in_specifiers, in_declarator, in_declaration, in_optional, in_start, in_label, in_statement, in_items, in_cases, in_external, nodes}
use Rattle.lt_objectives.specs.Objectives.{at_start}
use Rattle.lt_objectives.specs.Marked.{NewMark, labels, statement_with_marks, items_with_marks, cases_with_marks, labels_before, after_leading, external_with_marks, externals_with_marks, unit_with_marks}
use Rattle.lt_objective_marks.proofs.KeptExpressions.{StaysSo, Keeps, as_they_were, two, node, expression, optional, declaration, for_start}

module _ {Holds : Node → Type 0} {new : List NewMark} (stays : StaysSo Holds new) where
  before_kept : (marks : c.Marks) (is : c.Items) → AllByRecursion Holds (in_marks marks) → AllByRecursion Holds (in_items is) → AllByRecursion Holds (in_items (labels_before marks is))
  before_kept c.no_marks is h g = g
  before_kept (c.a_mark first rest) is h g =
      (stays.others (a_marked_item first) refl, (two {Holds = Holds} (as_they_were (in_mark first)) (record { keeps = λ h. before_kept rest is h g })).keeps h)

  leading_kept : (marks : c.Marks) (is : c.Items) → AllByRecursion Holds (in_marks marks) → Keeps Holds (in_items is) (in_items (after_leading marks is))
  leading_kept marks c.no_items h = record { keeps = λ g. before_kept marks c.no_items h g }
  leading_kept marks (c.a_declaration d is) h = record { keeps = λ g. before_kept marks (c.a_declaration d is) h g }
  leading_kept marks (c.a_statement x is) h = record { keeps = λ g. before_kept marks (c.a_statement x is) h g }
  leading_kept marks (c.a_label m is) h = node (λ g. g) (two (as_they_were (in_mark m)) (leading_kept marks is h))

  mutual
    statement : (k : ℕ) (x : c.Statement) → Keeps Holds (in_statement x) (in_statement (statement_with_marks new k x))
    statement k (c.Compound is) = node (λ h. stays.others _ refl) (items (k + 1) is)
    statement k (c.Evaluates e) = node (λ h. stays.others _ refl) (expression stays (k + 1) e)
    statement k c.Null = as_they_were (in_statement c.Null)
    statement k (c.If e x) = node (λ h. stays.others _ refl) (two (expression stays (k + 1) e) (statement (k + 1 + length (in_expression e)) x))
    statement k (c.IfElse e x y) =
        let i = k + 1 + length (in_expression e) in node (λ h. stays.others _ refl) (two (two (expression stays (k + 1) e) (statement i x)) (statement (i + length (in_statement x)) y))
    statement k (c.While e x) = node (λ h. stays.others _ refl) (two (expression stays (k + 1) e) (statement (k + 1 + length (in_expression e)) x))
    statement k (c.Do x e) = node (λ h. stays.others _ refl) (two (statement (k + 1) x) (expression stays (k + 1 + length (in_statement x)) e))
    statement k (c.For start test step x) =
        let i = k + 1 + length (in_start start) in
        let j = i + length (in_optional test) in
        node (λ h. stays.others _ refl) (two (two (two (for_start stays (k + 1) start) (optional stays i test)) (optional stays j step)) (statement (j + length (in_optional step)) x))
    statement k (c.Switch e cs) = node (λ h. stays.others _ refl) (two (expression stays (k + 1) e) (cases (k + 1 + length (in_expression e)) cs))
    statement k c.Break = as_they_were (in_statement c.Break)
    statement k c.Continue = as_they_were (in_statement c.Continue)
    statement k (c.Return e) = node (λ h. stays.others _ refl) (optional stays (k + 1) e)

    items : (k : ℕ) (is : c.Items) → Keeps Holds (in_items is) (in_items (items_with_marks new k is))
    items k c.no_items = as_they_were []
    items k (c.a_declaration d is) = node (λ h. stays.others _ refl) (two (declaration stays (k + 1) d) (items (k + 1 + length (in_declaration d)) is))
    items k (c.a_statement x is) = node (λ h. stays.others _ refl) (two (statement (k + 1) x) (items (k + 1 + length (in_statement x)) is))
    items k (c.a_label m is) = node (λ h. h) (two (as_they_were (in_mark m)) (items (k + 1 + length (in_mark m)) is))

    cases : (k : ℕ) (cs : c.Cases) → Keeps Holds (in_cases cs) (in_cases (cases_with_marks new k cs))
    cases k c.no_cases = as_they_were []
    cases k (c.a_case list x cs) =
        let i = k + length (flat_map in_label list) in two (two (as_they_were (flat_map in_label list)) (statement i x)) (cases (i + length (in_statement x)) cs)

  external : (k : ℕ) (x : c.External) → Keeps Holds (in_external x) (in_external (external_with_marks new k x))
  external k (c.Defines s d body) =
      let j = k + 1 + length (in_specifiers s) + length (in_declarator d) in
      let inside = items j body in
      let around = leading_kept (labels at_start new k) (items_with_marks new j body) (stays.marks at_start (λ e. absurd cc) k) in
      node (λ h. stays.others _ refl) (two (as_they_were (in_specifiers s ++ in_declarator d)) (record { keeps = λ h. around.keeps (inside.keeps h) }))
  external k (c.Declared d) = node (λ h. stays.others _ refl) (declaration stays (k + 1) d)

  externals : (k : ℕ) (unit : c.Unit) → Keeps Holds (nodes unit) (nodes (externals_with_marks new k unit))
  externals k [] = as_they_were []
  externals k (x ∷ unit) = two (external k x) (externals (k + length (in_external x)) unit)

  -- it holds of each node of the unit with these marks, if it does of each of the unit
  pub unit_stays_so : (unit : c.Unit) → AllByRecursion Holds (nodes unit) → AllByRecursion Holds (nodes (unit_with_marks new unit))
  unit_stays_so unit h = (externals 0 unit).keeps h
