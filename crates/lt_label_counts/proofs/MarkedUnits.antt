-- Statements and units with new marks need the same as without.
use Rattle.std.proofs.Common.{◌≡◌, ℕ, List, [], ◌∷◌, ◌++◌, Some, None, refl, sym, ap, ◌∙◌, append_assoc, arith}
use Rattle.std.proofs.lemmas.List.{append-nil}
use Rattle.std.specs.Prelude.{◌+◌, length}
use Rattle.std.specs.List.{flat_map}
use Rattle.lt_tree.specs.Tree as t
use Rattle.lt_tree.specs.Nodes.{in_expression, in_specifiers, in_declarator, in_declaration, in_mark, in_start, in_optional, in_label, in_statement, in_items, in_cases, in_external, nodes}
use Rattle.lt_places.proofs.Parts.{expression_whole}
use Rattle.lt_objectives.specs.Objectives.{at_start}
use Rattle.lt_objectives.specs.Marked.{NewMark, labels, statement_with_marks, items_with_marks, cases_with_marks, labels_before, after_leading, external_with_marks, externals_with_marks, unit_with_marks}
use Rattle.lt_label_counts.specs.Needs.{needs}
use Rattle.lt_label_counts.proofs.Fits.{mark_needs}
use Rattle.lt_label_counts.proofs.Beside.{Alike, nothing, itself, both, node, one_more, mark, specifiers_whole, declarator_whole}
use Rattle.lt_label_counts.proofs.MarkedExpressions.{expression, optional, declaration, for_start}

case_labels : (list : List t.Label) → Alike (flat_map in_label list) (flat_map in_label list)
case_labels [] = nothing
case_labels (t.Case e ∷ rest) = both (node refl refl refl (itself (in_expression e) (expression_whole e))) (case_labels rest)
case_labels (t.Default ∷ rest) = both (node refl refl refl nothing) (case_labels rest)

mutual
  statement : (new : List NewMark) (k : ℕ) (x : t.Statement) → Alike (in_statement (statement_with_marks new k x)) (in_statement x)
  statement new k (t.Compound is) = node refl refl refl (items new (k + 1) is)
  statement new k (t.Evaluates e) = node refl refl refl (expression new (k + 1) e)
  statement new k t.Null = node refl refl refl nothing
  statement new k (t.If e x) = node refl refl refl (both (expression new (k + 1) e) (statement new (k + 1 + length (in_expression e)) x))
  statement new k (t.IfElse e x y) = node refl refl refl (both (both (expression new (k + 1) e) (statement new (k + 1 + length (in_expression e)) x)) (statement new (k + 1 + length (in_expression e) + length (in_statement x)) y))
  statement new k (t.While e x) = node refl refl refl (both (expression new (k + 1) e) (statement new (k + 1 + length (in_expression e)) x))
  statement new k (t.Do x e) = node refl refl refl (both (statement new (k + 1) x) (expression new (k + 1 + length (in_statement x)) e))
  statement new k (t.For start None step x) = node refl refl refl (both (both (both (for_start new (k + 1) start) nothing) (optional new (k + 1 + length (in_start start) + 0) step)) (statement new (k + 1 + length (in_start start) + 0 + length (in_optional step)) x))
  statement new k (t.For start (Some test) step x) = node refl refl refl (both (both (both (for_start new (k + 1) start) (expression new (k + 1 + length (in_start start)) test)) (optional new (k + 1 + length (in_start start) + length (in_expression test)) step)) (statement new (k + 1 + length (in_start start) + length (in_expression test) + length (in_optional step)) x))
  statement new k (t.Switch e cs) = node refl refl refl (both (expression new (k + 1) e) (cases new (k + 1 + length (in_expression e)) cs))
  statement new k t.Break = node refl refl refl nothing
  statement new k t.Continue = node refl refl refl nothing
  statement new k (t.Return e) = node refl refl refl (optional new (k + 1) e)

  items : (new : List NewMark) (k : ℕ) (is : t.Items) → Alike (in_items (items_with_marks new k is)) (in_items is)
  items new k t.no_items = nothing
  items new k (t.a_declaration d is) = node refl refl refl (both (declaration new (k + 1) d) (items new (k + 1 + length (in_declaration d)) is))
  items new k (t.a_statement x is) = node refl refl refl (both (statement new (k + 1) x) (items new (k + 1 + length (in_statement x)) is))
  items new k (t.a_label m is) = node refl refl refl (both (same_mark m) (items new (k + 1 + length (in_mark m)) is))
    where
      same_mark : (m : t.Mark) → Alike (in_mark m) (in_mark m)
      same_mark m = record { alike = λ us vs e. (mark m).alike us vs e ∙ sym ((mark m).alike vs vs refl) }

  cases : (new : List NewMark) (k : ℕ) (cs : t.Cases) → Alike (in_cases (cases_with_marks new k cs)) (in_cases cs)
  cases new k t.no_cases = nothing
  cases new k (t.a_case list x cs) = both (both (case_labels list) (statement new (k + length (flat_map in_label list)) x)) (cases new (k + length (flat_map in_label list) + length (in_statement x)) cs)

before : (marks : t.Marks) (is js : t.Items) → Alike (in_items is) (in_items js) → Alike (in_items (labels_before marks is)) (in_items js)
before t.no_marks is js a = a
before (t.a_mark m ms) is js a = one_more refl refl (both (mark m) (before ms is js a))

without_label : (m : t.Mark) (is js : t.Items) → Alike (in_items (t.a_label m is)) (in_items js) → Alike (in_items is) (in_items js)
without_label m is js a = record {
  alike = λ us vs e.
      let h = a.alike us vs e in
      let label : needs 0 (in_mark m ++ in_items is ++ us) ≡ needs 0 (in_items is ++ us) = ap (needs 0) (append_assoc (in_mark m) (in_items is) us) ∙ mark_needs m (in_items is ++ us) in
      omega (arith, h, label);
}

-- labels behind those with which items begin
leading : (marks : t.Marks) (is js : t.Items) → Alike (in_items is) (in_items js) → Alike (in_items (after_leading marks is)) (in_items js)
leading marks t.no_items js a = before marks t.no_items js a
leading marks (t.a_declaration d is) js a = before marks (t.a_declaration d is) js a
leading marks (t.a_statement x is) js a = before marks (t.a_statement x is) js a
leading marks (t.a_label m is) js a = one_more refl refl (both (mark m) (leading marks is js (without_label m is js a)))

external : (new : List NewMark) (k : ℕ) (x : t.External) → Alike (in_external (external_with_marks new k x)) (in_external x)
external new k (t.Defines s d body) = node refl refl refl (both (both (itself (in_specifiers s) (specifiers_whole s)) (itself (in_declarator d) (declarator_whole d))) (leading (labels at_start new k) (items_with_marks new (k + 1 + length (in_specifiers s) + length (in_declarator d)) body) body (items new (k + 1 + length (in_specifiers s) + length (in_declarator d)) body)))
external new k (t.Declared d) = node refl refl refl (declaration new (k + 1) d)

externals : (new : List NewMark) (k : ℕ) (unit : t.Unit) → Alike (nodes (externals_with_marks new k unit)) (nodes unit)
externals new k [] = nothing
externals new k (x ∷ unit) = both (external new k x) (externals new (k + length (in_external x)) unit)

-- Wherever new marks stand, the unit needs the same.
pub marked_needs : (new : List NewMark) (unit : t.Unit) → needs 0 (nodes (unit_with_marks new unit)) ≡ needs 0 (nodes unit)
marked_needs new unit =
    sym (ap (needs 0) (append-nil (nodes (unit_with_marks new unit)))) ∙ (externals new 0 unit).alike [] [] refl ∙ ap (needs 0) (append-nil (nodes unit))
