-- Typing of statements keeps the tags that are in scope.
use Rattle.std.proofs.Common.{true, false, List, [], ◌∷◌, ◌++◌, Option, Some, None}
use Rattle.std.specs.Prelude.{◌||◌}
use Rattle.lt_model.specs.declared.scalar.Scalar.{Scalar}
use Rattle.lt_tree.specs.Tree as c
use Rattle.lt_tree.specs.Typing.Types.{is_integer}
use Rattle.lt_tree.specs.Typing.Rules.{broken_if, unless, bad_case, stray_jump}
use Rattle.lt_tree.specs.Typing.Entities.{Known}
use Rattle.lt_tree.specs.Typing.Steps.{in_block}
use Rattle.lt_tree.specs.Typing.Expressions.{as_value, as_truth, own_type}
use Rattle.lt_tree.specs.Typing.DeclarationTyping.{declaration, effective_in_for}
use Rattle.lt_tree.specs.Typing.StatementTyping.{Around, in_a_loop, in_a_switch, test_faults, optional_test_faults, optional_expression, optional_test, for_start, switch_type, Seen, is_new_case, with_case, case_value, labels, return_faults, statement, items, cases}
use Rattle.lt_objectives.specs.Tags.{tags_in, tags_in_start}
use Rattle.lt_simple_copies.proofs.KeptScopes.{same, Any, Kept, Brings, went, bind, bind_first, judges, unmarked, scoped, in_new_frame, unmarked_here, entered}
use Rattle.lt_simple_copies.proofs.KeptExpressions.{of_expression, of_mark}
use Rattle.lt_simple_copies.proofs.KeptDeclarations.{of_declaration_by}

-- ---- parts of statements

pub of_declaration : (d : c.Declaration) (known : Known) → Brings (tags_in d.specifiers) known (declaration d known)
of_declaration d known = of_declaration_by (λ class. class) d known

pub of_optional : (it : Option c.Expression) (known : Known) → Kept known (optional_expression it known)
of_optional None known = went same tt
of_optional (Some it) known = bind (of_expression it as_value known) (λ x k kept h. went same tt)

pub of_optional_test : (it : Option c.Expression) (known : Known) → Kept known (optional_test it known)
of_optional_test None known = went same tt
of_optional_test (Some it) known = bind (of_expression it as_truth known) (λ x k kept h. went same tt)

pub of_start : (start : c.ForStart) (known : Known) → Brings (tags_in_start start) known (for_start start known)
of_start c.Nothing known = went same tt
of_start (c.First it) known = bind (of_expression it as_value known) (λ x k kept h. went same tt)
of_start (c.Declares d) known = bind_first (of_declaration_by effective_in_for d known) (λ it k h. went same tt)

pub of_labels : (them : List c.Label) (scalar : Option Scalar) (seen : Seen) (known : Known) → Kept known (labels them scalar seen known)
of_labels [] scalar seen known = went same tt
of_labels (c.Case it ∷ rest) scalar seen known =
    bind (unmarked known.is_unmarked (of_expression it as_value (unmarked_here (entered known)))) (λ x k kept h. bind {Was = Any}
    (judges known.next (unless (is_new_case seen (case_value k.model scalar x)) bad_case) k _ (went same tt))
    (λ z k kept i. bind (of_labels rest scalar (with_case seen z) k) (λ others k kept j. went same tt)))
of_labels (c.Default ∷ rest) scalar seen known =
    judges known.next (broken_if bad_case seen.has_default) (entered known) _ (bind (of_labels rest scalar (record seen { has_default = true }) (entered known)) (λ others k kept h. went same tt))

-- ---- statements

mutual
  pub of_statement : (it : c.Statement) (around : Around) (known : Known) → Kept known (statement it around known)
  of_statement (c.Compound list) around known = bind (scoped known.frames (of_items list around (in_new_frame (entered known)))) (λ found k kept h. went same tt)
  of_statement (c.Evaluates it) around known = bind (of_expression it as_value (entered known)) (λ x k kept h. went same tt)
  of_statement c.Null around known = went same tt
  of_statement (c.If test body) around known =
      scoped known.frames (bind (of_expression test as_truth (in_new_frame (entered known))) (λ x k kept h. bind (scoped k.frames (of_statement body around (in_new_frame k)))
      (λ first k kept i. judges known.next (test_faults x) k _ (went same tt))))
  of_statement (c.IfElse test body other) around known =
      scoped known.frames (bind (of_expression test as_truth (in_new_frame (entered known))) (λ x k kept h. bind (scoped k.frames (of_statement body around (in_new_frame k)))
      (λ first k kept i. bind (scoped k.frames (of_statement other around (in_new_frame k))) (λ second k kept j. judges known.next (test_faults x) k _ (went same tt)))))
  of_statement (c.While test body) around known =
      scoped known.frames (bind (of_expression test as_truth (in_new_frame (entered known))) (λ x k kept h. bind (scoped k.frames (of_statement body (in_a_loop around) (in_new_frame k)))
      (λ first k kept i. judges known.next (test_faults x) k _ (went same tt))))
  of_statement (c.Do body test) around known =
      scoped known.frames (bind (scoped (in_new_frame (entered known)).frames (of_statement body (in_a_loop around) (in_new_frame (in_new_frame (entered known)))))
      (λ first k kept h. bind (of_expression test as_truth k) (λ x k kept i. judges known.next (test_faults x) k _ (went same tt))))
  of_statement (c.For begin test step body) around known =
      scoped known.frames (bind (of_start begin (in_new_frame (entered known))) (λ b k kept g. bind (of_optional_test test k) (λ x k kept h. bind (of_optional step k)
      (λ y k kept i. bind (scoped k.frames (of_statement body (in_a_loop around) (in_new_frame k))) (λ first k kept j. judges known.next (b.faults ++ optional_test_faults x) k _ (went same tt))))))
  of_statement (c.Switch operand list) around known =
      scoped known.frames (bind (of_expression operand as_truth (in_new_frame (entered known)))
      (λ x k kept h. bind (of_cases list (switch_type k.model x) (record { values = []; has_default = false }) (in_a_switch around) k)
      (λ found k kept i. judges known.next (test_faults x ++ unless (is_integer (own_type x)) bad_case) k _ (went same tt))))
  of_statement c.Break around known = judges known.next (unless (around.in_loop || around.in_switch) stray_jump) (entered known) _ (went same tt)
  of_statement c.Continue around known = judges known.next (unless around.in_loop stray_jump) (entered known) _ (went same tt)
  of_statement (c.Return it) around known = bind (of_optional it (entered known)) (λ x k kept h. judges known.next (return_faults around.result x) k _ (went same tt))

  pub of_items : (them : c.Items) (around : Around) (known : Known) → Kept known (items them around known)
  of_items c.no_items around known = went same tt
  of_items (c.a_declaration first rest) around known =
      bind (of_declaration first (entered known)) (λ it k kept h. judges known.next it.faults k _ (bind (of_items rest around k) (λ others k kept i. went same tt)))
  of_items (c.a_statement first rest) around known = bind (of_statement first around (entered known)) (λ it k kept h. bind (of_items rest around k) (λ others k kept i. went same tt))
  of_items (c.a_label first rest) around known = bind (of_mark first (entered known)) (λ m k kept h. bind (of_items rest around k) (λ others k kept i. went same tt))

  of_cases : (them : c.Cases) (scalar : Option Scalar) (seen : Seen) (around : Around) (known : Known) → Kept known (cases them scalar seen around known)
  of_cases c.no_cases scalar seen around known = went same tt
  of_cases (c.a_case list first rest) scalar seen around known =
      bind (of_labels list scalar seen known) (λ it k kept h. bind (scoped k.frames (of_statement first around (in_new_frame k)))
      (λ body k kept i. bind (of_cases rest scalar it.seen around k) (λ others k kept j. went same tt)))

pub of_block : (it : c.Statement) (around : Around) (known : Known) → Kept known (in_block (statement it around) known)
of_block it around known = scoped known.frames (of_statement it around (in_new_frame known))
