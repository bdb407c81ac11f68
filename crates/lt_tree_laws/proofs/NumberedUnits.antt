-- The nodes of statements and units have the numbers of their walk.
use Rattle.std.proofs.Common.{◌≡◌, ℕ, ◌<◌, true, false, List, [], ◌∷◌, ◌++◌, length, Option, Some, None, arith}
use Rattle.std.specs.Prelude.{filter_map, unwrap_or, ◌||◌}
use Rattle.std.specs.List.{flat_map}
use Rattle.lt_model.specs.declared.scalar.Scalar.{Scalar}
use Rattle.lt_tree.specs.Tree as c
use Rattle.lt_tree.specs.Nodes.{Node, in_expression, in_declaration, in_specifiers, in_declarator, in_optional, in_start, in_label, in_statement, in_items, in_cases, in_external, nodes}
use Rattle.lt_tree.specs.Typing.Types.{CType, is_integer}
use Rattle.lt_tree.specs.Typing.Rules.{Rule, broken_if, unless, bad_case, stray_jump}
use Rattle.lt_tree.specs.Typing.Entities.{Known, Frame, a_function, at_start, bind_name}
use Rattle.lt_tree.specs.Typing.Steps.{Outcome}
use Rattle.lt_tree.specs.Typing.Expressions.{as_value, as_truth, own_type}
use Rattle.lt_tree.specs.Typing.Specifying.{elsewhere}
use Rattle.lt_tree.specs.Typing.Declaring.{definition_faults, with_declared}
use Rattle.lt_tree.specs.Typing.DeclarationTyping.{declaration, effective_in_for}
use Rattle.lt_tree.specs.Typing.StatementTyping.{Around, in_a_loop, in_a_switch, test_faults, optional_test_faults, optional_expression, optional_test, for_start, switch_type, Seen, is_new_case, with_case, case_value, labels, return_faults, statement, items, cases}
use Rattle.lt_tree.specs.Typing.Programs.{broken}
use Rattle.lt_tree.specs.Typing.UnitTyping.{around_body, frame_of, external, externals, defined_in, answer, typing_to}
use Rattle.lt_tree_laws.specs.Typing.NodeNumbers.{PartsAreNumbered, BrokenNodesAreThere}
use Rattle.lt_tree_laws.proofs.NodeSteps.{Covers, went, broke, Whole, as_said, entered, unmarked_here, in_new_frame, done, after, joined, grouped, node, part, last, rest_of, judges, unmarked, blocked, scoped, from_here, inner}
use Rattle.lt_tree_laws.proofs.NumberedExpressions.{of_expression, of_mark, of_specifiers, of_declarator}
use Rattle.lt_tree_laws.proofs.NumberedDeclarations.{of_object_initialiser, function_leaves, of_declaration_by}

-- ---- parts of statements

of_declaration : (d : c.Declaration) (known : Known) → Whole known (in_declaration d) (declaration d known)
of_declaration d known = of_declaration_by (λ class. class) d known

of_optional : (it : Option c.Expression) (known : Known) → Whole known (in_optional it) (optional_expression it known)
of_optional None known = done known
of_optional (Some it) known = after (of_expression it as_value known) (λ x k le. done k)

of_optional_test : (it : Option c.Expression) (known : Known) → Whole known (in_optional it) (optional_test it known)
of_optional_test None known = done known
of_optional_test (Some it) known = after (of_expression it as_truth known) (λ x k le. done k)

of_start : (start : c.ForStart) (known : Known) → Whole known (in_start start) (for_start start known)
of_start c.Nothing known = done known
of_start (c.First it) known = after (of_expression it as_value known) (λ x k le. done k)
of_start (c.Declares d) known = after (of_declaration_by effective_in_for d known) (λ it k le. done k)

of_labels : (them : List c.Label) (s : Option Scalar) (seen : Seen) (known : Known) → Whole known (flat_map in_label them) (labels them s seen known)
of_labels [] s seen known = done known
of_labels (c.Case it ∷ rest) s seen known =
    node known (λ i. part (entered known) i (unmarked known.is_unmarked (of_expression it as_value (unmarked_here (entered known))))
    (λ x k i. rest_of k i (after (judges (unless (is_new_case seen (case_value k.model s x)) bad_case) k i) (λ u k le. done k))
    (λ z k. after (of_labels rest s (with_case seen z) k) (λ others k le. done k))))
of_labels (c.Default ∷ rest) s seen known =
    node known (λ i. rest_of (entered known) i (judges (broken_if bad_case seen.has_default) (entered known) i)
    (λ u k. after (of_labels rest s (record seen { has_default = true }) k) (λ others k le. done k)))

-- ---- statements

mutual
  of_statement : (it : c.Statement) (around : Around) (known : Known) → Whole known (in_statement it) (statement it around known)
  of_statement (c.Compound list) around known =
      node known (λ i. last (entered known) i (scoped (entered known) (of_items list around (in_new_frame (entered known)))) (λ found k i. done k))
  of_statement (c.Evaluates it) around known = node known (λ i. last (entered known) i (of_expression it as_value (entered known)) (λ x k i. done k))
  of_statement c.Null around known = node known (λ i. done (entered known))
  of_statement (c.If test body) around known =
      let start = in_new_frame (entered known) in
      node known (λ i. after (blocked known.frames (part start i (of_expression test as_truth start) (λ x k i. last k i (scoped k (of_statement body around (in_new_frame k)))
      (λ first k i. after (judges (test_faults x) k i) (λ u k le. done k))))) (λ r k le. done k))
  of_statement (c.IfElse test body other) around known =
      let start = in_new_frame (entered known) in
      node known (λ i. after (blocked known.frames (grouped (in_expression test) (in_statement body) (in_statement other) (part start i (of_expression test as_truth start)
      (λ x k i. part k i (scoped k (of_statement body around (in_new_frame k))) (λ first k i. last k i (scoped k (of_statement other around (in_new_frame k))) (λ second k i. after (judges (test_faults x) k i) (λ u k le. done k))))))) (λ r k le. done k))
  of_statement (c.While test body) around known =
      let start = in_new_frame (entered known) in
      node known (λ i. after (blocked known.frames (part start i (of_expression test as_truth start) (λ x k i. last k i (scoped k (of_statement body (in_a_loop around) (in_new_frame k)))
      (λ first k i. after (judges (test_faults x) k i) (λ u k le. done k))))) (λ r k le. done k))
  of_statement (c.Do body test) around known =
      let start = in_new_frame (entered known) in
      node known (λ i. after (blocked known.frames (part start i (scoped start (of_statement body (in_a_loop around) (in_new_frame start))) (λ first k i. last k i (of_expression test as_truth k)
      (λ x k i. after (judges (test_faults x) k i) (λ u k le. done k))))) (λ r k le. done k))
  of_statement (c.For begin test step body) around known =
      let start = in_new_frame (entered known) in
      node known (λ i. after (blocked known.frames (grouped (in_start begin ++ in_optional test) (in_optional step) (in_statement body) (grouped (in_start begin) (in_optional test) (in_optional step ++ in_statement body)
      (part start i (of_start begin start) (λ b k i. part k i (of_optional_test test k) (λ x k i. part k i (of_optional step k) (λ y k i. last k i (scoped k (of_statement body (in_a_loop around) (in_new_frame k)))
      (λ first k i. after (judges (b.faults ++ optional_test_faults x) k i) (λ u k le. done k))))))))) (λ r k le. done k))
  of_statement (c.Switch operand list) around known =
      let start = in_new_frame (entered known) in
      node known (λ i. after (blocked known.frames (part start i (of_expression operand as_truth start)
      (λ x k i. last k i (of_cases list (switch_type k.model x) (record { values = []; has_default = false }) (in_a_switch around) k)
      (λ found k i. after (judges (test_faults x ++ unless (is_integer (own_type x)) bad_case) k i) (λ u k le. done k))))) (λ r k le. done k))
  of_statement c.Break around known = node known (λ i. after (judges (unless (around.in_loop || around.in_switch) stray_jump) (entered known) i) (λ u k le. done k))
  of_statement c.Continue around known = node known (λ i. after (judges (unless around.in_loop stray_jump) (entered known) i) (λ u k le. done k))
  of_statement (c.Return it) around known =
      node known (λ i. last (entered known) i (of_optional it (entered known)) (λ x k i. after (judges (return_faults around.result x) k i) (λ u k le. done k)))

  of_items : (them : c.Items) (around : Around) (known : Known) → Whole known (in_items them) (items them around known)
  of_items c.no_items around known = done known
  of_items (c.a_declaration first rest) around known =
      node known (λ i. part (entered known) i (of_declaration first (entered known)) (λ it k i. rest_of k i (judges it.faults k i) (λ u k. after (of_items rest around k) (λ others k le. done k))))
  of_items (c.a_statement first rest) around known =
      node known (λ i. part (entered known) i (of_statement first around (entered known)) (λ s k i. last k i (of_items rest around k) (λ others k i. done k)))
  of_items (c.a_label first rest) around known =
      node known (λ i. part (entered known) i (of_mark first (entered known)) (λ m k i. last k i (of_items rest around k) (λ others k i. done k)))

  of_cases : (them : c.Cases) (s : Option Scalar) (seen : Seen) (around : Around) (known : Known) → Whole known (in_cases them) (cases them s seen around known)
  of_cases c.no_cases s seen around known = done known
  of_cases (c.a_case list first rest) s seen around known =
      grouped (flat_map in_label list) (in_statement first) (in_cases rest) (joined known (of_labels list s seen known) (λ it k. joined k (scoped k (of_statement first around (in_new_frame k)))
      (λ body k. after (of_cases rest s it.seen around k) (λ others k le. done k))))

-- ---- units

-- where a function is declared, and its body is in a scope of its own
abbrev with_body : List ℕ → CType → Frame → Known → Known
with_body name t frame known = let there = bind_name name a_function (with_declared name t known) in record there { frames = frame ∷ there.frames }

of_external : (it : c.External) (known : Known) → Whole known (in_external it) (external it known)
of_external (c.Defines s d body) known =
    node known (λ i. grouped (in_specifiers s) (in_declarator d) (in_items body) (part (entered known) i (of_specifiers s elsewhere (entered known))
    (λ it k i. part k i (of_declarator d it true (definition_faults it.storage) k)
    (λ declared k i. after (inner k i (from_here k (with_body (unwrap_or declared.name []) declared.type (frame_of declared.parameters) k) (function_leaves (unwrap_or declared.name []) declared.type k)
    (blocked (bind_name (unwrap_or declared.name []) a_function (with_declared (unwrap_or declared.name []) declared.type k)).frames (of_items body (around_body declared.type) (with_body (unwrap_or declared.name []) declared.type (frame_of declared.parameters) k))))) (λ inside k le. done _)))))
of_external (c.Declared d) known = node known (λ i. last (entered known) i (of_declaration d (entered known)) (λ it k i. judges it.faults k i))

of_externals : (them : List c.External) (known : Known) → Whole known (nodes them) (externals them known)
of_externals [] known = done known
of_externals (x ∷ xs) known = joined known (of_external x known) (λ u k. of_externals xs k)

pub parts_are_numbered : PartsAreNumbered
parts_are_numbered = (
  (λ it role known. as_said known (of_expression it role known)),
  (λ it known. as_said known (of_mark it known)),
  (λ it is_static t judge known. as_said known (of_object_initialiser it is_static t judge known)),
  (λ it known. as_said known (of_declaration it known)),
  (λ it around known. as_said known (of_statement it around known)),
  (λ it known. as_said known (of_external it known)),
)

answered : (unit : c.Unit) (xs : List Node) (o : Outcome (Unit {0})) (rule : Rule) (at : ℕ) → Covers 0 0 xs o → answer unit o ≡ broken rule at → at < length xs
answered unit xs o rule at (went e) is = absurd cc
answered unit xs o rule at (broke {rule = r} {node = m} l u) is = let same : m ≡ at = cc in omega arith

pub broken_nodes_are_there : BrokenNodesAreThere
unfolding typing_to
broken_nodes_are_there model unit rule at is = answered unit (nodes unit) (externals unit (at_start model (filter_map defined_in unit))) rule at (of_externals unit (at_start model (filter_map defined_in unit))) is
