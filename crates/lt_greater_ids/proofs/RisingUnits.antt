-- Statements and units are gone over alike where greater ids are good.
use Rattle.std.proofs.Common.{◌≡◌, ◌≤◌, refl, ap, ℕ, true, false, List, [], ◌∷◌, ◌++◌, Option, Some, None}
use Rattle.std.specs.Prelude.{◌||◌, unwrap_or, filter_map}
use Rattle.lt_model.specs.declared.scalar.Scalar.{Scalar}
use Rattle.lt_tree.specs.declared.specifier.Storage.{Storage}
use Rattle.lt_tree.specs.Tree as c
use Rattle.lt_tree.specs.Typing.Types.{is_integer}
use Rattle.lt_tree.specs.Typing.Rules.{broken_if, unless, bad_case, stray_jump, function_disagrees}
use Rattle.lt_tree.specs.Typing.TypedTree.{Items}
use Rattle.lt_tree.specs.Typing.Entities.{Known, Frame, innermost, starting}
use Rattle.lt_tree.specs.Typing.Steps.{Outcome, Goes, Breaks, left}
use Rattle.lt_tree.specs.Typing.Expressions.{as_value, as_truth, own_type}
use Rattle.lt_tree.specs.Typing.Specifying.{elsewhere, is_class}
use Rattle.lt_tree.specs.Typing.Declarators.{Built, Declares}
use Rattle.lt_tree.specs.Typing.Declaring.{definition_shape_faults, has_body_already, definition_faults}
use Rattle.lt_tree.specs.declared.specifier.Storage.TheVariants as storage
use Rattle.lt_tree.specs.Typing.DeclarationTyping.{declaration, effective_in_for}
use Rattle.lt_tree.specs.Typing.StatementTyping.{Around, in_a_loop, in_a_switch, test_faults, optional_test_faults, optional_expression, optional_test, for_start, switch_type, Seen, is_new_case, with_case, case_value, labels, return_faults, statement, items, cases}
use Rattle.lt_tree.specs.Typing.Programs.{Program, typed}
use Rattle.lt_tree.specs.Typing.UnitTyping.{around_body, frame_of, adds_function, external, externals, defined_in, answer, typing_to}
use Rattle.lt_greater_ids.specs.Laws.{GreaterIdsChangeNothing}
use Rattle.lt_greater_ids.proofs.Rising.{raised, Rises, goes, breaks, bind, judged, unmarked, scoped, entered, unmarked_here, in_new_frame}
use Rattle.lt_greater_ids.proofs.RisingExpressions.{of_expression, of_mark, of_specifiers, of_declarator}
use Rattle.lt_greater_ids.proofs.RisingDeclarations.{declaration_alike, of_function, of_declaration_by}

definition_alike : (more : ℕ) (class : Option Storage) (name : Option (List ℕ)) (known : Known) (it : Built) → definition_faults class name (raised more known) it ≡ definition_faults class name known it
definition_alike more class name known it =
    ap (λ l. l ++ definition_shape_faults it ++ broken_if function_disagrees (is_class storage.Typedef class || has_body_already known name)) (declaration_alike more class false name known it)

module _ {more : ℕ} where
  -- ---- parts of statements

  of_declaration : (d : c.Declaration) (known : Known) → known.greatest_id ≤ more → Rises more (declaration d known) (declaration d (raised more known))
  of_declaration d known h = of_declaration_by (λ class. class) d known h

  of_optional : (it : Option c.Expression) (known : Known) → known.greatest_id ≤ more → Rises more (optional_expression it known) (optional_expression it (raised more known))
  of_optional None known h = goes refl h
  of_optional (Some it) known h = bind (of_expression it as_value known h) (λ x k h. goes refl h)

  of_optional_test : (it : Option c.Expression) (known : Known) → known.greatest_id ≤ more → Rises more (optional_test it known) (optional_test it (raised more known))
  of_optional_test None known h = goes refl h
  of_optional_test (Some it) known h = bind (of_expression it as_truth known h) (λ x k h. goes refl h)

  of_start : (start : c.ForStart) (known : Known) → known.greatest_id ≤ more → Rises more (for_start start known) (for_start start (raised more known))
  of_start c.Nothing known h = goes refl h
  of_start (c.First it) known h = bind (of_expression it as_value known h) (λ x k h. goes refl h)
  of_start (c.Declares d) known h = bind (of_declaration_by effective_in_for d known h) (λ it k h. goes refl h)

  of_labels : (them : List c.Label) (s : Option Scalar) (seen : Seen) (known : Known) → known.greatest_id ≤ more → Rises more (labels them s seen known) (labels them s seen (raised more known))
  of_labels [] s seen known h = goes refl h
  of_labels (c.Case it ∷ rest) s seen known h =
      bind (unmarked known.is_unmarked (of_expression it as_value (unmarked_here (entered known)) h))
      (λ x k h. bind (bind (judged known.next (unless (is_new_case seen (case_value k.model s x)) bad_case) k h) (λ u k h. goes refl h))
      (λ z k h. bind (of_labels rest s (with_case seen z) k h) (λ others k h. goes refl h)))
  of_labels (c.Default ∷ rest) s seen known h =
      bind (judged known.next (broken_if bad_case seen.has_default) (entered known) h) (λ u k h. bind (of_labels rest s (record seen { has_default = true }) k h) (λ others k h. goes refl h))

  -- ---- statements

  mutual
    of_statement : (it : c.Statement) (around : Around) (known : Known) → known.greatest_id ≤ more → Rises more (statement it around known) (statement it around (raised more known))
    of_statement (c.Compound list) around known h = bind (scoped known.frames (of_items list around (in_new_frame (entered known)) h)) (λ found k h. goes refl h)
    of_statement (c.Evaluates it) around known h = bind (of_expression it as_value (entered known) h) (λ x k h. goes refl h)
    of_statement c.Null around known h = goes refl h
    of_statement (c.If test body) around known h =
        scoped known.frames (bind (of_expression test as_truth (in_new_frame (entered known)) h) (λ x k h. bind (scoped k.frames (of_statement body around (in_new_frame k) h))
        (λ first k h. bind (judged known.next (test_faults x) k h) (λ u k h. goes refl h))))
    of_statement (c.IfElse test body other) around known h =
        scoped known.frames (bind (of_expression test as_truth (in_new_frame (entered known)) h)
        (λ x k h. bind (scoped k.frames (of_statement body around (in_new_frame k) h)) (λ first k h. bind (scoped k.frames (of_statement other around (in_new_frame k) h))
        (λ second k h. bind (judged known.next (test_faults x) k h) (λ u k h. goes refl h)))))
    of_statement (c.While test body) around known h =
        scoped known.frames (bind (of_expression test as_truth (in_new_frame (entered known)) h) (λ x k h. bind (scoped k.frames (of_statement body (in_a_loop around) (in_new_frame k) h))
        (λ first k h. bind (judged known.next (test_faults x) k h) (λ u k h. goes refl h))))
    of_statement (c.Do body test) around known h =
        let start = in_new_frame (entered known) in
        scoped known.frames (bind (scoped start.frames (of_statement body (in_a_loop around) (in_new_frame start) h)) (λ first k h. bind (of_expression test as_truth k h)
        (λ x k h. bind (judged known.next (test_faults x) k h) (λ u k h. goes refl h))))
    of_statement (c.For begin test step body) around known h =
        scoped known.frames (bind (of_start begin (in_new_frame (entered known)) h) (λ b k h. bind (of_optional_test test k h) (λ x k h. bind (of_optional step k h)
        (λ y k h. bind (scoped k.frames (of_statement body (in_a_loop around) (in_new_frame k) h)) (λ first k h. bind (judged known.next (b.faults ++ optional_test_faults x) k h) (λ u k h. goes refl h))))))
    of_statement (c.Switch operand list) around known h =
        scoped known.frames (bind (of_expression operand as_truth (in_new_frame (entered known)) h)
        (λ x k h. bind (of_cases list (switch_type k.model x) (record { values = []; has_default = false }) (in_a_switch around) k h)
        (λ found k h. bind (judged known.next (test_faults x ++ unless (is_integer (own_type x)) bad_case) k h) (λ u k h. goes refl h))))
    of_statement c.Break around known h = bind (judged known.next (unless (around.in_loop || around.in_switch) stray_jump) (entered known) h) (λ u k h. goes refl h)
    of_statement c.Continue around known h = bind (judged known.next (unless around.in_loop stray_jump) (entered known) h) (λ u k h. goes refl h)
    of_statement (c.Return it) around known h =
        bind (of_optional it (entered known) h) (λ x k h. bind (judged known.next (return_faults around.result x) k h) (λ u k h. goes refl h))

    of_items : (them : c.Items) (around : Around) (known : Known) → known.greatest_id ≤ more → Rises more (items them around known) (items them around (raised more known))
    of_items c.no_items around known h = goes refl h
    of_items (c.a_declaration first rest) around known h =
        bind (of_declaration first (entered known) h) (λ it k h. bind (judged known.next it.faults k h) (λ u k h. bind (of_items rest around k h) (λ others k h. goes refl h)))
    of_items (c.a_statement first rest) around known h = bind (of_statement first around (entered known) h) (λ s k h. bind (of_items rest around k h) (λ others k h. goes refl h))
    of_items (c.a_label first rest) around known h = bind (of_mark first (entered known) h) (λ m k h. bind (of_items rest around k h) (λ others k h. goes refl h))

    of_cases : (them : c.Cases) (s : Option Scalar) (seen : Seen) (around : Around) (known : Known) → known.greatest_id ≤ more → Rises more (cases them s seen around known) (cases them s seen around (raised more known))
    of_cases c.no_cases s seen around known h = goes refl h
    of_cases (c.a_case list first rest) s seen around known h =
        bind (of_labels list s seen known h) (λ it k h. bind (scoped k.frames (of_statement first around (in_new_frame k) h))
        (λ body k h. bind (of_cases rest s it.seen around k h) (λ others k h. goes refl h)))

  -- ---- units

  blocked : {A : Type 0} {o p : Outcome A} (frames : List Frame) → Rises more o p → Rises more (left frames o) (left frames p)
  blocked frames (goes {known} e h) = goes {known = record known { frames = frames }} (ap (λ a. (a, innermost known.frames)) e) h
  blocked frames breaks = breaks

  of_added : (node : ℕ) (name : List ℕ) (it : Declares) (body : Items) (known : Known) → known.greatest_id ≤ more → Rises more (adds_function node name it body known) (adds_function node name it body (raised more known))
  of_added node name it body known h = goes refl h

  of_external : (it : c.External) (known : Known) → known.greatest_id ≤ more → Rises more (external it known) (external it (raised more known))
  of_external (c.Defines s d body) known h =
      bind (of_specifiers s elsewhere (entered known) h) (λ it k h. bind (of_declarator d it true (definition_faults it.storage) (definition_alike more it.storage) k h)
      (λ declared k h. bind (of_function (unwrap_or declared.name []) declared.type k h)
      (λ u k h. bind (blocked k.frames (of_items body (around_body declared.type) (record k { frames = frame_of declared.parameters ∷ k.frames }) h)) (λ inside k h. of_added known.next (unwrap_or declared.name []) declared inside.0 k h))))
  of_external (c.Declared d) known h = bind (of_declaration d (entered known) h) (λ it k h. judged known.next it.faults k h)

  of_externals : (them : List c.External) (known : Known) → known.greatest_id ≤ more → Rises more (externals them known) (externals them (raised more known))
  of_externals [] known h = goes refl h
  of_externals (x ∷ xs) known h = bind (of_external x known h) (λ u k h. of_externals xs k h)

answered : {more : ℕ} (unit : c.Unit) (program : Program) (o p : Outcome (Unit {0})) → Rises more o p → answer unit o ≡ typed program → answer unit p ≡ typed program
answered unit program (Goes u known) (Goes v there) (goes e h) is = is
answered unit program (Goes u known) (Breaks rule node) d is = elim d [ ]
answered unit program (Breaks rule node) p d is = absurd cc

pub greater_ids : GreaterIdsChangeNothing
unfolding typing_to
greater_ids greatest more model unit program is least =
    answered unit program (externals unit (starting greatest model (filter_map defined_in unit))) (externals unit (starting more model (filter_map defined_in unit)))
    (of_externals unit (starting greatest model (filter_map defined_in unit)) least) is
