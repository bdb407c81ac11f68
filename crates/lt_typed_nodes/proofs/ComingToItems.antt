-- Where typing comes to externals, declarations, initialisers and statements it comes to their parts.
use Rattle.std.proofs.Common.{◌≡◌, refl, sym, ap, ◌∙◌, subst, ℕ, Bool, true, false, if◌then◌else◌, List, [], ◌∷◌, ◌++◌, Option, Some, None}
use Rattle.std.proofs.lemmas.List.{append-nil}
use Rattle.std.specs.Prelude.{unwrap_or, is_some, slice_get, filter_map}
use Rattle.lt_model.specs.declared.scalar.Scalar.{Scalar}
use Rattle.lt_tree.specs.declared.specifier.Storage.{Storage}
use Rattle.lt_tree.specs.Tree as c
use Rattle.lt_tree.specs.Typing.Types.{CType, struct_of, is_integer}
use Rattle.lt_tree.specs.Typing.TypedTree.{Start, Statement, Items}
use Rattle.lt_tree.specs.Typing.Entities.{Known, Frame, a_function, is_static, type_of_object, Fact, bind_name, starting}
use Rattle.lt_tree.specs.Typing.Programs.{Program, Typing, typed, broken}
use Rattle.lt_tree.specs.Typing.Rules.{unless, bad_case}
use Rattle.lt_tree.specs.Typing.Steps.{Outcome, Goes, Breaks, goes_on, left, in_block}
use Rattle.lt_tree.specs.Typing.Expressions.{Typed, as_value, as_truth, own_type}
use Rattle.lt_tree.specs.Typing.Specifying.{Specified, alone, elsewhere}
use Rattle.lt_tree.specs.Typing.Declarators.{Declares}
use Rattle.lt_tree.specs.Typing.ExpressionTyping.{expression}
use Rattle.lt_tree.specs.Typing.Filling.{Filling, opened, is_struct_of, filling_of}
use Rattle.lt_tree.specs.Typing.InitialiserTyping.{Judges, filling_for, initialiser_without_braces, whole_without_braces, initialiser, initialisers, object_initialiser}
use Rattle.lt_tree.specs.Typing.Declaring.{an_object_of, kind_of, declaration_faults, with_declared, length_faults, definition_faults}
use Rattle.lt_tree.specs.Typing.DeclarationTyping.{declare, declare_named, init_declarator, init_declarators, has_no_declarator, declaration_by, declaration}
use Rattle.lt_tree.specs.Typing.StatementTyping.{Around, in_a_loop, in_a_switch, test_faults, optional_test_faults, TypedStart, optional_expression, optional_test, for_start, switch_type, Seen, statement, items, cases}
use Rattle.lt_tree.specs.Typing.UnitTyping.{around_body, frame_of, external, externals, defined_in, answer, typing_to}
use Rattle.lt_typed_nodes.specs.Coming.{ComesTo, entered, in_new_block}
use Rattle.lt_typed_nodes.specs.ComingItems.{ComesInInitialiser, ComesToInitialisers, ComesInObject, ComesInDeclaration, ComesToDeclarators, ComesToStart, ComesToDeclared, ComesToTest, ComesToOptional, ComesInStart, ComesToBody, ComesInFor, ComesInStatement, ComesToItems, ComesToCases, ComesInExternal, ComesToExternals, UnitsAreComeTo, ExternalsAreComeTo, StatementsAreComeTo, DeclarationsAreComeTo, InitialisersAreComeTo}
use Rattle.lt_typed_nodes.proofs.FactSteps.{Whole, whole, scoped}
use Rattle.lt_typed_nodes.proofs.NotedExpressions.{of_expression, of_mark, of_specifiers, of_declarator}
use Rattle.lt_typed_nodes.proofs.NotedDeclarations.{declare_if_named, with_start_of, of_fill_value, of_initialiser, of_initialisers, start_leaves, of_declare_object, of_init_declarator, of_init_declarators, function_leaves}
use Rattle.lt_typed_nodes.proofs.NotedUnits.{with_body, of_declaration, of_optional, of_optional_test, of_start, of_labels, of_statement, of_items, of_cases, of_external, of_externals}
use Rattle.lt_typed_nodes.proofs.ComingSteps.{Grows, grew, of_part, of_it, none, next, settled, first, behind, inside, in_scope, in_frames, judged}
use Rattle.lt_typed_nodes.proofs.FoundFacts.{begun_as}
use Rattle.lt_typed_nodes.specs.Laws.{NotesBegunNodes}

-- ---- initialisers

in_initialiser : (facts : List Fact) (known : Known) (is_static : Bool) (filling : Filling) (i : c.Initialiser) → ComesTo facts known (initialiser i is_static filling known) → ComesInInitialiser facts known is_static filling i
in_initialiser facts known is_static filling (c.Value e) comes =
    λ none_found. first (expression e as_value (entered known))
    (subst (λ found. ComesTo facts (entered known) (initialiser_without_braces known.next is_static filling e found (entered known))) none_found (inside comes))
    (λ x k. of_part (of_fill_value {at = known.next} is_static filling x (opened k (is_struct_of (struct_of (own_type x))) filling.left) k))
in_initialiser facts known is_static filling (c.Braces list) comes =
    first (initialisers list is_static (filling_for (entered known) list filling.left) (entered known)) (inside comes) (λ inner k. next (settled _ _ k) (λ u k. none k))

to_initialisers : (facts : List Fact) (known : Known) (is_static : Bool) (filling : Filling) (them : c.Initialisers) → ComesTo facts known (initialisers them is_static filling known) → ComesToInitialisers facts known is_static filling them
to_initialisers facts known is_static filling c.no_initialisers comes = tt
to_initialisers facts known is_static filling (c.an_initialiser i rest) comes = (
  first (initialiser i is_static filling known) comes (λ filled k. of_part (of_initialisers rest is_static filled k)),
  λ filled k is. behind _ comes (of_initialiser i is_static filling known) filled k is,
)

in_object : (facts : List Fact) (known : Known) (is_static : Bool) (t : CType) (judge : Judges) (i : c.Initialiser) → ComesTo facts known (object_initialiser is_static t judge i known) → ComesInObject facts known is_static t i
in_object facts known is_static t judge (c.Value e) comes =
    λ none_found. first (expression e as_value (entered known))
    (subst (λ found. ComesTo facts (entered known) (whole_without_braces known.next is_static t judge e found (entered known))) none_found (inside comes))
    (λ x k. next (settled _ _ k) (λ u k. none k))
in_object facts known is_static t judge (c.Braces list) comes =
    first (initialisers list is_static (filling_of (entered known) 0 t list) (entered known)) (inside comes) (λ filled k. next (settled _ _ k) (λ u k. none k))

pub initialisers_are_come_to : InitialisersAreComeTo
initialisers_are_come_to = (in_object, in_initialiser, to_initialisers)

-- ---- declarations

in_declaration : (facts : List Fact) (known : Known) (effective : Option Storage → Option Storage) (d : c.Declaration) → ComesTo facts known (declaration_by effective d known) → ComesInDeclaration facts known effective d
in_declaration facts known effective d comes =
    λ it k is. first (init_declarators (record it { storage = effective it.storage }) d.declarators k)
    (behind _ comes (of_specifiers d.specifiers (if has_no_declarator d.declarators then alone else elsewhere) known) it k is) (λ locals k. none k)

to_declarators : (facts : List Fact) (known : Known) (it : Specified) (ds : List c.InitDeclarator) → ComesTo facts known (init_declarators it ds known) → ComesToDeclarators facts known it ds
to_declarators facts known it [] comes = tt
to_declarators facts known it (d ∷ ds) comes = (
  first (init_declarator it d known) comes (λ locals k. next (of_part (of_init_declarators it ds k)) (λ rest k. none k)),
  λ locals k is. first (init_declarators it ds k) (behind _ comes (of_init_declarator it d known) locals k is) (λ rest k. none k),
)

to_declared : (facts : List Fact) (known : Known) (it : Specified) (d : c.InitDeclarator) → ComesTo facts known (init_declarator it d known) → ComesToDeclared facts known it d
to_declared facts known it d comes = λ declared k is. behind _ comes (of_declarator d.declarator it false (declaration_faults it.storage (is_some d.initialiser)) known) declared k is

-- the object's start is set, and nothing is noted
set_start : (n : ℕ) (start : Option Start) (t : CType) (known : Known) {A : Type 0} {a : A} → Grows known.facts (Goes a (with_start_of n start t known (slice_get known.objects n)))
set_start n start t known = grew [] ((start_leaves n start t known (slice_get known.objects n)).1 ∙ sym (append-nil known.facts))

to_start : (facts : List Fact) (known : Known) (it : Specified) (declared : Declares) (i : c.Initialiser) → ComesTo facts known (declare_named it declared (Some i) known) → ComesToStart facts known it declared i
to_start facts known it declared i comes = λ name life is_register is_named is_object n k is.
    let named : ComesTo facts known (declare (kind_of known it.storage declared.type) declared.node name declared.type (Some i) known) =
    subst (λ found. ComesTo facts known (declare_if_named it declared (Some i) known found known)) is_named comes in
    let object : ComesTo facts known (declare (an_object_of life is_register) declared.node name declared.type (Some i) known) =
    subst (λ kind. ComesTo facts known (declare kind declared.node name declared.type (Some i) known)) is_object named in
    first (object_initialiser (is_static life) (type_of_object k n) length_faults i k)
    (behind _ object (of_declare_object life is_register declared.node name declared.type known) n k is)
    (λ it k. set_start n (if is_static life then Some it.start else None) it.type k)

pub declarations_are_come_to : DeclarationsAreComeTo
declarations_are_come_to = (in_declaration, to_declarators, to_declared, to_start)

-- ---- statements

to_test : (facts : List Fact) (known : Known) (it : Option c.Expression) → ComesTo facts known (optional_test it known) → ComesToTest facts known it
to_test facts known None comes = tt
to_test facts known (Some it) comes = first (expression it as_truth known) comes (λ x k. none k)

to_optional : (facts : List Fact) (known : Known) (it : Option c.Expression) → ComesTo facts known (optional_expression it known) → ComesToOptional facts known it
to_optional facts known None comes = tt
to_optional facts known (Some it) comes = first (expression it as_value known) comes (λ x k. none k)

in_start : (facts : List Fact) (known : Known) (it : c.ForStart) → ComesTo facts known (for_start it known) → ComesInStart facts known it
in_start facts known c.Nothing comes = tt
in_start facts known (c.First it) comes = first (expression it as_value known) comes (λ x k. none k)
in_start facts known (c.Declares d) comes = first _ comes (λ it k. none k)

-- a statement in a block of its own
block : (it : c.Statement) (around : Around) (known : Known) → Whole known (in_block (statement it around) known)
block it around known = scoped known (of_statement it around (in_new_block known))

-- a test, what it chooses, and what goes on behind it
to_body : {B : Type 0} {facts : List Fact} (start : Known) (around : Around) (test : c.Expression) (body : c.Statement) (rest : Typed → Statement → Known → Outcome B)
    → ((x : Typed) (s : Statement) (k : Known) → Grows k.facts (rest x s k))
    → ComesTo facts start (goes_on (expression test as_truth start) (λ x k. goes_on (in_block (statement body around) k) (rest x))) → ComesToBody facts start around test body
to_body start around test body rest grows comes = (
  first (expression test as_truth start) comes (λ x k. next (of_part (block body around k)) (grows x)),
  λ x k is. in_scope k (statement body around (in_new_block k))
      (first (in_block (statement body around) k) (behind (λ x k. goes_on (in_block (statement body around) k) (rest x)) comes (whole start (of_expression test as_truth start)) x k is) (grows x)),
)

to_for : {B : Type 0} {facts : List Fact} (start : Known) (around : Around) (begin : c.ForStart) (test step : Option c.Expression) (body : c.Statement) (rest : TypedStart → Option Typed → Option Typed → Statement → Known → Outcome B)
    → ((b : TypedStart) (x y : Option Typed) (s : Statement) (k : Known) → Grows k.facts (rest b x y s k))
    → ComesTo facts start (goes_on (for_start begin start) (λ b k. goes_on (optional_test test k) (λ x k. goes_on (optional_expression step k) (λ y k. goes_on (in_block (statement body around) k) (rest b x y)))))
    → ComesInFor facts start around begin test step body
to_for {B} {facts} start around begin test step body rest grows comes = (
  first (for_start begin start) comes (λ b k. tested b k),
  λ b k is. (
    first (optional_test test k) (at_test b k is) (λ x k. stepped b x k),
    λ x j there. (
      first (optional_expression step j) (at_step b k is x j there) (λ y k. chosen b x y k),
      λ y i here. in_scope i (statement body around (in_new_block i)) (first (in_block (statement body around) i) (behind _ (at_step b k is x j there) (of_optional step j) y i here) (grows b x y)),
    ),
  ),
)
  where
    chosen : (b : TypedStart) (x y : Option Typed) (k : Known) → Grows k.facts (goes_on (in_block (statement body around) k) (rest b x y))
    chosen b x y k = next (of_part (block body around k)) (grows b x y)

    stepped : (b : TypedStart) (x : Option Typed) (k : Known) → Grows k.facts (goes_on (optional_expression step k) (λ y k. goes_on (in_block (statement body around) k) (rest b x y)))
    stepped b x k = next (of_part (of_optional step k)) (chosen b x)

    tested : (b : TypedStart) (k : Known) → Grows k.facts (goes_on (optional_test test k) (λ x k. goes_on (optional_expression step k) (λ y k. goes_on (in_block (statement body around) k) (rest b x y))))
    tested b k = next (of_part (of_optional_test test k)) (stepped b)

    at_test : (b : TypedStart) (k : Known) → for_start begin start ≡ Goes b k
        → ComesTo facts k (goes_on (optional_test test k) (λ x k. goes_on (optional_expression step k) (λ y k. goes_on (in_block (statement body around) k) (rest b x y))))
    at_test b k is = behind _ comes (of_start begin start) b k is

    at_step : (b : TypedStart) (k : Known) → for_start begin start ≡ Goes b k → (x : Option Typed) (j : Known) → optional_test test k ≡ Goes x j
        → ComesTo facts j (goes_on (optional_expression step j) (λ y k. goes_on (in_block (statement body around) k) (rest b x y)))
    at_step b k is x j there = behind _ (at_test b k is) (of_optional_test test k) x j there

in_statement : (facts : List Fact) (known : Known) (around : Around) (it : c.Statement) → ComesTo facts known (statement it around known) → ComesInStatement facts known around it
in_statement facts known around (c.Compound list) comes = in_scope (entered known) (items list around (in_new_block (entered known))) (first _ (inside comes) (λ found k. none k))
in_statement facts known around (c.Evaluates it) comes = first (expression it as_value (entered known)) (inside comes) (λ x k. none k)
in_statement facts known around c.Null comes = tt
in_statement facts known around c.Break comes = tt
in_statement facts known around c.Continue comes = tt
in_statement facts known around (c.Return it) comes = first (optional_expression it (entered known)) (inside comes) (λ x k. next (settled _ _ k) (λ u k. none k))
in_statement facts known around (c.If test body) comes =
    to_body (in_new_block (entered known)) around test body _ (λ x s k. next (settled known.next (test_faults x) k) (λ u k. none k)) (in_scope (entered known) _ (inside comes))
in_statement facts known around (c.While test body) comes =
    to_body (in_new_block (entered known)) (in_a_loop around) test body _ (λ x s k. next (settled known.next (test_faults x) k) (λ u k. none k)) (in_scope (entered known) _ (inside comes))
in_statement facts known around (c.IfElse test body other) comes =
    let start : Known = in_new_block (entered known) in
    let there = in_scope (entered known) _ (inside comes) in (
      to_body start around test body _ (λ x s k. next (of_part (block other around k)) (λ second k. next (settled known.next (test_faults x) k) (λ u k. none k))) there,
      λ x k is s j at. in_scope j (statement other around (in_new_block j))
          (first (in_block (statement other around) j) (behind _ (behind _ there (whole start (of_expression test as_truth start)) x k is) (block body around k) s j at)
          (λ second k. next (settled known.next (test_faults x) k) (λ u k. none k))),
    )
in_statement facts known around (c.Do body test) comes =
    let start : Known = in_new_block (entered known) in
    let there = in_scope (entered known) _ (inside comes) in (
      in_scope start (statement body (in_a_loop around) (in_new_block start))
          (first (in_block (statement body (in_a_loop around)) start) there (λ s k. next (of_it k (of_expression test as_truth k)) (λ x k. next (settled known.next (test_faults x) k) (λ u k. none k)))),
      λ s k is. first (expression test as_truth k) (behind _ there (block body (in_a_loop around) start) s k is) (λ x k. next (settled known.next (test_faults x) k) (λ u k. none k)),
    )
in_statement facts known around (c.For begin test step body) comes =
    to_for (in_new_block (entered known)) (in_a_loop around) begin test step body _ (λ b x y s k. next (settled known.next (b.faults ++ optional_test_faults x) k) (λ u k. none k))
    (in_scope (entered known) _ (inside comes))
in_statement facts known around (c.Switch operand list) comes =
    let start : Known = in_new_block (entered known) in
    let there = in_scope (entered known) _ (inside comes) in
    let seen : Seen = record { values = []; has_default = false } in (
      first (expression operand as_truth start) there
          (λ x k. next (of_part (of_cases list (switch_type k.model x) seen (in_a_switch around) k)) (λ found k. next (settled known.next (test_faults x ++ unless (is_integer (own_type x)) bad_case) k) (λ u k. none k))),
      λ x k is. first (cases list (switch_type k.model x) seen (in_a_switch around) k) (behind _ there (whole start (of_expression operand as_truth start)) x k is)
          (λ found k. next (settled known.next (test_faults x ++ unless (is_integer (own_type x)) bad_case) k) (λ u k. none k)),
    )

to_items : (facts : List Fact) (known : Known) (around : Around) (them : c.Items) → ComesTo facts known (items them around known) → ComesToItems facts known around them
to_items facts known around c.no_items comes = tt
to_items facts known around (c.a_declaration it rest) comes = (
  first (declaration it (entered known)) (inside comes) (λ found k. next (settled known.next found.faults k) (λ u k. next (of_part (of_items rest around k)) (λ others k. none k))),
  λ found k is. first (items rest around k) (judged known.next found.faults (λ k. goes_on (items rest around k) _) (behind _ (inside comes) (of_declaration it (entered known)) found k is)) (λ others k. none k),
)
to_items facts known around (c.a_statement it rest) comes = (
  first (statement it around (entered known)) (inside comes) (λ s k. next (of_part (of_items rest around k)) (λ others k. none k)),
  λ s k is. first (items rest around k) (behind _ (inside comes) (of_statement it around (entered known)) s k is) (λ others k. none k),
)
to_items facts known around (c.a_label it rest) comes =
    λ m k is. first (items rest around k) (behind _ (inside comes) (of_mark it (entered known)) m k is) (λ others k. none k)

to_cases : (facts : List Fact) (known : Known) (s : Option Scalar) (seen : Seen) (around : Around) (them : c.Cases) → ComesTo facts known (cases them s seen around known) → ComesToCases facts known s seen around them
to_cases facts known s seen around c.no_cases comes = tt
to_cases facts known s seen around (c.a_case list it rest) comes = λ found k is.
    let there = behind _ comes (of_labels list s seen known) found k is in (
      in_scope k (statement it around (in_new_block k)) (first (in_block (statement it around) k) there (λ body k. next (of_part (of_cases rest s found.seen around k)) (λ others k. none k))),
      λ body j at. first (cases rest s found.seen around j) (behind _ there (block it around k) body j at) (λ others k. none k),
    )

pub statements_are_come_to : StatementsAreComeTo
statements_are_come_to = (in_statement, to_items, to_cases, in_start, to_test, to_optional)

-- ---- units

-- from the declaration of a function to its body
in_function : (facts : List Fact) (name : List ℕ) (declared : Declares) (body : c.Items) (frame : Frame) (known : Known) (rest : Items × Frame → Known → Outcome (Unit {0}))
    → ((r : Items × Frame) (k : Known) → Grows k.facts (rest r k))
    → ComesTo facts known (goes_on (left (bind_name name a_function (with_declared name declared.type known)).frames (items body (around_body declared.type) (with_body name declared.type frame known))) rest)
    → ComesTo facts (with_body name declared.type frame known) (items body (around_body declared.type) (with_body name declared.type frame known))
in_function facts name declared body frame known rest grows comes =
    let inner : Known = with_body name declared.type frame known in
    let same = function_leaves name declared.type known in
    in_frames (bind_name name a_function (with_declared name declared.type known)).frames known inner (items body (around_body declared.type) inner)
    (begun_as known inner same.0 same.1 comes.begun) (first _ comes grows)

in_external : (facts : List Fact) (known : Known) (it : c.External) → ComesTo facts known (external it known) → ComesInExternal facts known it
in_external facts known (c.Defines s d body) comes =
    λ it k is declared j there.
    in_function facts (unwrap_or declared.name []) declared body (frame_of declared.parameters) j _ (λ r k. none _)
    (behind _ (behind _ (inside comes) (of_specifiers s elsewhere (entered known)) it k is) (of_declarator d it true (definition_faults it.storage) k) declared j there)
in_external facts known (c.Declared d) comes = first (declaration d (entered known)) (inside comes) (λ found k. settled known.next found.faults k)

to_externals : (facts : List Fact) (known : Known) (them : List c.External) → ComesTo facts known (externals them known) → ComesToExternals facts known them
to_externals facts known [] comes = tt
to_externals facts known (x ∷ xs) comes = (
  first (external x known) comes (λ u k. of_part (of_externals xs k)),
  λ u k is. behind (λ u. externals xs) comes (of_external x known) u k is,
)

pub externals_are_come_to : ExternalsAreComeTo
externals_are_come_to = (to_externals, in_external)

-- the facts of the program that typing answers
abbrev facts_of : Typing → List Fact
facts_of (typed program) = program.facts
facts_of (broken rule node) = []

to_program : (unit : c.Unit) (program : Program) (start : Known) (o : Outcome (Unit {0})) → NotesBegunNodes start → answer unit o ≡ typed program → ComesTo program.facts start o
to_program unit program start (Goes u k) begun is =
    record { begun = begun; found = u; behind = k; later = []; goes = refl; are = sym (ap facts_of is) ∙ sym (append-nil k.facts) }
to_program unit program start (Breaks rule node) begun is = absurd cc

pub units_are_come_to : UnitsAreComeTo
unfolding typing_to
units_are_come_to greatest model unit program is =
    let start : Known = starting greatest model (filter_map defined_in unit) in to_program unit program start (externals unit start) tt is
