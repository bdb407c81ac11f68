-- Typing of statements and units keeps the objects that are known, and those of the program of a unit hold addresses of such that are there first.
use Rattle.std.proofs.Common.{◌≡◌, refl, ◌∙◌, subst, true, false, List, [], ◌∷◌, ◌++◌, Option, Some, None, ℕ}
use Rattle.std.specs.Prelude.{filter_map, unwrap_or, slice_get, ◌||◌}
use Rattle.std.specs.List.{AllByRecursion}
use Rattle.lt_model.specs.declared.scalar.Scalar.{Scalar}
use Rattle.lt_tree.specs.Tree as c
use Rattle.lt_tree.specs.Typing.Types.{CType, is_integer}
use Rattle.lt_tree.specs.Typing.Rules.{broken_if, unless, bad_case, stray_jump}
use Rattle.lt_tree.specs.Typing.Constants.{Constancy, address}
use Rattle.lt_tree.specs.Typing.TypedTree as e
use Rattle.lt_tree.specs.Typing.TypedTree.{StartPart}
use Rattle.lt_tree.specs.Typing.Entities.{Known, Object, a_function, is_static, starting, bind_name}
use Rattle.lt_tree.specs.Typing.Steps.{Outcome}
use Rattle.lt_tree.specs.Typing.Expressions.{as_value, as_truth, own_type}
use Rattle.lt_tree.specs.Typing.Operands.{holds}
use Rattle.lt_tree.specs.Typing.Specifying.{elsewhere}
use Rattle.lt_tree.specs.Typing.Declaring.{definition_faults, with_declared}
use Rattle.lt_tree.specs.Typing.DeclarationTyping.{declaration, effective_in_for}
use Rattle.lt_tree.specs.Typing.StatementTyping.{Around, in_a_loop, in_a_switch, test_faults, optional_test_faults, optional_expression, optional_test, for_start, switch_type, Seen, is_new_case, with_case, case_value, labels, return_faults, statement, items, cases}
use Rattle.lt_tree.specs.Typing.Programs.{Program, typed, program_of}
use Rattle.lt_tree.specs.Typing.UnitTyping.{around_body, frame_of, external, externals, defined_in, answer, typing_to}
use Rattle.lt_meaning.specs.Statements.{parts_in}
use Rattle.lt_object_laws.specs.Further.{IsThere}
use Rattle.lt_typed_addresses.specs.Laws.{AddressesOfUnitsAreThere}
use Rattle.lt_typed_addresses.proofs.Resting.{RestsOn, PartRests, AllRest}
use Rattle.lt_typed_addresses.proofs.Keeping.{same, Good, Any, Kept, went, broke, behind, bind, judges, judged, unmarked, blocked, scoped, in_new_frame, unmarked_here, entered}
use Rattle.lt_typed_addresses.proofs.Growth.{weaker}
use Rattle.lt_typed_addresses.proofs.KeptExpressions.{of_expression, of_mark, of_specifiers, of_declarator}
use Rattle.lt_typed_addresses.proofs.KeptDeclarations.{declared, of_declaration_by}

-- ---- parts of statements

of_declaration : (d : c.Declaration) (known : Known) → known.is_unmarked ≡ false → Kept known (declaration d known)
of_declaration d known clean = of_declaration_by (λ class. class) d known clean

of_optional : (it : Option c.Expression) (known : Known) → Kept known (optional_expression it known)
of_optional None known = went same tt
of_optional (Some it) known = bind (of_expression it as_value known) (λ x k kept h. went same tt)

of_optional_test : (it : Option c.Expression) (known : Known) → Kept known (optional_test it known)
of_optional_test None known = went same tt
of_optional_test (Some it) known = bind (of_expression it as_truth known) (λ x k kept h. went same tt)

of_start : (start : c.ForStart) (known : Known) → known.is_unmarked ≡ false → Kept known (for_start start known)
of_start c.Nothing known clean = went same tt
of_start (c.First it) known clean = bind (of_expression it as_value known) (λ x k kept h. went same tt)
of_start (c.Declares d) known clean = bind (of_declaration_by effective_in_for d known clean) (λ it k kept h. went same tt)

of_labels : (them : List c.Label) (scalar : Option Scalar) (seen : Seen) (known : Known) → Kept known (labels them scalar seen known)
of_labels [] scalar seen known = went same tt
of_labels (c.Case it ∷ rest) scalar seen known =
    bind (unmarked known.is_unmarked (of_expression it as_value (unmarked_here (entered known)))) (λ x k kept h. bind {Was = Any}
    (judges known.next (unless (is_new_case seen (case_value k.model scalar x)) bad_case) k _ (went same tt))
    (λ z k kept i. bind (of_labels rest scalar (with_case seen z) k) (λ others k kept j. went same tt)))
of_labels (c.Default ∷ rest) scalar seen known =
    judges known.next (broken_if bad_case seen.has_default) (entered known) _
    (bind (of_labels rest scalar (record seen { has_default = true }) (entered known)) (λ others k kept h. went same tt))

-- ---- statements

mutual
  of_statement : (it : c.Statement) (around : Around) (known : Known) → known.is_unmarked ≡ false → Kept known (statement it around known)
  of_statement (c.Compound list) around known clean =
      bind (scoped known.frames (of_items list around (in_new_frame (entered known)) clean)) (λ found k kept h. went same tt)
  of_statement (c.Evaluates it) around known clean = bind (of_expression it as_value (entered known)) (λ x k kept h. went same tt)
  of_statement c.Null around known clean = went same tt
  of_statement (c.If test body) around known clean =
      scoped known.frames (bind (of_expression test as_truth (in_new_frame (entered known)))
      (λ x k kept h. bind (scoped k.frames (of_statement body around (in_new_frame k) (kept.marks ∙ clean)))
      (λ first k kept i. judges known.next (test_faults x) k _ (went same tt))))
  of_statement (c.IfElse test body other) around known clean =
      scoped known.frames (bind (of_expression test as_truth (in_new_frame (entered known)))
      (λ x k kept h. let clean = kept.marks ∙ clean in bind (scoped k.frames (of_statement body around (in_new_frame k) clean))
      (λ first k kept i. bind (scoped k.frames (of_statement other around (in_new_frame k) (kept.marks ∙ clean)))
      (λ second k kept j. judges known.next (test_faults x) k _ (went same tt)))))
  of_statement (c.While test body) around known clean =
      scoped known.frames (bind (of_expression test as_truth (in_new_frame (entered known)))
      (λ x k kept h. bind (scoped k.frames (of_statement body (in_a_loop around) (in_new_frame k) (kept.marks ∙ clean)))
      (λ first k kept i. judges known.next (test_faults x) k _ (went same tt))))
  of_statement (c.Do body test) around known clean =
      scoped known.frames (bind (scoped (in_new_frame (entered known)).frames (of_statement body (in_a_loop around) (in_new_frame (in_new_frame (entered known))) clean))
      (λ first k kept h. bind (of_expression test as_truth k)
      (λ x k kept i. judges known.next (test_faults x) k _ (went same tt))))
  of_statement (c.For begin test step body) around known clean =
      scoped known.frames (bind (of_start begin (in_new_frame (entered known)) clean) (λ b k kept g. let clean = kept.marks ∙ clean in bind (of_optional_test test k)
      (λ x k kept h. let clean = kept.marks ∙ clean in bind (of_optional step k)
      (λ y k kept i. bind (scoped k.frames (of_statement body (in_a_loop around) (in_new_frame k) (kept.marks ∙ clean)))
      (λ first k kept j. judges known.next (b.faults ++ optional_test_faults x) k _ (went same tt))))))
  of_statement (c.Switch operand list) around known clean =
      scoped known.frames (bind (of_expression operand as_truth (in_new_frame (entered known)))
      (λ x k kept h. bind (of_cases list (switch_type k.model x) (record { values = []; has_default = false }) (in_a_switch around) k (kept.marks ∙ clean))
      (λ found k kept i. judges known.next (test_faults x ++ unless (is_integer (own_type x)) bad_case) k _ (went same tt))))
  of_statement c.Break around known clean = judges known.next (unless (around.in_loop || around.in_switch) stray_jump) (entered known) _ (went same tt)
  of_statement c.Continue around known clean = judges known.next (unless around.in_loop stray_jump) (entered known) _ (went same tt)
  of_statement (c.Return it) around known clean = bind (of_optional it (entered known)) (λ x k kept h. judges known.next (return_faults around.result x) k _ (went same tt))

  of_items : (them : c.Items) (around : Around) (known : Known) → known.is_unmarked ≡ false → Kept known (items them around known)
  of_items c.no_items around known clean = went same tt
  of_items (c.a_declaration first rest) around known clean =
      bind (of_declaration first (entered known) clean) (λ it k kept h. judges known.next it.faults k _ (bind (of_items rest around k (kept.marks ∙ clean)) (λ others k kept i. went same tt)))
  of_items (c.a_statement first rest) around known clean =
      bind (of_statement first around (entered known) clean) (λ it k kept h. bind (of_items rest around k (kept.marks ∙ clean)) (λ others k kept i. went same tt))
  of_items (c.a_label first rest) around known clean = bind (of_mark first (entered known)) (λ m k kept h. bind (of_items rest around k (kept.marks ∙ clean)) (λ others k kept i. went same tt))

  of_cases : (them : c.Cases) (scalar : Option Scalar) (seen : Seen) (around : Around) (known : Known) → known.is_unmarked ≡ false → Kept known (cases them scalar seen around known)
  of_cases c.no_cases scalar seen around known clean = went same tt
  of_cases (c.a_case list first rest) scalar seen around known clean =
      bind (of_labels list scalar seen known) (λ it k kept h. let clean = kept.marks ∙ clean in bind (scoped k.frames (of_statement first around (in_new_frame k) clean))
      (λ body k kept i. bind (of_cases rest scalar it.seen around k (kept.marks ∙ clean)) (λ others k kept j. went same tt)))

-- ---- units

of_external : (it : c.External) (known : Known) → known.is_unmarked ≡ false → Kept known (external it known)
of_external (c.Defines sp d body) known clean =
    bind (of_specifiers sp elsewhere (entered known)) (λ it k kept h. let clean = kept.marks ∙ clean in bind (of_declarator d it true (definition_faults it.storage) k)
    (λ it k kept i.
    let clean = kept.marks ∙ clean in
    let name : List ℕ = unwrap_or it.name [] in
    let start = bind_name name a_function (with_declared name it.type k) in
    let kept = declared name it.type k in
    behind kept (bind (blocked start.frames (of_items body (around_body it.type) (record start { frames = frame_of it.parameters ∷ start.frames }) (kept.marks ∙ clean))) (λ found k kept j. went same tt))))
of_external (c.Declared d) known clean = bind (of_declaration d (entered known) clean) (λ it k kept h. judged known.next it.faults k)

of_externals : (them : List c.External) (known : Known) → known.is_unmarked ≡ false → Kept known (externals them known)
of_externals [] known clean = went same tt
of_externals (x ∷ xs) known clean = bind (of_external x known clean) (λ u k kept h. of_externals xs k (kept.marks ∙ clean))

-- ---- programs

there_first : (found : Option Object) → holds (λ object. is_static object.life) found ≡ true → elim (found) [ None ↦ false | Some object ↦ is_static object.life ] ≡ true
there_first None h = h
there_first (Some object) h = h

constant_there : (unit : c.Unit) (known : Known) (offset : ℕ) (t : CType) (constant : Constancy) → RestsOn known.objects constant → IsThere (program_of unit known) (e.fixed offset t constant)
constant_there unit known offset t (address n at) h = there_first (slice_get known.objects n) h
constant_there unit known offset t _ h = tt

part_there : (unit : c.Unit) (known : Known) (part : StartPart) → PartRests known.objects part → IsThere (program_of unit known) part
part_there unit known (e.fixed offset t constant) h = constant_there unit known offset t constant h.so
part_there unit known (e.stored offset v) h = tt
part_there unit known (e.letters offset s bytes) h = tt

abbrev AllThere : Program → Type 0
AllThere program = AllByRecursion (λ (object : Object). AllByRecursion (IsThere program) (parts_in object.start)) program.objects

all_there : (unit : c.Unit) (known : Known) → AllRest known.objects → AllThere (program_of unit known)
all_there unit known h = weaker (λ object i. weaker (part_there unit known) (parts_in object.start) i) known.objects h

answered : (unit : c.Unit) (o : Outcome (Unit {0})) (program : Program) → Good Any false [] o → answer unit o ≡ typed program → AllThere program
answered unit o program (went {a} {known} kept h) is = let it : program_of unit known ≡ program = cc in subst AllThere it (all_there unit known (kept.starts tt))
answered unit o program broke is = absurd cc

pub addresses_are_there : AddressesOfUnitsAreThere
unfolding typing_to
addresses_are_there greatest model unit program is =
    let start = starting greatest model (filter_map defined_in unit) in answered unit (externals unit start) program (of_externals unit start refl) is
