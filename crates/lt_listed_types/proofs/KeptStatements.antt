-- Typing of statements keeps the types of what is known, and statements get at memory by types that are named.
use Rattle.std.proofs.Common.{true, false, List, [], ◌∷◌, ◌++◌, Option, Some, None}
use Rattle.std.specs.Prelude.{◌||◌, if◌then◌else◌}
use Rattle.lt_model.specs.declared.scalar.DataModel.{DataModel}
use Rattle.lt_model.specs.declared.scalar.Scalar.{Scalar}
use Rattle.lt_model.specs.Conversions.{promoted}
use Rattle.lt_tree.specs.Tree as c
use Rattle.lt_tree.specs.Typing.Types.{CType, Num, unqualified, is_integer}
use Rattle.lt_tree.specs.Typing.Rules.{broken_if, unless, bad_case, stray_jump}
use Rattle.lt_tree.specs.Typing.TypedTree as e
use Rattle.lt_tree.specs.Typing.TypedTree.{Local}
use Rattle.lt_tree.specs.Typing.Entities.{Known}
use Rattle.lt_tree.specs.Typing.Expressions.{Typed, as_value, as_truth, own_type, value_in, scalar_in}
use Rattle.lt_tree.specs.Typing.Operations.{promoted_value}
use Rattle.lt_tree.specs.Typing.DeclarationTyping.{DeclaredLocals, declaration, effective_in_for}
use Rattle.lt_tree.specs.Typing.StatementTyping.{Around, in_a_loop, in_a_switch, test_faults, optional_test_faults, optional_expression, optional_test, optional_value, TypedStart, for_start, switch_type, switch_value, Seen, is_new_case, with_case, case_value, labels, return_faults, returned, locals_before, statement, items, cases}
use Rattle.lt_type_laws.specs.Accesses.{is_named_in, Accesses, AccessesLocals, AccessesOptional, AccessesForStart, AccessesStatement, AccessesItems, AccessesCases}
use Rattle.lt_listed_types.proofs.Keeping.{lists_of, Once, Any, Good, Kept, went, same, bind, judges, unmarked, scoped, in_new_frame, unmarked_here, entered}
use Rattle.lt_listed_types.proofs.Reaching.{Reaches, converted_accesses}
use Rattle.lt_listed_types.proofs.KeptExpressions.{of_expression, of_mark}
use Rattle.lt_listed_types.proofs.KeptDeclarations.{of_declaration_by}

-- ---- values in statements

abbrev OptionReaches : List CType → Option Typed → Type 0
OptionReaches types x = AccessesOptional (is_named_in types) (optional_value x)

switch_accesses : {types : List CType} (m : DataModel) (x : Typed) → Reaches types as_truth x → Accesses (is_named_in types) (switch_value m x)
switch_accesses {types} m x h =
    elim (is_integer (own_type x)) as (λ b. Accesses (is_named_in types) (if b then promoted_value m x else value_in x))
    [ true ↦ converted_accesses (is_named_in types) (Num (promoted m (scalar_in x))) (value_in x) h.value | false ↦ h.value ]

returned_accesses : (types : List CType) (result : CType) (x : Option Typed) → OptionReaches types x → AccessesOptional (is_named_in types) (returned result x)
returned_accesses types result None h = tt
returned_accesses types result (Some x) h = converted_accesses (is_named_in types) (unqualified result) (value_in x) h

before_items : (types : List CType) (locals : List Local) (items : e.Items) → AccessesLocals (is_named_in types) locals → AccessesItems (is_named_in types) items → AccessesItems (is_named_in types) (locals_before locals items)
before_items types [] items h i = i
before_items types (local ∷ locals) items h i = (h.0, before_items types locals items h.1 i)

module _ {types : List CType} where
  -- ---- parts of statements

  pub of_declaration : (d : c.Declaration) (known : Known) → Good types (Once types (λ (it : DeclaredLocals). AccessesLocals (is_named_in types) it.locals)) (lists_of known) (declaration d known)
  of_declaration d known = of_declaration_by (λ class. class) d known

  of_optional : (it : Option c.Expression) (known : Known) → Good types (Once types (OptionReaches types)) (lists_of known) (optional_expression it known)
  of_optional None known = went same (λ named. tt)
  of_optional (Some it) known = bind (of_expression it as_value known) (λ x k kept h. went same (λ named. (h named).value))

  of_optional_test : (it : Option c.Expression) (known : Known) → Good types (Once types (OptionReaches types)) (lists_of known) (optional_test it known)
  of_optional_test None known = went same (λ named. tt)
  of_optional_test (Some it) known = bind (of_expression it as_truth known) (λ x k kept h. went same (λ named. (h named).value))

  of_start : (start : c.ForStart) (known : Known) → Good types (Once types (λ (it : TypedStart). AccessesForStart (is_named_in types) it.start)) (lists_of known) (for_start start known)
  of_start c.Nothing known = went same (λ named. tt)
  of_start (c.First it) known = bind (of_expression it as_value known) (λ x k kept h. went same (λ named. (h named).value))
  of_start (c.Declares d) known = bind (of_declaration_by effective_in_for d known) (λ it k kept h. went same h)

  of_labels : (them : List c.Label) (scalar : Option Scalar) (seen : Seen) (known : Known) → Kept types known (labels them scalar seen known)
  of_labels [] scalar seen known = went same tt
  of_labels (c.Case it ∷ rest) scalar seen known =
      bind (unmarked known.is_unmarked (of_expression it as_value (unmarked_here (entered known)))) (λ x k kept h. bind {Was = Any}
      (judges known.next (unless (is_new_case seen (case_value k.model scalar x)) bad_case) k _ (went same tt))
      (λ z k kept i. bind (of_labels rest scalar (with_case seen z) k) (λ others k kept j. went same tt)))
  of_labels (c.Default ∷ rest) scalar seen known =
      judges known.next (broken_if bad_case seen.has_default) (entered known) _
      (bind (of_labels rest scalar (record seen { has_default = true }) (entered known)) (λ others k kept h. went same tt))

  -- ---- statements

  mutual
    of_statement : (it : c.Statement) (around : Around) (known : Known) → Good types (Once types (AccessesStatement (is_named_in types))) (lists_of known) (statement it around known)
    of_statement (c.Compound list) around known = bind (scoped known.frames (of_items list around (in_new_frame (entered known)))) (λ found k kept h. went same h)
    of_statement (c.Evaluates it) around known = bind (of_expression it as_value (entered known)) (λ x k kept h. went same (λ named. (h named).value))
    of_statement c.Null around known = went same (λ named. tt)
    of_statement (c.If test body) around known =
        scoped known.frames (bind (of_expression test as_truth (in_new_frame (entered known)))
        (λ x k kept h. bind (scoped k.frames (of_statement body around (in_new_frame k)))
        (λ first k kept i. judges known.next (test_faults x) k _ (went same (λ named. ((h (kept.names named)).value, i named))))))
    of_statement (c.IfElse test body other) around known =
        scoped known.frames (bind (of_expression test as_truth (in_new_frame (entered known)))
        (λ x k kept h. bind (scoped k.frames (of_statement body around (in_new_frame k)))
        (λ first k through i. bind (scoped k.frames (of_statement other around (in_new_frame k)))
        (λ second k kept j. judges known.next (test_faults x) k _ (went same (λ named. ((h (through.names (kept.names named))).value, i (kept.names named), j named)))))))
    of_statement (c.While test body) around known =
        scoped known.frames (bind (of_expression test as_truth (in_new_frame (entered known)))
        (λ x k kept h. bind (scoped k.frames (of_statement body (in_a_loop around) (in_new_frame k)))
        (λ first k kept i. judges known.next (test_faults x) k _ (went same (λ named. ((h (kept.names named)).value, i named))))))
    of_statement (c.Do body test) around known =
        scoped known.frames (bind (scoped (in_new_frame (entered known)).frames (of_statement body (in_a_loop around) (in_new_frame (in_new_frame (entered known)))))
        (λ first k kept h. bind (of_expression test as_truth k)
        (λ x k kept i. judges known.next (test_faults x) k _ (went same (λ named. (h (kept.names named), (i named).value))))))
    of_statement (c.For begin test step body) around known =
        scoped known.frames (bind (of_start begin (in_new_frame (entered known))) (λ b k kept g. bind (of_optional_test test k)
        (λ x k tested h. bind (of_optional step k)
        (λ y k stepped i. bind (scoped k.frames (of_statement body (in_a_loop around) (in_new_frame k)))
        (λ first k kept j. judges known.next (b.faults ++ optional_test_faults x) k _
        (went same (λ named. let n = kept.names named in let m = stepped.names n in (g (tested.names m), h m, i n, j named))))))))
    of_statement (c.Switch operand list) around known =
        scoped known.frames (bind (of_expression operand as_truth (in_new_frame (entered known)))
        (λ x there kept h. bind (of_cases list (switch_type there.model x) (record { values = []; has_default = false }) (in_a_switch around) there)
        (λ found k kept i. judges known.next (test_faults x ++ unless (is_integer (own_type x)) bad_case) k _ (went same (λ named. (switch_accesses there.model x (h (kept.names named)), i named))))))
    of_statement c.Break around known = judges known.next (unless (around.in_loop || around.in_switch) stray_jump) (entered known) _ (went same (λ named. tt))
    of_statement c.Continue around known = judges known.next (unless around.in_loop stray_jump) (entered known) _ (went same (λ named. tt))
    of_statement (c.Return it) around known =
        bind (of_optional it (entered known)) (λ x k kept h. judges known.next (return_faults around.result x) k _ (went same (λ named. returned_accesses types around.result x (h named))))

    pub of_items : (them : c.Items) (around : Around) (known : Known) → Good types (Once types (AccessesItems (is_named_in types))) (lists_of known) (items them around known)
    of_items c.no_items around known = went same (λ named. tt)
    of_items (c.a_declaration first rest) around known =
        bind (of_declaration first (entered known)) (λ it k kept h. judges known.next it.faults k _ (bind (of_items rest around k)
        (λ others k kept i. went same (λ named. before_items types it.locals others (h (kept.names named)) (i named)))))
    of_items (c.a_statement first rest) around known =
        bind (of_statement first around (entered known)) (λ it k kept h. bind (of_items rest around k) (λ others k kept i. went same (λ named. (h (kept.names named), i named))))
    of_items (c.a_label first rest) around known = bind (of_mark first (entered known)) (λ m k kept h. bind (of_items rest around k) (λ others k kept i. went same (λ named. (h (kept.names named), i named))))

    of_cases : (them : c.Cases) (scalar : Option Scalar) (seen : Seen) (around : Around) (known : Known) → Good types (Once types (AccessesCases (is_named_in types))) (lists_of known) (cases them scalar seen around known)
    of_cases c.no_cases scalar seen around known = went same (λ named. tt)
    of_cases (c.a_case list first rest) scalar seen around known =
        bind (of_labels list scalar seen known) (λ it k kept h. bind (scoped k.frames (of_statement first around (in_new_frame k)))
        (λ body k kept i. bind (of_cases rest scalar it.seen around k) (λ others k kept j. went same (λ named. (i (kept.names named), j named)))))
