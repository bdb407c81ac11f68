-- Typing of statements and units makes no array of functions, and the program of a unit notes none.
use Rattle.std.proofs.Common.{◌≡◌, subst, true, false, List, [], ◌∷◌, ◌++◌, Option, Some, None, ℕ}
use Rattle.std.specs.Prelude.{filter_map, unwrap_or, ◌||◌}
use Rattle.std.specs.List.{AllByRecursion}
use Rattle.lt_model.specs.declared.scalar.DataModel.{DataModel}
use Rattle.lt_model.specs.declared.scalar.Scalar.{Scalar}
use Rattle.lt_tree.specs.Tree as c
use Rattle.lt_tree.specs.Typing.Types.{is_integer}
use Rattle.lt_tree.specs.Typing.Rules.{broken_if, unless, bad_case, stray_jump}
use Rattle.lt_tree.specs.Typing.Entities.{Known, Fact, a_function, starting, bind_name}
use Rattle.lt_tree.specs.Typing.Steps.{Outcome}
use Rattle.lt_tree.specs.Typing.Expressions.{as_value, as_truth, own_type}
use Rattle.lt_tree.specs.Typing.Specifying.{elsewhere}
use Rattle.lt_tree.specs.Typing.Declarators.{Parameters}
use Rattle.lt_tree.specs.Typing.Declaring.{definition_faults, with_declared}
use Rattle.lt_tree.specs.Typing.DeclarationTyping.{declaration, effective_in_for}
use Rattle.lt_tree.specs.Typing.StatementTyping.{Around, in_a_loop, in_a_switch, test_faults, optional_test_faults, optional_expression, optional_test, for_start, switch_type, Seen, is_new_case, with_case, case_value, labels, return_faults, statement, items, cases}
use Rattle.lt_tree.specs.Typing.Programs.{Program, typed, program_of}
use Rattle.lt_tree.specs.Typing.UnitTyping.{around_body, frame_of, external, externals, defined_in, answer, typing_to, IsProgramTo}
use Rattle.lt_made_types.specs.Laws.{is_array_of_functions, NoFactIsAnArrayOfFunctions}
use Rattle.lt_made_types.proofs.MadeTypes.{no_array_of_functions}
use Rattle.lt_made_types.proofs.Keeping.{WhenThere, FrameMade, FactMade, Sound, Good, went, broke, Any, bind, judged, unmarked, blocked, with_frames, in_new_frame, unmarked_here, entered, new_frame, scoped}
use Rattle.lt_made_types.proofs.Growth.{bound, declared_made}
use Rattle.lt_made_types.proofs.Specified.{ParametersMade}
use Rattle.lt_made_types.proofs.MadeExpressions.{of_expression, of_mark, of_specifiers, of_declarator}
use Rattle.lt_made_types.proofs.MadeDeclarations.{of_declaration_by}

-- ---- parts of statements

of_declaration : (d : c.Declaration) (known : Known) → Sound known → Good Any (declaration d known)
of_declaration d known s = of_declaration_by (λ class. class) d known s

of_optional : (it : Option c.Expression) (known : Known) → Sound known → Good Any (optional_expression it known)
of_optional None known s = went s tt
of_optional (Some it) known s = bind (of_expression it as_value known s) (λ x k s h. went s tt)

of_optional_test : (it : Option c.Expression) (known : Known) → Sound known → Good Any (optional_test it known)
of_optional_test None known s = went s tt
of_optional_test (Some it) known s = bind (of_expression it as_truth known s) (λ x k s h. went s tt)

of_start : (start : c.ForStart) (known : Known) → Sound known → Good Any (for_start start known)
of_start c.Nothing known s = went s tt
of_start (c.First it) known s = bind (of_expression it as_value known s) (λ x k s h. went s tt)
of_start (c.Declares d) known s = bind (of_declaration_by effective_in_for d known s) (λ it k s h. went s tt)

of_labels : (them : List c.Label) (scalar : Option Scalar) (seen : Seen) (known : Known) → Sound known → Good Any (labels them scalar seen known)
of_labels [] scalar seen known s = went s tt
of_labels (c.Case it ∷ rest) scalar seen known s =
    bind (unmarked known.is_unmarked (of_expression it as_value (unmarked_here (entered known)) s)) (λ x k s h. bind {Was = Any}
    (bind (judged known.next (unless (is_new_case seen (case_value k.model scalar x)) bad_case) k s) (λ u k s h. went s tt))
    (λ z k s h. bind (of_labels rest scalar (with_case seen z) k s) (λ others k s h. went s tt)))
of_labels (c.Default ∷ rest) scalar seen known s =
    bind (judged known.next (broken_if bad_case seen.has_default) (entered known) s)
    (λ u k s h. bind (of_labels rest scalar (record seen { has_default = true }) k s) (λ others k s h. went s tt))

-- ---- statements

mutual
  of_statement : (it : c.Statement) (around : Around) (known : Known) → Sound known → Good Any (statement it around known)
  of_statement (c.Compound list) around known s =
      let start = entered known in bind (scoped start s (of_items list around (in_new_frame start) (new_frame start s))) (λ found k s h. went s tt)
  of_statement (c.Evaluates it) around known s = bind (of_expression it as_value (entered known) s) (λ x k s h. went s tt)
  of_statement c.Null around known s = went s tt
  of_statement (c.If test body) around known s =
      let start = in_new_frame (entered known) in
      scoped (entered known) s (bind (of_expression test as_truth start (new_frame known s)) (λ x k s h. bind (scoped k s (of_statement body around (in_new_frame k) (new_frame k s)))
      (λ first k s h. bind (judged known.next (test_faults x) k s) (λ u k s h. went s tt))))
  of_statement (c.IfElse test body other) around known s =
      let start = in_new_frame (entered known) in
      scoped (entered known) s (bind (of_expression test as_truth start (new_frame known s)) (λ x k s h. bind (scoped k s (of_statement body around (in_new_frame k) (new_frame k s)))
      (λ first k s h. bind (scoped k s (of_statement other around (in_new_frame k) (new_frame k s))) (λ second k s h. bind (judged known.next (test_faults x) k s) (λ u k s h. went s tt)))))
  of_statement (c.While test body) around known s =
      let start = in_new_frame (entered known) in
      scoped (entered known) s (bind (of_expression test as_truth start (new_frame known s))
      (λ x k s h. bind (scoped k s (of_statement body (in_a_loop around) (in_new_frame k) (new_frame k s)))
      (λ first k s h. bind (judged known.next (test_faults x) k s) (λ u k s h. went s tt))))
  of_statement (c.Do body test) around known s =
      let start = in_new_frame (entered known) in
      scoped (entered known) s (bind (scoped start (new_frame known s) (of_statement body (in_a_loop around) (in_new_frame start) (new_frame start (new_frame known s))))
      (λ first k s h. bind (of_expression test as_truth k s)
      (λ x k s h. bind (judged known.next (test_faults x) k s) (λ u k s h. went s tt))))
  of_statement (c.For begin test step body) around known s =
      let start = in_new_frame (entered known) in
      scoped (entered known) s (bind (of_start begin start (new_frame known s)) (λ b k s h. bind (of_optional_test test k s) (λ x k s h. bind (of_optional step k s)
      (λ y k s h. bind (scoped k s (of_statement body (in_a_loop around) (in_new_frame k) (new_frame k s)))
      (λ first k s h. bind (judged known.next (b.faults ++ optional_test_faults x) k s) (λ u k s h. went s tt))))))
  of_statement (c.Switch operand list) around known s =
      let start = in_new_frame (entered known) in
      scoped (entered known) s (bind (of_expression operand as_truth start (new_frame known s))
      (λ x k s h. bind (of_cases list (switch_type k.model x) (record { values = []; has_default = false }) (in_a_switch around) k s)
      (λ found k s h. bind (judged known.next (test_faults x ++ unless (is_integer (own_type x)) bad_case) k s) (λ u k s h. went s tt))))
  of_statement c.Break around known s = bind (judged known.next (unless (around.in_loop || around.in_switch) stray_jump) (entered known) s) (λ u k s h. went s tt)
  of_statement c.Continue around known s = bind (judged known.next (unless around.in_loop stray_jump) (entered known) s) (λ u k s h. went s tt)
  of_statement (c.Return it) around known s = bind (of_optional it (entered known) s) (λ x k s h. bind (judged known.next (return_faults around.result x) k s) (λ u k s h. went s tt))

  of_items : (them : c.Items) (around : Around) (known : Known) → Sound known → Good Any (items them around known)
  of_items c.no_items around known s = went s tt
  of_items (c.a_declaration first rest) around known s =
      bind (of_declaration first (entered known) s) (λ it k s h. bind (judged known.next it.faults k s) (λ u k s h. bind (of_items rest around k s) (λ others k s h. went s tt)))
  of_items (c.a_statement first rest) around known s = bind (of_statement first around (entered known) s) (λ it k s h. bind (of_items rest around k s) (λ others k s h. went s tt))
  of_items (c.a_label first rest) around known s = bind (of_mark first (entered known) s) (λ m k s h. bind (of_items rest around k s) (λ others k s h. went s tt))

  of_cases : (them : c.Cases) (scalar : Option Scalar) (seen : Seen) (around : Around) (known : Known) → Sound known → Good Any (cases them scalar seen around known)
  of_cases c.no_cases scalar seen around known s = went s tt
  of_cases (c.a_case list first rest) scalar seen around known s =
      bind (of_labels list scalar seen known s) (λ it k s h. bind (scoped k s (of_statement first around (in_new_frame k) (new_frame k s)))
      (λ body k s h. bind (of_cases rest scalar it.seen around k s) (λ others k s h. went s tt)))

-- ---- units

frame_made : (them : Option Parameters) → WhenThere ParametersMade them → FrameMade (frame_of them)
frame_made None h = tt
frame_made (Some them) h = h

of_external : (it : c.External) (known : Known) → Sound known → Good Any (external it known)
of_external (c.Defines sp d body) known s =
    bind (of_specifiers sp elsewhere (entered known) s) (λ it k s it_made. bind (of_declarator d it true (definition_faults it.storage) k s it_made) (λ declared k s d_made.
    let name : List ℕ = unwrap_or declared.name [] in
    let start = bind_name name a_function (with_declared name declared.type k) in
    let start_sound : Sound start = bound name a_function (with_declared name declared.type k) tt (declared_made name declared.type k d_made.type s) in
    let frame = frame_of declared.parameters in
    let inside = record start { frames = frame ∷ start.frames } in
    bind (blocked start.frames start_sound.frames
    (of_items body (around_body declared.type) inside (with_frames start (frame ∷ start.frames) (frame_made declared.parameters d_made.parameters, start_sound.frames) start_sound)))
    (λ found k s h. went s tt)))
of_external (c.Declared d) known s = bind (of_declaration d (entered known) s) (λ it k s h. judged known.next it.faults k s)

of_externals : (them : List c.External) (known : Known) → Sound known → Good Any (externals them known)
of_externals [] known s = went s tt
of_externals (x ∷ xs) known s = bind (of_external x known s) (λ u k s h. of_externals xs k s)

-- ---- programs

nothing_known : (greatest : ℕ) (model : DataModel) (defined : List (List ℕ)) → Sound (starting greatest model defined)
nothing_known greatest model defined = record { frames = (tt, tt); structs = tt; objects = tt; declared = tt; facts = tt }

answered : (unit : c.Unit) (o : Outcome (Unit {0})) (program : Program) → Good Any o → answer unit o ≡ typed program → AllByRecursion FactMade program.facts
answered unit o program (went {a} {known} s h) is =
    let it : program_of unit known ≡ program = cc in subst (λ (p : Program). AllByRecursion FactMade p.facts) it s.facts
answered unit o program broke is = absurd cc

-- what the program of a unit notes of its expressions
pub facts_made : (greatest : ℕ) (model : DataModel) (unit : c.Unit) (program : Program) → IsProgramTo greatest model unit program → AllByRecursion FactMade program.facts
unfolding typing_to
facts_made greatest model unit program is =
    answered unit (externals unit (starting greatest model (filter_map defined_in unit))) program (of_externals unit (starting greatest model (filter_map defined_in unit)) (nothing_known greatest model (filter_map defined_in unit))) is

no_arrays : (facts : List Fact) → AllByRecursion FactMade facts → AllByRecursion (λ (fact : Fact). is_array_of_functions fact.type ≡ false) facts
no_arrays [] h = tt
no_arrays (fact ∷ facts) h = (no_array_of_functions fact.type h.0.0.so, no_arrays facts h.1)

pub no_fact_is_an_array_of_functions : NoFactIsAnArrayOfFunctions
no_fact_is_an_array_of_functions greatest model unit program is = no_arrays program.facts (facts_made greatest model unit program is)
