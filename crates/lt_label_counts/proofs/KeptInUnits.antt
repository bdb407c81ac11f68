-- Typing of statements keeps the functions; the ids of a unit are in range, and its functions have no more parameters than its definitions name.
use Rattle.std.proofs.Common.{◌≡◌, ◌≤◌, ℕ, ◌+◌, true, false, List, [], ◌∷◌, ◌++◌, length, Option, Some, None, refl, sym, ap, subst, append_assoc, arith}
use Rattle.std.proofs.lemmas.List.{append-nil}
use Rattle.std.specs.Prelude.{filter_map, unwrap_or, ◌||◌}
use Rattle.std.specs.List.{flat_map}
use Rattle.lt_model.specs.declared.scalar.DataModel.{DataModel}
use Rattle.lt_model.specs.declared.scalar.Scalar.{Scalar}
use Rattle.lt_tree.specs.Tree as c
use Rattle.lt_tree.specs.Ids.{ids_in, ids_in_specifiers, ids_in_declarator, ids_in_some, ids_in_declaration, ids_in_start, ids_in_label, ids_in_statement, ids_in_items, ids_in_cases, ids_in_external, ids_of_unit}
use Rattle.lt_tree.specs.Typing.Types.{CType, is_integer}
use Rattle.lt_tree.specs.Typing.Rules.{Rule, broken_if, unless, bad_case, stray_jump}
use Rattle.lt_tree.specs.Typing.Entities.{Known, Function, Frame, a_function, greatest_written_id, at_start, bind_name}
use Rattle.lt_tree.specs.Typing.Steps.{Outcome, Goes, Breaks, goes_on}
use Rattle.lt_tree.specs.Typing.Expressions.{as_value, as_truth, own_type}
use Rattle.lt_tree.specs.Typing.Specifying.{elsewhere}
use Rattle.lt_tree.specs.Typing.Declaring.{definition_faults, with_declared}
use Rattle.lt_tree.specs.Typing.DeclarationTyping.{declaration, effective_in_for}
use Rattle.lt_tree.specs.Typing.StatementTyping.{Around, in_a_loop, in_a_switch, test_faults, optional_test_faults, optional_expression, optional_test, for_start, switch_type, Seen, is_new_case, with_case, case_value, labels, return_faults, statement, items, cases}
use Rattle.lt_tree.specs.Typing.Programs.{Program, typed, program_of}
use Rattle.lt_tree.specs.Typing.UnitTyping.{around_body, frame_of, objects_of, defines, external, externals, defined_in, answer, typing_to, IsProgramOf}
use Rattle.lt_label_counts.proofs.Keeping.{AreLow, low_both, Has, Keeps, went, broke, Any, done, joined, after, quiet, grouped, judges, unmarked, blocked, scoped, entered, unmarked_here, in_new_frame}
use Rattle.lt_label_counts.proofs.KeptInExpressions.{named_in_declarator, of_expression, of_mark, of_specifiers, of_declarator}
use Rattle.lt_label_counts.proofs.KeptInDeclarations.{function_keeps, of_declaration_by}

module _ {fs : List Function} where
  -- ---- parts of statements

  of_declaration : (d : c.Declaration) (known : Known) → Has fs known → Keeps fs (ids_in_declaration d) Any (declaration d known)
  of_declaration d known h = of_declaration_by (λ class. class) d known h

  of_optional : (it : Option c.Expression) (known : Known) → Has fs known → Keeps fs (ids_in_some ids_in it) Any (optional_expression it known)
  of_optional None known h = done h tt
  of_optional (Some it) known h = after (of_expression it as_value known h) (λ x k h w. done h tt)

  of_optional_test : (it : Option c.Expression) (known : Known) → Has fs known → Keeps fs (ids_in_some ids_in it) Any (optional_test it known)
  of_optional_test None known h = done h tt
  of_optional_test (Some it) known h = after (of_expression it as_truth known h) (λ x k h w. done h tt)

  of_start : (start : c.ForStart) (known : Known) → Has fs known → Keeps fs (ids_in_start start) Any (for_start start known)
  of_start c.Nothing known h = done h tt
  of_start (c.First it) known h = after (of_expression it as_value known h) (λ x k h w. done h tt)
  of_start (c.Declares d) known h = after (of_declaration_by effective_in_for d known h) (λ it k h w. done h tt)

  of_labels : (them : List c.Label) (s : Option Scalar) (seen : Seen) (known : Known) → Has fs known → Keeps fs (flat_map ids_in_label them) Any (labels them s seen known)
  of_labels [] s seen known h = done h tt
  of_labels (c.Case it ∷ rest) s seen known h =
      joined (unmarked known.is_unmarked (of_expression it as_value (unmarked_here (entered known)) h))
      (λ x k h w. quiet {Was = Any} (after (judges _ (unless (is_new_case seen (case_value k.model s x)) bad_case) k h) (λ u k h w. done h tt))
      (λ z k h w. after (of_labels rest s (with_case seen z) k h) (λ others k h w. done h tt)))
  of_labels (c.Default ∷ rest) s seen known h =
      quiet (judges _ (broken_if bad_case seen.has_default) (entered known) h) (λ u k h w. after (of_labels rest s (record seen { has_default = true }) k h) (λ others k h w. done h tt))

  -- ---- statements

  mutual
    of_statement : (it : c.Statement) (around : Around) (known : Known) → Has fs known → Keeps fs (ids_in_statement it) Any (statement it around known)
    of_statement (c.Compound list) around known h = after (scoped known.frames (of_items list around (in_new_frame (entered known)) h)) (λ found k h w. done h tt)
    of_statement (c.Evaluates it) around known h = after (of_expression it as_value (entered known) h) (λ x k h w. done h tt)
    of_statement c.Null around known h = done h tt
    of_statement (c.If test body) around known h =
        scoped known.frames (joined (of_expression test as_truth (in_new_frame (entered known)) h) (λ x k h w. after (scoped k.frames (of_statement body around (in_new_frame k) h))
        (λ first k h w. after (judges _ (test_faults x) k h) (λ u k h w. done h tt))))
    of_statement (c.IfElse test body other) around known h =
        scoped known.frames (grouped (ids_in test) (ids_in_statement body) (ids_in_statement other) (joined (of_expression test as_truth (in_new_frame (entered known)) h)
        (λ x k h w. joined (scoped k.frames (of_statement body around (in_new_frame k) h)) (λ first k h w. after (scoped k.frames (of_statement other around (in_new_frame k) h))
        (λ second k h w. after (judges _ (test_faults x) k h) (λ u k h w. done h tt))))))
    of_statement (c.While test body) around known h =
        scoped known.frames (joined (of_expression test as_truth (in_new_frame (entered known)) h) (λ x k h w. after (scoped k.frames (of_statement body (in_a_loop around) (in_new_frame k) h))
        (λ first k h w. after (judges _ (test_faults x) k h) (λ u k h w. done h tt))))
    of_statement (c.Do body test) around known h =
        let start = in_new_frame (entered known) in
        scoped known.frames (joined (scoped start.frames (of_statement body (in_a_loop around) (in_new_frame start) h)) (λ first k h w. after (of_expression test as_truth k h)
        (λ x k h w. after (judges _ (test_faults x) k h) (λ u k h w. done h tt))))
    of_statement (c.For begin test step body) around known h =
        scoped known.frames (grouped (ids_in_start begin ++ ids_in_some ids_in test) (ids_in_some ids_in step) (ids_in_statement body)
        (grouped (ids_in_start begin) (ids_in_some ids_in test) (ids_in_some ids_in step ++ ids_in_statement body)
        (joined (of_start begin (in_new_frame (entered known)) h) (λ b k h w. joined (of_optional_test test k h) (λ x k h w. joined (of_optional step k h)
        (λ y k h w. after (scoped k.frames (of_statement body (in_a_loop around) (in_new_frame k) h)) (λ first k h w. after (judges _ (b.faults ++ optional_test_faults x) k h) (λ u k h w. done h tt))))))))
    of_statement (c.Switch operand list) around known h =
        scoped known.frames (joined (of_expression operand as_truth (in_new_frame (entered known)) h)
        (λ x k h w. after (of_cases list (switch_type k.model x) (record { values = []; has_default = false }) (in_a_switch around) k h)
        (λ found k h w. after (judges _ (test_faults x ++ unless (is_integer (own_type x)) bad_case) k h) (λ u k h w. done h tt))))
    of_statement c.Break around known h = after (judges _ (unless (around.in_loop || around.in_switch) stray_jump) (entered known) h) (λ u k h w. done h tt)
    of_statement c.Continue around known h = after (judges _ (unless around.in_loop stray_jump) (entered known) h) (λ u k h w. done h tt)
    of_statement (c.Return it) around known h =
        after (of_optional it (entered known) h) (λ x k h w. after (judges _ (return_faults around.result x) k h) (λ u k h w. done h tt))

    of_items : (them : c.Items) (around : Around) (known : Known) → Has fs known → Keeps fs (ids_in_items them) Any (items them around known)
    of_items c.no_items around known h = done h tt
    of_items (c.a_declaration first rest) around known h =
        joined (of_declaration first (entered known) h) (λ it k h w. quiet (judges _ it.faults k h) (λ u k h w. after (of_items rest around k h) (λ others k h w. done h tt)))
    of_items (c.a_statement first rest) around known h = joined (of_statement first around (entered known) h) (λ s k h w. after (of_items rest around k h) (λ others k h w. done h tt))
    of_items (c.a_label first rest) around known h = joined (of_mark first (entered known) h) (λ m k h w. after (of_items rest around k h) (λ others k h w. done h tt))

    of_cases : (them : c.Cases) (s : Option Scalar) (seen : Seen) (around : Around) (known : Known) → Has fs known → Keeps fs (ids_in_cases them) Any (cases them s seen around known)
    of_cases c.no_cases s seen around known h = done h tt
    of_cases (c.a_case list first rest) s seen around known h =
        grouped (flat_map ids_in_label list) (ids_in_statement first) (ids_in_cases rest) (joined (of_labels list s seen known h) (λ it k h w. joined (scoped k.frames (of_statement first around (in_new_frame k) h))
        (λ body k h w. after (of_cases rest s it.seen around k h) (λ others k h w. done h tt))))

-- ---- units

-- the parameters of functions
abbrev pub parameters_of : List Function → ℕ
parameters_of [] = 0
parameters_of (f ∷ fs) = length f.parameters + parameters_of fs

parameters_both : (fs gs : List Function) → parameters_of (fs ++ gs) ≡ parameters_of fs + parameters_of gs
parameters_both [] gs = omega arith
parameters_both (f ∷ fs) gs = let more = parameters_both fs gs in omega (arith, more)

-- the names of parameters in definitions
abbrev pub named_in_external : c.External → ℕ
named_in_external (c.Defines s d body) = named_in_declarator d
named_in_external (c.Declared d) = 0

abbrev pub named_in_unit : c.Unit → ℕ
named_in_unit [] = 0
named_in_unit (x ∷ xs) = named_in_external x + named_in_unit xs

-- where a function is declared, and its body is in a scope of its own
abbrev with_body : List ℕ → CType → Frame → Known → Known
with_body name t frame known = let there = bind_name name a_function (with_declared name t known) in record there { frames = frame ∷ there.frames }

-- The ids are in range, as are those of what follows, and there are at most so many parameters more.
data Makes (n : ℕ) (fs : List Function) (ids : List (List ℕ)) : Outcome (Unit {0}) → Type 0 where
  made : {u : Unit {0}} {k : Known} → parameters_of k.functions ≤ parameters_of fs + n → k.greatest_id ≡ greatest_written_id → AreLow ids → Makes n fs ids (Goes u k)
  stopped : {rule : Rule} {node : ℕ} → Makes n fs ids (Breaks rule node)

makes_none : (fs : List Function) (ids : List (List ℕ)) (o : Outcome (Unit {0})) → Keeps fs ids Any o → Makes 0 fs ids o
makes_none fs ids o (went h low is) = made (let same = ap parameters_of h.0 in omega (arith, same)) h.1 low
makes_none fs ids o broke = stopped

-- behind a part
behind : {A : Type 0} {n : ℕ} {fs : List Function} (xs ys : List (List ℕ)) {Was : A → Type 0} {o : Outcome A} {rest : A → Known → Outcome (Unit {0})}
    → Keeps fs xs Was o → ((a : A) (k : Known) → Has fs k → Was a → Makes n fs ys (rest a k)) → Makes n fs (xs ++ ys) (goes_on o rest)
behind {A} {n} {fs} xs ys {Was} (went {a} {known} h low was) f = also (f a known h was)
  where
    also : {o : Outcome (Unit {0})} → Makes n fs ys o → Makes n fs (xs ++ ys) o
    also (made few g more) = made few g (low_both xs ys low more)
    also stopped = stopped
behind xs ys broke f = stopped

one_more : (fs gs : List Function) (f : Function) (n : ℕ) → gs ≡ fs → length f.parameters ≤ n → parameters_of (gs ++ f ∷ []) ≤ parameters_of fs + n
one_more fs gs f n is few = let both = parameters_both gs (f ∷ []) in let same = ap parameters_of is in omega (arith, both, same, few)

of_external : (it : c.External) (known : Known) → known.greatest_id ≡ greatest_written_id → Makes (named_in_external it) known.functions (ids_in_external it) (external it known)
of_external (c.Defines s d body) known g =
    subst (λ ids. Makes (named_in_declarator d) known.functions ids (external (c.Defines s d body) known)) (sym (append_assoc (ids_in_specifiers s) (ids_in_declarator d) (ids_in_items body)))
    (behind (ids_in_specifiers s) (ids_in_declarator d ++ ids_in_items body) (of_specifiers s elsewhere (entered known) (refl, g)) (λ it k h w.
    behind (ids_in_declarator d) (ids_in_items body) (of_declarator d it true (definition_faults it.storage) k h) (λ declared k h is.
    let name = unwrap_or declared.name [] in
    subst (λ ids. Makes (named_in_declarator d) known.functions ids (defines known.next name declared body k)) (append-nil (ids_in_items body))
    (behind (ids_in_items body) []
    (blocked (bind_name name a_function (with_declared name declared.type k)).frames (of_items body (around_body declared.type) (with_body name declared.type (frame_of declared.parameters) k) (function_keeps name declared.type k h)))
    (λ inside k h w. made (one_more known.functions k.functions (record { node = known.next; name = name; type = declared.type; parameters = objects_of declared.parameters; body = inside.0 }) (named_in_declarator d) h.0 is.1) h.1 (omega arith))))))
of_external (c.Declared d) known g = makes_none known.functions (ids_in_declaration d) (external (c.Declared d) known) (after (of_declaration d (entered known) (refl, g)) (λ it k h w. judges known.next it.faults k h))

-- one external more
before : (x : c.External) (xs : List c.External) {fs : List Function} {o : Outcome (Unit {0})} → Makes (named_in_external x) fs (ids_in_external x) o
    → ((k : Known) → k.greatest_id ≡ greatest_written_id → Makes (named_in_unit xs) k.functions (ids_of_unit xs) (externals xs k)) → Makes (named_in_unit (x ∷ xs)) fs (ids_of_unit (x ∷ xs)) (goes_on o (λ _. externals xs))
before x xs {fs} (made {k} few g low) f = also (f k g)
  where
    also : {o : Outcome (Unit {0})} → Makes (named_in_unit xs) k.functions (ids_of_unit xs) o → Makes (named_in_unit (x ∷ xs)) fs (ids_of_unit (x ∷ xs)) o
    also (made more g lower) = made (omega (arith, few, more)) g (low_both (ids_in_external x) (ids_of_unit xs) low lower)
    also stopped = stopped
before x xs stopped f = stopped

of_externals : (them : List c.External) (known : Known) → known.greatest_id ≡ greatest_written_id → Makes (named_in_unit them) known.functions (ids_of_unit them) (externals them known)
of_externals [] known g = made (omega arith) g (omega arith)
of_externals (x ∷ xs) known g = before x xs (of_external x known g) (λ k g. of_externals xs k g)

abbrev pub IsBounded : c.Unit → Program → Type 0
IsBounded unit program = AreLow (ids_of_unit unit) × (parameters_of program.functions ≤ named_in_unit unit)

answered : (unit : c.Unit) (program : Program) (o : Outcome (Unit {0})) → Makes (named_in_unit unit) [] (ids_of_unit unit) o → answer unit o ≡ typed program → IsBounded unit program
answered unit program (Goes u known) (made few g low) is =
    let same : program_of unit known ≡ program = cc in
    let functions : known.functions ≡ program.functions = ap (λ (it : Program). it.functions) same in
    (low, let count = ap parameters_of functions in omega (arith, few, count))
answered unit program (Breaks rule node) m is = absurd cc

-- The ids of a typed unit are in range, and its functions have no more parameters than its definitions name.
pub typed_units_are_bounded : (model : DataModel) (unit : c.Unit) (program : Program) → IsProgramOf model unit program → IsBounded unit program
unfolding typing_to
typed_units_are_bounded model unit program is =
    answered unit program (externals unit (at_start model (filter_map defined_in unit))) (of_externals unit (at_start model (filter_map defined_in unit)) refl) is
