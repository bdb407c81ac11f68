-- Good declarations, statements and units with new marks that fit them are good.
use Rattle.std.proofs.Common.{◌≡◌, ℕ, ◌+◌, Bool, true, false, List, [], ◌∷◌, ◌++◌, length, Option, Some, None, refl, sym, ap, ◌∙◌, subst}
use Rattle.std.specs.List.{flat_map}
use Rattle.lt_tree.specs.Tree as c
use Rattle.lt_tree.specs.Nodes.{in_expression, in_mark, in_specifiers, in_declarator, in_initialiser, in_initialisers, in_optional_initialiser, in_init_declarator, in_declaration, in_optional, in_start, in_label, in_statement, in_items, in_cases, in_external, nodes}
use Rattle.lt_tree.specs.Scope.{Scope, hiding, enumerators_in_mark, enumerators_in_marks, enumerators_in_initialiser, enumerators_in_initialisers, after_expression, after_optional, after_start, after_labels, after_specifiers, after_declarator, after_declarators, after_initialiser, after_declaration, after_statement, after_mark, after_external, in_body, makes_types}
use Rattle.lt_tree.specs.Ahead.{Naming, named, naming_behind}
use Rattle.lt_objectives.specs.Objectives.{at_start}
use Rattle.lt_objectives.specs.Marked.{NewMark, labels, with_marks, optional_with_marks, initialiser_with_marks, initialisers_with_marks, start_with_marks, declarators_with_marks, declaration_with_marks, for_start_with_marks, statement_with_marks, items_with_marks, cases_with_marks, labels_before, after_leading, external_with_marks, externals_with_marks, unit_with_marks}
use Rattle.lt_expr.proofs.Hiding.{hiding_both}
use Rattle.lt_print.proofs.DeclarationsAgain.{AreGiven}
use Rattle.lt_marked_texts.proofs.Arguments.{both, front_empty}
use Rattle.lt_marked_texts.proofs.Good.{GoodMarks}
use Rattle.lt_marked_texts.proofs.GoodUnits.{GoodInitialiser, GoodInitialisers, GoodInit, GoodDeclarators, GoodDeclaration, GoodOptional, GoodStart, GoodStatement, GoodItems, GoodCases, GoodExternal, GoodUnit}
use Rattle.lt_marked_texts.proofs.Fitting.{MadeAtStart, Fits, two, three_parts, four_parts}
use Rattle.lt_marked_texts.proofs.NewMarks.{AreWords, labels_good, labels_quiet}
use Rattle.lt_marked_texts.proofs.MarkedExpressions.{names_kept, good_kept}

given_kept : (new : List NewMark) (k : ℕ) (is : c.Initialisers) → AreGiven is → AreGiven (initialisers_with_marks new k is)
given_kept new k c.no_initialisers given = absurd given
given_kept new k (c.an_initialiser i is) given = tt

-- ---- labels at the start of a body

-- marks that are good wherever more names are declared that aren't types
abbrev Last : Scope → c.Marks → Type 0
Last scope ms = (names : List (List ℕ)) → GoodMarks (hiding names scope) ms

before_good : (ms : c.Marks) (items : c.Items) (scope : Scope) → enumerators_in_marks ms ≡ [] → GoodMarks scope ms → GoodItems scope items → GoodItems scope (labels_before ms items)
before_good c.no_marks items scope quiet a b = b
before_good (c.a_mark m ms) items scope quiet a b =
    let first : enumerators_in_mark m ≡ [] = front_empty (enumerators_in_mark m) (enumerators_in_marks ms) quiet in
    let rest : enumerators_in_marks ms ≡ [] = ap (λ ws. ws ++ enumerators_in_marks ms) (sym first) ∙ quiet in
    (a.0, subst (λ (ws : List (List ℕ)). GoodItems (hiding ws scope) (labels_before ms items)) (sym first) (before_good ms items scope rest a.1 b))

after_leading_good : (ms : c.Marks) → enumerators_in_marks ms ≡ [] → (items : c.Items) (scope : Scope) → Last scope ms → GoodItems scope items → GoodItems scope (after_leading ms items)
after_leading_good ms quiet c.no_items scope last good = before_good ms c.no_items scope quiet (last []) good
after_leading_good ms quiet (c.a_declaration d items) scope last good = before_good ms (c.a_declaration d items) scope quiet (last []) good
after_leading_good ms quiet (c.a_statement x items) scope last good = before_good ms (c.a_statement x items) scope quiet (last []) good
after_leading_good ms quiet (c.a_label m items) scope last good = (
  good.0,
  after_leading_good ms quiet items (after_mark m scope) (λ names. subst (λ (s : Scope). GoodMarks s ms) (hiding_both (enumerators_in_mark m) names scope) (last (enumerators_in_mark m ++ names))) good.1,
)

module _ (new : List NewMark) where
  -- ---- the names behind a tree

  mutual
    initialiser_names : (k : ℕ) (i : c.Initialiser) → Fits new k (in_initialiser i) → enumerators_in_initialiser (initialiser_with_marks new k i) ≡ enumerators_in_initialiser i
    initialiser_names k (c.Value e) fits = names_kept new (k + 1) e fits.1
    initialiser_names k (c.Braces is) fits = initialisers_names (k + 1) is fits.1

    initialisers_names : (k : ℕ) (is : c.Initialisers) → Fits new k (in_initialisers is) → enumerators_in_initialisers (initialisers_with_marks new k is) ≡ enumerators_in_initialisers is
    initialisers_names k c.no_initialisers fits = refl
    initialisers_names k (c.an_initialiser i is) fits =
        let parts = two new k (in_initialiser i) (in_initialisers is) fits in both (◌++◌) (initialiser_names k i parts.first) (initialisers_names (k + length (in_initialiser i)) is parts.second)

  behind : (scope : Scope) (k : ℕ) (e : c.Expression) → Fits new k (in_expression e) → after_expression e scope ≡ after_expression (with_marks new k e) scope
  behind scope k e fits = ap (λ ws. hiding ws scope) (sym (names_kept new k e fits))

  behind_optional : (scope : Scope) (k : ℕ) (e : Option c.Expression) → Fits new k (in_optional e) → after_optional e scope ≡ after_optional (optional_with_marks new k e) scope
  behind_optional scope k None fits = refl
  behind_optional scope k (Some e) fits = behind scope k e fits

  behind_init : (scope : Scope) (k : ℕ) (i : Option c.Initialiser) → Fits new k (in_optional_initialiser i) → after_initialiser i scope ≡ after_initialiser (start_with_marks new k i) scope
  behind_init scope k None fits = refl
  behind_init scope k (Some i) fits = ap (λ ws. hiding ws scope) (sym (initialiser_names k i fits))

  behind_declarators : (scope : Scope) (type : Bool) (k : ℕ) (ds : List c.InitDeclarator) → Fits new k (flat_map in_init_declarator ds) → after_declarators type ds scope ≡ after_declarators type (declarators_with_marks new k ds) scope
  behind_declarators scope type k [] fits = refl
  behind_declarators scope type k (d ∷ ds) fits =
      let parts = two new k (in_init_declarator d) (flat_map in_init_declarator ds) fits in
      let inner = two new k (in_declarator d.declarator) (in_optional_initialiser d.initialiser) parts.first in
      let j = k + length (in_init_declarator d) in
      behind_declarators (after_initialiser d.initialiser (after_declarator type d.declarator scope)) type j ds parts.second
      ∙ ap (after_declarators type (declarators_with_marks new j ds)) (behind_init (after_declarator type d.declarator scope) (k + length (in_declarator d.declarator)) d.initialiser inner.second)

  behind_declaration : (scope : Scope) (k : ℕ) (d : c.Declaration) → Fits new k (in_declaration d) → after_declaration d scope ≡ after_declaration (declaration_with_marks new k d) scope
  behind_declaration scope k d fits =
      behind_declarators (after_specifiers d.specifiers scope) (makes_types d.specifiers) (k + length (in_specifiers d.specifiers)) d.declarators
      (two new k (in_specifiers d.specifiers) (flat_map in_init_declarator d.declarators) fits).second

  behind_start : (scope : Scope) (k : ℕ) (x : c.ForStart) → Fits new k (in_start x) → after_start x scope ≡ after_start (for_start_with_marks new k x) scope
  behind_start scope k c.Nothing fits = refl
  behind_start scope k (c.First e) fits = behind scope k e fits
  behind_start scope k (c.Declares d) fits = behind_declaration scope k d fits

  behind_statement : (scope : Scope) (k : ℕ) (x : c.Statement) → Fits new k (in_statement x) → after_statement x scope ≡ after_statement (statement_with_marks new k x) scope
  behind_statement scope k (c.Compound items) fits = refl
  behind_statement scope k (c.Evaluates e) fits = behind scope (k + 1) e fits.1
  behind_statement scope k c.Null fits = refl
  behind_statement scope k (c.If test x) fits = refl
  behind_statement scope k (c.IfElse test x y) fits = refl
  behind_statement scope k (c.While test x) fits = refl
  behind_statement scope k (c.Do x test) fits = refl
  behind_statement scope k (c.For start test step x) fits = refl
  behind_statement scope k (c.Switch e cases) fits = refl
  behind_statement scope k c.Break fits = refl
  behind_statement scope k c.Continue fits = refl
  behind_statement scope k (c.Return e) fits = behind_optional scope (k + 1) e fits.1

  module _ (words : AreWords new) where
    -- ---- declarations

    mutual
      initialiser_good : (scope : Scope) (k : ℕ) (i : c.Initialiser) → Fits new k (in_initialiser i) → GoodInitialiser scope i → GoodInitialiser scope (initialiser_with_marks new k i)
      initialiser_good scope k (c.Value e) fits good = good_kept new words scope (k + 1) e fits.1 good
      initialiser_good scope k (c.Braces is) fits good = (given_kept new (k + 1) is good.0, initialisers_good scope (k + 1) is fits.1 good.1)

      initialisers_good : (scope : Scope) (k : ℕ) (is : c.Initialisers) → Fits new k (in_initialisers is) → GoodInitialisers scope is → GoodInitialisers scope (initialisers_with_marks new k is)
      initialisers_good scope k c.no_initialisers fits good = tt
      initialisers_good scope k (c.an_initialiser i is) fits good =
          let parts = two new k (in_initialiser i) (in_initialisers is) fits in (initialiser_good scope k i parts.first good.0, initialisers_good scope (k + length (in_initialiser i)) is parts.second good.1)

    init_good : (scope : Scope) (k : ℕ) (i : Option c.Initialiser) → Fits new k (in_optional_initialiser i) → GoodInit scope i → GoodInit scope (start_with_marks new k i)
    init_good scope k None fits good = tt
    init_good scope k (Some i) fits good = initialiser_good scope k i fits good

    declarators_good : (type : Bool) (ds : List c.InitDeclarator) (naming : Naming) (scope : Scope) (k : ℕ) → Fits new k (flat_map in_init_declarator ds) → GoodDeclarators naming type scope ds
        → GoodDeclarators naming type scope (declarators_with_marks new k ds)
    declarators_good type [] naming scope k fits good = tt
    declarators_good type (d ∷ ds) naming scope k fits good =
        let parts = two new k (in_init_declarator d) (flat_map in_init_declarator ds) fits in
        let inner = two new k (in_declarator d.declarator) (in_optional_initialiser d.initialiser) parts.first in
        let at = after_declarator type d.declarator scope in
        let i = k + length (in_declarator d.declarator) in
        let j = k + length (in_init_declarator d) in (
          good.0,
          good.1,
          init_good at i d.initialiser inner.second good.2,
          subst (λ (s : Scope). GoodDeclarators named type s (declarators_with_marks new j ds)) (behind_init at i d.initialiser inner.second)
              (declarators_good type ds named (after_initialiser d.initialiser at) j parts.second good.3),
        )

    declaration_good : (scope : Scope) (k : ℕ) (d : c.Declaration) → Fits new k (in_declaration d) → GoodDeclaration scope d → GoodDeclaration scope (declaration_with_marks new k d)
    declaration_good scope k d fits good = record {
      again = good.again;
      words = good.words;
      declarators = declarators_good (makes_types d.specifiers) d.declarators (naming_behind d.specifiers) (after_specifiers d.specifiers scope) (k + length (in_specifiers d.specifiers))
          (two new k (in_specifiers d.specifiers) (flat_map in_init_declarator d.declarators) fits).second good.declarators;
    }

    -- ---- statements

    optional_good : (scope : Scope) (k : ℕ) (e : Option c.Expression) → Fits new k (in_optional e) → GoodOptional scope e → GoodOptional scope (optional_with_marks new k e)
    optional_good scope k None fits good = tt
    optional_good scope k (Some e) fits good = good_kept new words scope k e fits good

    start_good : (scope : Scope) (k : ℕ) (x : c.ForStart) → Fits new k (in_start x) → GoodStart scope x → GoodStart scope (for_start_with_marks new k x)
    start_good scope k c.Nothing fits good = tt
    start_good scope k (c.First e) fits good = good_kept new words scope k e fits good
    start_good scope k (c.Declares d) fits good = declaration_good scope k d fits good

    statement_at : (f : Bool) (x : c.Statement) {s t : Scope} → s ≡ t → GoodStatement s f x → GoodStatement t f x
    statement_at f x e = subst (λ (s : Scope). GoodStatement s f x) e

    items_at : (items : c.Items) {s t : Scope} → s ≡ t → GoodItems s items → GoodItems t items
    items_at items e = subst (λ (s : Scope). GoodItems s items) e

    cases_at : (cases : c.Cases) {s t : Scope} → s ≡ t → GoodCases s cases → GoodCases t cases
    cases_at cases e = subst (λ (s : Scope). GoodCases s cases) e

    -- the parts of a `for` before its body
    record Head (scope : Scope) (k : ℕ) (start : c.ForStart) (test step : Option c.Expression) (x : c.Statement) : Type 0 where
      first : GoodStart scope (for_start_with_marks new k start)
      second : GoodOptional (after_start (for_start_with_marks new k start) scope) (optional_with_marks new (k + length (in_start start)) test)
      third : GoodOptional (after_optional (optional_with_marks new (k + length (in_start start)) test) (after_start (for_start_with_marks new k start) scope))
          (optional_with_marks new (k + length (in_start start) + length (in_optional test)) step)
      body : Fits new (k + length (in_start start) + length (in_optional test) + length (in_optional step)) (in_statement x)
      behind : after_optional step (after_optional test (after_start start scope))
          ≡ after_optional (optional_with_marks new (k + length (in_start start) + length (in_optional test)) step) (after_optional (optional_with_marks new (k + length (in_start start)) test) (after_start (for_start_with_marks new k start) scope))

    head_good : (scope : Scope) (k : ℕ) (start : c.ForStart) (test step : Option c.Expression) (x : c.Statement) → Fits new k (in_start start ++ in_optional test ++ in_optional step ++ in_statement x)
        → GoodStart scope start → GoodOptional (after_start start scope) test → GoodOptional (after_optional test (after_start start scope)) step → Head scope k start test step x
    head_good scope k start test step x fits a b d =
        let i = k + length (in_start start) in
        let j = i + length (in_optional test) in
        let parts = four_parts new k (in_start start) (in_optional test) (in_optional step) (in_statement x) fits in
        let behind_a : after_start start scope ≡ after_start (for_start_with_marks new k start) scope = behind_start scope k start parts.front.first in
        let behind_b : after_optional test (after_start start scope) ≡ after_optional (optional_with_marks new i test) (after_start (for_start_with_marks new k start) scope) =
        behind_optional (after_start start scope) i test parts.front.second ∙ ap (after_optional (optional_with_marks new i test)) behind_a in
        record {
          first = start_good scope k start parts.front.first a;
          second = subst (λ (s : Scope). GoodOptional s (optional_with_marks new i test)) behind_a (optional_good (after_start start scope) i test parts.front.second b);
          third = subst (λ (s : Scope). GoodOptional s (optional_with_marks new j step)) behind_b (optional_good (after_optional test (after_start start scope)) j step parts.front.third d);
          body = parts.fourth;
          behind = behind_optional (after_optional test (after_start start scope)) j step parts.front.third ∙ ap (after_optional (optional_with_marks new j step)) behind_b;
        }

    mutual
      statement_good : (scope : Scope) (f : Bool) (k : ℕ) (x : c.Statement) → Fits new k (in_statement x) → GoodStatement scope f x → GoodStatement scope f (statement_with_marks new k x)
      statement_good scope f k (c.Compound items) fits good = items_good scope (k + 1) items fits.1 good
      statement_good scope f k (c.Evaluates e) fits good = good_kept new words scope (k + 1) e fits.1 good
      statement_good scope f k c.Null fits good = tt
      statement_good scope f k (c.If test x) fits good =
          let parts = two new (k + 1) (in_expression test) (in_statement x) fits.1 in
          let i = k + 1 + length (in_expression test) in (
            good.0,
            good_kept new words scope (k + 1) test parts.first good.1,
            statement_at false (statement_with_marks new i x) (behind scope (k + 1) test parts.first) (statement_good (after_expression test scope) false i x parts.second good.2),
          )
      statement_good scope f k (c.IfElse test x y) fits good =
          let parts = three_parts new (k + 1) (in_expression test) (in_statement x) (in_statement y) fits.1 in
          let i = k + 1 + length (in_expression test) in
          let j = i + length (in_statement x) in (
            good_kept new words scope (k + 1) test parts.first good.0,
            statement_at true (statement_with_marks new i x) (behind scope (k + 1) test parts.first) (statement_good (after_expression test scope) true i x parts.second good.1),
            statement_at f (statement_with_marks new j y) (behind scope (k + 1) test parts.first) (statement_good (after_expression test scope) f j y parts.third good.2),
          )
      statement_good scope f k (c.While test x) fits good =
          let parts = two new (k + 1) (in_expression test) (in_statement x) fits.1 in
          let i = k + 1 + length (in_expression test) in (
            good_kept new words scope (k + 1) test parts.first good.0,
            statement_at f (statement_with_marks new i x) (behind scope (k + 1) test parts.first) (statement_good (after_expression test scope) f i x parts.second good.1),
          )
      statement_good scope f k (c.Do x test) fits good =
          let parts = two new (k + 1) (in_statement x) (in_expression test) fits.1 in
          (statement_good scope false (k + 1) x parts.first good.0, good_kept new words scope (k + 1 + length (in_statement x)) test parts.second good.1)
      statement_good scope f k (c.For start test step x) fits good =
          let head = head_good scope (k + 1) start test step x fits.1 good.0 good.1 good.2 in
          let j = k + 1 + length (in_start start) + length (in_optional test) + length (in_optional step) in (
            head.first,
            head.second,
            head.third,
            statement_at f (statement_with_marks new j x) head.behind (statement_good (after_optional step (after_optional test (after_start start scope))) f j x head.body good.3),
          )
      statement_good scope f k (c.Switch e cases) fits good =
          let parts = two new (k + 1) (in_expression e) (in_cases cases) fits.1 in
          let i = k + 1 + length (in_expression e) in (
            good_kept new words scope (k + 1) e parts.first good.0,
            cases_at (cases_with_marks new i cases) (behind scope (k + 1) e parts.first) (cases_good (after_expression e scope) i cases parts.second good.1),
          )
      statement_good scope f k c.Break fits good = tt
      statement_good scope f k c.Continue fits good = tt
      statement_good scope f k (c.Return e) fits good = optional_good scope (k + 1) e fits.1 good

      items_good : (scope : Scope) (k : ℕ) (items : c.Items) → Fits new k (in_items items) → GoodItems scope items → GoodItems scope (items_with_marks new k items)
      items_good scope k c.no_items fits good = tt
      items_good scope k (c.a_declaration d items) fits good =
          let parts = two new (k + 1) (in_declaration d) (in_items items) fits.1 in
          let j = k + 1 + length (in_declaration d) in (
            declaration_good scope (k + 1) d parts.first good.0,
            items_at (items_with_marks new j items) (behind_declaration scope (k + 1) d parts.first) (items_good (after_declaration d scope) j items parts.second good.1),
          )
      items_good scope k (c.a_statement x items) fits good =
          let parts = two new (k + 1) (in_statement x) (in_items items) fits.1 in
          let j = k + 1 + length (in_statement x) in (
            (good.0.0, statement_good scope good.0.0 (k + 1) x parts.first good.0.1),
            items_at (items_with_marks new j items) (behind_statement scope (k + 1) x parts.first) (items_good (after_statement x scope) j items parts.second good.1),
          )
      items_good scope k (c.a_label m items) fits good =
          let parts = two new (k + 1) (in_mark m) (in_items items) fits.1 in (good.0, items_good (after_mark m scope) (k + 1 + length (in_mark m)) items parts.second good.1)

      cases_good : (scope : Scope) (k : ℕ) (cases : c.Cases) → Fits new k (in_cases cases) → GoodCases scope cases → GoodCases scope (cases_with_marks new k cases)
      cases_good scope k c.no_cases fits good = tt
      cases_good scope k (c.a_case labels x cases) fits good =
          let parts = three_parts new k (flat_map in_label labels) (in_statement x) (in_cases cases) fits in
          let i = k + length (flat_map in_label labels) in
          let j = i + length (in_statement x) in (
            good.0,
            good.1,
            (good.2.0, statement_good (after_labels labels scope) good.2.0 i x parts.second good.2.1),
            cases_at (cases_with_marks new j cases) (behind_statement (after_labels labels scope) i x parts.second) (cases_good (after_statement x (after_labels labels scope)) j cases parts.third good.3),
          )

    -- ---- units

    external_good : (scope : Scope) (k : ℕ) (x : c.External) → Fits new k (in_external x) → GoodExternal scope x → GoodExternal scope (external_with_marks new k x)
    external_good scope k (c.Defines s d body) fits good =
        let parts = three_parts new (k + 1) (in_specifiers s) (in_declarator d) (in_items body) fits.1 in
        let j = k + 1 + length (in_specifiers s) + length (in_declarator d) in (
          good.0,
          after_leading_good (labels at_start new k) (labels_quiet (MadeAtStart s d) (λ p made. made.quiet) at_start k new fits.0) (items_with_marks new j body) (in_body s d scope)
              (λ names. labels_good (hiding names (in_body s d scope)) (MadeAtStart s d) (λ p made. made.good scope names good.0.parts) at_start k new words fits.0)
              (items_good (in_body s d scope) j body parts.third good.1),
        )
    external_good scope k (c.Declared d) fits good = declaration_good scope (k + 1) d fits.1 good

    behind_external : (scope : Scope) (k : ℕ) (x : c.External) → Fits new k (in_external x) → after_external x scope ≡ after_external (external_with_marks new k x) scope
    behind_external scope k (c.Defines s d body) fits = refl
    behind_external scope k (c.Declared d) fits = behind_declaration scope (k + 1) d fits.1

    externals_good : (unit : c.Unit) (scope : Scope) (k : ℕ) → Fits new k (flat_map in_external unit) → GoodUnit scope unit → GoodUnit scope (externals_with_marks new k unit)
    externals_good [] scope k fits good = tt
    externals_good (x ∷ xs) scope k fits good =
        let parts = two new k (in_external x) (flat_map in_external xs) fits in
        let j = k + length (in_external x) in (
          external_good scope k x parts.first good.0,
          subst (λ (s : Scope). GoodUnit s (externals_with_marks new j xs)) (behind_external scope k x parts.first) (externals_good xs (after_external x scope) j parts.second good.1),
        )

    pub marks_keep_good : (unit : c.Unit) → Fits new 0 (nodes unit) → GoodUnit [] unit → GoodUnit [] (unit_with_marks new unit)
    marks_keep_good unit fits good = externals_good unit [] 0 fits good
