-- The predicates of labels are pure.
use Rattle.std.proofs.Common.{◌≡◌, inl, inr, ℕ, ◌+◌, List, [], ◌∷◌, ◌++◌, length, map, Option, Some, None, Bool, true, false, refl, sym, ◌∙◌}
use Rattle.std.proofs.lemmas.Bool.{false≢true, and_parts}
use Rattle.std.specs.Prelude.{◌&&◌, not, if◌then◌else◌, slice_get}
use Rattle.std.specs.List.{AllByRecursion, flat_map}
use Rattle.lt_model.specs.declared.scalar.DataModel.{DataModel}
use Rattle.lt_model.specs.declared.scalar.DataModel.TheVariants as model
use Rattle.lt_model.specs.declared.operator.Op.{Op}
use Rattle.lt_model.specs.declared.operator.Op.TheVariants as O
use Rattle.lt_tree.specs.declared.expression.LogicalOp.TheVariants as logical
use Rattle.lt_tree.specs.declared.expression.UnaryOp.TheVariants as unary
use Rattle.lt_tree.specs.Tree as c
use Rattle.lt_tree.specs.Erasure.{erased}
use Rattle.lt_tree.specs.Purity.{is_pure}
use Rattle.lt_tree.specs.Nodes.{Node, an_external, an_expression, in_expression}
use Rattle.lt_tree.specs.Typing.Types.{CType, Void, is_integer, is_pointer, is_scalar}
use Rattle.lt_tree.specs.Typing.Entities.{Known, Object, Label, at_start as known_at_start}
use Rattle.lt_tree.specs.Typing.Programs.{Program}
use Rattle.lt_objectives.specs.declared.criteria.Criterion.{Criterion}
use Rattle.lt_objectives.specs.declared.criteria.Criterion.TheVariants as C
use Rattle.lt_objectives.specs.Places.{Site, sites, type_at, is_open, is_value_position}
use Rattle.lt_objectives.specs.Decisions.{Test, clauses_of, decisions, clauses, negation, inequality, clause_list, conjunctions, active_clauses, has_few_clauses}
use Rattle.lt_objectives.specs.Mutants.{with_others, relations, pointer_relations, absolute_mutants, arithmetic_mutants, connector_mutants, relational_mutants}
use Rattle.lt_objectives.specs.Copies.{is_core, hides, is_pure_without_marks, all_nodes_fit, can_be_copied}
use Rattle.lt_objectives.specs.Objectives.{Form, at_start, in_front, around, Objective, objective, all_at, decided_at, both_truths, combinations, at_test, left_type, right_type, mutants, differences, domains, domains_of_object, parameters_at, at_body, at_expression, at_node, objectives}
use Rattle.lt_mark_laws.proofs.Lists.{all_both}
use Rattle.lt_mark_typing.specs.Beside.{AddsLabels, kept, added}
use Rattle.lt_mark_typing.specs.Placed.{IsThere}
use Rattle.lt_objective_typing.specs.Laws.{ArePredicates, DecisionsGivePredicates, MutantsGivePredicates, DomainsGivePredicates, differences_from}
use Rattle.lt_objective_marks.specs.Marks.{IsPurelyLabelled}

-- ---- A place that has no other beside it, since a label there has a new id. So a pure expression is a predicate there.

abbrev pub new_label : ℕ → Label
new_label id = record { id = id; tag = []; bound = [] }

abbrev pub nowhere : ℕ → Known
nowhere id = record (known_at_start model.Lp64 []) { labels = new_label id ∷ [] }

none_beside : (new : ℕ → Bool) (used : List ℕ) (label : Label) → new label.id ≡ true → {xs : List Label} → AddsLabels new used (label ∷ []) xs → ⊥
none_beside new used label is (kept old rest) = false≢true (sym old ∙ is)
none_beside new used label is (added found was_used bound rest) = none_beside new used label is rest

pub pure_there : (new : ℕ → Bool) (used : List ℕ) (id : ℕ) → new id ≡ true → (test : CType → Bool) (e : c.Expression) → is_pure e ≡ true → IsThere test new used (nowhere id) e
pure_there new used id is test e pure = (pure, λ further other beside. absurd (none_beside new used (new_label id) is beside.labels))

-- ---- lists of pure expressions

abbrev IsPure : c.Expression → Type 0
IsPure e = is_pure e ≡ true

abbrev AllPure : List c.Expression → Type 0
AllPure list = AllByRecursion IsPure list

abbrev any : ℕ → Bool
any n = true

there : (test : CType → Bool) (e : c.Expression) → IsPure e → IsThere test any [] (nowhere 1) e
there test e pure = pure_there any [] 1 refl test e pure

are_there : (list : List c.Expression) → AllPure list → ArePredicates any [] (nowhere 1) list
are_there [] h = tt
are_there (e ∷ es) h = (there is_scalar e h.0, are_there es h.1)

are_pure : (list : List c.Expression) → ArePredicates any [] (nowhere 1) list → AllPure list
are_pure [] h = tt
are_pure (e ∷ es) h = (h.0.0, are_pure es h.1)

-- ---- clauses

abbrev EachPure : List Test → Type 0
EachPure tests = AllByRecursion (λ (it : Test). IsPure it.core.expression) tests

tests_pure : (after : Option ℕ) (k : ℕ) (d : c.Expression) → IsPure d → EachPure (clauses_of after k d)
tests_pure after k (c.Logical op left right) pure =
    let parts = and_parts (is_pure left) (is_pure right) pure in
    let j = k + 1 + length (in_expression left) in
    all_both (λ (it : Test). IsPure it.core.expression) (clauses_of None (k + 1) left) (clauses_of None j right) (tests_pure None (k + 1) left parts.0) (tests_pure None j right parts.1)
tests_pure after k (c.Unary unary.Not e) pure = tests_pure None (k + 1) e pure
tests_pure after k (c.Marked marks e) pure = absurd (false≢true pure)
tests_pure after k (c.Decide e when_true when_false tag) pure = absurd (false≢true pure)
tests_pure after k (c.After e id tag) pure = absurd (false≢true pure)
tests_pure after k e pure = (pure, tt)

cores_pure : (tests : List Test) → EachPure tests → AllPure (map (λ it. it.core.expression) tests)
cores_pure [] h = tt
cores_pure (it ∷ rest) h = (h.0, cores_pure rest h.1)

clauses_pure : (d : c.Expression) → IsPure d → AllPure (clause_list d)
clauses_pure d pure = cores_pure (clauses_of None 0 d) (tests_pure None 0 d pure)

-- ---- objectives at one place

abbrev AllLabelled : List Objective → Type 0
AllLabelled them = AllByRecursion IsPurelyLabelled them

all_labelled : (place : ℕ) (form : Form) (criterion : Criterion) (list : List c.Expression) → AllPure list → AllLabelled (all_at place form criterion list)
all_labelled place form criterion [] h = tt
all_labelled place form criterion (e ∷ es) h = (inr h.0, all_labelled place form criterion es h.1)

labelled_if : (b : Bool) (xs ys : List Objective) → (b ≡ true → AllLabelled xs) → AllLabelled ys → AllLabelled (if b then xs else ys)
labelled_if true xs ys h g = h refl
labelled_if false xs ys h g = g

pub copied_pure : (unit : c.Unit) (k : ℕ) (e : c.Expression) → can_be_copied unit k e ≡ true → IsPure (erased e)
copied_pure unit k e copied = (and_parts (is_pure (erased e)) (not (hides e)) (and_parts (is_pure_without_marks e) (all_nodes_fit unit k e) copied).0).0

truths_labelled : (criterion : Criterion) (copied : Bool) (k decided : ℕ) (e : c.Expression) → (copied ≡ true → IsPure (erased e)) → AllLabelled (both_truths criterion copied k decided e)
truths_labelled criterion copied k decided e pure =
    labelled_if copied (all_at k in_front criterion (erased e ∷ negation (erased e) ∷ [])) (objective decided around criterion (erased e) ∷ [])
    (λ h. all_labelled k in_front criterion (erased e ∷ negation (erased e) ∷ []) (pure h, (pure h, tt))) (inl refl, tt)

combinations_labelled : (criterion : Criterion) (copied : Bool) (k : ℕ) (predicates : c.Expression → List c.Expression) (e : c.Expression) → (copied ≡ true → AllPure (predicates (erased e)))
    → AllLabelled (combinations criterion copied k predicates e)
combinations_labelled criterion copied k predicates e pure =
    labelled_if (copied && has_few_clauses (erased e)) (all_at k in_front criterion (predicates (erased e))) []
    (λ h. all_labelled k in_front criterion (predicates (erased e)) (pure (and_parts copied (has_few_clauses (erased e)) h).0)) tt

module _ (decisions_are : DecisionsGivePredicates) (mutants_are : MutantsGivePredicates) (domains_are : DomainsGivePredicates) where
  conjunctions_pure : (d : c.Expression) → IsPure d → AllPure (conjunctions (clause_list d))
  conjunctions_pure d pure = are_pure (conjunctions (clause_list d)) (decisions_are any [] (nowhere 1) d pure (are_there (clause_list d) (clauses_pure d pure))).1

  active_pure : (d : c.Expression) → IsPure d → AllPure (active_clauses d)
  active_pure d pure = are_pure (active_clauses d) (decisions_are any [] (nowhere 1) d pure (are_there (clause_list d) (clauses_pure d pure))).2

  test_labelled : (criterion : Criterion) (copied : Bool) (decision clause : Option ℕ) (k : ℕ) (e : c.Expression) → (copied ≡ true → IsPure (erased e)) → AllLabelled (at_test criterion copied decision clause k e)
  test_labelled C.Decision copied (Some decided) clause k e pure = truths_labelled C.Decision copied k decided e pure
  test_labelled C.Condition copied decision (Some decided) k e pure = truths_labelled C.Condition copied k decided e pure
  test_labelled C.MultipleCondition copied (Some decided) clause k e pure = combinations_labelled C.MultipleCondition copied k (λ d. conjunctions (clause_list d)) e (λ h. conjunctions_pure (erased e) (pure h))
  test_labelled C.GeneralActiveClause copied (Some decided) clause k e pure = combinations_labelled C.GeneralActiveClause copied k active_clauses e (λ h. active_pure (erased e) (pure h))
  test_labelled _ copied decision clause k e pure = tt

  -- ---- mutants

  abbrev DiffersPurely : c.Expression → List c.Expression → Type 0
  DiffersPurely e list = AllPure (map (inequality e) list)

  absolute_pure : (m : DataModel) (t : CType) (e : c.Expression) → IsPure e → DiffersPurely e (absolute_mutants m t e)
  absolute_pure m t e pure = are_pure (differences_from e (absolute_mutants m t e)) ((mutants_are any [] (nowhere 1) m t t O.Add logical.And e e e).3 (there is_integer e pure))

  arithmetic_pure : (t u : CType) (e : c.Expression) → IsPure e → DiffersPurely e (arithmetic_mutants t u e)
  arithmetic_pure t u (c.Binary op left right) pure =
      let parts = and_parts (is_pure left) (is_pure right) pure in
      are_pure (differences_from (c.Binary op left right) (arithmetic_mutants t u (c.Binary op left right)))
      ((mutants_are any [] (nowhere 1) model.Lp64 t u op logical.And left right left).0 (there is_integer left parts.0) (there is_integer right parts.1)).0
  arithmetic_pure t u e pure = tt

  connector_pure : (e : c.Expression) → IsPure e → DiffersPurely e (connector_mutants e)
  connector_pure (c.Logical op left right) pure =
      let parts = and_parts (is_pure left) (is_pure right) pure in
      are_pure (differences_from (c.Logical op left right) (connector_mutants (c.Logical op left right)))
      ((mutants_are any [] (nowhere 1) model.Lp64 Void Void O.Add op left right left).2 (there is_scalar left parts.0) (there is_scalar right parts.1))
  connector_pure e pure = tt

  relations_pure : (b : Bool) (t : CType) (op : Op) (left right : c.Expression) → IsPure left → IsPure right → IsPure (c.Binary op left right)
      → DiffersPurely (c.Binary op left right) (with_others (if b then relations else pointer_relations) op left right)
  relations_pure true t op left right p q pure =
      are_pure (differences_from (c.Binary op left right) (with_others relations op left right))
      ((mutants_are any [] (nowhere 1) model.Lp64 t t op logical.And left right left).0 (there is_integer left p) (there is_integer right q)).1
  relations_pure false t op left right p q pure =
      are_pure (differences_from (c.Binary op left right) (with_others pointer_relations op left right))
      ((mutants_are any [] (nowhere 1) model.Lp64 t t op logical.And left right left).1 (there is_integer (c.Binary op left right) pure))

  relational_pure : (t u : CType) (e : c.Expression) → IsPure e → DiffersPurely e (relational_mutants t u e)
  relational_pure t u (c.Binary op left right) pure =
      let parts = and_parts (is_pure left) (is_pure right) pure in relations_pure (is_integer t && is_integer u) t op left right parts.0 parts.1 pure
  relational_pure t u e pure = tt

  module _ (unit : c.Unit) (program : Program) where
    mutants_pure : (criterion : Criterion) (k : ℕ) (e plain : c.Expression) → IsPure plain → DiffersPurely plain (mutants unit program criterion k e plain)
    mutants_pure C.AbsoluteValue k e plain pure = absolute_pure program.model (type_at unit program k) plain pure
    mutants_pure C.ArithmeticOperator k e plain pure = arithmetic_pure (left_type unit program k e) (right_type unit program k e) plain pure
    mutants_pure C.LogicalConnector k e plain pure = connector_pure plain pure
    mutants_pure C.RelationalOperator k e plain pure = relational_pure (left_type unit program k e) (right_type unit program k e) plain pure
    mutants_pure _ k e plain pure = tt

    differences_labelled : (criterion : Criterion) (k : ℕ) (e : c.Expression) → AllLabelled (differences unit program criterion k e)
    differences_labelled criterion k e =
        let list = map (inequality (erased e)) (mutants unit program criterion k e (erased e)) in
        labelled_if (can_be_copied unit k e && is_value_position unit k) (all_at k in_front criterion list) []
        (λ h. all_labelled k in_front criterion list (mutants_pure criterion k e (erased e) (copied_pure unit k e (and_parts (can_be_copied unit k e) (is_value_position unit k) h).0))) tt

    expression_labelled : (criterion : Criterion) (k : ℕ) (e : c.Expression) → AllLabelled (at_expression unit program criterion k e)
    expression_labelled criterion k e =
        let tests = at_test criterion (can_be_copied unit k e) (decided_at (decisions unit) k) (decided_at (clauses unit) k) k e in
        labelled_if (is_core e && is_open unit program k) (tests ++ differences unit program criterion k e) []
        (λ h. all_both IsPurelyLabelled tests (differences unit program criterion k e) (test_labelled criterion (can_be_copied unit k e) (decided_at (decisions unit) k) (decided_at (clauses unit) k) k e (copied_pure unit k e)) (differences_labelled criterion k e)) tt

    -- ---- at the start of functions

    domain_pure : (n : ℕ) → AllPure (domains_of_object program n)
    domain_pure n = by (slice_get program.objects n)
      where
        by : (found : Option Object) → AllPure (elim found as (λ _. List c.Expression) [ None ↦ [] | Some object ↦ domains program.model object.type (c.Name object.name) ])
        by None = tt
        by (Some object) = are_pure (domains program.model object.type (c.Name object.name)) (domains_are any [] (nowhere 1) program.model object.type (c.Name object.name) (λ h. there is_integer (c.Name object.name) refl) (λ h. there is_pointer (c.Name object.name) refl))

    domains_pure : (list : List ℕ) → AllPure (flat_map (domains_of_object program) list)
    domains_pure [] = tt
    domains_pure (n ∷ ns) = all_both IsPure (domains_of_object program n) (flat_map (domains_of_object program) ns) (domain_pure n) (domains_pure ns)

    body_pure : (criterion : Criterion) (k : ℕ) → AllPure (at_body unit program criterion k)
    body_pure C.Function k = (refl, tt)
    body_pure C.InputDomain k = domains_pure (parameters_at unit program k)
    body_pure _ k = tt

    -- ---- all objectives

    node_labelled : (criterion : Criterion) (site : Site) → AllLabelled (at_node unit program criterion site)
    node_labelled criterion site = by site.node
      where
        by : (node : Node) → AllLabelled (at_node unit program criterion (record { number = site.number; node = node }))
        by (an_external (c.Defines s d body)) = all_labelled site.number at_start criterion (at_body unit program criterion site.number) (body_pure criterion site.number)
        by (an_expression e) = expression_labelled criterion site.number e
        by _ = tt

    sites_labelled : (criterion : Criterion) (list : List Site) → AllLabelled (flat_map (at_node unit program criterion) list)
    sites_labelled criterion [] = tt
    sites_labelled criterion (site ∷ rest) =
        all_both IsPurelyLabelled (at_node unit program criterion site) (flat_map (at_node unit program criterion) rest) (node_labelled criterion site) (sites_labelled criterion rest)

    pub objectives_labelled : (criterion : Criterion) → AllLabelled (objectives unit program criterion)
    objectives_labelled criterion = sites_labelled criterion (sites unit)
