-- What stands at an expression in a role.
use Rattle.std.proofs.Common.{◌≡◌, ◌⊎◌, inl, inr, refl, sym, ap, ◌∙◌, subst, ℕ, ◌+◌, ◌<◌, ◌≤◌, List, length, true, Option, Some, None, arith}
use Rattle.std.proofs.lemmas.Bool.{false≢true}
use Rattle.lt_tree.specs.Tree as c
use Rattle.lt_tree.specs.Nodes.{Node, an_external, an_expression, in_expression, in_marks, in_external}
use Rattle.lt_tree.specs.Typing.Programs.{Program}
use Rattle.lt_objectives.specs.declared.criteria.Criterion.{Criterion}
use Rattle.lt_objectives.specs.Places.{sites, part, core, is_open, is_value_position}
use Rattle.lt_objectives.specs.Decisions.{Test}
use Rattle.lt_objectives.specs.Copies.{is_core}
use Rattle.lt_objectives.specs.Objectives.{at_start, in_front, around, Objective, all_at, at_body, decided_at, at_expression, at_node, objectives}
use Rattle.lt_sites.proofs.Nodes.{expression_node}
use Rattle.lt_decisions.specs.declared.turn.Tests.{Tests}
use Rattle.lt_decisions.specs.declared.turn.Tests.TheVariants as tests
use Rattle.lt_decisions.specs.Walk.{tests_of, tests_in}
use Rattle.lt_decisions.proofs.Closed.{Closed}
use Rattle.lt_decisions.proofs.Parts as closed
use Rattle.lt_decisions.proofs.Steps.{in_marked, in_decide}
use Rattle.lt_objective_places.specs.Stands.{IsAmong, IsWithin, GoOn, RunStands, AreUntested, Role, in_test, in_truth, as_value, as_place, tests_as, Stands, AreClosed, CanBeMarked, can_be_decided, MayStand}
use Rattle.lt_objective_places.proofs.Numbers.{is_of, within}
use Rattle.lt_objective_places.proofs.Runs.{go_on_next, go_on_back, behind_first, within_run}
use Rattle.lt_objective_places.proofs.Roles.{any_test}
use Rattle.lt_objective_places.proofs.Found.{same_node, decided_by, test_of_either, around_decided, IsFound, found_at_start, found_in_front, found_around, found}

core_is : (k : ℕ) (e : c.Expression) → is_core e ≡ true → core k e ≡ part k e
core_is k (c.Marked ms e) is = absurd (false≢true is)
core_is k (c.Decide e when_true when_false tag) is = absurd (false≢true is)
core_is k (c.After e id tag) is = absurd (false≢true is)
core_is k e is = refl

core_is_core : (k : ℕ) (e : c.Expression) → is_core (core k e).expression ≡ true
core_is_core k (c.Marked ms e) = core_is_core (k + 1 + length (in_marks ms)) e
core_is_core k (c.Decide e when_true when_false tag) = core_is_core (k + 1) e
core_is_core k (c.After e id tag) = core_is_core (k + 1) e
core_is_core k e = refl

-- the core stands in the unit too
pub core_there : {unit : c.Unit} (k : ℕ) (e : c.Expression) → GoOn unit k (in_expression e) → GoOn unit (core k e).number (in_expression (core k e).expression)
core_there k (c.Marked ms e) s = core_there (k + 1 + length (in_marks ms)) e (go_on_back (in_marks ms) (in_expression e) (go_on_next s))
core_there k (c.Decide e when_true when_false tag) s = core_there (k + 1) e (go_on_next s)
core_there k (c.After e id tag) s = core_there (k + 1) e (go_on_next s)
core_there k e s = s

-- the node at the number of an expression
node_there : {unit : c.Unit} (k : ℕ) (e other : c.Expression) → GoOn unit k (in_expression e) → IsAmong (record { number = k; node = an_expression other }) (sites unit) → other ≡ e
node_there {unit} k e other s among = expression_is (same_node k among (subst (GoOn unit k) (expression_node e) s))
  where
    expression_is : {x y : c.Expression} → an_expression x ≡ an_expression y → x ≡ y
    expression_is is = cc

-- an expression's own number is among its numbers
at_itself : (k : ℕ) (e : c.Expression) → IsWithin k (length (in_expression e)) k
at_itself k e = (omega arith, omega (arith, ap length (expression_node e)))

-- ---- in front

markable : (unit : c.Unit) (role : Role) (k : ℕ) (e : c.Expression) (what : Tests) (it : Test) → tests_as role k e what it → CanBeMarked unit k role
markable unit in_test k e what it h = tt
markable unit in_truth k e what it h = tt
markable unit as_value k e what it h = absurd h
markable unit as_place k e what it h = absurd h

-- a test
of_test : {unit : c.Unit} {role : Role} {k : ℕ} {e : c.Expression} (what : Tests) (it : Test) → Stands unit role k e → IsAmong it (tests_in what unit) → it.core.number ≡ k → CanBeMarked unit k role
of_test {unit} {role} {k} {e} what it s among is =
    elim (s.stand.tests what it k among (inl is) (at_itself k e)) [
      | inl t ↦ markable unit role k e what it t
      | inr i ↦ let later : k < k = behind_first what k (in_expression e) it k i (inl is) in absurd (omega arith)
    ]

-- an expression that no test from around is about is none
undecided : {unit : c.Unit} {k : ℕ} (e : c.Expression) (what : Tests) → AreUntested unit k (in_expression e) → decided_at (tests_in what unit) k ≡ None
undecided {unit} {k} e what s = by_cases (decided_at (tests_in what unit) k) refl
  where
    by_cases : (x : Option ℕ) → decided_at (tests_in what unit) k ≡ x → decided_at (tests_in what unit) k ≡ None
    by_cases None is = is
    by_cases (Some d) is =
        let t = decided_by (tests_in what unit) k d is in
        elim (s.tests what t.0 k t.1 (inl t.2) (at_itself k e)) [
          | inl g ↦ absurd g
          | inr i ↦ let later : k < k = behind_first what k (in_expression e) t.0 k i (inl t.2) in absurd (omega arith)
        ]

-- a value
of_value : {unit : c.Unit} (role : Role) {k : ℕ} {e : c.Expression} → is_core e ≡ true → Stands unit role k e → is_value_position unit k ≡ true → CanBeMarked unit k role
of_value in_test whole s is = tt
of_value in_truth whole s is = tt
of_value as_value {k} {e} whole s is = (is, (undecided e tests.Decisions s.stand, undecided e tests.Clauses s.stand))
of_value {unit} as_place {k} {e} whole s is = absurd (false≢true (sym (s.place refl) ∙ ap (λ x. is_value_position unit x.number) (core_is k e whole) ∙ is))

-- ---- around

-- what is decided of an expression behind labels, or in a `pc_decide`, stands inside
decided_inside : (j k : ℕ) (what : Tests) (e : c.Expression) (it : Test) → k < j → IsAmong it (tests_of what None j e) → k < it.decided
decided_inside j k what e it less i = let low : j ≤ it.decided = (within what j e it it.decided i (inr refl)).0 in omega arith

decided_directly : (k : ℕ) (e : c.Expression) (what : Tests) (it : Test) → IsAmong it (tests_of what None k e) → it.decided ≡ k → can_be_decided e ≡ true
decided_directly k (c.Marked ms e) what it i is =
    let j = k + 1 + length (in_marks ms) in
    let later : k < it.decided = decided_inside j k what e it (omega arith) (subst (IsAmong it) (sym (in_marked what None k ms e)) i) in
    absurd (omega arith)
decided_directly k (c.Decide e when_true when_false tag) what it i is =
    let later : k < it.decided = decided_inside (k + 1) k what e it (omega arith) (subst (IsAmong it) (sym (in_decide what None k e when_true when_false tag)) i) in absurd (omega arith)
decided_directly k e what it i is = refl

-- of the tests that an expression may be only that which is tested here is decided here
decided_here : (role : Role) (k : ℕ) (e : c.Expression) (what : Tests) (it : Test) → tests_as role k e what it → it.decided ≡ k → (role ≡ in_test) × (it.core ≡ core k e) × (can_be_decided e ≡ true)
decided_here in_test k e what it (None, before, i) is = by_place (is_of what None k e it i).decided
  where
    by_place : ((it.decided ≡ k) × (it.core ≡ core k e)) ⊎ ((k < it.decided) × (it.decided < k + length (in_expression e))) → (in_test ≡ in_test) × (it.core ≡ core k e) × (can_be_decided e ≡ true)
    by_place (inl own) = (refl, own.1, decided_directly k e what it i is)
    by_place (inr later) = let more : k < it.decided = later.0 in absurd (omega arith)
decided_here in_test k e what it (Some a, before, i) is = absurd (not_here a k e it before is (is_of what (Some a) k e it i).decided)
  where
    not_here : (a k : ℕ) (e : c.Expression) (it : Test) → a < k → it.decided ≡ k → ((it.decided ≡ a) × (it.core ≡ core k e)) ⊎ ((k < it.decided) × (it.decided < k + length (in_expression e))) → ⊥
    not_here a k e it before is (inl own) = let same : it.decided ≡ a = own.0 in omega arith
    not_here a k e it before is (inr later) = let more : k < it.decided = later.0 in omega arith
decided_here in_truth k e what it h is = absurd (not_here h.0 k e it h.1 is (is_of what (Some h.0) k e it h.2).decided)
  where
    not_here : (a k : ℕ) (e : c.Expression) (it : Test) → a < k → it.decided ≡ k → ((it.decided ≡ a) × (it.core ≡ core k e)) ⊎ ((k < it.decided) × (it.decided < k + length (in_expression e))) → ⊥
    not_here a k e it before is (inl own) = let same : it.decided ≡ a = own.0 in omega arith
    not_here a k e it before is (inr later) = let more : k < it.decided = later.0 in omega arith
decided_here as_value k e what it h is = absurd h
decided_here as_place k e what it h is = absurd h

-- ---- objectives

-- one in front of an expression
stands_in_front : {unit : c.Unit} {role : Role} (program : Program) (criterion : Criterion) (k : ℕ) (e other : c.Expression) (o : Objective) → other ≡ e → Stands unit role k e
    → is_core other ≡ true → is_open unit program k ≡ true → ((what : Tests) × (it : Test) × IsAmong it (tests_in what unit) × (it.core.number ≡ k)) ⊎ (is_value_position unit k ≡ true)
    → IsAmong o (at_expression unit program criterion k other) → MayStand unit program criterion role k e o in_front
stands_in_front {unit} {role} program criterion k e other o same s whole opened test_or_value at_it =
    let core_e : is_core e ≡ true = subst (λ x. is_core x ≡ true) same whole in
    (core_e, opened, elim test_or_value [ inl t ↦ of_test t.0 t.1 s t.2 t.3 | inr v ↦ of_value role core_e s v ], subst (λ x. IsAmong o (at_expression unit program criterion k x)) same at_it)

-- one around it
stands_around : {unit : c.Unit} {role : Role} (program : Program) (criterion : Criterion) (j k : ℕ) (e other : c.Expression) (o : Objective) (what : Tests) (it : Test) → Stands unit role k e
    → IsAmong (record { number = j; node = an_expression other }) (sites unit) → is_open unit program j ≡ true → IsAmong it (tests_in what unit) → it.core.number ≡ j → it.decided ≡ k
    → IsAmong o (at_expression unit program criterion j other) → MayStand unit program criterion role k e o around
stands_around {unit} {role} program criterion j k e other o what it s there opened among core_is_at decided_is at_it =
    elim (s.stand.tests what it k among (inr decided_is) (at_itself k e)) [
      | inl t ↦ here (decided_here role k e what it t decided_is)
      | inr i ↦ let later : k < k = behind_first what k (in_expression e) it k i (inr decided_is) in absurd (omega arith)
    ]
  where
    here : (role ≡ in_test) × (it.core ≡ core k e) × (can_be_decided e ≡ true) → MayStand unit program criterion role k e o around
    here h =
        let inner = core k e in
        let number : j ≡ inner.number = sym core_is_at ∙ ap (λ x. x.number) h.1 in
        let there_too : IsAmong (record { number = inner.number; node = an_expression other }) (sites unit) =
        subst (λ n. IsAmong (record { number = n; node = an_expression other }) (sites unit)) number there in
        let same : other ≡ inner.expression = node_there inner.number inner.expression other (core_there k e s.stand.there) there_too in (
          h.0,
          h.2,
          core_is_core k e,
          ap (is_open unit program) (sym number) ∙ opened,
          subst (λ x. IsAmong o (at_expression unit program criterion inner.number x)) same (subst (λ n. IsAmong o (at_expression unit program criterion n other)) number at_it),
        )

-- An objective at the number of an expression stands there as the expression's role allows.
stands_at : {unit : c.Unit} {role : Role} (program : Program) (criterion : Criterion) (e : c.Expression) (o : Objective) → Stands unit role o.place e → IsFound unit program criterion o
    → MayStand unit program criterion role o.place e o o.form
stands_at {unit} {role} program criterion e o s (found_at_start type d body form there at_it) =
    absurd (no_expression (same_node o.place there (subst (GoOn unit o.place) (expression_node e) s.stand.there)))
  where
    no_expression : {x : c.External} {y : c.Expression} → an_external x ≡ an_expression y → ⊥
    no_expression is = cc
stands_at {unit} {role} program criterion e o s (found_in_front other form there whole opened test_or_value at_it) =
    subst (MayStand unit program criterion role o.place e o) (sym form)
    (stands_in_front program criterion o.place e other o (node_there o.place e other s.stand.there there) s whole opened test_or_value at_it)
stands_at {unit} {role} program criterion e o s (found_around k other form there whole opened what it among core_is_at decided_is at_it) =
    subst (MayStand unit program criterion role o.place e o) (sym form) (stands_around program criterion k o.place e other o what it s there opened among core_is_at decided_is at_it)

pub may_stand : (unit : c.Unit) (program : Program) (criterion : Criterion) (role : Role) (k : ℕ) (e : c.Expression) (o : Objective) → Stands unit role k e
    → IsAmong o (objectives unit program criterion) → o.place ≡ k → MayStand unit program criterion role k e o o.form
may_stand unit program criterion role k e o s among place =
    subst (λ n. MayStand unit program criterion role n e o o.form) place
    (stands_at program criterion e o (subst (λ n. Stands unit role n e) (sym place) s) (found unit program criterion o among))

-- an objective around an expression is of its core
pub around_core : {unit : c.Unit} {role : Role} (program : Program) (criterion : Criterion) (k : ℕ) (e : c.Expression) (o : Objective) (n : ℕ) (x : Node) → Stands unit role k e
    → IsAmong o (at_node unit program criterion (record { number = n; node = x })) → o.form ≡ around → o.place ≡ k → n ≡ (core k e).number
around_core {unit} {role} program criterion k e o n x s h form place =
    let t = test_of_either unit n o.place (around_decided unit program criterion o n x h form) in
    let decided_is : (t.1).decided ≡ k = t.4 ∙ place in
    elim (s.stand.tests t.0 t.1 k t.2 (inr decided_is) (at_itself k e)) [
      | inl g ↦ sym t.3 ∙ ap (λ p. p.number) (decided_here role k e t.0 t.1 g decided_is).1
      | inr i ↦ let later : k < k = behind_first t.0 k (in_expression e) t.1 k i (inr decided_is) in absurd (omega arith)
    ]

-- ---- at the start of functions

start_at : {unit : c.Unit} {type : c.Specifiers} {d : c.Declarator} {body : c.Items} (program : Program) (criterion : Criterion) (o : Objective)
    → AreUntested unit o.place (in_external (c.Defines type d body)) → IsFound unit program criterion o → (o.form ≡ at_start) × IsAmong o (all_at o.place at_start criterion (at_body unit program criterion o.place))
start_at program criterion o s (found_at_start type d body form there at_it) = (form, at_it)
start_at program criterion o s (found_in_front other form there whole opened test_or_value at_it) = absurd (no_external (same_node o.place there s.there))
  where
    no_external : {x : c.External} {y : c.Expression} → an_expression y ≡ an_external x → ⊥
    no_external is = cc
start_at {unit} {type} {d} {body} program criterion o s (found_around k other form there whole opened what it among core_is_at decided_is at_it) =
    elim (s.tests what it o.place among (inr decided_is) (omega arith, omega arith)) [
      | inl t ↦ absurd t
      | inr i ↦ let later : o.place < o.place = behind_first what o.place (in_external (c.Defines type d body)) it o.place i (inr decided_is) in absurd (omega arith)
    ]

pub starts : (unit : c.Unit) (program : Program) (criterion : Criterion) (k : ℕ) (type : c.Specifiers) (d : c.Declarator) (body : c.Items) (o : Objective)
    → AreUntested unit k (in_external (c.Defines type d body)) → IsAmong o (objectives unit program criterion) → o.place ≡ k
    → (o.form ≡ at_start) × IsAmong o (all_at k at_start criterion (at_body unit program criterion k))
starts unit program criterion k type d body o s among place =
    subst (λ n. (o.form ≡ at_start) × IsAmong o (all_at n at_start criterion (at_body unit program criterion n))) place
    (start_at {type = type} {d = d} {body = body} program criterion o (subst (λ n. AreUntested unit n (in_external (c.Defines type d body))) (sym place) s) (found unit program criterion o among))

-- ---- where no label stands

none_found : {unit : c.Unit} {k : ℕ} {xs : List Node} {given : Tests → Test → Type 0} (program : Program) (criterion : Criterion) (o : Objective) → Closed xs
    → ((what : Tests) (it : Test) → given what it → IsWithin k (length xs) it.core.number) → RunStands unit k xs given → AreClosed unit program k (length xs)
    → IsWithin k (length xs) o.place → IsFound unit program criterion o → o.form ≡ at_start
none_found program criterion o closed_xs cores s are w (found_at_start type d body form there at_it) = form
none_found program criterion o closed_xs cores s are w (found_in_front other form there whole opened test_or_value at_it) = absurd (false≢true (sym (are o.place w) ∙ opened))
none_found {unit} {k} {xs} program criterion o closed_xs cores s are w (found_around j other form there whole opened what it among core_is_at decided_is at_it) =
    let inside : IsWithin k (length xs) it.core.number = elim (s.tests what it o.place among (inr decided_is) w) [
      | inl t ↦ cores what it t
      | inr i ↦ let low : k < it.core.number = behind_first what k xs it it.core.number i (inl refl) in (omega arith, within_run what k it it.core.number closed_xs i (inl refl))
    ] in
    absurd (false≢true (sym (are j (subst (IsWithin k (length xs)) core_is_at inside)) ∙ opened))

-- no objective but those at the starts of functions stands among nodes that are closed
pub none_in_run : {unit : c.Unit} {k : ℕ} {xs : List Node} (program : Program) (criterion : Criterion) (o : Objective) → Closed xs → AreUntested unit k xs → AreClosed unit program k (length xs)
    → IsAmong o (objectives unit program criterion) → IsWithin k (length xs) o.place → o.form ≡ at_start
none_in_run {unit} {k} {xs} program criterion o closed_xs s are among w = none_found program criterion o closed_xs (λ what it g. absurd g) s are w (found unit program criterion o among)

pub none_in_expression : {unit : c.Unit} {role : Role} {k : ℕ} (program : Program) (criterion : Criterion) (e : c.Expression) (o : Objective) → Stands unit role k e
    → AreClosed unit program k (length (in_expression e)) → IsAmong o (objectives unit program criterion) → IsWithin k (length (in_expression e)) o.place → o.form ≡ at_start
none_in_expression {unit} {role} {k} program criterion e o s are among w =
    none_found program criterion o (closed.expression e) (λ what it g. let t = any_test role k e what it g in (is_of what t.0 k e it t.2).core) s.stand are w (found unit program criterion o among)
