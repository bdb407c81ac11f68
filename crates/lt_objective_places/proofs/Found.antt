-- Where objectives stand, by the nodes of the unit.
use Rattle.std.proofs.Common.{◌≡◌, ◌⊎◌, inl, inr, refl, sym, ap, ◌∙◌, subst, ℕ, zero, suc, ◌+◌, List, [], ◌∷◌, ◌++◌, drop, Bool, true, false, ◌&&◌, if◌then◌else◌, eqb, Option, Some, arith}
use Rattle.std.specs.List.{slice_get}
use Rattle.std.proofs.lemmas.Bool.{eqb-true}
use Rattle.lt_tree.specs.Tree as c
use Rattle.lt_tree.specs.Nodes.{Node, an_external, an_expression, nodes}
use Rattle.lt_tree.specs.Erasure.{erased}
use Rattle.lt_tree.specs.Typing.Programs.{Program}
use Rattle.lt_objectives.specs.declared.criteria.Criterion.{Criterion}
use Rattle.lt_objectives.specs.declared.criteria.Criterion.TheVariants as C
use Rattle.lt_objectives.specs.Places.{Site, sites, sites_from, is_open, is_value_position}
use Rattle.lt_objectives.specs.Decisions.{Test, decisions, clauses, has_few_clauses, negation, clause_list, conjunctions, active_clauses}
use Rattle.lt_objectives.specs.Copies.{is_core, can_be_copied}
use Rattle.lt_objectives.specs.Objectives.{Form, at_start, in_front, around, Objective, objective, all_at, at_body, decided_at, combinations, at_test, differences, at_expression, at_node, objectives}
use Rattle.lt_decisions.specs.declared.turn.Tests.{Tests}
use Rattle.lt_decisions.specs.declared.turn.Tests.TheVariants as tests
use Rattle.lt_decisions.specs.Walk.{tests_in}
use Rattle.lt_objective_places.specs.Stands.{IsAmong, GoOn}
use Rattle.lt_objective_places.proofs.Among.{in_either, given_by, image_of}

-- ---- one node at each number

pub get_site : (j : ℕ) (list : List Node) (site : Site) → IsAmong site (sites_from j list) → (i : ℕ) × (site.number ≡ j + i) × (slice_get list i ≡ Some site.node)
get_site j [] site h = absurd h
get_site j (x ∷ xs) site (inl is) =
    let number : j ≡ site.number = ap (λ (it : Site). it.number) is in
    let node : x ≡ site.node = ap (λ (it : Site). it.node) is in
    (0, omega arith, ap Some node)
get_site j (x ∷ xs) site (inr h) = let it = get_site (j + 1) xs site h in (suc it.0, omega (arith, it.1), it.2)

pub get_first : {X : Type 0} (k : ℕ) (list : List X) (x : X) (rest : List X) → drop k list ≡ x ∷ rest → slice_get list k ≡ Some x
get_first zero [] x rest is = absurd cc
get_first (suc k) [] x rest is = absurd cc
get_first zero (y ∷ ys) x rest is = cc
get_first (suc k) (y ∷ ys) x rest is = get_first k ys x rest is

pub same_node : {unit : c.Unit} (k : ℕ) {x y : Node} {xs : List Node} → IsAmong (record { number = k; node = y }) (sites unit) → GoOn unit k (x ∷ xs) → y ≡ x
same_node {unit} k {x} {y} {xs} among s =
    let it = get_site 0 (nodes unit) (record { number = k; node = y }) among in
    let same : it.0 ≡ k = omega (arith, it.1) in
    let here : slice_get (nodes unit) k ≡ Some x = get_first k (nodes unit) x (xs ++ s.behind) s.are in
    let there : slice_get (nodes unit) k ≡ Some y = subst (λ n. slice_get (nodes unit) n ≡ Some y) same it.2 in
    cc

-- ---- tests

by_number : (same : Bool) (k : ℕ) (it : Test) (rest : List Test) (d : ℕ) → eqb it.core.number k ≡ same → (if same then Some it.decided else decided_at rest k) ≡ Some d
    → ((it.core.number ≡ k) × (it.decided ≡ d)) ⊎ (decided_at rest k ≡ Some d)
by_number true k it rest d e is = let decided : it.decided ≡ d = cc in inl (eqb-true it.core.number k e, decided)
by_number false k it rest d e is = inr is

-- what is decided at a number is so by a test
pub decided_by : (list : List Test) (k d : ℕ) → decided_at list k ≡ Some d → (it : Test) × IsAmong it list × (it.core.number ≡ k) × (it.decided ≡ d)
decided_by [] k d is = absurd cc
decided_by (it ∷ rest) k d is =
    elim (by_number (eqb it.core.number k) k it rest d refl is) [
      | inl here ↦ (it, inl refl, here.0, here.1)
      | inr more ↦ let other = decided_by rest k d more in (other.0, inr other.1, other.2, other.3)
    ]

-- ---- objectives

when : {X : Type 0} (b : Bool) (x : X) (xs : List X) → IsAmong x (if b then xs else []) → (b ≡ true) × IsAmong x xs
when true x xs h = (refl, h)
when false x xs h = absurd h

both_true : (a b : Bool) → (a && b) ≡ true → (a ≡ true) × (b ≡ true)
both_true true true is = (refl, refl)
both_true true false is = absurd cc
both_true false b is = absurd cc

-- all at one place have the place and the form
pub of_all : (place : ℕ) (form : Form) (criterion : Criterion) (list : List c.Expression) (o : Objective) → IsAmong o (all_at place form criterion list) → (o.place ≡ place) × (o.form ≡ form)
of_all place form criterion list o h =
    let it = image_of (objective place form criterion) o list h in
    (ap (λ (x : Objective). x.place) (sym it.2), ap (λ (x : Objective). x.form) (sym it.2))

-- an objective at a test at number k: in front of it, or around what is decided
pub data AtTest (k : ℕ) (decision clause : Option ℕ) (o : Objective) : Type 0 where
  in_front_of_test : (d : ℕ) → (decision ≡ Some d) ⊎ (clause ≡ Some d) → o.place ≡ k → o.form ≡ in_front → AtTest k decision clause o
  around_test : (decision ≡ Some o.place) ⊎ (clause ≡ Some o.place) → o.form ≡ around → AtTest k decision clause o

of_truths : (criterion : Criterion) (k d : ℕ) (e : c.Expression) (decision clause : Option ℕ) (o : Objective) (pure : Bool) → (decision ≡ Some d) ⊎ (clause ≡ Some d)
    → IsAmong o (if pure then all_at k in_front criterion (e ∷ negation e ∷ []) else objective d around criterion e ∷ []) → AtTest k decision clause o
of_truths criterion k d e decision clause o true is h = let it = of_all k in_front criterion (e ∷ negation e ∷ []) o h in in_front_of_test d is it.0 it.1
of_truths criterion k d e decision clause o false is (inl one) =
    let place : d ≡ o.place = ap (λ (x : Objective). x.place) one in
    around_test (subst (λ n. (decision ≡ Some n) ⊎ (clause ≡ Some n)) place is) (ap (λ (x : Objective). x.form) (sym one))
of_truths criterion k d e decision clause o false is (inr h) = absurd h

of_combinations : (criterion : Criterion) (copied : Bool) (k d : ℕ) (predicates : c.Expression → List c.Expression) (e : c.Expression) (decision clause : Option ℕ) (o : Objective) → (decision ≡ Some d) ⊎ (clause ≡ Some d)
    → IsAmong o (combinations criterion copied k predicates e) → AtTest k decision clause o
of_combinations criterion copied k d predicates e decision clause o is h =
    let some = when (copied && has_few_clauses (erased e)) o (all_at k in_front criterion (predicates (erased e))) h in
    let it = of_all k in_front criterion (predicates (erased e)) o some.1 in
    in_front_of_test d is it.0 it.1

pub of_test : (criterion : Criterion) (copied : Bool) (decision clause : Option ℕ) (k : ℕ) (e : c.Expression) (o : Objective) → IsAmong o (at_test criterion copied decision clause k e) → AtTest k decision clause o
of_test C.Decision copied (Some d) clause k e o h = of_truths C.Decision k d (erased e) (Some d) clause o copied (inl refl) h
of_test C.Condition copied decision (Some d) k e o h = of_truths C.Condition k d (erased e) decision (Some d) o copied (inr refl) h
of_test C.MultipleCondition copied (Some d) clause k e o h = of_combinations C.MultipleCondition copied k d (λ d. conjunctions (clause_list d)) e (Some d) clause o (inl refl) h
of_test C.GeneralActiveClause copied (Some d) clause k e o h = of_combinations C.GeneralActiveClause copied k d active_clauses e (Some d) clause o (inl refl) h
of_test _ copied decision clause k e o h = absurd h

-- Where an objective stands: at the start of a function; in front of an expression that a label may stand in front of, which is a test or a value; or
-- around what is decided of such an expression.
pub data IsFound (unit : c.Unit) (program : Program) (criterion : Criterion) (o : Objective) : Type 0 where
  found_at_start : (type : c.Specifiers) (d : c.Declarator) (body : c.Items) → o.form ≡ at_start → IsAmong (record { number = o.place; node = an_external (c.Defines type d body) }) (sites unit)
      → IsAmong o (all_at o.place at_start criterion (at_body unit program criterion o.place)) → IsFound unit program criterion o
  found_in_front : (e : c.Expression) → o.form ≡ in_front → IsAmong (record { number = o.place; node = an_expression e }) (sites unit) → is_core e ≡ true → is_open unit program o.place ≡ true
      → ((what : Tests) × (it : Test) × IsAmong it (tests_in what unit) × (it.core.number ≡ o.place)) ⊎ (is_value_position unit o.place ≡ true)
      → IsAmong o (at_expression unit program criterion o.place e) → IsFound unit program criterion o
  found_around : (k : ℕ) (e : c.Expression) → o.form ≡ around → IsAmong (record { number = k; node = an_expression e }) (sites unit) → is_core e ≡ true → is_open unit program k ≡ true
      → (what : Tests) (it : Test) → IsAmong it (tests_in what unit) → it.core.number ≡ k → it.decided ≡ o.place
      → IsAmong o (at_expression unit program criterion k e) → IsFound unit program criterion o

-- a test of either kind
pub test_of_either : (unit : c.Unit) (k d : ℕ) → (decided_at (decisions unit) k ≡ Some d) ⊎ (decided_at (clauses unit) k ≡ Some d)
    → (what : Tests) × (it : Test) × IsAmong it (tests_in what unit) × (it.core.number ≡ k) × (it.decided ≡ d)
test_of_either unit k d (inl is) = let it = decided_by (decisions unit) k d is in (tests.Decisions, it.0, it.1, it.2, it.3)
test_of_either unit k d (inr is) = let it = decided_by (clauses unit) k d is in (tests.Clauses, it.0, it.1, it.2, it.3)

module _ (unit : c.Unit) (program : Program) (criterion : Criterion) (o : Objective) (k : ℕ) (e : c.Expression)
    (among : IsAmong (record { number = k; node = an_expression e }) (sites unit)) (is_a_core : is_core e ≡ true) (opened : is_open unit program k ≡ true)
    (at_it : IsAmong o (at_expression unit program criterion k e)) where
  found_test : AtTest k (decided_at (decisions unit) k) (decided_at (clauses unit) k) o → IsFound unit program criterion o
  found_test (in_front_of_test d is place form) =
      let t = test_of_either unit k d is in
      found_in_front e form (subst (λ n. IsAmong (record { number = n; node = an_expression e }) (sites unit)) (sym place) among) is_a_core (ap (is_open unit program) place ∙ opened)
      (inl (t.0, t.1, t.2, t.3 ∙ sym place)) (subst (λ n. IsAmong o (at_expression unit program criterion n e)) (sym place) at_it)
  found_test (around_test is form) = let t = test_of_either unit k o.place is in found_around k e form among is_a_core opened t.0 t.1 t.2 t.3 t.4 at_it

  found_value : IsAmong o (differences unit program criterion k e) → IsFound unit program criterion o
  found_value h =
      let some = when (can_be_copied unit k e && is_value_position unit k) o _ h in
      let it = of_all k in_front criterion _ o some.1 in
      let place : o.place ≡ k = it.0 in
      found_in_front e it.1 (subst (λ n. IsAmong (record { number = n; node = an_expression e }) (sites unit)) (sym place) among) is_a_core (ap (is_open unit program) place ∙ opened)
      (inr (ap (is_value_position unit) place ∙ (both_true (can_be_copied unit k e) (is_value_position unit k) some.0).1)) (subst (λ n. IsAmong o (at_expression unit program criterion n e)) (sym place) at_it)

found_expression : (unit : c.Unit) (program : Program) (criterion : Criterion) (o : Objective) (k : ℕ) (e : c.Expression) → IsAmong (record { number = k; node = an_expression e }) (sites unit)
    → IsAmong o (at_expression unit program criterion k e) → IsFound unit program criterion o
found_expression unit program criterion o k e among h =
    let test = at_test criterion (can_be_copied unit k e) (decided_at (decisions unit) k) (decided_at (clauses unit) k) k e in
    let some = when (is_core e && is_open unit program k) o (test ++ differences unit program criterion k e) h in
    let both = both_true (is_core e) (is_open unit program k) some.0 in
    elim (in_either o test (differences unit program criterion k e) some.1) [
      | inl i ↦ found_test unit program criterion o k e among both.0 both.1 h (of_test criterion (can_be_copied unit k e) (decided_at (decisions unit) k) (decided_at (clauses unit) k) k e o i)
      | inr i ↦ found_value unit program criterion o k e among both.0 both.1 h i
    ]

found_node : (unit : c.Unit) (program : Program) (criterion : Criterion) (o : Objective) (k : ℕ) (x : Node) → IsAmong (record { number = k; node = x }) (sites unit)
    → IsAmong o (at_node unit program criterion (record { number = k; node = x })) → IsFound unit program criterion o
found_node unit program criterion o k (an_external (c.Defines type d body)) among h =
    let it = of_all k at_start criterion (at_body unit program criterion k) o h in
    let place = sym it.0 in
    found_at_start type d body it.1 (subst (λ n. IsAmong (record { number = n; node = an_external (c.Defines type d body) }) (sites unit)) place among)
    (subst (λ n. IsAmong o (all_at n at_start criterion (at_body unit program criterion n))) place h)
found_node unit program criterion o k (an_expression e) among h = found_expression unit program criterion o k e among h
found_node unit program criterion o k x among h = absurd h

pub found : (unit : c.Unit) (program : Program) (criterion : Criterion) (o : Objective) → IsAmong o (objectives unit program criterion) → IsFound unit program criterion o
found unit program criterion o h =
    let it = given_by (at_node unit program criterion) o (sites unit) h in found_node unit program criterion o (it.0).number (it.0).node it.1 it.2

-- ---- places of the objectives of one node

-- what an expression has is at a test, or in front of a value
of_expression : (unit : c.Unit) (program : Program) (criterion : Criterion) (o : Objective) (k : ℕ) (e : c.Expression) → IsAmong o (at_expression unit program criterion k e)
    → AtTest k (decided_at (decisions unit) k) (decided_at (clauses unit) k) o ⊎ ((o.place ≡ k) × (o.form ≡ in_front))
of_expression unit program criterion o k e h =
    let test = at_test criterion (can_be_copied unit k e) (decided_at (decisions unit) k) (decided_at (clauses unit) k) k e in
    let some = when (is_core e && is_open unit program k) o (test ++ differences unit program criterion k e) h in
    elim (in_either o test (differences unit program criterion k e) some.1) [
      | inl i ↦ inl (of_test criterion (can_be_copied unit k e) (decided_at (decisions unit) k) (decided_at (clauses unit) k) k e o i)
      | inr i ↦ inr (of_all k in_front criterion _ o (when (can_be_copied unit k e && is_value_position unit k) o _ i).1)
    ]

-- one that isn't around an expression has the number of the node
pub own_place : (unit : c.Unit) (program : Program) (criterion : Criterion) (o : Objective) (k : ℕ) (x : Node) → IsAmong o (at_node unit program criterion (record { number = k; node = x }))
    → (o.form ≡ around → ⊥) → o.place ≡ k
own_place unit program criterion o k (an_external (c.Defines type d body)) h other = (of_all k at_start criterion (at_body unit program criterion k) o h).0
own_place unit program criterion o k (an_expression e) h other =
    elim (of_expression unit program criterion o k e h) [ inl t ↦ by_test t | inr v ↦ v.0 ]
  where
    by_test : {decision clause : Option ℕ} → AtTest k decision clause o → o.place ≡ k
    by_test (in_front_of_test d is place f) = place
    by_test (around_test is f) = absurd (other f)
own_place unit program criterion o k x h other = absurd h

pub around_decided : (unit : c.Unit) (program : Program) (criterion : Criterion) (o : Objective) (k : ℕ) (x : Node) → IsAmong o (at_node unit program criterion (record { number = k; node = x })) → o.form ≡ around
    → (decided_at (decisions unit) k ≡ Some o.place) ⊎ (decided_at (clauses unit) k ≡ Some o.place)
around_decided unit program criterion o k (an_external (c.Defines type d body)) h form = let start = (of_all k at_start criterion (at_body unit program criterion k) o h).1 in absurd cc
around_decided unit program criterion o k (an_expression e) h form =
    elim (of_expression unit program criterion o k e h) [ inl t ↦ by_test t form | inr v ↦ let in_front_is = v.1 in absurd cc ]
  where
    by_test : {decision clause : Option ℕ} → AtTest k decision clause o → o.form ≡ around → (decision ≡ Some o.place) ⊎ (clause ≡ Some o.place)
    by_test (in_front_of_test d is place f) form = absurd cc
    by_test (around_test is f) form = is
around_decided unit program criterion o k x h form = absurd h
