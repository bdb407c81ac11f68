-- Roles of expressions, and what they leave for the nodes inside.
use Rattle.std.proofs.Common.{◌≡◌, inl, inr, sym, ap, ◌∙◌, subst, ℕ, suc, ◌+◌, ◌<◌, ◌≤◌, List, [], ◌∷◌, ◌++◌, length, true, false, not, ◌||◌, ◌==◌, drop, zero, Option, Some, None, length-append, arith}
use Rattle.std.specs.List.{list_any}
use Rattle.std.proofs.lemmas.Bool.Decides.{nat_tests}
use Rattle.lt_tree.specs.Tree as c
use Rattle.lt_tree.specs.Nodes.{Node, an_expression, in_expression, nodes}
use Rattle.lt_objectives.specs.Places.{sites, sites_from, core, is_at, place_operands, is_value_position}
use Rattle.lt_objectives.specs.Decisions.{Test, test_at, decision_of, clauses_of, controlling}
use Rattle.lt_decisions.specs.declared.turn.Tests.{Tests}
use Rattle.lt_decisions.specs.declared.turn.Tests.TheVariants as tests
use Rattle.lt_decisions.specs.Walk.{tests_of}
use Rattle.lt_decisions.proofs.Closed.{Closed, both}
use Rattle.lt_decisions.proofs.AllTests.{no_test}
use Rattle.lt_objective_places.specs.Stands.{IsAmong, GoOn, IsAbout, RunStands, none, AreUntested, Role, in_test, in_truth, as_value, as_place, IsBefore, tests_as, Stands}
use Rattle.lt_objective_places.proofs.Among.{any_of}
use Rattle.lt_objective_places.proofs.Runs.{with_given, front, back, inside}

-- ---- roles

-- nodes at the same number
pub at_number : {unit : c.Unit} {k j : ℕ} {xs : List Node} → k ≡ j → AreUntested unit k xs → AreUntested unit j xs
at_number {unit} {k} {j} {xs} is s = subst (λ n. AreUntested unit n xs) is s

-- an expression of which no test from around is
pub value : {unit : c.Unit} {k : ℕ} (e : c.Expression) → AreUntested unit k (in_expression e) → Stands unit as_value k e
value e s = record { stand = s; place = λ is. absurd cc }

pub operand_place : {unit : c.Unit} {k : ℕ} (e : c.Expression) → AreUntested unit k (in_expression e) → is_value_position unit (core k e).number ≡ false → Stands unit as_place k e
operand_place e s is = record { stand = s; place = λ role. is }

-- what has a role has those that say less
pub any_test : (role : Role) (k : ℕ) (e : c.Expression) (what : Tests) (it : Test) → tests_as role k e what it → (after : Option ℕ) × IsBefore after k × IsAmong it (tests_of what after k e)
any_test in_test k e what it h = h
any_test in_truth k e what it h = (Some h.0, h.1, h.2)
any_test as_value k e what it h = absurd h
any_test as_place k e what it h = absurd h

pub as_a_test : {unit : c.Unit} {role : Role} {k : ℕ} {e : c.Expression} → Stands unit role k e → Stands unit in_test k e
as_a_test {unit} {role} {k} {e} s = record { stand = with_given (tests_as in_test k e) s.stand (λ what it n g about w. any_test role k e what it g); place = λ is. absurd cc }

pub as_a_truth : {unit : c.Unit} {k : ℕ} {e : c.Expression} → Stands unit as_value k e → Stands unit in_truth k e
as_a_truth {unit} {k} {e} s = record { stand = with_given (tests_as in_truth k e) s.stand (λ what it n g about w. absurd g); place = λ is. absurd cc }

pub as_a_value : {unit : c.Unit} {k : ℕ} {e : c.Expression} → Stands unit as_place k e → Stands unit as_value k e
as_a_value {unit} {k} {e} s = value e s.stand

-- ---- inside an expression that is no part of the test that it may be

-- an expression with its tests alone
pub record IsWhole (e : c.Expression) : Type 0 where
  pub decision : (after : Option ℕ) (k : ℕ) → decision_of after k e ≡ test_at after k e
  pub clauses : (after : Option ℕ) (k : ℕ) → clauses_of after k e ≡ test_at after k e ∷ []

test_is : (what : Tests) (after : Option ℕ) (k : ℕ) (e : c.Expression) (it : Test) → IsWhole e → IsAmong it (tests_of what after k e) → test_at after k e ≡ it
test_is tests.Decisions after k e it whole (inl is) = sym (whole.decision after k) ∙ is
test_is tests.Decisions after k e it whole (inr i) = absurd i
test_is tests.Clauses after k e it whole h = only (test_at after k e) it (subst (IsAmong it) (whole.clauses after k) h)
  where
    only : (x it : Test) → IsAmong it (x ∷ []) → x ≡ it
    only x it (inl is) = is
    only x it (inr i) = absurd i

-- it is about no number behind its own
pub about_first : (after : Option ℕ) (k : ℕ) (e : c.Expression) (it : Test) (n : ℕ) → IsBefore after k → test_at after k e ≡ it → IsAbout it n → n ≤ k
about_first after k e it n before is (inl core) = let same : k ≡ it.core.number = ap (λ (t : Test). t.core.number) is in omega arith
about_first None k e it n before is (inr decided) = let same : k ≡ it.decided = ap (λ (t : Test). t.decided) is in omega arith
about_first (Some a) k e it n before is (inr decided) = let same : a ≡ it.decided = ap (λ (t : Test). t.decided) is in let less : a < k = before in omega arith

pub not_behind : (role : Role) (k : ℕ) (e : c.Expression) (what : Tests) (it : Test) (n : ℕ) → IsWhole e → tests_as role k e what it → IsAbout it n → k < n → ⊥
not_behind role k e what it n whole h about less =
    let t = any_test role k e what it h in
    let no_more : n ≤ k = about_first t.0 k e it n t.1 (test_is what t.0 k e it whole t.2) about in
    omega arith

-- behind the first node of such an expression, if it controls nothing
pub inside_whole : {unit : c.Unit} {role : Role} {k : ℕ} (e : c.Expression) (xs : List Node) → in_expression e ≡ an_expression e ∷ xs → IsWhole e → controlling k (an_expression e) ≡ [] → Stands unit role k e
    → AreUntested unit (k + 1) xs
inside_whole {unit} {role} {k} e xs is whole none_is s =
    let begun : RunStands unit k (an_expression e ∷ xs) (tests_as role k e) = subst (λ ys. RunStands unit k ys (tests_as role k e)) is s.stand in
    with_given none (inside begun) (λ what it n g about w.
    let low : k + 1 ≤ n = w.0 in
    elim g [ inl t ↦ not_behind role k e what it n whole t about (omega arith) | inr i ↦ subst (IsAmong it) (no_test what k (an_expression e) none_is) i ])

-- two parts, three parts
pub two : {unit : c.Unit} {k : ℕ} (a b : List Node) → Closed a → AreUntested unit k (a ++ b) → AreUntested unit k a × AreUntested unit (k + length a) b
two a b closed s = (front a b s, back b closed s)

pub three : {unit : c.Unit} {k : ℕ} (a b d : List Node) → Closed a → Closed b → AreUntested unit k (a ++ b ++ d)
    → AreUntested unit k a × AreUntested unit (k + length a) b × AreUntested unit (k + length a + length b) d
three {unit} {k} a b d first second s =
    let it = two a b first (front (a ++ b) d s) in
    let same : k + length (a ++ b) ≡ k + length a + length b = omega (arith, length-append a b) in
    (it.0, it.1, at_number same (back d (both first second) s))

-- ---- places

site_among : (j k : ℕ) (list : List Node) (x : Node) (xs : List Node) → drop k list ≡ x ∷ xs → IsAmong (record { number = j + k; node = x }) (sites_from j list)
site_among j k [] x xs is = absurd (nothing k x xs is)
  where
    nothing : (k : ℕ) (x : Node) (xs : List Node) → drop k [] ≡ x ∷ xs → ⊥
    nothing zero x xs is = cc
    nothing (suc k) x xs is = cc
site_among j zero (y ∷ ys) x xs is =
    let same : y ≡ x = cc in
    let none_more : j ≡ j + 0 = omega arith in
    inl (ap (λ n. record { number = n; node = y }) none_more ∙ ap (λ z. record { number = j + 0; node = z }) same)
site_among j (suc k) (y ∷ ys) x xs is =
    let more : j + 1 + k ≡ j + suc k = omega arith in
    inr (subst (λ n. IsAmong (record { number = n; node = x }) (sites_from (j + 1) ys)) more (site_among (j + 1) k ys x xs is))

-- the first node of a run is among those of the unit, with its number
pub site_there : {unit : c.Unit} {k : ℕ} {x : Node} {xs : List Node} → GoOn unit k (x ∷ xs) → IsAmong (record { number = k; node = x }) (sites unit)
site_there {unit} {k} {x} {xs} s = let same : 0 + k ≡ k = omega arith in subst (λ n. IsAmong (record { number = n; node = x }) (sites unit)) same (site_among 0 k (nodes unit) x (xs ++ s.behind) s.are)

same_number : (n : ℕ) → (n == n) ≡ true
same_number n = grind (arith, nat_tests)

pub no_value : {unit : c.Unit} {k : ℕ} {x : Node} {xs : List Node} (j : ℕ) (e : c.Expression) → place_operands (record { number = k; node = x }) ≡ core j e ∷ [] → GoOn unit k (x ∷ xs)
    → is_value_position unit (core j e).number ≡ false
no_value {unit} {k} {x} {xs} j e is s =
    let n = (core j e).number in
    let here : list_any (is_at n) (place_operands (record { number = k; node = x })) ≡ true = ap (list_any (is_at n)) is ∙ ap (λ b. b || false) (same_number n) in
    ap not (any_of (λ site. list_any (is_at n) (place_operands site)) (record { number = k; node = x }) (sites unit) (site_there s) here)
