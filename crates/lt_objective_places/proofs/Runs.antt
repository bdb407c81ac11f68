-- Runs of nodes that stand in a unit, and their parts.
use Rattle.std.proofs.Common.{◌≡◌, ◌⊎◌, inl, inr, refl, sym, ap, ◌∙◌, subst, ℕ, suc, ◌+◌, ◌<◌, ◌≤◌, List, [], ◌∷◌, ◌++◌, length, drop, Some, None, append_assoc, length-append, arith}
use Rattle.std.specs.List.{flat_map}
use Rattle.std.proofs.lemmas.List.{append-nil, drop-drop}
use Rattle.std.proofs.lemmas.Grind.{flat_map-append}
use Rattle.lt_tree.specs.Tree as c
use Rattle.lt_tree.specs.Nodes.{Node, a_statement, an_expression, in_expression, in_statement, in_start, in_optional, nodes}
use Rattle.lt_sites.specs.Sites.{in_node}
use Rattle.lt_objectives.specs.Places.{sites_from, part}
use Rattle.lt_objectives.specs.Decisions.{Test, controlling}
use Rattle.lt_decisions.specs.declared.turn.Tests.{Tests}
use Rattle.lt_decisions.specs.Walk.{tests_of, tests_at, tests_in}
use Rattle.lt_decisions.proofs.Closed.{EachBegins, Closed}
use Rattle.lt_decisions.proofs.AllTests.{all_tests, no_test, one_test}
use Rattle.lt_objective_places.specs.Stands.{IsAmong, IsWithin, GoOn, IsAbout, tests_among, RunStands, none, AreUntested}
use Rattle.lt_objective_places.proofs.Among.{in_either}
use Rattle.lt_objective_places.proofs.Numbers.{IsInside, within}

-- ---- the tests of nodes

-- a node has no controlling expression, or one in its part
data Control (k : ℕ) (x : Node) : Type 0 where
  no_control : controlling k x ≡ [] → Control k x
  a_control : (m : ℕ) (test : c.Expression) → controlling k x ≡ part m test ∷ [] → k < m → m + length (in_expression test) ≤ k + length (in_node x) → Control k x

control : (k : ℕ) (x : Node) → Control k x
control k (a_statement (c.If test x)) = a_control (k + 1) test refl (omega arith) (omega (arith, length-append (in_expression test) (in_statement x)))
control k (a_statement (c.IfElse test x y)) =
    a_control (k + 1) test refl (omega arith) (omega (arith, length-append (in_expression test ++ in_statement x) (in_statement y), length-append (in_expression test) (in_statement x)))
control k (a_statement (c.While test x)) = a_control (k + 1) test refl (omega arith) (omega (arith, length-append (in_expression test) (in_statement x)))
control k (a_statement (c.Do x test)) = a_control (k + 1 + length (in_statement x)) test refl (omega arith) (omega (arith, length-append (in_statement x) (in_expression test)))
control k (a_statement (c.For start (Some test) step x)) =
    let first = in_start start ++ in_expression test in
    a_control (k + 1 + length (in_start start)) test refl (omega arith)
    (omega (arith, length-append (first ++ in_optional step) (in_statement x), length-append first (in_optional step), length-append (in_start start) (in_expression test)))
control k (an_expression (c.Conditional test left right)) =
    a_control (k + 1) test refl (omega arith) (omega (arith, length-append (in_expression test ++ in_expression left) (in_expression right), length-append (in_expression test) (in_expression left)))
control k x = no_control refl

-- the tests of a node's controlling expression are about numbers of its part behind it
of_node : (what : Tests) (k : ℕ) (x : Node) (it : Test) (n : ℕ) → IsAmong it (tests_at what (record { number = k; node = x })) → IsAbout it n → IsInside k (length (in_node x)) n
of_node what k x it n h about = by_control what k x it n (control k x) h about
  where
    by_control : (what : Tests) (k : ℕ) (x : Node) (it : Test) (n : ℕ) → Control k x → IsAmong it (tests_at what (record { number = k; node = x })) → IsAbout it n → IsInside k (length (in_node x)) n
    by_control what k x it n (no_control none_is) h about = absurd (subst (IsAmong it) (no_test what k x none_is) h)
    by_control what k x it n (a_control m test is first last) h about =
        let w = within what m test it n (subst (IsAmong it) (one_test what k x m test is) h) about in
        let low : m ≤ n = w.0 in
        let high : n < m + length (in_expression test) = w.1 in
        (omega arith, omega arith)

-- those of a run stand behind its first node
pub behind_first : (what : Tests) (k : ℕ) (xs : List Node) (it : Test) (n : ℕ) → IsAmong it (tests_among what k xs) → IsAbout it n → k < n
behind_first what k [] it n h about = absurd h
behind_first what k (x ∷ xs) it n h about =
    elim (in_either it (tests_at what (record { number = k; node = x })) (tests_among what (k + 1) xs) h) [
      | inl i ↦ (of_node what k x it n i about).0
      | inr i ↦ let more : k + 1 < n = behind_first what (k + 1) xs it n i about in omega arith
    ]

in_run : (what : Tests) (k : ℕ) (xs : List Node) (it : Test) (n : ℕ) → EachBegins xs → IsAmong it (tests_among what k xs) → IsAbout it n → n < k + length xs
in_run what k [] it n begins h about = absurd h
in_run what k (x ∷ xs) it n begins h about =
    elim (in_either it (tests_at what (record { number = k; node = x })) (tests_among what (k + 1) xs) h) [
      | inl i ↦ let less : n < k + length (in_node x) = (of_node what k x it n i about).1 in omega (arith, ap length begins.0.1, length-append (in_node x) begins.0.0)
      | inr i ↦ let less : n < k + 1 + length xs = in_run what (k + 1) xs it n begins.1 i about in omega arith
    ]

-- and within it, where each node begins its part
pub within_run : (what : Tests) (k : ℕ) {xs : List Node} (it : Test) (n : ℕ) → Closed xs → IsAmong it (tests_among what k xs) → IsAbout it n → n < k + length xs
within_run what k {xs} it n closed h about = in_run what k xs it n closed.begins h about

pub sites_of_both : (k : ℕ) (a b : List Node) → sites_from k (a ++ b) ≡ sites_from k a ++ sites_from (k + length a) b
sites_of_both k [] b = ap (λ n. sites_from n b) (zero_more k)
  where
    zero_more : (k : ℕ) → k ≡ k + 0
    zero_more k = omega arith
sites_of_both k (x ∷ a) b =
    let more : k + 1 + length a ≡ k + suc (length a) = omega arith in
    ap (λ rest. record { number = k; node = x } ∷ rest) (sites_of_both (k + 1) a b ∙ ap (λ n. sites_from (k + 1) a ++ sites_from n b) more)

of_both : (what : Tests) (k : ℕ) (a b : List Node) → tests_among what k (a ++ b) ≡ tests_among what k a ++ tests_among what (k + length a) b
of_both what k a b = ap (flat_map (tests_at what)) (sites_of_both k a b) ∙ flat_map-append (tests_at what) (sites_from k a) (sites_from (k + length a) b)

-- ---- parts of runs

-- all nodes of a unit
pub top : (unit : c.Unit) → AreUntested unit 0 (nodes unit)
top unit = record {
  there = record { behind = []; are = sym (append-nil (nodes unit)) };
  tests = λ what it n among about w. inr (subst (IsAmong it) (all_tests what unit) among);
}

-- with others that are given
pub with_given : {unit : c.Unit} {k : ℕ} {xs : List Node} {given : Tests → Test → Type 0} (other : Tests → Test → Type 0) → RunStands unit k xs given
    → ((what : Tests) (it : Test) (n : ℕ) → given what it → IsAbout it n → IsWithin k (length xs) n → other what it) → RunStands unit k xs other
with_given other s f = record { there = s.there; tests = λ what it n among about w. elim (s.tests what it n among about w) [ inl g ↦ inl (f what it n g about w) | inr i ↦ inr i ] }

go_on_front : {unit : c.Unit} {k : ℕ} (a b : List Node) → GoOn unit k (a ++ b) → GoOn unit k a
go_on_front a b s = record { behind = b ++ s.behind; are = s.are ∙ append_assoc a b s.behind }

past : (a ys : List Node) → drop (length a) (a ++ ys) ≡ ys
past [] ys = refl
past (x ∷ a) ys = past a ys

pub go_on_back : {unit : c.Unit} {k : ℕ} (a b : List Node) → GoOn unit k (a ++ b) → GoOn unit (k + length a) b
go_on_back {unit} {k} a b s = record {
  behind = s.behind;
  are = sym (drop-drop (length a) k (nodes unit)) ∙ ap (drop (length a)) (s.are ∙ append_assoc a b s.behind) ∙ past a (b ++ s.behind);
}

pub go_on_next : {unit : c.Unit} {k : ℕ} {x : Node} {xs : List Node} → GoOn unit k (x ∷ xs) → GoOn unit (k + 1) xs
go_on_next {unit} {k} {x} {xs} s = go_on_back (x ∷ []) xs s

pub front : {unit : c.Unit} {k : ℕ} {given : Tests → Test → Type 0} (a b : List Node) → RunStands unit k (a ++ b) given → RunStands unit k a given
front {unit} {k} {given} a b s = record { there = go_on_front a b s.there; tests = in_front }
  where
    in_front : (what : Tests) (it : Test) (n : ℕ) → IsAmong it (tests_in what unit) → IsAbout it n → IsWithin k (length a) n → given what it ⊎ IsAmong it (tests_among what k a)
    in_front what it n among about w =
        let low : k ≤ n = w.0 in
        let high : n < k + length a = w.1 in
        let both : IsWithin k (length (a ++ b)) n = (low, omega (arith, length-append a b)) in
        elim (s.tests what it n among about both) [
          | inl g ↦ inl g
          | inr h ↦ elim (in_either it (tests_among what k a) (tests_among what (k + length a) b) (subst (IsAmong it) (of_both what k a b) h)) [
            | inl i ↦ inr i
            | inr i ↦ let more : k + length a < n = behind_first what (k + length a) b it n i about in absurd (omega arith)
          ]
        ]

pub back : {unit : c.Unit} {k : ℕ} {given : Tests → Test → Type 0} {a : List Node} (b : List Node) → Closed a → RunStands unit k (a ++ b) given → RunStands unit (k + length a) b given
back {unit} {k} {given} {a} b closed s = record { there = go_on_back a b s.there; tests = in_back }
  where
    in_back : (what : Tests) (it : Test) (n : ℕ) → IsAmong it (tests_in what unit) → IsAbout it n → IsWithin (k + length a) (length b) n
        → given what it ⊎ IsAmong it (tests_among what (k + length a) b)
    in_back what it n among about w =
        let low : k + length a ≤ n = w.0 in
        let high : n < k + length a + length b = w.1 in
        let both : IsWithin k (length (a ++ b)) n = (omega arith, omega (arith, length-append a b)) in
        elim (s.tests what it n among about both) [
          | inl g ↦ inl g
          | inr h ↦ elim (in_either it (tests_among what k a) (tests_among what (k + length a) b) (subst (IsAmong it) (of_both what k a b) h)) [
            | inl i ↦ let less : n < k + length a = within_run what k it n closed i about in absurd (omega arith)
            | inr i ↦ inr i
          ]
        ]

-- ---- behind a node

abbrev pub BehindNode : (Tests → Test → Type 0) → ℕ → Node → Tests → Test → Type 0
BehindNode given k x what it = given what it ⊎ IsAmong it (tests_at what (record { number = k; node = x }))

pub inside : {unit : c.Unit} {k : ℕ} {x : Node} {xs : List Node} {given : Tests → Test → Type 0} → RunStands unit k (x ∷ xs) given → RunStands unit (k + 1) xs (BehindNode given k x)
inside {unit} {k} {x} {xs} {given} s = record { there = go_on_next s.there; tests = in_it }
  where
    in_it : (what : Tests) (it : Test) (n : ℕ) → IsAmong it (tests_in what unit) → IsAbout it n → IsWithin (k + 1) (length xs) n
        → BehindNode given k x what it ⊎ IsAmong it (tests_among what (k + 1) xs)
    in_it what it n among about w =
        let low : k + 1 ≤ n = w.0 in
        let high : n < k + 1 + length xs = w.1 in
        let both : IsWithin k (suc (length xs)) n = (omega arith, omega arith) in
        elim (s.tests what it n among about both) [
          | inl g ↦ inl (inl g)
          | inr h ↦ elim (in_either it (tests_at what (record { number = k; node = x })) (tests_among what (k + 1) xs) h) [ inl i ↦ inl (inr i) | inr i ↦ inr i ]
        ]

-- the tests of a controlling expression
abbrev pub of_test : ℕ → c.Expression → Tests → Test → Type 0
of_test m e what it = IsAmong it (tests_of what None m e)

-- behind a node that has none
pub uncontrolled : {unit : c.Unit} {k : ℕ} {x : Node} {xs : List Node} → controlling k x ≡ [] → AreUntested unit k (x ∷ xs) → AreUntested unit (k + 1) xs
uncontrolled {unit} {k} {x} {xs} none_is s = with_given none (inside s) (λ what it n g about w. elim g [ inl i ↦ i | inr i ↦ subst (IsAmong it) (no_test what k x none_is) i ])

pub controlled : {unit : c.Unit} {k : ℕ} {x : Node} {xs : List Node} {m : ℕ} {e : c.Expression} → controlling k x ≡ part m e ∷ [] → AreUntested unit k (x ∷ xs)
    → RunStands unit (k + 1) xs (of_test m e)
controlled {unit} {k} {x} {xs} {m} {e} is s =
    with_given (of_test m e) (inside s) (λ what it n g about w. elim g [ inl i ↦ absurd i | inr i ↦ subst (IsAmong it) (one_test what k x m e is) i ])

-- no test of a controlling expression is about what stands behind it, or before it
pub behind_test : {unit : c.Unit} {k : ℕ} {xs : List Node} {m : ℕ} {e : c.Expression} → m + length (in_expression e) ≤ k → RunStands unit k xs (of_test m e) → AreUntested unit k xs
behind_test {unit} {k} {xs} {m} {e} apart s =
    with_given none s (λ what it n g about w.
    let high : n < m + length (in_expression e) = (within what m e it n g about).1 in
    let low : k ≤ n = w.0 in
    omega arith)

pub before_test : {unit : c.Unit} {k : ℕ} {xs : List Node} {m : ℕ} {e : c.Expression} → k + length xs ≤ m → RunStands unit k xs (of_test m e) → AreUntested unit k xs
before_test {unit} {k} {xs} {m} {e} apart s =
    with_given none s (λ what it n g about w.
    let low : m ≤ n = (within what m e it n g about).0 in
    let high : n < k + length xs = w.1 in
    omega arith)
