-- The tests of a unit, node by node.
use Rattle.std.proofs.Common.{◌≡◌, refl, sym, ap, ◌∙◌, ℕ, zero, suc, ◌+◌, ◌<◌, ◌≤◌, List, [], ◌∷◌, ◌++◌, length, get_or, drop, replicate, map, Option, Some, None, arith}
use Rattle.std.specs.Prelude.{slice_get}
use Rattle.std.specs.List.{flat_map}
use Rattle.std.proofs.Math.ListN.{drop_of_length-le}
use Rattle.std.proofs.lemmas.List.{append-nil, length-map}
use Rattle.std.proofs.lemmas.Option.{slice_get-get_or}
use Rattle.lt_tree.specs.Tree as c
use Rattle.lt_tree.specs.Nodes.{Node, a_statement, nodes}
use Rattle.lt_objectives.specs.Places.{Site, sites, sites_from, part}
use Rattle.lt_objectives.specs.Decisions.{Test, controlling, decision_of, clauses_of}
use Rattle.lt_objectives.specs.Objectives.{decided_at}
use Rattle.lt_sites.specs.declared.site.Site.{Site as Held}
use Rattle.lt_sites.specs.Sites.{part_of, entry_of, AreSitesOf}
use Rattle.lt_decisions.specs.declared.turn.Tests.{Tests}
use Rattle.lt_decisions.specs.declared.turn.Tests.TheVariants as tests
use Rattle.lt_decisions.specs.Walk.{IsTest, tests_of, tests_at, tests_in, noted_all}
use Rattle.lt_decisions.proofs.Noted.{noted_both, noted_is, length-sites_from}

pub all_tests : (what : Tests) (unit : c.Unit) → tests_in what unit ≡ flat_map (tests_at what) (sites unit)
all_tests tests.Decisions unit = refl
all_tests tests.Clauses unit = refl

pub no_test : (what : Tests) (k : ℕ) (node : Node) → controlling k node ≡ [] → tests_at what (record { number = k; node = node }) ≡ []
no_test tests.Decisions k node e = ap (map (λ it. decision_of None it.number it.expression)) e
no_test tests.Clauses k node e = ap (flat_map (λ it. clauses_of None it.number it.expression)) e

pub one_test : (what : Tests) (k : ℕ) (node : Node) (first : ℕ) (e : c.Expression) → controlling k node ≡ part first e ∷ [] →
    tests_at what (record { number = k; node = node }) ≡ tests_of what None first e
one_test tests.Decisions k node first e is = ap (map (λ it. decision_of None it.number it.expression)) is
one_test tests.Clauses k node first e is = ap (flat_map (λ it. clauses_of None it.number it.expression)) is ∙ append-nil (clauses_of None first e)

sites_behind : (j k : ℕ) (node : Node) (list : List Node) → slice_get list k ≡ Some node →
    drop k (sites_from j list) ≡ record { number = j + k; node = node } ∷ drop (k + 1) (sites_from j list)
sites_behind j k node [] e =
    let nothing : None ≡ Some node = e in
    cc
sites_behind j zero node (x ∷ list) e =
    let rest = sites_from (j + 1) list in
    let is : x ≡ node = cc in
    let none : j ≡ j + 0 = omega arith in
    let at : ℕ → Node → List Site = λ n it. record { number = n; node = it } ∷ rest in
    ap (λ n. at n x) none ∙ ap (at (j + 0)) is
sites_behind j (suc k) node (x ∷ list) e =
    let more : suc (k + 1) ≡ suc k + 1 = omega arith in
    let same : j + 1 + k ≡ j + suc k = omega arith in
    let rest = sites_from (j + 1) list in
    let at : ℕ → List Site = λ n. record { number = n; node = node } ∷ drop (k + 1) rest in
    sites_behind (j + 1) k node list e ∙ ap at same
    ∙ ap (λ n. record { number = j + suc k; node = node } ∷ drop n (sites_from j (x ∷ list))) more

-- the tests of the nodes from a number on
abbrev pub tests_behind : Tests → c.Unit → ℕ → List Test
tests_behind what unit k = flat_map (tests_at what) (drop k (sites unit))

next : (what : Tests) (unit : c.Unit) (k : ℕ) (node : Node) (here : List Test) → slice_get (nodes unit) k ≡ Some node → tests_at what (record { number = k; node = node }) ≡ here →
    tests_behind what unit k ≡ here ++ tests_behind what unit (k + 1)
next what unit k node here e is =
    let same : 0 + k ≡ k = omega arith in
    ap (flat_map (tests_at what)) (sites_behind 0 k node (nodes unit) e) ∙ ap (λ n. tests_at what (record { number = n; node = node }) ++ tests_behind what unit (k + 1)) same
    ∙ ap (λ it. it ++ tests_behind what unit (k + 1)) is

-- All tests from a number on are noted: one node on, behind a node without a test and behind one with a test.
pub without_test : (what : Tests) (unit : c.Unit) (k : ℕ) (node : Node) (found whole : List (Option ℕ)) → slice_get (nodes unit) k ≡ Some node → controlling k node ≡ [] →
    noted_all found (tests_behind what unit k) ≡ whole → noted_all found (tests_behind what unit (k + 1)) ≡ whole
without_test what unit k node found whole e none all = sym (ap (noted_all found) (next what unit k node [] e (no_test what k node none))) ∙ all

pub with_test : (what : Tests) (unit : c.Unit) (k : ℕ) (node : Node) (found more whole : List (Option ℕ)) (list : List Held) (first : ℕ) → slice_get (nodes unit) k ≡ Some node →
    (test : IsTest list k node first) → more ≡ noted_all found (tests_of what None first test.test) →
    noted_all found (tests_behind what unit k) ≡ whole → noted_all more (tests_behind what unit (k + 1)) ≡ whole
with_test what unit k node found more whole list first e test more_is all =
    let here = tests_of what None first test.test in
    ap (λ it. noted_all it (tests_behind what unit (k + 1))) more_is ∙ sym (noted_both found here (tests_behind what unit (k + 1)))
    ∙ sym (ap (noted_all found) (next what unit k node here e (one_test what k node first test.test test.controls))) ∙ all

-- at the start nothing is found
pub none_yet : (what : Tests) (unit : c.Unit) (found : List (Option ℕ)) → noted_all found (tests_behind what unit 0) ≡ noted_all found (tests_in what unit)
none_yet what unit found = sym (ap (noted_all found) (all_tests what unit))

same_length : (list : List Held) (unit : c.Unit) → AreSitesOf list unit → length list ≡ length (nodes unit)
same_length list unit are = sym (length-map list entry_of) ∙ ap length are ∙ length-map (nodes unit) part_of

pub node_at : (list : List Held) (unit : c.Unit) (k : ℕ) → AreSitesOf list unit → k < length list → (node : Node) × (slice_get (nodes unit) k ≡ Some node)
node_at list unit k are within =
    let same = same_length list unit are in
    let here : k < length (nodes unit) = omega (arith, same) in
    (get_or (nodes unit) k (a_statement c.Null), slice_get-get_or (nodes unit) k (a_statement c.Null) here)

-- at the end everything is found
pub all_noted : (list : List Held) (what : Tests) (unit : c.Unit) (found : List (Option ℕ)) → AreSitesOf list unit →
    noted_all found (tests_behind what unit (length list)) ≡ noted_all (replicate (length list) None) (tests_in what unit) →
    found ≡ map (λ site. decided_at (tests_in what unit) site.number) (sites unit)
all_noted list what unit found are all =
    let same = same_length list unit are in
    let past : length (sites unit) ≤ length list = omega (arith, same, length-sites_from 0 (nodes unit)) in
    let behind : tests_behind what unit (length list) ≡ [] = ap (flat_map (tests_at what)) (drop_of_length-le (sites unit) past) in
    sym (ap (noted_all found) behind) ∙ all ∙ ap (λ n. noted_all (replicate n None) (tests_in what unit)) same ∙ noted_is (tests_in what unit) (nodes unit)
