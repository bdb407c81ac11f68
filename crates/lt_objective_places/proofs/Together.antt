-- The objectives at one place are those of one node.
use Rattle.std.proofs.Common.{◌≡◌, inl, inr, refl, sym, ap, ◌∙◌, subst, ℕ, zero, suc, ◌+◌, ◌<◌, ◌≤◌, List, [], ◌∷◌, ◌++◌, length, drop, arith}
use Rattle.std.specs.List.{flat_map}
use Rattle.std.proofs.lemmas.Grind.{flat_map-append}
use Rattle.lt_tree.specs.Tree as c
use Rattle.lt_tree.specs.Nodes.{Node, nodes}
use Rattle.lt_tree.specs.Typing.Programs.{Program}
use Rattle.lt_objectives.specs.declared.criteria.Criterion.{Criterion}
use Rattle.lt_objectives.specs.Places.{Site, sites, sites_from, core}
use Rattle.lt_objectives.specs.Objectives.{Form, around, Objective, at_expression, at_node, objectives}
use Rattle.lt_objectives.specs.Marked.{numbered, labels, decided}
use Rattle.lt_sites.proofs.Nodes.{expression_node}
use Rattle.lt_objective_places.specs.Stands.{IsAmong, IsWithin, GoOn, Role, Stands}
use Rattle.lt_objective_places.specs.Laws.{AreTogether, LabelsAreOf, DecidedAreOf}
use Rattle.lt_objective_places.proofs.Among.{given_by}
use Rattle.lt_objective_places.proofs.Runs.{sites_of_both}
use Rattle.lt_objective_places.proofs.Found.{own_place}
use Rattle.lt_objective_places.proofs.MarksAtPlaces.{HasNoneAt, labels_of_part, decided_of_part}
use Rattle.lt_objective_places.proofs.Standing.{core_there, around_core}

-- ---- one node among all

-- a node with those before it and behind it
record IsBetween (unit : c.Unit) (k : ℕ) (x : Node) : Type 0 where
  before : List Node
  behind : List Node
  all : sites unit ≡ sites_from 0 before ++ record { number = k; node = x } ∷ sites_from (k + 1) behind
  number : length before ≡ k

split : {X : Type 0} (k : ℕ) (list : List X) (x : X) (rest : List X) → drop k list ≡ x ∷ rest → (front : List X) × (length front ≡ k) × (list ≡ front ++ x ∷ rest)
split zero list x rest is = ([], refl, is)
split (suc k) [] x rest is = absurd cc
split (suc k) (y ∷ ys) x rest is = let it = split k ys x rest is in (y ∷ it.0, ap suc it.1, ap (λ zs. y ∷ zs) it.2)

between : {unit : c.Unit} {k : ℕ} {x : Node} {xs : List Node} → GoOn unit k (x ∷ xs) → IsBetween unit k x
between {unit} {k} {x} {xs} s =
    let it = split k (nodes unit) x (xs ++ s.behind) s.are in
    let number : 0 + length it.0 ≡ k = omega (arith, it.1) in
    record {
      before = it.0;
      behind = xs ++ s.behind;
      all = ap (sites_from 0) it.2 ∙ sites_of_both 0 it.0 (x ∷ (xs ++ s.behind)) ∙ ap (λ n. sites_from 0 it.0 ++ sites_from n (x ∷ (xs ++ s.behind))) number;
      number = it.1;
    }

site_number : (j : ℕ) (list : List Node) (site : Site) → IsAmong site (sites_from j list) → IsWithin j (length list) site.number
site_number j [] site h = absurd h
site_number j (x ∷ xs) site (inl is) = let number : j ≡ site.number = ap (λ (it : Site). it.number) is in (omega arith, omega arith)
site_number j (x ∷ xs) site (inr h) =
    let w = site_number (j + 1) xs site h in
    let low : j + 1 ≤ site.number = w.0 in
    let high : site.number < j + 1 + length xs = w.1 in
    (omega arith, omega arith)

module _ (unit : c.Unit) (program : Program) (criterion : Criterion) where
  abbrev objectives_at : Site → List Objective
  objectives_at site = at_node unit program criterion site

  -- all objectives, about one node
  all_are : {k : ℕ} {x : Node} (it : IsBetween unit k x)
      → objectives unit program criterion ≡ flat_map objectives_at (sites_from 0 it.before) ++ (objectives_at (record { number = k; node = x }) ++ flat_map objectives_at (sites_from (k + 1) it.behind))
  all_are {k} {x} it =
      ap (flat_map objectives_at) it.all ∙ flat_map-append objectives_at (sites_from 0 it.before) (record { number = k; node = x } ∷ sites_from (k + 1) it.behind)

  abbrev together : {k : ℕ} {x : Node} → IsBetween unit k x → AreTogether unit program criterion (objectives_at (record { number = k; node = x }))
  together {k} {x} it = record { before = flat_map objectives_at (sites_from 0 it.before); behind = flat_map objectives_at (sites_from (k + 1) it.behind); all = all_are it }

  -- ---- labels at a node

  none_of_others : (form : Form) (j k : ℕ) (list : List Node) → (form ≡ around → ⊥) → ((n : ℕ) → IsWithin j (length list) n → n ≡ k → ⊥) → HasNoneAt form k (flat_map objectives_at (sites_from j list))
  none_of_others form j k list other apart = λ o h is place.
      let it = given_by objectives_at o (sites_from j list) h in
      apart (it.0).number (site_number j list it.0 it.1) (sym (own_place unit program criterion o (it.0).number (it.0).node it.2 (λ f. other (sym is ∙ f))) ∙ place)

  pub labels_of_one : {xs : List Node} (form : Form) (k id : ℕ) (x : Node) → (form ≡ around → ⊥) → GoOn unit k (x ∷ xs)
      → LabelsAreOf unit program criterion form k id (objectives_at (record { number = k; node = x }))
  labels_of_one form k id x other s =
      let it = between s in
      let before = flat_map objectives_at (sites_from 0 it.before) in
      let behind = flat_map objectives_at (sites_from (k + 1) it.behind) in
      let number = it.number in
      let first : HasNoneAt form k before = none_of_others form 0 k it.before other (λ n w is. let high : n < 0 + length it.before = w.1 in omega arith) in
      let last : HasNoneAt form k behind = none_of_others form (k + 1) k it.behind other (λ n w is. let low : k + 1 ≤ n = w.0 in omega arith) in
      record {
        together = together it;
        labels_are = ap (λ them. labels form (numbered id them) k) (all_are it) ∙ labels_of_part form k id before (objectives_at (record { number = k; node = x })) behind first last;
      }

  -- ---- what is decided

  around_others : {role : Role} (j k : ℕ) (e : c.Expression) (list : List Node) → Stands unit role k e → ((n : ℕ) → IsWithin j (length list) n → n ≡ (core k e).number → ⊥)
      → HasNoneAt around k (flat_map objectives_at (sites_from j list))
  around_others j k e list s apart = λ o h form place.
      let it = given_by objectives_at o (sites_from j list) h in
      apart (it.0).number (site_number j list it.0 it.1) (around_core program criterion k e o (it.0).number (it.0).node s it.2 form place)

  pub decided_of_one : (role : Role) (k id : ℕ) (e : c.Expression) → Stands unit role k e
      → DecidedAreOf unit program criterion k id (at_expression unit program criterion (core k e).number (core k e).expression)
  decided_of_one role k id e s =
      let inner = core k e in
      let it = between (subst (GoOn unit inner.number) (expression_node inner.expression) (core_there k e s.stand.there)) in
      let before = flat_map objectives_at (sites_from 0 it.before) in
      let behind = flat_map objectives_at (sites_from (inner.number + 1) it.behind) in
      let number = it.number in
      let first : HasNoneAt around k before = around_others 0 k e it.before s (λ n w is. let high : n < 0 + length it.before = w.1 in omega arith) in
      let last : HasNoneAt around k behind = around_others (inner.number + 1) k e it.behind s (λ n w is. let low : inner.number + 1 ≤ n = w.0 in omega arith) in
      record {
        together = together it;
        decided_are = λ x. ap (λ them. decided (numbered id them) k x) (all_are it) ∙ decided_of_part k id x before (at_expression unit program criterion inner.number inner.expression) behind first last;
      }
