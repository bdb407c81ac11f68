-- No more expressions are decisions than there are decisions where labels may stand.
use Rattle.std.proofs.Common.{◌≡◌, ◌≤◌, ◌<◌, ℕ, ◌+◌, List, [], ◌∷◌, map, Some, None, Bool, true, false, refl, sym, ap, ◌∙◌, arith}
use Rattle.std.proofs.lemmas.Bool.{eqb-true}
use Rattle.std.specs.Prelude.{◌==◌, ◌&&◌, if◌then◌else◌, is_some}
use Rattle.lt_tree.specs.Tree as c
use Rattle.lt_tree.specs.Nodes.{Node, an_external, a_declarator, an_initialiser, a_member, an_enumerator, a_label, a_declared_item, a_stated_item, a_marked_item, a_statement, an_expression, a_mark, nodes}
use Rattle.lt_tree.specs.Typing.Programs.{Program}
use Rattle.lt_objectives.specs.Places.{Site, sites, sites_from, Part, is_open}
use Rattle.lt_objectives.specs.Decisions.{Test, controlling, decision_of, decisions}
use Rattle.lt_objectives.specs.Copies.{is_core}
use Rattle.lt_objectives.specs.Objectives.{decided_at}
use Rattle.lt_label_counts.proofs.Totals.{count, total, total_at_most, total_plus, total_flat}
use Rattle.lt_label_counts.proofs.Asked.{asked_here, decided_here}
use Rattle.lt_label_counts.proofs.Needed.{open_tests_here}

-- ---- one number stands once

abbrev is_number : (ℕ → Bool) → ℕ → Site → ℕ
is_number p n site = count (p site.number && (n == site.number))

no_count : (b : Bool) → count (b && false) ≡ 0
no_count true = refl
no_count false = refl

pub same_count : (b : Bool) → count (b && true) ≡ count b
same_count true = refl
same_count false = refl

before_all : (p : ℕ → Bool) (n k : ℕ) (xs : List Node) → n < k → total (is_number p n) (sites_from k xs) ≡ 0
before_all p n k [] h = refl
before_all p n k (x ∷ xs) h = let more = before_all p n (k + 1) xs (omega (arith, h)) in let here = by (n == k) refl in omega (arith, more, here)
  where
    by : (b : Bool) → (n == k) ≡ b → count (p k && (n == k)) ≡ 0
    by false e = ap (λ t. count (p k && t)) e ∙ no_count (p k)
    by true e = let same : n ≡ k = eqb-true n k e in absurd (omega (arith, same, h))

pub once : (p : ℕ → Bool) (n k : ℕ) (xs : List Node) → total (is_number p n) (sites_from k xs) ≤ count (p n)
once p n k [] = omega arith
once p n k (x ∷ xs) = by (n == k) refl (once p n (k + 1) xs)
  where
    by : (b : Bool) → (n == k) ≡ b → total (is_number p n) (sites_from (k + 1) xs) ≤ count (p n) → count (p k && (n == k)) + total (is_number p n) (sites_from (k + 1) xs) ≤ count (p n)
    by false e more = let here : count (p k && (n == k)) ≡ 0 = ap (λ t. count (p k && t)) e ∙ no_count (p k) in omega (arith, more, here)
    by true e more =
        let same : n ≡ k = eqb-true n k e in
        let here : count (p k && (n == k)) ≡ count (p n) = ap (λ t. count (p k && t)) e ∙ same_count (p k) ∙ ap (λ m. count (p m)) (sym same) in
        let none = before_all p n (k + 1) xs (omega (arith, same)) in
        omega (arith, here, none)

-- ---- numbers of tests

module _ (p : ℕ → Bool) where
  abbrev has_test : List Test → Site → ℕ
  has_test tests site = count (p site.number && is_some (decided_at tests site.number))

  one_test : (test : Test) (tests : List Test) (site : Site) → has_test (test ∷ tests) site ≤ is_number p test.core.number site + has_test tests site
  one_test test tests site = by (p site.number) (test.core.number == site.number)
    where
      by : (a b : Bool) → count (a && is_some (if b then Some test.decided else decided_at tests site.number)) ≤ count (a && b) + count (a && is_some (decided_at tests site.number))
      by a true = by_first a
        where
          by_first : (a : Bool) → count (a && true) ≤ count (a && true) + count (a && is_some (decided_at tests site.number))
          by_first a = omega arith
      by a false = let none = no_count a in omega (arith, none)

  pub tests_at_most : (tests : List Test) (xs : List Site) → ((n : ℕ) → total (is_number p n) xs ≤ count (p n)) → total (has_test tests) xs ≤ total (λ (test : Test). count (p test.core.number)) tests
  tests_at_most [] xs h = none xs
    where
      none : (xs : List Site) → total (has_test []) xs ≤ 0
      none [] = omega arith
      none (x ∷ xs) = let more = none xs in let here = no_count (p x.number) in omega (arith, more, here)
  tests_at_most (test ∷ tests) xs h =
      let more = tests_at_most tests xs h in
      let one = h test.core.number in
      let each = total_at_most (has_test (test ∷ tests)) (λ site. is_number p test.core.number site + has_test tests site) (one_test test tests) xs in
      let plus = total_plus (is_number p test.core.number) (has_test tests) xs in
      omega (arith, more, one, each, plus)

-- ---- of a unit

total_map : {X Y : Type 0} (f : Y → ℕ) (g : X → Y) (xs : List X) → total f (map g xs) ≡ total (λ x. f (g x)) xs
total_map f g [] = refl
total_map f g (x ∷ xs) = ap (λ n. f (g x) + n) (total_map f g xs)

module _ (unit : c.Unit) (program : Program) where
  fewer : (a b d : Bool) → count (a && b && d) ≤ count (b && d)
  fewer true true d = omega arith
  fewer true false d = omega arith
  fewer false b d = omega arith

  decided_has_test : (k : ℕ) (x : Node) → decided_here unit program (record { number = k; node = x }) ≤ has_test (is_open unit program) (decisions unit) (record { number = k; node = x })
  decided_has_test k (an_expression e) = fewer (is_core e) (is_open unit program k) (is_some (decided_at (decisions unit) k))
  decided_has_test k (an_external x) = omega arith
  decided_has_test k (a_declarator d) = omega arith
  decided_has_test k (an_initialiser i) = omega arith
  decided_has_test k (a_member m) = omega arith
  decided_has_test k (an_enumerator name value) = omega arith
  decided_has_test k (a_label label) = omega arith
  decided_has_test k (a_declared_item d) = omega arith
  decided_has_test k (a_stated_item x) = omega arith
  decided_has_test k (a_marked_item m) = omega arith
  decided_has_test k (a_statement x) = omega arith
  decided_has_test k (a_mark m) = omega arith

  -- no more decisions than there are tests
  pub decided_at_most_tests : total (decided_here unit program) (sites unit) ≤ total (open_tests_here unit program) (sites unit)
  decided_at_most_tests =
      let open_test : Test → ℕ = λ (test : Test). count (is_open unit program test.core.number) in
      let made : Part → Test = λ it. decision_of None it.number it.expression in
      let each = total_at_most (decided_here unit program) (has_test (is_open unit program) (decisions unit)) (λ site. decided_has_test site.number site.node) (sites unit) in
      let few = tests_at_most (is_open unit program) (decisions unit) (sites unit) (λ n. once (is_open unit program) n 0 (nodes unit)) in
      let flat = total_flat open_test (λ (site : Site). map made (controlling site.number site.node)) (sites unit) in
      let same = total_at_most (λ (site : Site). total open_test (map made (controlling site.number site.node))) (open_tests_here unit program)
      (λ site. let e = total_map open_test made (controlling site.number site.node) in omega (arith, e)) (sites unit) in
      omega (arith, each, few, flat, same)

  less : (a b : Bool) → count (a && b) ≤ count a
  less true true = omega arith
  less true false = omega arith
  less false b = omega arith

  decided_is_asked : (k : ℕ) (x : Node) → decided_here unit program (record { number = k; node = x }) ≤ asked_here unit program (record { number = k; node = x })
  decided_is_asked k (an_expression e) = less (is_core e && is_open unit program k) (is_some (decided_at (decisions unit) k))
  decided_is_asked k (an_external x) = omega arith
  decided_is_asked k (a_declarator d) = omega arith
  decided_is_asked k (an_initialiser i) = omega arith
  decided_is_asked k (a_member m) = omega arith
  decided_is_asked k (an_enumerator name value) = omega arith
  decided_is_asked k (a_label label) = omega arith
  decided_is_asked k (a_declared_item d) = omega arith
  decided_is_asked k (a_stated_item x) = omega arith
  decided_is_asked k (a_marked_item m) = omega arith
  decided_is_asked k (a_statement x) = omega arith
  decided_is_asked k (a_mark m) = omega arith

  -- nor than there are expressions
  pub decided_at_most_asked : total (decided_here unit program) (sites unit) ≤ total (asked_here unit program) (sites unit)
  decided_at_most_asked = total_at_most (decided_here unit program) (asked_here unit program) (λ site. decided_is_asked site.number site.node) (sites unit)
