-- Which nodes are open, told from left to right by how many are closed from each on.
use Rattle.std.proofs.Common.{◌≡◌, refl, sym, ap, ◌∙◌, ℕ, suc, ◌+◌, ◌-◌, ◌<◌, ◌≤◌, max, Bool, true, false, not, ◌||◌, if◌then◌else◌, nat_lt, ◌==◌, List, [], ◌∷◌, ◌++◌, length, map, ◌⊎◌, inl, inr, arith}
use Rattle.std.specs.List.{list_any}
use Rattle.std.proofs.lemmas.Bool.Decides.{nat_tests}
use Rattle.lt_tree.specs.Tree as c
use Rattle.lt_tree.specs.Nodes.{Node, an_external, a_declared_item, a_statement, an_expression, a_mark, in_expression, in_mark, in_declaration, nodes}
use Rattle.lt_tree.specs.Typing.Programs.{Program}
use Rattle.lt_objectives.specs.Places as places
use Rattle.lt_objectives.specs.Places.{Span, span, covers, closed_by_form, closed, is_constant, is_open, storage_of, makes_static, makes_static_in_for, sites_from, sites}
use Rattle.lt_sites.specs.Sites.{part_of, entry_of, AreSitesOf}
use Rattle.lt_sites.specs.declared.site.Site.{Site}
use Rattle.lt_places.specs.Closed.{is_closed, static_behind, opens}
use Rattle.lt_places.proofs.Numbered.{placed, or_false}

-- ---- what a node closes

-- so many nodes from this one on, and so many from the next
abbrev pub two_spans : ℕ → ℕ → ℕ → List Span
two_spans k with behind = span k with ∷ span (k + 1) behind ∷ []

abbrev pub with_it : Node → Bool → ℕ
with_it x constant = if is_closed x constant then (part_of x).size else 0

abbrev pub behind_it : Node → ℕ
behind_it x = static_behind x (part_of x).size (part_of x).head

empty : (j k : ℕ) → covers j (span k 0) ≡ false
empty j k = grind (arith, nat_tests)

covered : (j k m n : ℕ) → m ≡ n → covers j (span k m) ≡ covers j (span k n)
covered j k m n is = ap (λ l. covers j (span k l)) is

nothing_closed : (j k : ℕ) → false ≡ list_any (covers j) (two_spans k 0 0)
nothing_closed j k = sym (ap (λ b. b || (covers j (span (k + 1) 0) || false)) (empty j k) ∙ ap (λ b. b || false) (empty j (k + 1)))

closed_itself : (j k m n : ℕ) → m ≡ n → list_any (covers j) (span k m ∷ []) ≡ list_any (covers j) (two_spans k n 0)
closed_itself j k m n is = ap (λ b. b || false) (covered j k m n is) ∙ ap (λ b. covers j (span k n) || (b || false)) (sym (empty j (k + 1)))

closed_as_constant : (j k n : ℕ) (constant : Bool) → list_any (covers j) (if constant then span k n ∷ [] else []) ≡ list_any (covers j) (two_spans k (if constant then n else 0) 0)
closed_as_constant j k n true = closed_itself j k n n refl
closed_as_constant j k n false = nothing_closed j k

closed_twice : (j k m n : ℕ) (constant : Bool) → m ≡ n → list_any (covers j) (span k m ∷ (if constant then span k n ∷ [] else [])) ≡ list_any (covers j) (two_spans k n 0)
closed_twice j k m n true is = ap (λ b. b || (covers j (span k n) || false)) (covered j k m n is) ∙ twice (covers j (span k n)) ∙ closed_itself j k n n refl
  where
    twice : (b : Bool) → (b || (b || false)) ≡ (b || false)
    twice true = refl
    twice false = refl
closed_twice j k m n false is = closed_itself j k m n is

closed_behind : (j k m n : ℕ) (static : Bool) → m ≡ n → list_any (covers j) ((if static then span (k + 1) m ∷ [] else []) ++ []) ≡ list_any (covers j) (two_spans k 0 (if static then n else 0))
closed_behind j k m n true is = ap (λ b. b || false) (covered j (k + 1) m n is) ∙ ap (λ b. b || (covers j (span (k + 1) n) || false)) (sym (empty j k))
closed_behind j k m n false is = nothing_closed j k

abbrev spans_of : ℕ → Node → Bool → List Span
spans_of k x constant = closed_by_form k x ++ (elim x [ an_expression e ↦ (if constant then span k (length (in_expression e)) ∷ [] else []) | _ ↦ [] ])

one_more : (n : ℕ) → 1 + n ≡ suc n
one_more n = omega arith

one_less : (n : ℕ) → n ≡ suc n - 1
one_less n = omega arith

two_are : (j k : ℕ) (x : Node) (constant : Bool) → list_any (covers j) (spans_of k x constant) ≡ list_any (covers j) (two_spans k (with_it x constant) (behind_it x))
two_are j k (an_external (c.Declared d)) constant = closed_itself j k (1 + length (in_declaration d)) (suc (length (in_declaration d))) (one_more (length (in_declaration d)))
two_are j k (a_declared_item d) constant = closed_behind j k (length (in_declaration d)) (suc (length (in_declaration d)) - 1) (list_any makes_static (storage_of d.specifiers)) (one_less (length (in_declaration d)))
two_are j k (a_statement (c.For (c.Declares d) test step x)) constant = closed_behind j k (length (in_declaration d)) (length (in_declaration d)) (list_any makes_static_in_for (storage_of d.specifiers)) refl
two_are j k (an_expression (c.SizeofExpr e)) constant = closed_twice j k (1 + length (in_expression e)) (suc (length (in_expression e))) constant (one_more (length (in_expression e)))
two_are j k (an_expression (c.SizeofType s d)) constant = closed_twice j k (length (in_expression (c.SizeofType s d))) (length (in_expression (c.SizeofType s d))) constant refl
two_are j k (an_expression e) constant = closed_as_constant j k (length (in_expression e)) constant
two_are j k (a_mark m) constant = closed_itself j k (length (in_mark m)) (length (in_mark m)) refl
two_are j k x constant = nothing_closed j k

spans_are : (unit : c.Unit) (program : Program) (j k : ℕ) (x : Node) → list_any (covers j) (closed unit program (placed k x)) ≡ list_any (covers j) (two_spans k (with_it x (is_constant unit program k)) (behind_it x))
spans_are unit program j k x = two_are j k x (is_constant unit program k)

-- ---- from left to right

-- a span covers nothing before it
before_them : (j k w b : ℕ) → j < k → list_any (covers j) (two_spans k w b) ≡ false
before_them j k w b less = grind (arith, nat_tests)

first_is : (k c w b : ℕ) → (max c w == 0) ≡ not (nat_lt k (k + c) || list_any (covers k) (two_spans k w b))
first_is k c w b = grind (arith, nat_tests)

others_are : (k j c w b : ℕ) → k < j → nat_lt j (k + 1 + max (max c w - 1) b) ≡ (nat_lt j (k + c) || list_any (covers j) (two_spans k w b))
others_are k j c w b less = grind (arith, nat_tests)

abbrev is_covered : c.Unit → Program → List places.Site → ℕ → Bool
is_covered unit program list j = list_any (λ site. list_any (covers j) (closed unit program site)) list

later_none : (unit : c.Unit) (program : Program) (j k : ℕ) (list : List Node) → j < k → is_covered unit program (sites_from k list) j ≡ false
later_none unit program j k [] less = refl
later_none unit program j k (x ∷ xs) less =
    ap (λ b. b || is_covered unit program (sites_from (k + 1) xs) j) (spans_are unit program j k x ∙ before_them j k (with_it x (is_constant unit program k)) (behind_it x) less)
    ∙ later_none unit program j (k + 1) xs (omega arith)

-- functions that agree at the numbers of these nodes
alike : (f g : ℕ → Bool) (k : ℕ) (list : List Node) → ((j : ℕ) → k ≤ j → f j ≡ g j) → map (λ site. f site.number) (sites_from k list) ≡ map (λ site. g site.number) (sites_from k list)
alike f g k [] same = refl
alike f g k (x ∷ xs) same = cc (same k (omega arith), alike f g (k + 1) xs (λ j further. same j (omega arith)))

or_assoc : (x y z : Bool) → ((x || y) || z) ≡ (x || (y || z))
or_assoc true y z = refl
or_assoc false y z = refl

-- of the first node no other has a say
covered_here : (unit : c.Unit) (program : Program) (k : ℕ) (x : Node) (xs : List Node) →
    list_any (covers k) (two_spans k (with_it x (is_constant unit program k)) (behind_it x)) ≡ is_covered unit program (sites_from k (x ∷ xs)) k
covered_here unit program k x xs =
    sym (ap (λ b. list_any (covers k) (closed unit program (placed k x)) || b) (later_none unit program k (k + 1) xs (omega arith)) ∙ or_false (list_any (covers k) (closed unit program (placed k x))) ∙ spans_are unit program k k x)

-- of those behind it, what it closes is told by a number
covered_behind : (unit : c.Unit) (program : Program) (k so_far : ℕ) (x : Node) (xs : List Node) (j : ℕ) → k < j →
    not (nat_lt j (k + 1 + max (max so_far (with_it x (is_constant unit program k)) - 1) (behind_it x)) || is_covered unit program (sites_from (k + 1) xs) j)
    ≡ not (nat_lt j (k + so_far) || is_covered unit program (sites_from k (x ∷ xs)) j)
covered_behind unit program k so_far x xs j less =
    let rest = is_covered unit program (sites_from (k + 1) xs) j in
    ap not (ap (λ b. b || rest) (others_are k j so_far (with_it x (is_constant unit program k)) (behind_it x) less)
    ∙ or_assoc (nat_lt j (k + so_far)) (list_any (covers j) (two_spans k (with_it x (is_constant unit program k)) (behind_it x))) rest
    ∙ ap (λ b. nat_lt j (k + so_far) || (b || rest)) (sym (spans_are unit program j k x)))

opens_are : (unit : c.Unit) (program : Program) (k so_far : ℕ) (list : List Node) →
    opens so_far (map part_of list) (map (λ site. is_constant unit program site.number) (sites_from k list)) ≡ map (λ site. not (nat_lt site.number (k + so_far) || is_covered unit program (sites_from k list) site.number)) (sites_from k list)
opens_are unit program k so_far [] = refl
opens_are unit program k so_far (x ∷ xs) =
    one_more_open unit program k so_far x xs (opens_are unit program (k + 1) (max (max so_far (with_it x (is_constant unit program k)) - 1) (behind_it x)) xs)
  where
    one_more_open : (unit : c.Unit) (program : Program) (k so_far : ℕ) (x : Node) (xs : List Node) →
        opens (max (max so_far (with_it x (is_constant unit program k)) - 1) (behind_it x)) (map part_of xs) (map (λ site. is_constant unit program site.number) (sites_from (k + 1) xs))
        ≡ map (λ site. not (nat_lt site.number (k + 1 + max (max so_far (with_it x (is_constant unit program k)) - 1) (behind_it x)) || is_covered unit program (sites_from (k + 1) xs) site.number)) (sites_from (k + 1) xs) →
        opens so_far (map part_of (x ∷ xs)) (map (λ site. is_constant unit program site.number) (sites_from k (x ∷ xs)))
        ≡ map (λ site. not (nat_lt site.number (k + so_far) || is_covered unit program (sites_from k (x ∷ xs)) site.number)) (sites_from k (x ∷ xs))
    one_more_open unit program k so_far x xs others =
        let here : (max so_far (with_it x (is_constant unit program k)) == 0) ≡ not (nat_lt k (k + so_far) || is_covered unit program (sites_from k (x ∷ xs)) k) =
        first_is k so_far (with_it x (is_constant unit program k)) (behind_it x) ∙ ap (λ b. not (nat_lt k (k + so_far) || b)) (covered_here unit program k x xs) in
        let there = others ∙ alike (λ j. not (nat_lt j (k + 1 + max (max so_far (with_it x (is_constant unit program k)) - 1) (behind_it x)) || is_covered unit program (sites_from (k + 1) xs) j))
        (λ j. not (nat_lt j (k + so_far) || is_covered unit program (sites_from k (x ∷ xs)) j)) (k + 1) xs (λ j further. covered_behind unit program k so_far x xs j (omega arith)) in
        ap (λ b. b ∷ opens (max (max so_far (with_it x (is_constant unit program k)) - 1) (behind_it x)) (map part_of xs) (map (λ site. is_constant unit program site.number) (sites_from (k + 1) xs))) here
        ∙ ap (λ list. not (nat_lt k (k + so_far) || is_covered unit program (sites_from k (x ∷ xs)) k) ∷ list) there

-- of a unit, from its first node on
pub all_open : (unit : c.Unit) (program : Program) (list : List Site) (constants : List Bool) → AreSitesOf list unit → constants ≡ map (λ site. is_constant unit program site.number) (sites unit) →
    opens 0 (map entry_of list) constants ≡ map (λ site. is_open unit program site.number) (sites unit)
all_open unit program list constants are is =
    ap (λ xs. opens 0 xs constants) are ∙ ap (opens 0 (map part_of (nodes unit))) is ∙ opens_are unit program 0 0 (nodes unit)
    ∙ alike (λ j. not (nat_lt j (0 + 0) || is_covered unit program (sites unit) j)) (is_open unit program) 0 (nodes unit) (λ j further. ap (λ b. not (b || is_covered unit program (sites unit) j)) (none_below j))
  where
    none_below : (j : ℕ) → nat_lt j (0 + 0) ≡ false
    none_below j = grind (arith, nat_tests)

pub ended : (closed : ℕ) (list : List Site) (constants : List Bool) → (length list ≡ 0) ⊎ (length constants ≡ 0) → opens closed (map entry_of list) constants ≡ []
ended closed [] constants none = refl
ended closed (site ∷ sites) [] none = refl
ended closed (site ∷ sites) (constant ∷ constants) (inl none) = absurd (omega arith)
ended closed (site ∷ sites) (constant ∷ constants) (inr none) = absurd (omega arith)
