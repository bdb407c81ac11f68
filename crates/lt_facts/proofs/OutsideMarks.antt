-- The walk over nodes with their sizes finds the nodes outside marks.
use Rattle.std.proofs.Common.{◌≡◌, ℕ, ◌+◌, ◌-◌, ◌<◌, ◌≤◌, ◌==◌, ◌&&◌, ◌||◌, not, max, nat_lt, nat_le, cond, Bool, true, false, List, [], ◌∷◌, map, refl, sym, ap, ◌∙◌, arith}
use Rattle.std.specs.List.{flat_map, list_any}
use Rattle.std.proofs.lemmas.Bool.Decides.{nat_tests}
use Rattle.std.proofs.lemmas.List.Folds.{list_any-append}
use Rattle.lt_tree.specs.Tree as c
use Rattle.lt_tree.specs.Nodes.{Node, an_external, a_declarator, an_initialiser, a_member, an_enumerator, a_label, a_declared_item, a_stated_item, a_marked_item, a_statement, an_expression, a_mark, nodes}
use Rattle.lt_objectives.specs.Places.{Site, Span, covers, mark_in, sites, sites_from, stays_without_marks, numbers_outside, unmarked_numbers}
use Rattle.lt_sites.specs.Sites.{part_of}
use Rattle.lt_facts.specs.Outside.{mark_size, outside_from, places_from}

abbrev pub is_outside : List Span → Site → Bool
is_outside marks site = stays_without_marks site.node && not (list_any (covers site.number) marks)

-- ---- tests

covered_now : (k size marked : ℕ) → (nat_lt k (k + marked) || nat_lt k (k + size)) ≡ not (max size marked == 0)
covered_now k size marked = grind (arith, nat_tests)

covered_later : (j k size marked : ℕ) → k + 1 ≤ j → (nat_lt j (k + marked) || nat_lt j (k + size)) ≡ nat_lt j (k + 1 + (max size marked - 1))
covered_later j k size marked later = grind (arith, nat_tests)

covered_above : (j k size : ℕ) → k ≤ j → (nat_le k j && nat_lt j (k + size)) || false ≡ nat_lt j (k + size)
covered_above j k size above = grind (arith, nat_tests)

covered_none : (j k : ℕ) → k ≤ j → false ≡ nat_lt j (k + 0)
covered_none j k above = grind (arith, nat_tests)

covered_before : (j k size : ℕ) → j < k → (nat_le k j && nat_lt j (k + size)) || false ≡ false
covered_before j k size before = grind (arith, nat_tests)

-- ---- spans of marks

-- the span of a mark, for what stands behind its first node
covers_mark : (j k : ℕ) (node : Node) → k ≤ j → list_any (covers j) (mark_in (record { number = k; node = node })) ≡ nat_lt j (k + mark_size (part_of node))
covers_mark j k (a_mark m) above = covered_above j k (mark_size (part_of (a_mark m))) above
covers_mark j k (an_external x) above = covered_none j k above
covers_mark j k (a_declarator d) above = covered_none j k above
covers_mark j k (an_initialiser i) above = covered_none j k above
covers_mark j k (a_member m) above = covered_none j k above
covers_mark j k (an_enumerator name value) above = covered_none j k above
covers_mark j k (a_label label) above = covered_none j k above
covers_mark j k (a_declared_item d) above = covered_none j k above
covers_mark j k (a_stated_item x) above = covered_none j k above
covers_mark j k (a_marked_item m) above = covered_none j k above
covers_mark j k (a_statement x) above = covered_none j k above
covers_mark j k (an_expression e) above = covered_none j k above

covers_before : (j k : ℕ) (node : Node) → j < k → list_any (covers j) (mark_in (record { number = k; node = node })) ≡ false
covers_before j k (a_mark m) before = covered_before j k (mark_size (part_of (a_mark m))) before
covers_before j k (an_external x) before = refl
covers_before j k (a_declarator d) before = refl
covers_before j k (an_initialiser i) before = refl
covers_before j k (a_member m) before = refl
covers_before j k (an_enumerator name value) before = refl
covers_before j k (a_label label) before = refl
covers_before j k (a_declared_item d) before = refl
covers_before j k (a_stated_item x) before = refl
covers_before j k (a_marked_item m) before = refl
covers_before j k (a_statement x) before = refl
covers_before j k (an_expression e) before = refl

-- those of marks that begin later
covers_later : (j k : ℕ) (ns : List Node) → j < k → list_any (covers j) (flat_map mark_in (sites_from k ns)) ≡ false
covers_later j k [] before = refl
covers_later j k (node ∷ ns) before =
    list_any-append (covers j) (mark_in (record { number = k; node = node })) (flat_map mark_in (sites_from (k + 1) ns))
    ∙ ap (λ b. b || list_any (covers j) (flat_map mark_in (sites_from (k + 1) ns))) (covers_before j k node before)
    ∙ covers_later j (k + 1) ns (omega (arith, before))

-- ---- the walk

or_assoc : (a b c : Bool) → a || (b || c) ≡ (a || b) || c
or_assoc true b c = refl
or_assoc false b c = refl

or_false : (a : Bool) → a || false ≡ a
or_false true = refl
or_false false = refl

-- The marks that cover what stands from this number on: so many nodes of those before it, and those that begin later.
abbrev pub AreMarks : List Span → (k marked : ℕ) → List Node → Type 0
AreMarks marks k marked ns = (j : ℕ) → k ≤ j → list_any (covers j) marks ≡ (nat_lt j (k + marked) || list_any (covers j) (flat_map mark_in (sites_from k ns)))

covers_first : (marks : List Span) (k marked : ℕ) (node : Node) (ns : List Node) → AreMarks marks k marked (node ∷ ns) → (j : ℕ) → k ≤ j
    → list_any (covers j) marks ≡ ((nat_lt j (k + marked) || nat_lt j (k + mark_size (part_of node))) || list_any (covers j) (flat_map mark_in (sites_from (k + 1) ns)))
covers_first marks k marked node ns are j above =
    are j above
    ∙ ap (λ b. nat_lt j (k + marked) || b) (list_any-append (covers j) (mark_in (record { number = k; node = node })) (flat_map mark_in (sites_from (k + 1) ns)))
    ∙ or_assoc (nat_lt j (k + marked)) (list_any (covers j) (mark_in (record { number = k; node = node }))) (list_any (covers j) (flat_map mark_in (sites_from (k + 1) ns)))
    ∙ ap (λ b. (nat_lt j (k + marked) || b) || list_any (covers j) (flat_map mark_in (sites_from (k + 1) ns))) (covers_mark j k node above)

first_outside : (marks : List Span) (k marked : ℕ) (node : Node) (ns : List Node) → AreMarks marks k marked (node ∷ ns)
    → (max (mark_size (part_of node)) marked == 0) && stays_without_marks node ≡ is_outside marks (record { number = k; node = node })
first_outside marks k marked node ns are =
    let size = mark_size (part_of node) in
    let covered : list_any (covers k) marks ≡ not (max size marked == 0) =
    covers_first marks k marked node ns are k (omega arith)
    ∙ ap (λ b. (nat_lt k (k + marked) || nat_lt k (k + size)) || b) (covers_later k (k + 1) ns (omega arith))
    ∙ or_false (nat_lt k (k + marked) || nat_lt k (k + size))
    ∙ covered_now k size marked in
    twice_not (max size marked == 0) (stays_without_marks node) ∙ ap (λ b. stays_without_marks node && not b) (sym covered)
  where
    twice_not : (a b : Bool) → a && b ≡ (b && not (not a))
    twice_not true true = refl
    twice_not true false = refl
    twice_not false true = refl
    twice_not false false = refl

later_marks : (marks : List Span) (k marked : ℕ) (node : Node) (ns : List Node) → AreMarks marks k marked (node ∷ ns) → AreMarks marks (k + 1) (max (mark_size (part_of node)) marked - 1) ns
later_marks marks k marked node ns are j above =
    covers_first marks k marked node ns are j (omega (arith, above))
    ∙ ap (λ b. b || list_any (covers j) (flat_map mark_in (sites_from (k + 1) ns))) (covered_later j k (mark_size (part_of node)) marked above)

pub outside_nodes : (marks : List Span) (k marked : ℕ) (ns : List Node) → AreMarks marks k marked ns → outside_from marked (map part_of ns) ≡ map (is_outside marks) (sites_from k ns)
outside_nodes marks k marked [] are = refl
outside_nodes marks k marked (node ∷ ns) are =
    ap (λ b. b ∷ outside_from (max (mark_size (part_of node)) marked - 1) (map part_of ns)) (first_outside marks k marked node ns are)
    ∙ ap (λ bs. is_outside marks (record { number = k; node = node }) ∷ bs) (outside_nodes marks (k + 1) (max (mark_size (part_of node)) marked - 1) ns (later_marks marks k marked node ns are))

-- ---- their numbers

first_place : (b : Bool) (k : ℕ) (flags : List Bool) → places_from k (b ∷ flags) ≡ cond b (k ∷ places_from (k + 1) flags) (places_from (k + 1) flags)
first_place true k flags = refl
first_place false k flags = refl

pub places_outside : (marks : List Span) (k : ℕ) (ns : List Node) → places_from k (map (is_outside marks) (sites_from k ns)) ≡ numbers_outside marks (sites_from k ns)
places_outside marks k [] = refl
places_outside marks k (node ∷ ns) =
    first_place (is_outside marks (record { number = k; node = node })) k (map (is_outside marks) (sites_from (k + 1) ns))
    ∙ ap (λ ks. cond (is_outside marks (record { number = k; node = node })) (k ∷ ks) ks) (places_outside marks (k + 1) ns)

-- ---- of a unit

pub outside_unit : (unit : c.Unit) → outside_from 0 (map part_of (nodes unit)) ≡ map (is_outside (flat_map mark_in (sites unit))) (sites unit)
outside_unit unit =
    outside_nodes (flat_map mark_in (sites unit)) 0 0 (nodes unit) (λ j above. ap (λ b. b || list_any (covers j) (flat_map mark_in (sites unit))) (covered_none j 0 above))

pub places_unit : (unit : c.Unit) → places_from 0 (outside_from 0 (map part_of (nodes unit))) ≡ unmarked_numbers unit
places_unit unit = ap (places_from 0) (outside_unit unit) ∙ places_outside (flat_map mark_in (sites unit)) 0 (nodes unit)
