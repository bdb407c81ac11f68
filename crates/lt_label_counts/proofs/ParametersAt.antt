-- The parameters of the functions of all nodes are those of the program's functions at most.
use Rattle.std.proofs.Common.{◌≡◌, ◌≤◌, ◌<◌, ℕ, zero, suc, ◌+◌, ◌*◌, List, [], ◌∷◌, length, Option, Some, None, Bool, true, false, refl, sym, ap, subst, arith}
use Rattle.std.proofs.lemmas.Bool.{eqb-true}
use Rattle.std.specs.Prelude.{◌==◌, ◌&&◌, not, if◌then◌else◌}
use Rattle.std.specs.List.{flat_map, list_any}
use Rattle.lt_tree.specs.Tree as c
use Rattle.lt_tree.specs.Nodes.{Node, an_external, a_declarator, an_initialiser, a_member, an_enumerator, a_label, a_declared_item, a_stated_item, a_marked_item, a_statement, an_expression, a_mark, nodes}
use Rattle.lt_tree.specs.Typing.Entities.{Function}
use Rattle.lt_tree.specs.Typing.Programs.{Program}
use Rattle.lt_objectives.specs.Places.{Site, sites, sites_from, Span, covers, mark_in, stays_without_marks, numbers_outside, unmarked_numbers, corresponding, corresponding_node}
use Rattle.lt_objectives.specs.Objectives.{parameters_among, parameters_at}
use Rattle.lt_label_counts.proofs.Totals.{count, total, total_at_most, total_plus, total_times}
use Rattle.lt_label_counts.proofs.Asked.{parameters_here}
use Rattle.lt_label_counts.proofs.Decided.{same_count, once}
use Rattle.lt_label_counts.proofs.KeptInUnits.{parameters_of}

-- ---- numbers that ascend

abbrev AreAbove : ℕ → List ℕ → Type 0
AreAbove n [] = Unit {0}
AreAbove n (m ∷ ms) = (n < m) × AreAbove n ms

abbrev Ascend : List ℕ → Type 0
Ascend [] = Unit {0}
Ascend (n ∷ ns) = AreAbove n ns × Ascend ns

outside_above : (n k : ℕ) (marks : List Span) (xs : List Node) → n < k → AreAbove n (numbers_outside marks (sites_from k xs))
outside_above n k marks [] h = tt
outside_above n k marks (x ∷ xs) h = by (stays_without_marks x && not (list_any (covers k) marks)) (outside_above n (k + 1) marks xs (omega (arith, h)))
  where
    rest : List ℕ
    rest = numbers_outside marks (sites_from (k + 1) xs)

    by : (b : Bool) → AreAbove n rest → AreAbove n (if b then k ∷ rest else rest)
    by true above = (h, above)
    by false above = above

outside_ascend : (k : ℕ) (marks : List Span) (xs : List Node) → Ascend (numbers_outside marks (sites_from k xs))
outside_ascend k marks [] = tt
outside_ascend k marks (x ∷ xs) = by (stays_without_marks x && not (list_any (covers k) marks)) (outside_ascend (k + 1) marks xs)
  where
    rest : List ℕ
    rest = numbers_outside marks (sites_from (k + 1) xs)

    by : (b : Bool) → Ascend rest → Ascend (if b then k ∷ rest else rest)
    by true ascend = (outside_above k (k + 1) marks xs (omega arith), ascend)
    by false ascend = ascend

-- ---- a number corresponds to one node at most

abbrev is_it : ℕ → Option ℕ → Bool
is_it v None = false
is_it v (Some n) = v == n

never : (v k : ℕ) (ms ns : List ℕ) → AreAbove v ns → count (is_it v (corresponding k ms ns)) ≡ 0
never v k [] ns above = refl
never v k (m ∷ ms) [] above = refl
never v k (m ∷ ms) (n ∷ ns) above = by (m == k) (never v k ms ns above.1)
  where
    other : (b : Bool) → (v == n) ≡ b → count (v == n) ≡ 0
    other false e = ap count e
    other true e = let same : v ≡ n = eqb-true v n e in absurd (omega (arith, same, above.0))

    by : (b : Bool) → count (is_it v (corresponding k ms ns)) ≡ 0 → count (is_it v (if b then Some n else corresponding k ms ns)) ≡ 0
    by true more = other (v == n) refl
    by false more = more

-- how often a number corresponds
abbrev times : ℕ → List ℕ → List ℕ → Site → ℕ
times v ms ns site = count (is_it v (corresponding site.number ms ns))

either : (v m n : ℕ) (ms ns : List ℕ) (site : Site) → times v (m ∷ ms) (n ∷ ns) site ≤ count ((v == n) && (m == site.number)) + times v ms ns site
either v m n ms ns site = by (m == site.number)
  where
    by : (b : Bool) → count (is_it v (if b then Some n else corresponding site.number ms ns)) ≤ count ((v == n) && b) + count (is_it v (corresponding site.number ms ns))
    by true = let same = same_count (v == n) in omega (arith, same)
    by false = omega arith

none_times : (v : ℕ) (ns : List ℕ) (xs : List Site) → total (times v [] ns) xs ≤ 0
none_times v ns [] = omega arith
none_times v ns (x ∷ xs) = let more = none_times v ns xs in omega (arith, more)

no_times : (v m : ℕ) (ms : List ℕ) (xs : List Site) → total (times v (m ∷ ms) []) xs ≤ 0
no_times v m ms [] = omega arith
no_times v m ms (x ∷ xs) = let more = no_times v m ms xs in omega (arith, more)

never_among : (v : ℕ) (ms ns : List ℕ) (xs : List Site) → AreAbove v ns → total (times v ms ns) xs ≤ 0
never_among v ms ns [] above = omega arith
never_among v ms ns (x ∷ xs) above = let more = never_among v ms ns xs above in let here = never v x.number ms ns above in omega (arith, more, here)

at_most_once : (v : ℕ) (ms ns : List ℕ) (k : ℕ) (xs : List Node) → Ascend ns → total (times v ms ns) (sites_from k xs) ≤ 1
at_most_once v [] ns k xs ascend = let none = none_times v ns (sites_from k xs) in omega (arith, none)
at_most_once v (m ∷ ms) [] k xs ascend = let none = no_times v m ms (sites_from k xs) in omega (arith, none)
at_most_once v (m ∷ ms) (n ∷ ns) k xs ascend = by (v == n) refl (at_most_once v ms ns k xs ascend.1)
  where
    first : Site → ℕ
    first site = count ((v == n) && (m == site.number))

    both : total (times v (m ∷ ms) (n ∷ ns)) (sites_from k xs) ≤ count (v == n) + total (times v ms ns) (sites_from k xs)
    both =
        let each = total_at_most (times v (m ∷ ms) (n ∷ ns)) (λ site. first site + times v ms ns site) (either v m n ms ns) (sites_from k xs) in
        let plus = total_plus first (times v ms ns) (sites_from k xs) in
        let one = once (λ j. v == n) m k xs in
        omega (arith, each, plus, one)

    by : (b : Bool) → (v == n) ≡ b → total (times v ms ns) (sites_from k xs) ≤ 1 → total (times v (m ∷ ms) (n ∷ ns)) (sites_from k xs) ≤ 1
    by true e more =
        let same : n ≡ v = sym (eqb-true v n e) in
        let none = never_among v ms ns (sites_from k xs) (subst (λ w. AreAbove w ns) same ascend.0) in
        let here : count (v == n) ≡ 1 = ap count e in
        omega (arith, both, none, here)
    by false e more = let here : count (v == n) ≡ 0 = ap count e in omega (arith, both, more, here)

-- ---- parameters

abbrev among : List Function → Option ℕ → List ℕ
among fs o = elim o [ None ↦ [] | Some n ↦ parameters_among fs n ]

one_function : (f : Function) (fs : List Function) (o : Option ℕ) → length (among (f ∷ fs) o) ≤ length f.parameters * count (is_it f.node o) + length (among fs o)
one_function f fs None = omega arith
one_function f fs (Some n) = by (f.node == n)
  where
    by : (b : Bool) → length (if b then f.parameters else parameters_among fs n) ≤ length f.parameters * count b + length (parameters_among fs n)
    by true = omega arith
    by false = omega arith

times_one : (l t : ℕ) → t ≤ 1 → l * t ≤ l
times_one l zero h = omega arith
times_one l (suc zero) h = omega arith
times_one l (suc (suc t)) h = absurd (omega (arith, h))

all_functions : (corr : ℕ → Option ℕ) (xs : List Site) → ((v : ℕ) → total (λ (site : Site). count (is_it v (corr site.number))) xs ≤ 1) → (fs : List Function)
    → total (λ (site : Site). length (among fs (corr site.number))) xs ≤ parameters_of fs
all_functions corr xs once [] = none xs
  where
    nothing : (o : Option ℕ) → length (among [] o) ≡ 0
    nothing None = refl
    nothing (Some n) = refl

    none : (xs : List Site) → total (λ (site : Site). length (among [] (corr site.number))) xs ≤ 0
    none [] = omega arith
    none (x ∷ xs) = let more = none xs in let here = nothing (corr x.number) in omega (arith, more, here)
all_functions corr xs once (f ∷ fs) =
    let more = all_functions corr xs once fs in
    let hit : Site → ℕ = λ (site : Site). count (is_it f.node (corr site.number)) in
    let rest : Site → ℕ = λ (site : Site). length (among fs (corr site.number)) in
    let each = total_at_most (λ (site : Site). length (among (f ∷ fs) (corr site.number))) (λ site. length f.parameters * hit site + rest site) (λ site. one_function f fs (corr site.number)) xs in
    let plus = total_plus (λ site. length f.parameters * hit site) rest xs in
    let scaled = total_times (length f.parameters) hit xs in
    let few = times_one (length f.parameters) (total hit xs) (once f.node) in
    omega (arith, more, each, plus, scaled, few)

here_at_most : (unit : c.Unit) (program : Program) (k : ℕ) (x : Node) → parameters_here unit program (record { number = k; node = x }) ≤ length (parameters_at unit program k)
here_at_most unit program k (an_external (c.Defines s d body)) = omega arith
here_at_most unit program k (an_external (c.Declared d)) = omega arith
here_at_most unit program k (a_declarator d) = omega arith
here_at_most unit program k (an_initialiser i) = omega arith
here_at_most unit program k (a_member m) = omega arith
here_at_most unit program k (an_enumerator name value) = omega arith
here_at_most unit program k (a_label label) = omega arith
here_at_most unit program k (a_declared_item d) = omega arith
here_at_most unit program k (a_stated_item x) = omega arith
here_at_most unit program k (a_marked_item m) = omega arith
here_at_most unit program k (a_statement x) = omega arith
here_at_most unit program k (an_expression e) = omega arith
here_at_most unit program k (a_mark m) = omega arith

-- Each function counts once at most.
pub parameters_at_most : (unit : c.Unit) (program : Program) → total (parameters_here unit program) (sites unit) ≤ parameters_of program.functions
parameters_at_most unit program =
    let each = total_at_most (parameters_here unit program) (λ (site : Site). length (parameters_at unit program site.number)) (λ site. here_at_most unit program site.number site.node) (sites unit) in
    let all = all_functions (corresponding_node unit program) (sites unit)
    (λ v. at_most_once v (unmarked_numbers unit) (unmarked_numbers program.unit) 0 (nodes unit) (outside_ascend 0 (flat_map mark_in (sites program.unit)) (nodes program.unit))) program.functions in
    omega (arith, each, all)
