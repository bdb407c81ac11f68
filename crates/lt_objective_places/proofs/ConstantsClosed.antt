-- Integer constant expressions are closed, outside of marks and in them.
use Rattle.std.proofs.Common.{◌≡◌, inl, inr, refl, sym, ap, ◌∙◌, subst, ℕ, zero, suc, ◌+◌, ◌<◌, ◌≤◌, List, [], ◌∷◌, ◌++◌, length, drop, Bool, true, false, not, ◌&&◌, ◌||◌, if◌then◌else◌, eqb, Option, Some, None, length-append, arith}
use Rattle.std.specs.Prelude.{◌-◌}
use Rattle.std.specs.List.{slice_get, flat_map, list_any}
use Rattle.std.proofs.lemmas.Bool.{false≢true, eqb-true}
use Rattle.std.proofs.lemmas.Bool.Decides.{nat_tests}
use Rattle.std.proofs.lemmas.List.{length-drop}
use Rattle.lt_tree.specs.Tree as c
use Rattle.lt_tree.specs.Nodes.{Node, an_external, a_declarator, an_initialiser, a_member, an_enumerator, a_label, a_declared_item, a_stated_item, a_marked_item, a_statement, an_expression, a_mark, in_expression, in_mark, nodes}
use Rattle.lt_tree.specs.Typing.Constants.{is_number}
use Rattle.lt_tree.specs.Typing.Entities.{Fact}
use Rattle.lt_tree.specs.Typing.Programs.{Program}
use Rattle.lt_sites.specs.Listed.{inside}
use Rattle.lt_sites.specs.Sites.{in_node}
use Rattle.lt_sites.proofs.Nodes.{expression_node}
use Rattle.lt_objectives.specs.Places.{Site, sites, Span, covers, mark_in, stays_without_marks, numbers_outside, unmarked_numbers, corresponding, fact_among, is_constant}
use Rattle.lt_decisions.proofs.Closed.{part_begins}
use Rattle.lt_decisions.proofs.Parts as closed
use Rattle.lt_objective_places.specs.Stands.{IsAmong, GoOn, AreClosed}
use Rattle.lt_objective_places.proofs.Among.{given_by}
use Rattle.lt_objective_places.proofs.Found.{get_site, get_first}
use Rattle.lt_objective_places.proofs.NotOpen.{part_closed, constant_closed, mark_closed}
use Rattle.lt_objective_places.proofs.Roles.{site_there}

-- ---- what stands in a mark

get_in_first : {X : Type 0} (xs ys : List X) (i : ℕ) (x : X) → i < length xs → slice_get (xs ++ ys) i ≡ Some x → slice_get xs i ≡ Some x
get_in_first [] ys i x less is = absurd (omega arith)
get_in_first (y ∷ xs) ys zero x less is = is
get_in_first (y ∷ xs) ys (suc i) x less is = get_in_first xs ys i x (omega arith) is

get_dropped : {X : Type 0} (j i : ℕ) (list : List X) → slice_get (drop j list) i ≡ slice_get list (j + i)
get_dropped zero i list = let same : i ≡ zero + i = omega arith in ap (slice_get list) same
get_dropped (suc j) i [] = refl
get_dropped (suc j) i (x ∷ xs) = let more : suc (j + i) ≡ suc j + i = omega arith in get_dropped j i xs ∙ ap (slice_get (x ∷ xs)) more

-- the part that begins at a node of a unit
part_there : {unit : c.Unit} (j : ℕ) (x : Node) → IsAmong (record { number = j; node = x }) (sites unit) → GoOn unit j (in_node x)
part_there {unit} j x among =
    let it = get_site 0 (nodes unit) (record { number = j; node = x }) among in
    let same : it.0 ≡ j = omega (arith, it.1) in
    let part = part_begins (closed.unit_is_closed unit) j x (subst (λ n. slice_get (nodes unit) n ≡ Some x) same it.2) in
    record { behind = part.0; are = part.1 }

-- an expression that begins in a mark ends in it
ends_in_mark : {unit : c.Unit} (j k : ℕ) (m : c.Mark) (e : c.Expression) → GoOn unit j (in_mark m) → GoOn unit k (in_expression e) → j ≤ k → k < j + length (in_mark m)
    → k + length (in_expression e) ≤ j + length (in_mark m)
ends_in_mark {unit} j k m e mark s low high =
    let i = k - j in
    let is : k ≡ j + i = omega (arith, low) in
    let less : i < length (in_mark m) = omega (arith, low, high) in
    let here : slice_get (nodes unit) k ≡ Some (an_expression e) =
    get_first k (nodes unit) (an_expression e) (inside (an_expression e) ++ s.behind) (s.are ∙ ap (λ (l : List Node). l ++ s.behind) (expression_node e)) in
    let there : slice_get (in_mark m) i ≡ Some (an_expression e) =
    get_in_first (in_mark m) mark.behind i (an_expression e) less (ap (λ (l : List Node). slice_get l i) (sym mark.are) ∙ get_dropped j i (nodes unit) ∙ ap (slice_get (nodes unit)) (sym is) ∙ here) in
    let part = part_begins (closed.mark m) i (an_expression e) there in
    let size : length (in_mark m) - i ≡ length (in_expression e) + length part.0 = sym (length-drop i (in_mark m)) ∙ ap length part.1 ∙ length-append (in_expression e) part.0 in
    omega (arith, is, less, size)

-- ---- what a mark covers

one_of : {X : Type 0} (test : X → Bool) (xs : List X) → list_any test xs ≡ true → (x : X) × IsAmong x xs × (test x ≡ true)
one_of test [] is = absurd (false≢true is)
one_of {X} test (x ∷ xs) is = by (test x) refl is (one_of test xs)
  where
    by : (b : Bool) → test x ≡ b → (b || list_any test xs) ≡ true → (list_any test xs ≡ true → (y : X) × IsAmong y xs × (test y ≡ true)) → (y : X) × IsAmong y (x ∷ xs) × (test y ≡ true)
    by true passes h rest = (x, inl refl, passes)
    by false fails h rest = let it = rest h in (it.0, inr it.1, it.2)

-- a mark of the unit, and the numbers of what stands in it
record Covering (unit : c.Unit) (k : ℕ) : Type 0 where
  number : ℕ
  mark : c.Mark
  there : GoOn unit number (in_mark mark)
  low : number ≤ k
  high : k < number + length (in_mark mark)

low_of : (first size k : ℕ) → covers k (record { first = first; size = size }) ≡ true → (first ≤ k) × (k < first + size)
low_of first size k is = (grind (arith, nat_tests), grind (arith, nat_tests))

covering_by : {unit : c.Unit} (k n : ℕ) (x : Node) (it : Span) → IsAmong (record { number = n; node = x }) (sites unit) → IsAmong it (mark_in (record { number = n; node = x })) → covers k it ≡ true → Covering unit k
covering_by k n (a_mark m) it among (inl is) covered =
    let ends = low_of n (length (in_mark m)) k (ap (covers k) is ∙ covered) in record { number = n; mark = m; there = part_there n (a_mark m) among; low = ends.0; high = ends.1 }
covering_by k n (a_mark m) it among (inr none) covered = absurd none
covering_by k n (an_external x) it among none covered = absurd none
covering_by k n (a_declarator d) it among none covered = absurd none
covering_by k n (an_initialiser i) it among none covered = absurd none
covering_by k n (a_member m) it among none covered = absurd none
covering_by k n (an_enumerator name value) it among none covered = absurd none
covering_by k n (a_label label) it among none covered = absurd none
covering_by k n (a_declared_item d) it among none covered = absurd none
covering_by k n (a_stated_item x) it among none covered = absurd none
covering_by k n (a_marked_item m) it among none covered = absurd none
covering_by k n (a_statement x) it among none covered = absurd none
covering_by k n (an_expression e) it among none covered = absurd none

covering : (unit : c.Unit) (k : ℕ) → list_any (covers k) (flat_map mark_in (sites unit)) ≡ true → Covering unit k
covering unit k is =
    let it = one_of (covers k) (flat_map mark_in (sites unit)) is in
    let at = given_by mark_in it.0 (sites unit) it.1 in
    covering_by k (at.0).number (at.0).node it.0 at.1 at.2 it.2

-- ---- what no mark covers

in_rest : (k : ℕ) (b : Bool) (n : ℕ) (rest : List ℕ) → IsAmong k rest → IsAmong k (if b then n ∷ rest else rest)
in_rest k true n rest h = inr h
in_rest k false n rest h = h

in_front_of : (k : ℕ) (b : Bool) (n : ℕ) (rest : List ℕ) → n ≡ k → b ≡ true → IsAmong k (if b then n ∷ rest else rest)
in_front_of k true n rest is h = inl is
in_front_of k false n rest is h = absurd (false≢true h)

both_so : (a b : Bool) → a ≡ true → b ≡ false → (a && not b) ≡ true
both_so true false p q = refl
both_so true true p q = absurd cc
both_so false b p q = absurd cc

number_there : (marks : List Span) (k : ℕ) (x : Node) (list : List Site) → IsAmong (record { number = k; node = x }) list → stays_without_marks x ≡ true → list_any (covers k) marks ≡ false
    → IsAmong k (numbers_outside marks list)
number_there marks k x [] h stays outside = absurd h
number_there marks k x (site ∷ rest) (inl is) stays outside =
    in_front_of k (stays_without_marks site.node && not (list_any (covers site.number) marks)) site.number (numbers_outside marks rest) (ap (λ (it : Site). it.number) is)
    (ap (λ (it : Site). stays_without_marks it.node && not (list_any (covers it.number) marks)) is ∙ both_so (stays_without_marks x) (list_any (covers k) marks) stays outside)
number_there marks k x (site ∷ rest) (inr h) stays outside =
    in_rest k (stays_without_marks site.node && not (list_any (covers site.number) marks)) site.number (numbers_outside marks rest) (number_there marks k x rest h stays outside)

equal_itself : (n : ℕ) → eqb n n ≡ true
equal_itself n = grind (arith, nat_tests)

-- among numbers each corresponds to itself
corresponds : (k : ℕ) (xs : List ℕ) → IsAmong k xs → corresponding k xs xs ≡ Some k
corresponds k [] h = absurd h
corresponds k (x ∷ xs) h = by (eqb x k) refl h (corresponds k xs)
  where
    by : (b : Bool) → eqb x k ≡ b → IsAmong k (x ∷ xs) → (IsAmong k xs → corresponding k xs xs ≡ Some k) → (if b then Some x else corresponding k xs xs) ≡ Some k
    by true is h rest = ap Some (eqb-true x k is)
    by false is (inl same) rest = absurd (false≢true (sym is ∙ ap (λ n. eqb n k) same ∙ equal_itself k))
    by false is (inr h) rest = rest h

-- ---- constants

abbrev is_number_of : Option Fact → Bool
is_number_of found = elim (found) as (λ _. Bool) [ None ↦ false | Some fact ↦ is_number fact.constancy ]

abbrev fact_of_number : Program → Option ℕ → Option Fact
fact_of_number program number = elim (number) as (λ _. Option Fact) [ None ↦ None | Some n ↦ fact_among program.facts n ]

constant_outside : (unit : c.Unit) (program : Program) (k : ℕ) (fact : Fact) → program.unit ≡ unit → IsAmong k (unmarked_numbers unit) → fact_among program.facts k ≡ Some fact → is_number fact.constancy ≡ true
    → is_constant unit program k ≡ true
constant_outside unit program k fact of_unit among found constant =
    ap (λ (other : c.Unit). is_number_of (fact_of_number program (corresponding k (unmarked_numbers unit) (unmarked_numbers other)))) of_unit
    ∙ ap (λ number. is_number_of (fact_of_number program number)) (corresponds k (unmarked_numbers unit) among) ∙ ap is_number_of found ∙ constant

-- No label stands in an expression of which the program knows that it is an integer constant.
pub constant_is_closed : (unit : c.Unit) (program : Program) (k : ℕ) (e : c.Expression) (fact : Fact) → program.unit ≡ unit → stays_without_marks (an_expression e) ≡ true → GoOn unit k (in_expression e)
    → fact_among program.facts k ≡ Some fact → is_number fact.constancy ≡ true → AreClosed unit program k (length (in_expression e))
constant_is_closed unit program k e fact of_unit stays s found constant = by (list_any (covers k) (flat_map mark_in (sites unit))) refl
  where
    begun : GoOn unit k (an_expression e ∷ inside (an_expression e))
    begun = subst (GoOn unit k) (expression_node e) s

    by : (b : Bool) → list_any (covers k) (flat_map mark_in (sites unit)) ≡ b → AreClosed unit program k (length (in_expression e))
    by true is =
        let it = covering unit k is in
        part_closed unit program it.number (length (in_mark it.mark)) k (length (in_expression e)) it.low (ends_in_mark it.number k it.mark e it.there s it.low it.high) (mark_closed program it.mark it.there)
    by false is =
        constant_closed program e (constant_outside unit program k fact of_unit (number_there (flat_map mark_in (sites unit)) k (an_expression e) (sites unit) (site_there begun) stays is) found constant) s
