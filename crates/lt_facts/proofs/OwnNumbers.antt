-- Both walks side by side give the numbers of the same nodes.
use Rattle.std.proofs.Common.{◌≡◌, ℕ, ◌+◌, ◌<◌, ◌≤◌, cond, eqb, Bool, true, false, List, [], ◌∷◌, map, Option, Some, None, refl, sym, ap, ◌∙◌, arith}
use Rattle.std.specs.List.{flat_map}
use Rattle.std.proofs.lemmas.Bool.Decides.{nat_tests}
use Rattle.lt_tree.specs.Tree as c
use Rattle.lt_tree.specs.Nodes.{Node, nodes}
use Rattle.lt_tree.specs.Typing.Programs as s
use Rattle.lt_objectives.specs.Places.{Span, mark_in, sites, sites_from, numbers_outside, unmarked_numbers, corresponding}
use Rattle.lt_sites.specs.declared.site.Site.{Site}
use Rattle.lt_sites.specs.Sites.{entry_of, AreSitesOf}
use Rattle.lt_facts.specs.Numbers.{own_numbers}
use Rattle.lt_facts.specs.Outside.{outside_from, places_from, side_by_side}
use Rattle.lt_facts.proofs.OutsideMarks.{is_outside, outside_unit, places_unit}

other_place : (first k : ℕ) → k < first → eqb first k ≡ false
other_place first k before = grind (arith, nat_tests)

same_place : (k : ℕ) → eqb k k ≡ true
same_place k = grind (arith, nat_tests)

none_corresponds : (j : ℕ) (ms : List ℕ) → None ≡ corresponding j ms []
none_corresponds j [] = refl
none_corresponds j (m ∷ ms) = refl

-- a number that stands before them all
not_among : (k first : ℕ) (ms own : List ℕ) → k < first → ((others : List ℕ) → corresponding k ms others ≡ None) → (b : Bool) → corresponding k (cond b (first ∷ ms) ms) own ≡ None
not_among k first ms own before none false = none own
not_among k first ms [] before none true = refl
not_among k first ms (n ∷ own) before none true = ap (λ b. cond b (Some n) (corresponding k ms own)) (other_place first k before) ∙ none own

before_all : (marks : List Span) (k first : ℕ) (ns : List Node) → k < first → (own : List ℕ) → corresponding k (numbers_outside marks (sites_from first ns)) own ≡ None
before_all marks k first [] before own = refl
before_all marks k first (node ∷ ns) before own =
    not_among k first (numbers_outside marks (sites_from (first + 1) ns)) own before (before_all marks k (first + 1) ns (omega (arith, before))) (is_outside marks (record { number = first; node = node }))

-- one node more
step : (b : Bool) (k : ℕ) (flags : List Bool) (ms own : List ℕ) (others : List (Option ℕ)) (f : ℕ → Option ℕ) → ((j : ℕ) → k ≤ j → f j ≡ corresponding j (cond b (k ∷ ms) ms) own)
    → ((rest : List ℕ) → corresponding k ms rest ≡ None) → ((rest : List ℕ) → ((j : ℕ) → k + 1 ≤ j → f j ≡ corresponding j ms rest) → side_by_side flags rest ≡ others)
    → side_by_side (b ∷ flags) own ≡ f k ∷ others
step false k flags ms own others f is none next = ap (λ o. o ∷ side_by_side flags own) (sym (is k (omega arith) ∙ none own)) ∙ ap (λ os. f k ∷ os) (next own (λ j above. is j (omega (arith, above))))
step true k flags ms [] others f is none next =
    ap (λ o. o ∷ side_by_side flags []) (sym (is k (omega arith))) ∙ ap (λ os. f k ∷ os) (next [] (λ j above. is j (omega (arith, above)) ∙ none_corresponds j ms))
step true k flags ms (n ∷ own) others f is none next =
    ap (λ o. o ∷ side_by_side flags own) (sym (is k (omega arith) ∙ ap (λ b. cond b (Some n) (corresponding k ms own)) (same_place k)))
    ∙ ap (λ os. f k ∷ os) (next own (λ j above. is j (omega (arith, above)) ∙ ap (λ b. cond b (Some n) (corresponding j ms own)) (later_place j above)))
  where
    later_place : (j : ℕ) → k + 1 ≤ j → eqb k j ≡ false
    later_place j above = grind (arith, nat_tests)

all_of : (marks : List Span) (k : ℕ) (ns : List Node) (own : List ℕ) (f : ℕ → Option ℕ) → ((j : ℕ) → k ≤ j → f j ≡ corresponding j (numbers_outside marks (sites_from k ns)) own)
    → side_by_side (map (is_outside marks) (sites_from k ns)) own ≡ map (λ site. f site.number) (sites_from k ns)
all_of marks k [] own f is = refl
all_of marks k (node ∷ ns) own f is =
    step (is_outside marks (record { number = k; node = node })) k (map (is_outside marks) (sites_from (k + 1) ns)) (numbers_outside marks (sites_from (k + 1) ns)) own
    (map (λ site. f site.number) (sites_from (k + 1) ns)) f is (before_all marks k (k + 1) ns (omega arith)) (λ rest later. all_of marks (k + 1) ns rest f later)

pub own_numbers_are : (unit : c.Unit) (program : s.Program) (list own : List Site) (flags own_flags : List Bool) (numbers : List ℕ) (matched : List (Option ℕ))
    → AreSitesOf list unit → AreSitesOf own program.unit → flags ≡ outside_from 0 (map entry_of list) → own_flags ≡ outside_from 0 (map entry_of own) → numbers ≡ places_from 0 own_flags
    → matched ≡ side_by_side flags numbers → matched ≡ own_numbers unit program
own_numbers_are unit program list own flags own_flags numbers matched of_unit of_program flag own_flag number match =
    match
    ∙ ap (λ bs. side_by_side bs numbers) (flag ∙ ap (outside_from 0) of_unit ∙ outside_unit unit)
    ∙ ap (side_by_side (map (is_outside (flat_map mark_in (sites unit))) (sites unit))) (number ∙ ap (places_from 0) (own_flag ∙ ap (outside_from 0) of_program) ∙ places_unit program.unit)
    ∙ all_of (flat_map mark_in (sites unit)) 0 (nodes unit) (unmarked_numbers program.unit) (λ j. corresponding j (unmarked_numbers unit) (unmarked_numbers program.unit)) (λ j above. refl)
