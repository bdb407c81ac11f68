-- What is asked of the nodes outside of marks, piece by piece.
use Rattle.std.proofs.Common.{◌≡◌, refl, ap, ◌∙◌, ℕ, suc, ◌+◌, ◌-◌, ◌≤◌, max, eqb, Bool, true, false, ◌&&◌, List, [], ◌∷◌, ◌++◌, length, map, arith}
use Rattle.std.proofs.lemmas.Bool.Decides.{nat_tests}
use Rattle.std.proofs.lemmas.List.{map-append}
use Rattle.lt_tree.specs.Tree as c
use Rattle.lt_tree.specs.Nodes.{Node, a_mark, in_mark, in_marks, in_expression, in_bindings}
use Rattle.lt_tree.specs.Typing.Entities.{Fact}
use Rattle.lt_objectives.specs.Places.{stays_without_marks}
use Rattle.lt_sites.specs.Sites.{part_of}
use Rattle.lt_facts.specs.Outside.{mark_size, outside_from, places_from}
use Rattle.lt_kept_facts.specs.Asked.{asked, kept, seen}
use Rattle.lt_kept_facts.proofs.MarksEnd.{Ends, inside_after, none_inside, mark_ends}

-- ---- one piece behind another

one_place : (b : Bool) (k : ℕ) (flags others : List Bool) (more : List ℕ) → places_from (k + 1) flags ≡ places_from (k + 1) others ++ more → places_from k (b ∷ flags) ≡ places_from k (b ∷ others) ++ more
one_place true k flags others more h = ap (λ ns. k ∷ ns) h
one_place false k flags others more h = h

places_both : (k inside : ℕ) (xs ys : List Node)
    → places_from k (outside_from inside (map part_of (xs ++ ys))) ≡ places_from k (outside_from inside (map part_of xs)) ++ places_from (k + length xs) (outside_from (inside_after inside xs) (map part_of ys))
places_both k inside [] ys = let e : k ≡ k + 0 = omega arith in ap (λ n. places_from n (outside_from inside (map part_of ys))) e
places_both k inside (x ∷ xs) ys =
    let later = max (mark_size (part_of x)) inside - 1 in
    let e : k + 1 + length xs ≡ k + suc (length xs) = omega arith in
    one_place (eqb (max (mark_size (part_of x)) inside) 0 && stays_without_marks x) k (outside_from later (map part_of (xs ++ ys))) (outside_from later (map part_of xs))
    (places_from (k + suc (length xs)) (outside_from (inside_after later xs) (map part_of ys)))
    (places_both (k + 1) later xs ys ∙ ap (λ n. places_from (k + 1) (outside_from later (map part_of xs)) ++ places_from n (outside_from (inside_after later xs) (map part_of ys))) e)

-- the nodes outside of marks, of one piece and of the next
pub kept_both : (k : ℕ) (xs ys : List Node) → Ends xs → kept k (xs ++ ys) ≡ kept k xs ++ kept (k + length xs) ys
kept_both k xs ys ends = places_both k 0 xs ys ∙ ap (λ n. kept k xs ++ places_from (k + length xs) (outside_from n (map part_of ys))) (none_inside xs ends)

pub seen_both : (facts : List Fact) (k : ℕ) (xs ys : List Node) → Ends xs → seen facts k (xs ++ ys) ≡ seen facts k xs ++ seen facts (k + length xs) ys
seen_both facts k xs ys ends = ap (map (asked facts)) (kept_both k xs ys ends) ∙ map-append (asked facts) (kept k xs) (kept (k + length xs) ys)

-- ---- marks

still_inside : (size marked n : ℕ) → suc n ≤ marked → eqb (max size marked) 0 ≡ false
still_inside size marked n h = grind (arith, nat_tests)

no_flag : (b c : Bool) (k : ℕ) (flags : List Bool) → b ≡ false → places_from k ((b && c) ∷ flags) ≡ places_from (k + 1) flags
no_flag true c k flags h = absurd cc
no_flag false c k flags h = refl

all_inside : (k marked : ℕ) (xs : List Node) → length xs ≤ marked → places_from k (outside_from marked (map part_of xs)) ≡ []
all_inside k marked [] h = refl
all_inside k marked (x ∷ xs) h =
    let later = max (mark_size (part_of x)) marked - 1 in
    no_flag (eqb (max (mark_size (part_of x)) marked) 0) (stays_without_marks x) k (outside_from later (map part_of xs)) (still_inside (mark_size (part_of x)) marked (length xs) h)
    ∙ all_inside (k + 1) later xs (fewer (mark_size (part_of x)) marked (length xs) h)
  where
    fewer : (size marked n : ℕ) → suc n ≤ marked → n ≤ max size marked - 1
    fewer size marked n h = omega arith

whole_mark : (k : ℕ) (x : Node) (xs : List Node) → mark_size (part_of x) ≡ suc (length xs) → kept k (x ∷ xs) ≡ []
whole_mark k x xs h =
    let later = max (mark_size (part_of x)) 0 - 1 in
    no_flag (eqb (max (mark_size (part_of x)) 0) 0) (stays_without_marks x) k (outside_from later (map part_of xs)) (begun (mark_size (part_of x)) (length xs) h)
    ∙ all_inside (k + 1) later xs (rest (mark_size (part_of x)) (length xs) h)
  where
    begun : (size n : ℕ) → size ≡ suc n → eqb (max size 0) 0 ≡ false
    begun size n h = grind (arith, nat_tests)

    rest : (size n : ℕ) → size ≡ suc n → n ≤ max size 0 - 1
    rest size n h = omega arith

mark_kept : (k : ℕ) (m : c.Mark) → kept k (in_mark m) ≡ []
mark_kept k (c.mark e id tag bound) = whole_mark k (a_mark (c.mark e id tag bound)) (in_expression e ++ in_bindings bound) refl

marks_kept : (k : ℕ) (ms : c.Marks) → kept k (in_marks ms) ≡ []
marks_kept k c.no_marks = refl
marks_kept k (c.a_mark m ms) = kept_both k (in_mark m) (in_marks ms) (mark_ends m) ∙ ap (λ ns. ns ++ kept (k + length (in_mark m)) (in_marks ms)) (mark_kept k m) ∙ marks_kept (k + length (in_mark m)) ms

-- nothing is asked of the nodes of marks
pub mark_unseen : (facts : List Fact) (k : ℕ) (m : c.Mark) → seen facts k (in_mark m) ≡ []
mark_unseen facts k m = ap (map (asked facts)) (mark_kept k m)

pub marks_unseen : (facts : List Fact) (k : ℕ) (ms : c.Marks) → seen facts k (in_marks ms) ≡ []
marks_unseen facts k ms = ap (map (asked facts)) (marks_kept k ms)
