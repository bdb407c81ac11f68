-- Marks sorted by their places: those of one place keep their order.
use Rattle.std.proofs.Common.{◌≡◌, refl, sym, ap, ◌∙◌, ℕ, suc, ◌<◌, ◌≤◌, ◌==◌, cond, Bool, true, false, List, [], ◌∷◌, length, get_or, map, not, ◌&&◌, ◌^◌, ◌⊎◌, inl, inr, arith}
use Rattle.std.specs.Prelude.{filter}
use Rattle.std.proofs.lemmas.Bool.{ne_eqb, cases_lt}
use Rattle.std.specs.List.Sorted.{IsStableByKey, IsNonDecreasingBy, ties}
use Rattle.std.specs.Ordering.{is_lt, nat_cmp}
use Rattle.std.proofs.lemmas.List.Elements.{filter_agree}
use Rattle.std.proofs.lemmas.Bool.Decides.{nat_tests}
use Rattle.lt_placing.specs.declared.new_mark.NewMark.{NewMark as Held}
use Rattle.lt_placing.specs.NewMarks.{new_mark_of, new_marks}
use Rattle.lt_placing.specs.Walks.{of_place, AscendFrom}

abbrev pub place_of : Held → ℕ
place_of it = it.place

abbrev before : Held → Held → Bool
before x y = is_lt (nat_cmp x.place y.place)

tied : (a b : ℕ) → (not (is_lt (nat_cmp a b)) && not (is_lt (nat_cmp b a))) ≡ (b == a)
tied a b = grind (arith, nat_tests)

filtered : (j : ℕ) (marks : List Held) → of_place j (new_marks marks) ≡ map new_mark_of (filter (λ (it : Held). it.place == j) marks)
filtered j [] = refl
filtered j (it ∷ rest) = by (filtered j rest) (it.place == j)
  where
    by : of_place j (new_marks rest) ≡ map new_mark_of (filter (λ (it : Held). it.place == j) rest) → (b : Bool) →
        cond b (new_mark_of it ∷ of_place j (new_marks rest)) (of_place j (new_marks rest))
        ≡ map new_mark_of (cond b (it ∷ filter (λ (it : Held). it.place == j) rest) (filter (λ (it : Held). it.place == j) rest))
    by so true = ap (λ xs. new_mark_of it ∷ xs) so
    by so false = so

kept_at : (x : Held) (xs ys : List Held) → filter (ties before x) ys ≡ filter (ties before x) xs → of_place x.place (new_marks ys) ≡ of_place x.place (new_marks xs)
kept_at x xs ys same =
    filtered x.place ys
    ∙ ap (map new_mark_of) (sym (agree ys) ∙ same ∙ agree xs)
    ∙ sym (filtered x.place xs)
  where
    agree : (zs : List Held) → filter (ties before x) zs ≡ filter (λ (it : Held). it.place == x.place) zs
    agree zs = filter_agree (ties before x) (λ (it : Held). it.place == x.place) (λ it. tied x.place it.place) zs

no_place : (j : ℕ) (marks : List Held) → 2 ^ 64 ≤ j → of_place j (new_marks marks) ≡ []
no_place j [] large = refl
no_place j (it ∷ rest) large =
    let bound : it.place < 2 ^ 64 = it.in_range in
    ap (λ b. cond b (new_mark_of it ∷ of_place j (new_marks rest)) (of_place j (new_marks rest))) (ne_eqb it.place j (λ same. omega arith)) ∙ no_place j rest large

pub kept : (j : ℕ) (xs ys : List Held) → length ys ≡ length xs → IsStableByKey place_of nat_cmp xs ys → of_place j (new_marks ys) ≡ of_place j (new_marks xs)
kept j [] [] same stable = refl
kept j [] (y ∷ ys) same stable = absurd (omega arith)
kept j (x ∷ xs) ys same stable = by (cases_lt j (2 ^ 64))
  where
    by : (j < 2 ^ 64) ⊎ (2 ^ 64 ≤ j) → of_place j (new_marks ys) ≡ of_place j (new_marks (x ∷ xs))
    by (inl less) = let it : Held = record x { place = j; in_range = less } in kept_at it (x ∷ xs) ys (stable it)
    by (inr large) = no_place j ys large ∙ sym (no_place j (x ∷ xs) large)

pub ascend : (k : ℕ) (marks : List Held) → ((d : Held) → 0 < length marks → k ≤ place_of (get_or marks 0 d)) → IsNonDecreasingBy place_of marks → AscendFrom k (new_marks marks)
ascend k [] first up = tt
ascend k (it ∷ rest) first up = (
  first it (omega arith),
  ascend it.place rest (λ d some. up 0 1 d (omega arith) (omega arith)) (λ i j d le within. up (suc i) (suc j) d (omega arith) (omega arith)),
)
