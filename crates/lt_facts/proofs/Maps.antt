-- Lists made from each element of another.
use Rattle.std.proofs.Common.{◌≡◌, ℕ, ◌+◌, ◌<◌, List, [], ◌∷◌, ◌++◌, length, map, drop, get_or, Option, Some, None, refl, sym, ap, ◌∙◌, append_assoc, append-nil, ◌≤◌}
use Rattle.std.specs.Prelude.{option_map}
use Rattle.std.proofs.lemmas.List.{drop_more, drop_all}
use Rattle.std.proofs.lemmas.Option.{slice_get-map}
use Rattle.lt_facts.specs.Indices.{at_place}

pub same_maps : {A B : Type 0} (f g : A → B) → ((a : A) → f a ≡ g a) → (list : List A) → map f list ≡ map g list
same_maps f g is [] = refl
same_maps f g is (a ∷ list) = ap (λ b. b ∷ map f list) (is a) ∙ ap (λ bs. g a ∷ bs) (same_maps f g is list)

-- one element more
pub mapped_more : {X Y : Type 0} (f : X → Y) (xs : List X) (k : ℕ) (d : X) (y : Y) (before new : List Y) → k < length xs → y ≡ f (get_or xs k d) → new ≡ before ++ y ∷ []
    → before ++ map f (drop k xs) ≡ map f xs → new ++ map f (drop (k + 1) xs) ≡ map f xs
mapped_more f xs k d y before new within is last so_far =
    ap (λ ys. ys ++ map f (drop (k + 1) xs)) (last ∙ ap (λ y. before ++ y ∷ []) is)
    ∙ append_assoc before (f (get_or xs k d) ∷ []) (map f (drop (k + 1) xs))
    ∙ ap (λ ys. before ++ map f ys) (sym (drop_more xs k d within))
    ∙ so_far

-- all of them
pub mapped_all : {X Y : Type 0} (f : X → Y) (xs : List X) (k : ℕ) (done : List Y) → length xs ≤ k → done ++ map f (drop k xs) ≡ map f xs → done ≡ map f xs
mapped_all f xs k done past so_far = sym (append-nil done) ∙ ap (λ ys. done ++ map f ys) (sym (drop_all k xs past)) ∙ so_far

pub at_place-map : {A B : Type 0} (f : A → B) (list : List A) (place : Option ℕ) → at_place (map f list) place ≡ option_map f (at_place list place)
at_place-map f list None = refl
at_place-map f list (Some k) = slice_get-map f list k
