-- Lists that are made of a slice, one element at each turn.
use Rattle.std.proofs.Common.{◌≡◌, ℕ, ◌+◌, ◌<◌, ◌≤◌, List, [], ◌∷◌, ◌++◌, length, get_or, map, take, sym, ap, ◌∙◌, append_assoc}
use Rattle.std.proofs.lemmas.List.{append-nil, map-append, take_all, take_more}
use Rattle.std.specs.List.{flat_map}
use Rattle.std.proofs.lemmas.Grind.{flat_map-append}

taken : {X : Type 0} (xs : List X) (i : ℕ) (x : X) → i < length xs → x ≡ get_or xs i x → take (i + 1) xs ≡ take i xs ++ x ∷ []
taken xs i x within is = take_more xs i x within ∙ ap (λ z. take i xs ++ z ∷ []) (sym is)

-- the elements themselves, behind others
pub more_pushed : {X : Type 0} (old out out2 xs : List X) (i : ℕ) (x : X) → i < length xs → x ≡ get_or xs i x → out ≡ old ++ take i xs → out2 ≡ out ++ x ∷ [] → out2 ≡ old ++ take (i + 1) xs
more_pushed old out out2 xs i x within is kept e = e ∙ (ap (λ z. z ++ x ∷ []) kept ∙ (append_assoc old (take i xs) (x ∷ []) ∙ ap (λ z. old ++ z) (sym (taken xs i x within is))))

pub all_pushed : {X : Type 0} (old out xs : List X) (i : ℕ) → length xs ≤ i → out ≡ old ++ take i xs → out ≡ old ++ xs
all_pushed old out xs i past kept = kept ∙ ap (λ z. old ++ z) (take_all i xs past)

-- the bytes of each, behind others
pub more_put : {X : Type 0} (f : X → List ℕ) (old out out2 : List ℕ) (xs : List X) (i : ℕ) (x : X) → i < length xs → x ≡ get_or xs i x → out ≡ old ++ flat_map f (take i xs) → out2 ≡ out ++ f x → out2 ≡ old ++ flat_map f (take (i + 1) xs)
more_put f old out out2 xs i x within is kept e =
    let more : flat_map f (take (i + 1) xs) ≡ flat_map f (take i xs) ++ f x = ap (flat_map f) (taken xs i x within is) ∙ (flat_map-append f (take i xs) (x ∷ []) ∙ ap (λ z. flat_map f (take i xs) ++ z) (append-nil (f x))) in
    e ∙ (ap (λ z. z ++ f x) kept ∙ (append_assoc old (flat_map f (take i xs)) (f x) ∙ ap (λ z. old ++ z) (sym more)))

pub all_put : {X : Type 0} (f : X → List ℕ) (old out : List ℕ) (xs : List X) (i : ℕ) → length xs ≤ i → out ≡ old ++ flat_map f (take i xs) → out ≡ old ++ flat_map f xs
all_put f old out xs i past kept = kept ∙ ap (λ z. old ++ flat_map f z) (take_all i xs past)

-- what is made of each
pub more_mapped : {X Y : Type 0} (f : X → Y) (out out2 : List Y) (xs : List X) (i : ℕ) (x : X) (y : Y) → i < length xs → x ≡ get_or xs i x → out ≡ map f (take i xs) → y ≡ f x → out2 ≡ out ++ y ∷ [] → out2 ≡ map f (take (i + 1) xs)
more_mapped f out out2 xs i x y within is kept same e =
    e ∙ ((λ j. kept j ++ same j ∷ []) ∙ sym (ap (map f) (taken xs i x within is) ∙ map-append f (take i xs) (x ∷ [])))

pub all_mapped : {X Y : Type 0} (f : X → Y) (out : List Y) (xs : List X) (i : ℕ) → length xs ≤ i → out ≡ map f (take i xs) → out ≡ map f xs
all_mapped f out xs i past kept = kept ∙ ap (map f) (take_all i xs past)
