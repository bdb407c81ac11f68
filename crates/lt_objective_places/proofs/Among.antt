-- What is among the elements of a list.
use Rattle.std.proofs.Common.{◌≡◌, ◌⊎◌, inl, inr, refl, ap, ◌∙◌, List, [], ◌∷◌, ◌++◌, map, Bool, true, false, ◌||◌}
use Rattle.std.specs.List.{flat_map, list_any}
use Rattle.lt_objective_places.specs.Stands.{IsAmong}

pub in_either : {X : Type 0} (x : X) (xs ys : List X) → IsAmong x (xs ++ ys) → IsAmong x xs ⊎ IsAmong x ys
in_either x [] ys h = inr h
in_either x (z ∷ xs) ys (inl e) = inl (inl e)
in_either x (z ∷ xs) ys (inr h) = elim (in_either x xs ys h) [ inl i ↦ inl (inr i) | inr i ↦ inr i ]

pub in_first : {X : Type 0} (x : X) (xs ys : List X) → IsAmong x xs → IsAmong x (xs ++ ys)
in_first x [] ys h = absurd h
in_first x (z ∷ xs) ys (inl e) = inl e
in_first x (z ∷ xs) ys (inr h) = inr (in_first x xs ys h)

pub in_second : {X : Type 0} (x : X) (xs ys : List X) → IsAmong x ys → IsAmong x (xs ++ ys)
in_second x [] ys h = h
in_second x (z ∷ xs) ys h = inr (in_second x xs ys h)

-- what an element gives
pub given_by : {X Y : Type 0} (f : X → List Y) (y : Y) (xs : List X) → IsAmong y (flat_map f xs) → (x : X) × IsAmong x xs × IsAmong y (f x)
given_by f y [] h = absurd h
given_by f y (x ∷ xs) h = elim (in_either y (f x) (flat_map f xs) h) [ inl i ↦ (x, inl refl, i) | inr i ↦ let it = given_by f y xs i in (it.0, inr it.1, it.2) ]

pub image_of : {X Y : Type 0} (f : X → Y) (y : Y) (xs : List X) → IsAmong y (map f xs) → (x : X) × IsAmong x xs × (f x ≡ y)
image_of f y [] h = absurd h
image_of f y (x ∷ xs) (inl e) = (x, inl refl, e)
image_of f y (x ∷ xs) (inr h) = let it = image_of f y xs h in (it.0, inr it.1, it.2)

or_true : (b : Bool) → (b || true) ≡ true
or_true true = refl
or_true false = refl

-- one that passes a test
pub any_of : {X : Type 0} (p : X → Bool) (x : X) (xs : List X) → IsAmong x xs → p x ≡ true → list_any p xs ≡ true
any_of p x [] h t = absurd h
any_of p x (y ∷ ys) (inl e) t = ap (λ z. p z || list_any p ys) e ∙ ap (λ b. b || list_any p ys) t
any_of p x (y ∷ ys) (inr h) t = ap (λ b. p y || b) (any_of p x ys h t) ∙ or_true (p y)
