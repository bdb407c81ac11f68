-- What is left of a list where a test holds.
use Rattle.std.proofs.Common.{◌≡◌, Bool, true, false, List, [], ◌∷◌, refl}
use Rattle.std.specs.Prelude.{◌||◌, not}
use Rattle.std.specs.List.{list_all, filter}

pub not_first : (a b : Bool) → (a || b) ≡ false → (a ≡ false) × (b ≡ false)
not_first true b h = absurd (cc)
not_first false b h = (refl, h)

abbrev pub is_none_left : {A : Type 0} → List A → Bool
is_none_left [] = true
is_none_left (a ∷ others) = false

left_of : {A : Type 0} (p : A → Bool) (x : A) (xs : List A) (b : Bool) → p x ≡ b → is_none_left (filter (λ x. not (p x)) xs) ≡ list_all p xs → is_none_left (filter (λ x. not (p x)) (x ∷ xs)) ≡ list_all p (x ∷ xs)
left_of p x xs true e ih = rw e ih
left_of p x xs false e ih = rw e refl

pub is_none_left-filter : {A : Type 0} (p : A → Bool) (xs : List A) → is_none_left (filter (λ x. not (p x)) xs) ≡ list_all p xs
is_none_left-filter p [] = refl
is_none_left-filter p (x ∷ xs) = left_of p x xs (p x) refl (is_none_left-filter p xs)
