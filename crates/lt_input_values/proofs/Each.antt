-- What holds of each thing in a list.
use Rattle.std.proofs.Common.{◌≡◌, Bool, true, false, cond, List, [], ◌∷◌, ◌++◌, Option, refl}
use Rattle.std.specs.Prelude.{◌||◌}
use Rattle.std.specs.List.{filter, filter_map, list_any}

abbrev pub Each : {A : Type 0} → (A → Type 0) → List A → Type 0
Each P [] = Unit {0}
Each P (x ∷ xs) = P x × Each P xs

pub each_of_two : {A : Type 0} (P : A → Type 0) (xs ys : List A) → Each P xs → Each P ys → Each P (xs ++ ys)
each_of_two P [] ys hs gs = gs
each_of_two P (x ∷ xs) ys hs gs = (hs.0, each_of_two P xs ys hs.1 gs)

pub each_weaker : {A : Type 0} (P Q : A → Type 0) → ((a : A) → P a → Q a) → (xs : List A) → Each P xs → Each Q xs
each_weaker P Q weaken [] hs = tt
each_weaker P Q weaken (x ∷ xs) hs = (weaken x hs.0, each_weaker P Q weaken xs hs.1)

kept_fits : {A : Type 0} (p : A → Bool) (x : A) (xs : List A) (t : Bool) → p x ≡ t → Each (λ a. p a ≡ true) (filter p xs) → Each (λ a. p a ≡ true) (cond t (x ∷ filter p xs) (filter p xs))
kept_fits p x xs true e hs = (e, hs)
kept_fits p x xs false e hs = hs

pub filter_fits : {A : Type 0} (p : A → Bool) (xs : List A) → Each (λ a. p a ≡ true) (filter p xs)
filter_fits p [] = tt
filter_fits p (x ∷ xs) = kept_fits p x xs (p x) refl (filter_fits p xs)

or_true : (a b : Bool) → b ≡ true → (a || b) ≡ true
or_true true b h = refl
or_true false b h = h

-- A test that holds of a thing in a list holds of some thing there.
pub members : {A B : Type 0} (f : A → B → Bool) (xs : List A) → Each (λ a. (b : B) → f a b ≡ true → list_any (λ x. f x b) xs ≡ true) xs
members f [] = tt
members {A} {B} f (x ∷ xs) = (
  λ b h. rw h refl,
  each_weaker (λ a. (b : B) → f a b ≡ true → list_any (λ x. f x b) xs ≡ true) (λ a. (b : B) → f a b ≡ true → list_any (λ x. f x b) (x ∷ xs) ≡ true) (λ a is b h. or_true (f x b) (list_any (λ x. f x b) xs) (is b h)) xs (members f xs),
)

pub filter_same : {A : Type 0} (p q : A → Bool) (xs : List A) → Each (λ x. p x ≡ q x) xs → filter p xs ≡ filter q xs
filter_same p q [] same = refl
filter_same p q (x ∷ xs) same = rw (same.0, filter_same p q xs same.1) refl

pub filter_map_same : {A B : Type 0} (f g : A → Option B) (xs : List A) → Each (λ x. f x ≡ g x) xs → filter_map f xs ≡ filter_map g xs
filter_map_same f g [] same = refl
filter_map_same f g (x ∷ xs) same = rw (same.0, filter_map_same f g xs same.1) refl

pub filter_all : {A : Type 0} (p : A → Bool) (xs : List A) → Each (λ x. p x ≡ true) xs → filter p xs ≡ xs
filter_all p [] hold = refl
filter_all p (x ∷ xs) hold = rw (hold.0, filter_all p xs hold.1) refl

pub filter_none : {A : Type 0} (p : A → Bool) (xs : List A) → Each (λ x. p x ≡ false) xs → filter p xs ≡ []
filter_none p [] hold = refl
filter_none p (x ∷ xs) hold = rw (hold.0, filter_none p xs hold.1) refl

-- What holds of all things holds of each.
pub each_of_all : {A : Type 0} (P : A → Type 0) → ((a : A) → P a) → (xs : List A) → Each P xs
each_of_all P all [] = tt
each_of_all P all (x ∷ xs) = (all x, each_of_all P all xs)
