-- Tests, and what is found.
use Rattle.std.proofs.Common.{◌≡◌, ℕ, Bool, true, false, cond, List, [], ◌∷◌, ◌++◌, length, map, Option, Some, None, refl, sym, ap, ◌∙◌}
use Rattle.std.specs.Prelude.{◌&&◌, ◌||◌, ◌==◌, not, is_some, is_none, option_map}
use Rattle.std.specs.Option.{option_or}
use Rattle.std.specs.List.{list_all, list_any, find}
use Rattle.lt_tree.specs.Typing.Entities.{or_else}
use Rattle.lt_entry.specs.Meaning.{first_some}

pub both : (a b : Bool) → (a && b) ≡ true → (a ≡ true) × (b ≡ true)
both true b h = (refl, h)
both false b h = absurd (cc)

pub and_true : (b : Bool) → (b && true) ≡ b
and_true true = refl
and_true false = refl

pub and_false : (b : Bool) → (b && false) ≡ false
and_false true = refl
and_false false = refl

pub some_is : {A : Type 0} (o : Option A) → is_some o ≡ true → (a : A) × (o ≡ Some a)
some_is None h = absurd (cc)
some_is (Some a) h = (a, refl)

pub some_mapped : {A B : Type 0} (f : A → B) (o : Option A) → is_some (option_map f o) ≡ is_some o
some_mapped f None = refl
some_mapped f (Some a) = refl

pub some_or : {A : Type 0} (a b : Option A) → is_some (or_else a b) ≡ (is_some a || is_some b)
some_or None b = refl
some_or (Some a) b = refl

pub or_else-none : {A : Type 0} (a : Option A) → or_else a None ≡ a
or_else-none None = refl
or_else-none (Some a) = refl

pub or_else-assoc : {A : Type 0} (a b c : Option A) → or_else (or_else a b) c ≡ or_else a (or_else b c)
or_else-assoc None b c = refl
or_else-assoc (Some a) b c = refl

pub mapped_or : {A B : Type 0} (f : A → B) (a b : Option A) → option_map f (or_else a b) ≡ or_else (option_map f a) (option_map f b)
mapped_or f None b = refl
mapped_or f (Some a) b = refl

-- something is found where any is sought
pub found_any : {A : Type 0} (p : A → Bool) (xs : List A) → is_some (find p xs) ≡ list_any p xs
found_any p [] = refl
found_any p (x ∷ xs) = one (p x) ∙ ap (λ b. p x || b) (found_any p xs)
  where
    one : (b : Bool) → is_some (cond b (Some x) (find p xs)) ≡ (b || is_some (find p xs))
    one true = refl
    one false = refl

pub find-append : {A : Type 0} (p : A → Bool) (xs ys : List A) → find p (xs ++ ys) ≡ or_else (find p xs) (find p ys)
find-append p [] ys = refl
find-append p (x ∷ xs) ys = one (p x) (find-append p xs ys)
  where
    one : (b : Bool) → find p (xs ++ ys) ≡ or_else (find p xs) (find p ys) → cond b (Some x) (find p (xs ++ ys)) ≡ or_else (cond b (Some x) (find p xs)) (find p ys)
    one true e = refl
    one false e = e

pub find-map : {A B : Type 0} (f : A → B) (p : B → Bool) (xs : List A) → find p (map f xs) ≡ option_map f (find (λ x. p (f x)) xs)
find-map f p [] = refl
find-map f p (x ∷ xs) = one (p (f x)) (find-map f p xs)
  where
    one : (b : Bool) → find p (map f xs) ≡ option_map f (find (λ x. p (f x)) xs) → cond b (Some (f x)) (find p (map f xs)) ≡ option_map f (cond b (Some x) (find (λ x. p (f x)) xs))
    one true e = refl
    one false e = e

pub first_some-append : {A : Type 0} (os ps : List (Option A)) → first_some (os ++ ps) ≡ or_else (first_some os) (first_some ps)
first_some-append [] ps = refl
first_some-append (None ∷ os) ps = first_some-append os ps
first_some-append (Some a ∷ os) ps = refl

pub first_one : {A : Type 0} (o : Option A) → first_some (o ∷ []) ≡ o
first_one None = refl
first_one (Some a) = refl

map-append : {A B : Type 0} (f : A → B) (xs ys : List A) → map f (xs ++ ys) ≡ map f xs ++ map f ys
map-append f [] ys = refl
map-append f (x ∷ xs) ys = ap (λ l. f x ∷ l) (map-append f xs ys)

-- the first that says something, with one more
pub first_more : {A B : Type 0} (f : A → Option B) (xs : List A) (x : A) → first_some (map f (xs ++ x ∷ [])) ≡ or_else (first_some (map f xs)) (f x)
first_more f xs x = ap first_some (map-append f xs (x ∷ [])) ∙ first_some-append (map f xs) (f x ∷ []) ∙ ap (or_else (first_some (map f xs))) (first_one (f x))

-- whether any says something
pub first_any : {A B : Type 0} (f : A → Option B) (p : A → Bool) → ((x : A) → is_some (f x) ≡ p x) → (xs : List A) → is_some (first_some (map f xs)) ≡ list_any p xs
first_any f p same [] = refl
first_any {B = B} f p same (x ∷ xs) = one (f x) ∙ ap (λ b. b || is_some (first_some (map f xs))) (same x) ∙ ap (λ b. p x || b) (first_any f p same xs)
  where
    one : (o : Option B) → is_some (first_some (o ∷ map f xs)) ≡ (is_some o || is_some (first_some (map f xs)))
    one None = refl
    one (Some b) = refl

pub first_same : {A B : Type 0} (f g : A → Option B) (p : A → Bool) → ((x : A) → p x ≡ true → f x ≡ g x) → (xs : List A) → list_all p xs ≡ true → first_some (map f xs) ≡ first_some (map g xs)
first_same f g p same [] h = refl
first_same {B = B} f g p same (x ∷ xs) h =
    let hs = both (p x) (list_all p xs) h in
    ap (λ o. first_some (o ∷ map f xs)) (same x hs.0) ∙ one (g x) (first_same f g p same xs hs.1)
  where
    one : (o : Option B) → first_some (map f xs) ≡ first_some (map g xs) → first_some (o ∷ map f xs) ≡ first_some (o ∷ map g xs)
    one None e = e
    one (Some b) e = refl

pub all_kept : {A : Type 0} (p q : A → Bool) → ((x : A) → p x ≡ true → q x ≡ true) → (xs : List A) → list_all p xs ≡ true → list_all q xs ≡ true
all_kept p q kept [] h = refl
all_kept p q kept (x ∷ xs) h = let hs = both (p x) (list_all p xs) h in rw (kept x hs.0, all_kept p q kept xs hs.1) refl

pub any_same : {A : Type 0} (p q : A → Bool) → ((x : A) → p x ≡ q x) → (xs : List A) → list_any p xs ≡ list_any q xs
any_same p q same [] = refl
any_same p q same (x ∷ xs) = rw (same x, any_same p q same xs) refl

pub all_same : {A : Type 0} (p q : A → Bool) → ((x : A) → p x ≡ q x) → (xs : List A) → list_all p xs ≡ list_all q xs
all_same p q same [] = refl
all_same p q same (x ∷ xs) = rw (same x, all_same p q same xs) refl

pub not_false : (b : Bool) → not b ≡ true → b ≡ false
not_false true h = absurd (cc)
not_false false h = refl

pub none_is : {A : Type 0} (o : Option A) → is_none o ≡ true → is_some o ≡ false
none_is None h = refl
none_is (Some a) h = absurd (cc)

pub some_there : {A : Type 0} (o : Option A) → is_none o ≡ false → is_some o ≡ true
some_there None h = absurd (cc)
some_there (Some a) h = refl
