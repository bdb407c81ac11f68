-- What holds of each element of a list that is made of others.
use Rattle.std.proofs.Common.{Bool, true, false, List, [], ◌∷◌, ◌++◌, Option, Some, None}
use Rattle.std.specs.Prelude.{if◌then◌else◌, map, flat_map, filter, filter_map, IfSome}
use Rattle.std.specs.List.{AllByRecursion, cons_option}

pub all_both : {A : Type 0} (P : A → Type 0) (xs ys : List A) → AllByRecursion P xs → AllByRecursion P ys → AllByRecursion P (xs ++ ys)
all_both P [] ys h g = g
all_both P (x ∷ xs) ys h g = (h.0, all_both P xs ys h.1 g)

pub all_mapped : {A B : Type 0} (Q : A → Type 0) (P : B → Type 0) (f : A → B) → ((x : A) → Q x → P (f x)) → (xs : List A) → AllByRecursion Q xs → AllByRecursion P (map f xs)
all_mapped Q P f k [] h = tt
all_mapped Q P f k (x ∷ xs) h = (k x h.0, all_mapped Q P f k xs h.1)

pub each_mapped : {A B : Type 0} (P : B → Type 0) (f : A → B) → ((x : A) → P (f x)) → (xs : List A) → AllByRecursion P (map f xs)
each_mapped P f k [] = tt
each_mapped P f k (x ∷ xs) = (k x, each_mapped P f k xs)

pub all_joined : {A B : Type 0} (Q : A → Type 0) (P : B → Type 0) (f : A → List B) → ((x : A) → Q x → AllByRecursion P (f x)) → (xs : List A) → AllByRecursion Q xs
    → AllByRecursion P (flat_map f xs)
all_joined Q P f k [] h = tt
all_joined Q P f k (x ∷ xs) h = all_both P (f x) (flat_map f xs) (k x h.0) (all_joined Q P f k xs h.1)

pub all_filtered : {A : Type 0} (P : A → Type 0) (test : A → Bool) (xs : List A) → AllByRecursion P xs → AllByRecursion P (filter test xs)
all_filtered P test [] h = tt
all_filtered P test (x ∷ xs) h =
    let rest = all_filtered P test xs h.1 in elim (test x) as (λ b. AllByRecursion P (if b then x ∷ filter test xs else filter test xs)) [ true ↦ (h.0, rest) | false ↦ rest ]

pub each_there : {A B : Type 0} (P : B → Type 0) (f : A → Option B) → ((x : A) → IfSome (f x) P) → (xs : List A) → AllByRecursion P (filter_map f xs)
each_there P f k [] = tt
each_there {A} {B} P f k (x ∷ xs) = by (f x) (k x) (each_there P f k xs)
  where
    by : (found : Option B) → IfSome found P → AllByRecursion P (filter_map f xs) → AllByRecursion P (cons_option found (filter_map f xs))
    by None h rest = rest
    by (Some y) h rest = (h, rest)
