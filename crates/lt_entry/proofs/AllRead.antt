-- What is read of several words is what they write, if it is so of each.
use Rattle.std.proofs.Common.{◌≡◌, ℕ, Bool, true, List, [], ◌∷◌, refl, subst, Option, Some, None}
use Rattle.std.specs.Prelude.{map}
use Rattle.std.specs.List.{list_all}
use Rattle.lt_entry.specs.Reading.{with_first, read_all}
use Rattle.lt_entry.proofs.PieceLaws.{both}

-- Words that are written are read.
pub all_read : {A : Type 0} (read : List ℕ → Option A) (write : A → List ℕ) (good : A → Bool) → ((a : A) → good a ≡ true → read (write a) ≡ Some a) → (xs : List A) → list_all good xs ≡ true → read_all read (map write xs) ≡ Some xs
all_read read write good one [] h = refl
all_read read write good one (x ∷ xs) h = rw (one x (both (good x) (list_all good xs) h).0, all_read read write good one xs (both (good x) (list_all good xs) h).1) refl

-- these things are of their form, and their words are these
abbrev pub WriteAll : {A : Type 0} → (write : A → List ℕ) (good : A → Bool) → List A → List (List ℕ) → Type 0
WriteAll write good xs words = (list_all good xs ≡ true) × (map write xs ≡ words)

first_said : {A : Type 0} (write : A → List ℕ) (good : A → Bool) (word : List ℕ) (words : List (List ℕ)) (o : Option A) (os : Option (List A)) (xs : List A) → ((a : A) → o ≡ Some a → (good a ≡ true) × (write a ≡ word)) → ((rest : List A) → os ≡ Some rest → WriteAll write good rest words) → with_first o os ≡ Some xs → WriteAll write good xs (word ∷ words)
first_said write good word words (Some x) (Some rest) xs one more h =
    let is : x ∷ rest ≡ xs = cc in
    let w = one x refl in
    let ws = more rest refl in
    subst (λ v. WriteAll write good v (word ∷ words)) is (rw (w.0, ws.0) refl, rw (w.1, ws.1) refl)
first_said write good word words (Some x) None xs one more h = absurd (cc)
first_said write good word words None os xs one more h = absurd (cc)

-- What is read of words is what they write.
pub all_said : {A : Type 0} (read : List ℕ → Option A) (write : A → List ℕ) (good : A → Bool) → ((word : List ℕ) (a : A) → read word ≡ Some a → (good a ≡ true) × (write a ≡ word)) → (words : List (List ℕ)) (xs : List A) → read_all read words ≡ Some xs → WriteAll write good xs words
all_said read write good one [] xs h =
    let none : [] ≡ xs = cc in
    subst (λ v. WriteAll write good v []) none (refl, refl)
all_said read write good one (word ∷ words) xs h = first_said write good word words (read word) (read_all read words) xs (one word) (all_said read write good one words) h
