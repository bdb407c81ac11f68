-- What is written of steps is cut into them again, and pieces joined are the word.
use Rattle.std.proofs.Common.{◌≡◌, ℕ, Bool, true, false, List, [], ◌∷◌, ◌++◌, refl, sym, ◌∙◌, ap, arith}
use Rattle.std.specs.Prelude.{◌&&◌, not, if◌then◌else◌, flat_map}
use Rattle.std.specs.List.{list_all, onto_first}
use Rattle.std.specs.Char.{is_ascii_digit}
use Rattle.std.proofs.lemmas.Bool.Decides.{nat_tests}
use Rattle.lt_entry.specs.Written.{is_name_byte}
use Rattle.lt_entry.proofs.Pieces.{onto_nothing}
use Rattle.lt_entry.specs.Reading.{begins_step, pieces, onto}

-- no step begins here
abbrev pub is_inner : ℕ → Bool
is_inner b = not (begins_step b)

pub both : (a b : Bool) → (a && b) ≡ true → (a ≡ true) × (b ≡ true)
both true b h = (refl, h)
both false b h = absurd (cc)

pub not_true : (b : Bool) → not b ≡ true → b ≡ false
not_true true h = absurd (cc)
not_true false h = refl

pub all_weaker : {A : Type 0} (p q : A → Bool) → ((a : A) → p a ≡ true → q a ≡ true) → (xs : List A) → list_all p xs ≡ true → list_all q xs ≡ true
all_weaker p q weaken [] h = refl
all_weaker p q weaken (x ∷ xs) h =
    let hs = both (p x) (list_all p xs) h in
    rw (weaken x hs.0, all_weaker p q weaken xs hs.1) refl

pub all_of_two : {A : Type 0} (p : A → Bool) (xs ys : List A) → list_all p xs ≡ true → list_all p ys ≡ true → list_all p (xs ++ ys) ≡ true
all_of_two p [] ys hs gs = gs
all_of_two p (x ∷ xs) ys hs gs =
    let both_hs = both (p x) (list_all p xs) hs in
    rw (both_hs.0, all_of_two p xs ys both_hs.1 gs) refl

onto_more : (b : ℕ) (bytes : List ℕ) (parts : List (List ℕ)) → onto_first b (onto bytes parts) ≡ onto (b ∷ bytes) parts
onto_more b bytes [] = refl
onto_more b bytes (part ∷ parts) = refl

-- bytes at which no step begins stay together with what comes first behind them
pub inner_pieces : (bytes rest : List ℕ) → list_all is_inner bytes ≡ true → pieces (bytes ++ rest) ≡ onto bytes (pieces rest)
inner_pieces [] rest h = sym (onto_nothing rest)
inner_pieces (b ∷ bytes) rest h =
    let hs = both (is_inner b) (list_all is_inner bytes) h in
    rw (not_true (begins_step b) hs.0, inner_pieces bytes rest hs.1) (onto_more b bytes (pieces rest))

-- a step stands apart from what is before it
pub step_pieces : (first : ℕ) (bytes rest : List ℕ) → begins_step first ≡ true → list_all is_inner bytes ≡ true → pieces (first ∷ bytes ++ rest) ≡ [] ∷ onto (first ∷ bytes) (pieces rest)
step_pieces first bytes rest is h = rw (is, inner_pieces bytes rest h) (ap (λ parts. [] ∷ parts) (onto_more first bytes (pieces rest)))

-- ---- joined

joined_first : (b : ℕ) (parts : List (List ℕ)) → flat_map (λ part. part) (onto_first b parts) ≡ b ∷ flat_map (λ part. part) parts
joined_first b [] = refl
joined_first b (part ∷ parts) = refl

joined_cut : (t : Bool) (b : ℕ) (parts : List (List ℕ)) → flat_map (λ part. part) (if t then [] ∷ onto_first b parts else onto_first b parts) ≡ b ∷ flat_map (λ part. part) parts
joined_cut true b parts = joined_first b parts
joined_cut false b parts = joined_first b parts

pub pieces_joined : (bytes : List ℕ) → flat_map (λ part. part) (pieces bytes) ≡ bytes
pieces_joined [] = refl
pieces_joined (b ∷ bytes) = joined_cut (begins_step b) b (pieces bytes) ∙ ap (λ rest. b ∷ rest) (pieces_joined bytes)

-- ---- bytes

pub name_byte_inner : (b : ℕ) → is_name_byte b ≡ true → is_inner b ≡ true
name_byte_inner b h = grind (arith, nat_tests)

pub digit_inner : (b : ℕ) → is_ascii_digit b ≡ true → is_inner b ≡ true
digit_inner b h = grind (arith, nat_tests)
