-- What each of several words says, as a loop finds it.
use Rattle.std.proofs.Common.{◌≡◌, ℕ, ◌<◌, ◌≤◌, ◌+◌, suc, zero, List, [], ◌∷◌, ◌++◌, length, get_or, take, refl, sym, ◌∙◌, ap, arith, Option, Some, None, Bor}
use Rattle.std.specs.Prelude.{map}
use Rattle.std.proofs.lemmas.List.{map_more, take_all}
use Rattle.lt_entry.specs.Reading.{with_first, read_all}

with_none : {A : Type 0} (o : Option A) → with_first o None ≡ None
with_none (Some a) = refl
with_none None = refl

-- one more word says one more thing
more_by_first : {A : Type 0} (words_more : Option (List A)) (a : A) (o : Option A) (more : Option (List A)) → ((rest : List A) → more ≡ Some rest → words_more ≡ Some (rest ++ a ∷ [])) → (done : List A) → with_first o more ≡ Some done → with_first o words_more ≡ Some (done ++ a ∷ [])
more_by_first words_more a None more next done h = cc
more_by_first words_more a (Some b) None next done h = cc
more_by_first words_more a (Some b) (Some rest) next done h = let e : b ∷ rest ≡ done = cc in rw (next rest refl, sym e) refl

pub read_more : {A : Type 0} (read : List ℕ → Option A) (words : List (List ℕ)) (word : List ℕ) (done : List A) (a : A) → read_all read words ≡ Some done → read word ≡ Some a → read_all read (words ++ word ∷ []) ≡ Some (done ++ a ∷ [])
read_more {A} read [] word done a so_far is = let e : Path (List A) [] done = cc in rw (is, sym e) refl
read_more read (first ∷ words) word done a so_far is =
    more_by_first (read_all read (words ++ word ∷ [])) a (read first) (read_all read words) (λ rest e. read_more read words word rest a e is) done so_far

-- a word says nothing
read_none : {A : Type 0} (read : List ℕ → Option A) (words : List (List ℕ)) (i : ℕ) (d : List ℕ) → i < length words → read (get_or words i d) ≡ None → read_all read words ≡ None
read_none read [] i d low is = absurd (omega arith)
read_none read (word ∷ words) zero d low is = rw is (none_first (read_all read words))
  where
    none_first : {A : Type 0} (more : Option (List A)) → with_first None more ≡ None
    none_first more = refl
read_none read (word ∷ words) (suc i) d low is = rw (read_none read words i d (omega arith) is) (with_none (read word))

-- ---- along a loop over words

pub nothing : Bor (List ℕ)
nothing = record { ref_ptr = (0, 0); now = [] }

at_word : (words : List (Bor (List ℕ))) (i : ℕ) (w : Bor (List ℕ)) → i < length words → get_or (map (λ (w : Bor (List ℕ)). w.now) words) i w.now ≡ (get_or words i w).now
at_word [] i w low = refl
at_word (word ∷ words) zero w low = refl
at_word (word ∷ words) (suc i) w low = at_word words i w (omega arith)

map_length : (words : List (Bor (List ℕ))) → length (map (λ (w : Bor (List ℕ)). w.now) words) ≡ length words
map_length [] = refl
map_length (word ∷ words) = ap suc (map_length words)

pub loop_more : {A : Type 0} (read : List ℕ → Option A) (words : List (Bor (List ℕ))) (i : ℕ) (d : Bor (List ℕ)) (done : List A) (a : A) → i < length words → read_all read (map (λ (w : Bor (List ℕ)). w.now) (take i words)) ≡ Some done → read (get_or words i d).now ≡ Some a → read_all read (map (λ (w : Bor (List ℕ)). w.now) (take (i + 1) words)) ≡ Some (done ++ a ∷ [])
loop_more read words i d done a low so_far is =
    rw (map_more (λ (w : Bor (List ℕ)). w.now) words i d low) (read_more read (map (λ (w : Bor (List ℕ)). w.now) (take i words)) (get_or words i d).now done a so_far is)

pub loop_none : {A : Type 0} (read : List ℕ → Option A) (words : List (Bor (List ℕ))) (i : ℕ) (d : Bor (List ℕ)) → i < length words → read (get_or words i d).now ≡ None → read_all read (map (λ (w : Bor (List ℕ)). w.now) words) ≡ None
loop_none read words i d low is =
    read_none read (map (λ (w : Bor (List ℕ)). w.now) words) i d.now (rw map_length low) (ap read (at_word words i d low) ∙ is)

pub loop_all : {A : Type 0} (read : List ℕ → Option A) (words : List (Bor (List ℕ))) (i : ℕ) (done : List A) → length words ≤ i → read_all read (map (λ (w : Bor (List ℕ)). w.now) (take i words)) ≡ Some done → read_all read (map (λ (w : Bor (List ℕ)). w.now) words) ≡ Some done
loop_all read words i done all so_far = let e : take i words ≡ words = take_all i words all in rw e at so_far
