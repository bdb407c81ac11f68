-- Places, as they are read from the pieces of a word.
use Rattle.std.proofs.Common.{◌≡◌, ℕ, true, List, ◌∷◌, refl, sym, ◌∙◌, ap, Some, None, Bor}
use Rattle.std.specs.Prelude.{map}
use Rattle.lt_entry.specs.Written.{is_object_name, Step}
use Rattle.lt_entry.specs.Reading.{pieces, place_from, read_place, read_all, read_step}

pieces_are : (word : List ℕ) (items slice : List (Bor (List ℕ))) (name : Bor (List ℕ)) (others : List (Bor (List ℕ))) → map (λ (w : Bor (List ℕ)). w.now) items ≡ pieces word → slice ≡ items → slice ≡ name ∷ others → read_place word ≡ place_from (name.now ∷ map (λ (w : Bor (List ℕ)). w.now) others)
pieces_are word items slice name others are same cut =
    ap place_from (sym are ∙ ap (map (λ (w : Bor (List ℕ)). w.now)) (sym same ∙ cut))

pub place_is : (word : List ℕ) (items slice : List (Bor (List ℕ))) (name : Bor (List ℕ)) (others : List (Bor (List ℕ))) (steps : List Step) → map (λ (w : Bor (List ℕ)). w.now) items ≡ pieces word → slice ≡ items → slice ≡ name ∷ others → is_object_name name.now ≡ true → read_all read_step (map (λ (w : Bor (List ℕ)). w.now) others) ≡ Some steps → read_place word ≡ Some (record { name = name.now; steps = steps })
place_is word items slice name others steps are same cut is read = pieces_are word items slice name others are same cut ∙ rw (is, read) refl

pub no_place : (word : List ℕ) (items slice : List (Bor (List ℕ))) (name : Bor (List ℕ)) (others : List (Bor (List ℕ))) → map (λ (w : Bor (List ℕ)). w.now) items ≡ pieces word → slice ≡ items → slice ≡ name ∷ others → is_object_name name.now ≡ true → read_all read_step (map (λ (w : Bor (List ℕ)). w.now) others) ≡ None → read_place word ≡ None
no_place word items slice name others are same cut is read = pieces_are word items slice name others are same cut ∙ rw (is, read) refl
