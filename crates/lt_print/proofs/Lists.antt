-- Pieces apart, with something between, and behind others.
use Rattle.std.proofs.Common.{◌≡◌, Bool, true, false, ◌||◌, List, [], ◌∷◌, ◌++◌, ℕ, ◌+◌, ◌<◌, eqb, length, get_or, drop, map, if◌then◌else◌, refl, ap, sym, ◌∙◌, append_assoc, arith}
use Rattle.std.proofs.lemmas.Bool.{ne_eqb}
use Rattle.std.proofs.lemmas.List.{append-nil, drop_more}
use Rattle.lt_tree.specs.Pieces.{Piece, gap, text_of}
use Rattle.lt_tree.specs.Canon.{Pieces, apart, gap_if}
use Rattle.lt_print.specs.Lists.{stands, behind, separated}
use Rattle.lt_print.proofs.Texts.{text_append}

-- what is apart from a front stands behind it
pub apart_is : (front back : Pieces) → apart front back ≡ front ++ behind (stands front) back
apart_is [] [] = refl
apart_is [] (p ∷ ps) = refl
apart_is (p ∷ ps) [] = sym (append-nil (p ∷ ps))
apart_is (p ∷ ps) (q ∷ qs) = refl

pub stands_apart : (front back : Pieces) → stands (apart front back) ≡ (stands front || stands back)
stands_apart [] [] = refl
stands_apart [] (p ∷ ps) = refl
stands_apart (p ∷ ps) [] = refl
stands_apart (p ∷ ps) (q ∷ qs) = refl

pub behind_apart : (before : Bool) (front back : Pieces) → behind before (apart front back) ≡ behind before front ++ behind (before || stands front) back
behind_apart true [] [] = refl
behind_apart true [] (p ∷ ps) = refl
behind_apart true (p ∷ ps) [] = sym (append-nil (gap ∷ p ∷ ps))
behind_apart true (p ∷ ps) (q ∷ qs) = refl
behind_apart false [] [] = refl
behind_apart false [] (p ∷ ps) = refl
behind_apart false (p ∷ ps) [] = sym (append-nil (p ∷ ps))
behind_apart false (p ∷ ps) (q ∷ qs) = refl

pub behind_nothing : (before : Bool) → behind before [] ≡ []
behind_nothing true = refl
behind_nothing false = refl

pub behind_something : (p : Piece) (ps : Pieces) (before : Bool) → behind before (p ∷ ps) ≡ gap_if before ++ p ∷ ps
behind_something p ps true = refl
behind_something p ps false = refl

-- one more part of a list with something between
pub one_more : {X : Type 0} (f : X → Pieces) (between : Pieces) (xs : List X) (i : ℕ) (x : X) (out first now whole : List ℕ)
    → i < length xs → x ≡ get_or xs i x → first ≡ out ++ text_of (if eqb i 0 then [] else between) → now ≡ first ++ text_of (f x)
    → out ++ text_of (separated between (eqb i 0) (map f (drop i xs))) ≡ whole
    → now ++ text_of (separated between (eqb (i + 1) 0) (map f (drop (i + 1) xs))) ≡ whole
one_more {X} f between xs i x out first now whole lt is a b e =
    let here : drop i xs ≡ x ∷ drop (i + 1) xs = drop_more xs i x lt ∙ ap (λ (y : X). y ∷ drop (i + 1) xs) (sym is) in
    let later : eqb (i + 1) 0 ≡ false = ne_eqb (i + 1) 0 (λ k. omega arith) in
    let rest = separated between false (map f (drop (i + 1) xs)) in
    let head = if eqb i 0 then [] else between in
    let all : out ++ text_of (head ++ (f x ++ rest)) ≡ whole = rw here at e in
    let split : text_of (head ++ (f x ++ rest)) ≡ text_of head ++ (text_of (f x) ++ text_of rest) = text_append head (f x ++ rest) ∙ ap (λ (y : List ℕ). text_of head ++ y) (text_append (f x) rest) in
    rw (later, b, a, append_assoc, append_assoc, ← split) all
