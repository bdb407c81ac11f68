-- The text of pieces in a row.
use Rattle.std.proofs.Common.{◌≡◌, Result, Ok, Err, OnOk, List, [], ◌∷◌, ◌++◌, ℕ, ◌+◌, ◌*◌, replicate, refl, ap, sym, ◌∙◌, append_assoc, arith}
use Rattle.std.proofs.lemmas.List.{append-nil, replicate-append-replicate}
use Rattle.lt_tree.specs.Pieces.{Piece, bytes_of, text_of}

pub text_append : (a b : List Piece) → text_of (a ++ b) ≡ text_of a ++ text_of b
unfolding text_of
text_append [] b = refl
text_append (p ∷ a) b = ap (λ (x : List ℕ). bytes_of p ++ x) (text_append a b) ∙ sym (append_assoc (bytes_of p) (text_of a) (text_of b))

pub ruleset texts = (text_append, append_assoc)

-- one more level of indentation
pub indent_more : (i : ℕ) (out now next : List ℕ) → now ≡ out ++ replicate (2 * i) 32 → next ≡ now ++ 32 ∷ 32 ∷ [] → next ≡ out ++ replicate (2 * (i + 1)) 32
indent_more i out now next e f =
    let two : replicate (2 * i) 32 ++ replicate 2 32 ≡ replicate (2 * i + 2) 32 = replicate-append-replicate (2 * i) 2 32 in
    let count : 2 * i + 2 ≡ 2 * (i + 1) = omega arith in
    f ∙ ap (λ (x : List ℕ). x ++ 32 ∷ 32 ∷ []) e ∙ append_assoc out (replicate (2 * i) 32) (32 ∷ 32 ∷ []) ∙ ap (λ (x : List ℕ). out ++ x) (two ∙ ap (λ (k : ℕ). replicate k 32) count)

-- what holds where there is a value
pub on_ok : {T E : Type 0} (r : Result T E) {P Q : Type 0} → (P → Q) → OnOk r P → OnOk r Q
on_ok (Ok x) f p = f p
on_ok (Err x) f p = tt
