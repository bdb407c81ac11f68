-- Rows, as a loop over the pieces of a text finds them.
use Rattle.std.proofs.Common.{◌≡◌, ℕ, ◌<◌, ◌+◌, suc, zero, Bool, true, false, List, [], ◌∷◌, ◌++◌, length, get_or, take, refl, sym, ◌∙◌, ap, arith, Bor, add-zero, eqb, inl, inr}
use Rattle.std.proofs.lemmas.Bool.Decides.{eqb_tells}
use Rattle.std.specs.Prelude.{map}
use Rattle.std.specs.Str.Lines.{strip_carriage_return}
use Rattle.std.proofs.lemmas.List.{append-nil, map_more}
use Rattle.lt_entry.specs.Lines.{Row, is_empty, is_skipped, words_of, lines_among, before_rows, rows_from}

before_append : (number : ℕ) (line : List ℕ) (rows more : List Row) → before_rows number line (rows ++ more) ≡ before_rows number line rows ++ more
before_append number line rows more = by_test (is_skipped line) refl
  where
    by_test : (t : Bool) → is_skipped line ≡ t → before_rows number line (rows ++ more) ≡ before_rows number line rows ++ more
    by_test true is = rw is refl
    by_test false is = rw is refl

-- one more piece
rows_more : (number : ℕ) (pieces : List (List ℕ)) (piece : List ℕ) → rows_from number (pieces ++ piece ∷ []) ≡ rows_from number pieces ++ before_rows (number + length pieces) (strip_carriage_return piece) []
rows_more number [] piece = rw add-zero refl
rows_more number (first ∷ pieces) piece =
    let at : suc number + length pieces ≡ number + suc (length pieces) = omega arith in
    ap (before_rows number (strip_carriage_return first)) (rows_more (suc number) pieces piece ∙ ap (λ n. rows_from (suc number) pieces ++ before_rows n (strip_carriage_return piece) []) at)
    ∙ before_append number (strip_carriage_return first) (rows_from (suc number) pieces) (before_rows (number + suc (length pieces)) (strip_carriage_return piece) [])

pieces_taken : (pieces : List (Bor (List ℕ))) (i : ℕ) → i < length pieces → length (map (λ (w : Bor (List ℕ)). w.now) (take i pieces)) ≡ i
pieces_taken [] i low = absurd (omega arith)
pieces_taken (piece ∷ pieces) zero low = refl
pieces_taken (piece ∷ pieces) (suc i) low = ap suc (pieces_taken pieces i (omega arith))

rows_at : (pieces : List (Bor (List ℕ))) (i : ℕ) (d : Bor (List ℕ)) → i < length pieces → rows_from 1 (map (λ (w : Bor (List ℕ)). w.now) (take (i + 1) pieces)) ≡ rows_from 1 (map (λ (w : Bor (List ℕ)). w.now) (take i pieces)) ++ before_rows (i + 1) (strip_carriage_return (get_or pieces i d).now) []
rows_at pieces i d low =
    let at : 1 + length (map (λ (w : Bor (List ℕ)). w.now) (take i pieces)) ≡ i + 1 = omega (arith, pieces_taken pieces i low) in
    ap (rows_from 1) (map_more (λ (w : Bor (List ℕ)). w.now) pieces i d low) ∙ rows_more 1 (map (λ (w : Bor (List ℕ)). w.now) (take i pieces)) (get_or pieces i d).now
    ∙ ap (λ n. rows_from 1 (map (λ (w : Bor (List ℕ)). w.now) (take i pieces)) ++ before_rows n (strip_carriage_return (get_or pieces i d).now) []) at

-- a line that is skipped
pub row_skipped : (pieces : List (Bor (List ℕ))) (i : ℕ) (d : Bor (List ℕ)) (rows : List Row) (line : List ℕ) → i < length pieces → line ≡ strip_carriage_return (get_or pieces i d).now → is_skipped line ≡ true → rows ≡ rows_from 1 (map (λ (w : Bor (List ℕ)). w.now) (take i pieces)) → rows ≡ rows_from 1 (map (λ (w : Bor (List ℕ)). w.now) (take (i + 1) pieces))
row_skipped pieces i d rows line low is skipped are =
    let s : is_skipped (strip_carriage_return (get_or pieces i d).now) ≡ true = ap is_skipped (sym is) ∙ skipped in
    are ∙ sym (rows_at pieces i d low ∙ rw s (append-nil (rows_from 1 (map (λ (w : Bor (List ℕ)). w.now) (take i pieces)))))

-- a line that isn't
pub row_put : (pieces : List (Bor (List ℕ))) (i : ℕ) (d : Bor (List ℕ)) (rows : List Row) (line : List ℕ) (row : Row) → i < length pieces → line ≡ strip_carriage_return (get_or pieces i d).now → is_skipped line ≡ false → row ≡ record { number = i + 1; words = words_of line } → rows ≡ rows_from 1 (map (λ (w : Bor (List ℕ)). w.now) (take i pieces)) → rows ++ row ∷ [] ≡ rows_from 1 (map (λ (w : Bor (List ℕ)). w.now) (take (i + 1) pieces))
row_put pieces i d rows line row low is kept row_is are =
    let s : is_skipped (strip_carriage_return (get_or pieces i d).now) ≡ false = ap is_skipped (sym is) ∙ kept in
    let w : row ≡ record { number = i + 1; words = words_of (strip_carriage_return (get_or pieces i d).now) } = row_is ∙ ap (λ l. record { number = i + 1; words = words_of l }) is in
    ap (λ rs. rs ++ row ∷ []) are ∙ ap (λ r. rows_from 1 (map (λ (w : Bor (List ℕ)). w.now) (take i pieces)) ++ r ∷ []) w ∙ sym (rows_at pieces i d low ∙ rw s refl)

-- the lines of a text with this last piece
pub among_empty : (others : List (Bor (List ℕ))) (last : Bor (List ℕ)) → is_empty last.now ≡ true → lines_among (map (λ (w : Bor (List ℕ)). w.now) (others ++ last ∷ [])) ≡ length others
among_empty [] last is = rw is refl
among_empty (other ∷ []) last is = ap suc (among_empty [] last is)
among_empty (other ∷ next ∷ others) last is = ap suc (among_empty (next ∷ others) last is)

pub among_full : (others : List (Bor (List ℕ))) (last : Bor (List ℕ)) → is_empty last.now ≡ false → lines_among (map (λ (w : Bor (List ℕ)). w.now) (others ++ last ∷ [])) ≡ suc (length others)
among_full [] last is = rw is refl
among_full (other ∷ []) last is = ap suc (among_full [] last is)
among_full (other ∷ next ∷ others) last is = ap suc (among_full (next ∷ others) last is)

pub is_empty_by_length : (line : List ℕ) (t : Bool) → eqb (length line) 0 ≡ t → is_empty line ≡ t
is_empty_by_length [] t is = is
is_empty_by_length (b ∷ line) t is = elim (eqb_tells (suc (length line)) 0) [ inl k ↦ absurd (omega (arith, k.1)) | inr k ↦ sym k.0 ∙ is ]
