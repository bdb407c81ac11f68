-- Blanks separate: they leave no lexeme, however many stand in a row.
use Rattle.std.proofs.Common.{◌≡◌, ℕ, zero, suc, ◌+◌, ◌≤◌, Bool, true, false, List, [], ◌∷◌, ◌++◌, length, Some, None, refl, sym, ap, subst, ◌∙◌, inl, inr, arith}
use Rattle.std.specs.Prelude.{replicate}
use Rattle.std.specs.List.{list_all}
use Rattle.std.proofs.lemmas.Bool.{and_parts}
use Rattle.lt_token.specs.declared.piece.Class.{Class}
use Rattle.lt_token.specs.declared.piece.Class.TheVariants as class
use Rattle.lt_token.specs.declared.piece.Form.{Form}
use Rattle.lt_token.specs.declared.piece.Form.TheVariants as form
use Rattle.lt_token.specs.declared.lexeme.Sort.{Sort}
use Rattle.lt_token.specs.Bytes.{class_of, is_blank, is_blank_class}
use Rattle.lt_token.specs.Pieces.{is_piece_at, is_piece, Longest}
use Rattle.lt_token.specs.Lexemes as lex
use Rattle.lt_token.specs.Lexemes.{Lexeme, Cuts, sort_of, fresh_after}
use Rattle.lt_print.proofs.Cutting.{longest, of_class, same_parts, clash}

blank_class : (k : Class) → is_blank_class k ≡ true → k ≡ class.Blank
blank_class class.Blank h = refl
blank_class k h = absurd cc

is_blank_of : (b : ℕ) → class_of b ≡ class.Blank → is_blank b ≡ true
is_blank_of b e = ap is_blank_class e

-- a piece that begins with a blank is blanks
at_blank : (fresh : Bool) (g : Form) (b : ℕ) (bs : List ℕ) → is_piece_at fresh g class.Blank b bs ≡ true → (g ≡ form.Blank) × (list_all is_blank bs ≡ true)
at_blank fresh form.Blank b bs h = (refl, h)
at_blank fresh g b bs h = absurd cc

pub of_blank : (fresh : Bool) (g : Form) (b : ℕ) (bs : List ℕ) → class_of b ≡ class.Blank → is_piece fresh g (b ∷ bs) ≡ true → (g ≡ form.Blank) × (list_all is_blank bs ≡ true)
of_blank fresh g b bs e h = elim (of_class fresh g class.Blank b bs e h) [ inl m ↦ absurd (clash false m.0 refl) | inr p ↦ at_blank fresh g b bs p ]

are_blank : (fresh : Bool) (b : ℕ) (bs : List ℕ) → class_of b ≡ class.Blank → list_all is_blank bs ≡ true → is_piece fresh form.Blank (b ∷ bs) ≡ true
are_blank fresh b bs e h = subst (λ (k : Class). is_piece_at fresh form.Blank k b bs ≡ true) (sym e) h

-- the blanks at the front of what was cut
record BlankFirst (fresh : Bool) (at : ℕ) (text : List ℕ) (ls : List Lexeme) : Type 0 where
  piece : List ℕ
  rest : List ℕ
  long : Longest fresh text form.Blank piece rest
  cuts : Cuts (fresh_after fresh piece) (at + length piece) rest ls

first_byte : (fresh : Bool) (f : Form) (piece rest t : List ℕ) (c : ℕ) → class_of c ≡ class.Blank → c ∷ t ≡ piece ++ rest → is_piece fresh f piece ≡ true → f ≡ form.Blank
first_byte fresh f [] rest t c e parts h = absurd cc
first_byte fresh f (d ∷ piece) rest t c e parts h =
    let j = same_parts c d t (piece ++ rest) parts in (of_blank fresh f d piece (ap class_of (sym j.0) ∙ e) h).0

no_sort : (s : Sort) → None ≡ Some s → ⊥
no_sort s e = cc

blank_first : (fresh : Bool) (at c : ℕ) (t : List ℕ) (ls : List Lexeme) → class_of c ≡ class.Blank → Cuts fresh at (c ∷ t) ls → BlankFirst fresh at (c ∷ t) ls
blank_first fresh at c t ls e (lex.separator f piece rest long s cuts) =
    let is = first_byte fresh f piece rest t c e long.parts long.is_one in
    record { piece = piece; rest = rest; long = subst (λ (g : Form). Longest fresh (c ∷ t) g piece rest) is long; cuts = cuts }
blank_first fresh at c t ls e (lex.lexeme f piece rest s long is_sort cuts) =
    let is = first_byte fresh f piece rest t c e long.parts long.is_one in
    absurd (no_sort s (subst (λ (g : Form). sort_of g piece ≡ Some s) is is_sort))
blank_first fresh at c t ls e (lex.stray none cuts) = absurd (none form.Blank (c ∷ []) t refl (are_blank fresh c [] e refl))

-- one blank before what is none
alone : (fresh : Bool) (at b : ℕ) (t : List ℕ) (ls : List Lexeme) → class_of b ≡ class.Blank → ((c : ℕ) (after : List ℕ) → t ≡ c ∷ after → is_blank c ≡ false)
    → Cuts (fresh_after fresh (b ∷ [])) (at + 1) t ls → Cuts fresh at (b ∷ t) ls
alone fresh at b t ls e other cuts = lex.separator form.Blank (b ∷ []) t (longest fresh form.Blank (b ∷ []) t (are_blank fresh b [] e refl) never) refl cuts
  where
    never : (c : ℕ) (after : List ℕ) → t ≡ c ∷ after → (g : Form) (more : List ℕ) → is_piece fresh g (b ∷ [] ++ c ∷ more) ≡ true → ⊥
    never c after is g more h = clash (is_blank c) (and_parts (is_blank c) (list_all is_blank more) (of_blank fresh g b (c ∷ more) e h).1).0 (other c after is)

-- and before others
all_blank : (fresh : Bool) (p : List ℕ) → is_piece fresh form.Blank p ≡ true → list_all is_blank p ≡ true
all_blank fresh [] h = absurd cc
all_blank fresh (c ∷ p) h = step (class_of c) refl h
  where
    step : (k : Class) → class_of c ≡ k → is_piece_at fresh form.Blank k c p ≡ true → list_all is_blank (c ∷ p) ≡ true
    step class.Blank e h = rw (is_blank_of c e, h) refl
    step k e h = absurd cc

joined_blanks : (fresh inner : Bool) (b : ℕ) (t piece rest : List ℕ) → class_of b ≡ class.Blank → Longest inner t form.Blank piece rest → Longest fresh (b ∷ t) form.Blank (b ∷ piece) rest
joined_blanks fresh inner b t piece rest e long =
    record { parts = ap (λ (z : List ℕ). b ∷ z) long.parts; is_one = are_blank fresh b piece e (all_blank inner piece long.is_one); none_longer = none }
  where
    tail : (o r : List ℕ) → t ≡ o ++ r → list_all is_blank o ≡ true → length o ≤ length piece
    tail [] r parts h = omega arith
    tail (x ∷ o) r parts h =
        let both = and_parts (is_blank x) (list_all is_blank o) h in
        long.none_longer form.Blank (x ∷ o) r parts (are_blank inner x o (blank_class (class_of x) both.0) both.1)

    none : (g : Form) (other r : List ℕ) → b ∷ t ≡ other ++ r → is_piece fresh g other ≡ true → length other ≤ length (b ∷ piece)
    none g [] r parts h = omega arith
    none g (d ∷ o) r parts h =
        let j = same_parts b d t (o ++ r) parts in
        let le = tail o r j.1 (of_blank fresh g d o (ap class_of (sym j.0) ∙ e) h).1 in
        omega (arith, le)

pub blank : (fresh : Bool) (at b : ℕ) (t : List ℕ) (ls : List Lexeme) → class_of b ≡ class.Blank → Cuts (fresh_after fresh (b ∷ [])) (at + 1) t ls → Cuts fresh at (b ∷ t) ls
blank fresh at b [] ls e cuts = alone fresh at b [] ls e (λ c after is. absurd cc) cuts
blank fresh at b (c ∷ t) ls e cuts = step (is_blank c) refl
  where
    same : (c d : ℕ) (t u : List ℕ) → c ∷ t ≡ d ∷ u → is_blank c ≡ false → is_blank d ≡ false
    same c d t u is h = ap is_blank (sym (same_parts c d t u is).0) ∙ h

    step : (p : Bool) → is_blank c ≡ p → Cuts fresh at (b ∷ c ∷ t) ls
    step false h = alone fresh at b (c ∷ t) ls e (λ d after is. same c d t after is h) cuts
    step true h =
        let f = blank_first (fresh_after fresh (b ∷ [])) (at + 1) c t ls (blank_class (class_of c) h) cuts in
        lex.separator form.Blank (b ∷ f.piece) f.rest (joined_blanks fresh (fresh_after fresh (b ∷ [])) b (c ∷ t) f.piece f.rest e f.long) refl
        (subst (λ (n : ℕ). Cuts (fresh_after fresh (b ∷ f.piece)) n f.rest ls) (omega arith) f.cuts)

pub spaces : (n : ℕ) (fresh : Bool) (at : ℕ) (t : List ℕ) (ls : List Lexeme) → Cuts (fresh_after fresh (replicate n 32)) (at + n) t ls → Cuts fresh at (replicate n 32 ++ t) ls
spaces zero fresh at t ls cuts = subst (λ (n : ℕ). Cuts fresh n t ls) (omega arith) cuts
spaces (suc n) fresh at t ls cuts =
    blank fresh at 32 (replicate n 32 ++ t) ls refl
    (spaces n (fresh_after fresh (32 ∷ [])) (at + 1) t ls (subst (λ (m : ℕ). Cuts (fresh_after (fresh_after fresh (32 ∷ [])) (replicate n 32)) m t ls) (omega arith) cuts))
