-- Character constants and strings are closed, so that nothing goes on with them.
use Rattle.std.proofs.Common.{◌≡◌, ℕ, ◌+◌, ◌/◌, ◌%◌, ◌<◌, Bool, true, false, eqb, leb, List, [], ◌∷◌, ◌++◌, Some, refl, ap, ◌∙◌, inl, inr, arith, append_assoc}
use Rattle.std.specs.Prelude.{◌&&◌, ◌||◌, if◌then◌else◌}
use Rattle.std.specs.List.{All, flat_map}
use Rattle.std.specs.Char.{is_ascii_hexdigit}
use Rattle.std.proofs.lemmas.Bool.{eqb-true, or_right}
use Rattle.std.proofs.lemmas.Bool.Decides.{nat_tests}
use Rattle.std.proofs.lemmas.List.Elements.{All-head, All-tail}
use Rattle.lt_token.specs.declared.piece.Class.{Class}
use Rattle.lt_token.specs.declared.piece.Class.TheVariants as class
use Rattle.lt_token.specs.declared.piece.Form.{Form}
use Rattle.lt_token.specs.declared.piece.Form.TheVariants as form
use Rattle.lt_token.specs.declared.piece.Part.{Part}
use Rattle.lt_token.specs.declared.piece.Part.TheVariants as part
use Rattle.lt_token.specs.declared.lexeme.Sort.TheVariants as sort
use Rattle.lt_token.specs.Bytes.{class_of, is_octal, is_simple_escape}
use Rattle.lt_token.specs.Parts.{after, is_whole, is_closed_end, ends_at, is_whole_after}
use Rattle.lt_token.specs.Pieces.{is_piece_at, is_piece, Longest}
use Rattle.lt_token.specs.Lexemes.{sort_of}
use Rattle.lt_tree.specs.Pieces.{quoted_byte, quoted}
use Rattle.lt_print.proofs.Cutting.{longest, of_class, clash}
use Rattle.lt_print.proofs.CuttingConstants.{goes_nowhere, ends_append}

-- ---- character constants

abbrev in_character : Part → Bool
in_character part.Character = true
in_character part.CharacterEscape = true
in_character part.CharacterHex = true
in_character part.CharacterHexOne = true
in_character part.OctalOne = true
in_character part.OctalTwo = true
in_character part.Single = true
in_character part.Closed = true
in_character part.Nothing = true
in_character _ = false

chosen : (b : Bool) (x y : Part) → in_character x ≡ true → in_character y ≡ true → in_character (if b then x else y) ≡ true
chosen true x y e f = e
chosen false x y e f = f

character_on : (p : Part) (b : ℕ) → in_character p ≡ true → in_character (after p b) ≡ true
character_on part.Character b e = chosen (eqb b 39 || eqb b 10) _ _ refl (chosen (eqb b 92) _ _ refl refl)
character_on part.CharacterEscape b e = chosen (eqb b 120) _ _ refl (chosen (is_octal b) _ _ refl (chosen (is_simple_escape b) _ _ refl refl))
character_on part.CharacterHex b e = chosen (is_ascii_hexdigit b) _ _ refl refl
character_on part.CharacterHexOne b e = chosen (is_ascii_hexdigit b) _ _ refl (chosen (eqb b 39) _ _ refl refl)
character_on part.OctalOne b e = chosen (is_octal b) _ _ refl (chosen (eqb b 39) _ _ refl refl)
character_on part.OctalTwo b e = chosen (is_octal b) _ _ refl (chosen (eqb b 39) _ _ refl refl)
character_on part.Single b e = chosen (eqb b 39) _ _ refl refl
character_on part.Closed b e = refl
character_on part.Nothing b e = refl
character_on p b e = absurd cc

character_ends : (p : Part) (bs : List ℕ) → in_character p ≡ true → in_character (ends_at p bs) ≡ true
character_ends p [] e = e
character_ends p (b ∷ bs) e = character_ends (after p b) bs (character_on p b e)

closed_stops : (p : Part) (b : ℕ) → in_character p ≡ true → is_whole p ≡ true → after p b ≡ part.Nothing
closed_stops part.Closed b e h = refl
closed_stops part.Character b e h = absurd cc
closed_stops part.CharacterEscape b e h = absurd cc
closed_stops part.CharacterHex b e h = absurd cc
closed_stops part.CharacterHexOne b e h = absurd cc
closed_stops part.OctalOne b e h = absurd cc
closed_stops part.OctalTwo b e h = absurd cc
closed_stops part.Single b e h = absurd cc
closed_stops part.Nothing b e h = absurd cc
closed_stops p b e h = absurd cc

character_class : (fresh : Bool) (k : Class) (c : ℕ) (cs : List ℕ) → is_piece_at fresh form.Character k c cs ≡ true → (k ≡ class.Apostrophe) × (is_whole_after part.Character cs ≡ true)
character_class fresh class.Apostrophe c cs h = (refl, h)
character_class fresh k c cs h = absurd cc

character_goes_on : (fresh : Bool) (g : Form) (c : ℕ) (bs : List ℕ) → is_piece_at fresh g class.Apostrophe c bs ≡ true → is_whole_after part.Character bs ≡ true
character_goes_on fresh form.Character c bs h = h
character_goes_on fresh g c bs h = absurd cc

pub character_longest : (fresh : Bool) (w t : List ℕ) → is_piece fresh form.Character w ≡ true → Longest fresh (w ++ t) form.Character w t
character_longest fresh [] t is = absurd (clash false is refl)
character_longest fresh (c ∷ cs) t is =
    let k = character_class fresh (class_of c) c cs is in
    longest fresh form.Character (c ∷ cs) t is
    (λ b behind f g more h. elim (of_class fresh g class.Apostrophe c (cs ++ b ∷ more) k.0 h) [
      | inl m ↦ clash false m.0 refl
      | inr p ↦ goes_nowhere part.Character cs more b (closed_stops (ends_at part.Character cs) b (character_ends part.Character cs refl) k.1) (character_goes_on fresh g c (cs ++ b ∷ more) p)
    ])

-- ---- strings

octal_digit : (d : ℕ) → d < 8 → is_octal (48 + d) ≡ true
octal_digit d h = grind (arith, nat_tests)

escape_on : (d : ℕ) → d < 8 → after part.TextEscape (48 + d) ≡ part.Text
escape_on d h =
    let x : eqb (48 + d) 120 ≡ false = grind (arith, nat_tests) in
    let o : (is_simple_escape (48 + d) || is_octal (48 + d)) ≡ true = or_right (is_simple_escape (48 + d)) (is_octal (48 + d)) (octal_digit d h) in
    rw (x, o) refl

plain_on : (b : ℕ) → eqb b 34 ≡ false → eqb b 10 ≡ false → eqb b 92 ≡ false → after part.Text b ≡ part.Text
plain_on b e f g = rw (e, f, g) refl

digit_on : (d : ℕ) → d < 8 → after part.Text (48 + d) ≡ part.Text
digit_on d h = plain_on (48 + d) (grind (arith, nat_tests)) (grind (arith, nat_tests)) (grind (arith, nat_tests))

octal_on : (q r s : ℕ) → q < 8 → r < 8 → s < 8 → ends_at part.Text (92 ∷ (48 + q) ∷ (48 + r) ∷ (48 + s) ∷ []) ≡ part.Text
octal_on q r s hq hr hs =
    ap (λ (p : Part). after (after p (48 + r)) (48 + s)) (escape_on q hq) ∙ ap (λ (p : Part). after p (48 + s)) (digit_on r hr) ∙ digit_on s hs

byte_on : (b : ℕ) → b < 256 → ends_at part.Text (quoted_byte b) ≡ part.Text
byte_on b h = step (eqb b 10) (eqb b 9) (eqb b 34) (eqb b 92) (leb 32 b && leb b 126) refl refl refl refl refl
  where
    at : (v : ℕ) → b ≡ v → ends_at part.Text (quoted_byte v) ≡ part.Text → ends_at part.Text (quoted_byte b) ≡ part.Text
    at v e d = rw e d

    step : (p q r t u : Bool) → eqb b 10 ≡ p → eqb b 9 ≡ q → eqb b 34 ≡ r → eqb b 92 ≡ t → (leb 32 b && leb b 126) ≡ u → ends_at part.Text (quoted_byte b) ≡ part.Text
    step true q r t u e f g i j = at 10 (eqb-true b 10 e) refl
    step false true r t u e f g i j = at 9 (eqb-true b 9 f) refl
    step false false true t u e f g i j = at 34 (eqb-true b 34 g) refl
    step false false false true u e f g i j = at 92 (eqb-true b 92 i) refl
    step false false false false true e f g i j = rw (e, f, g, i, j) (plain_on b g e i)
    step false false false false false e f g i j = rw (e, f, g, i, j) (octal_on ((b / 64) % 8) ((b / 8) % 8) (b % 8) (omega arith) (omega arith) (omega arith))

abbrev pub IsByte : ℕ → Type 0
IsByte b = b < 256

string_ends : (bytes : List ℕ) → All IsByte bytes → ends_at part.Text (flat_map quoted_byte bytes ++ 34 ∷ []) ≡ part.Closed
string_ends [] h = refl
string_ends (b ∷ bytes) h =
    ap (ends_at part.Text) (append_assoc (quoted_byte b) (flat_map quoted_byte bytes) (34 ∷ []))
    ∙ ends_append part.Text (quoted_byte b) (flat_map quoted_byte bytes ++ 34 ∷ [])
    ∙ ap (λ (p : Part). ends_at p (flat_map quoted_byte bytes ++ 34 ∷ [])) (byte_on b (All-head IsByte b bytes h))
    ∙ string_ends bytes (All-tail IsByte b bytes h)

text_goes_on : (fresh : Bool) (g : Form) (c : ℕ) (bs : List ℕ) → is_piece_at fresh g class.Quote c bs ≡ true → is_whole_after part.Text bs ≡ true
text_goes_on fresh form.Text c bs h = h
text_goes_on fresh g c bs h = absurd cc

pub string_longest : (fresh : Bool) (bytes t : List ℕ) → All IsByte bytes → Longest fresh (quoted bytes ++ t) form.Text (quoted bytes) t
string_longest fresh bytes t h =
    longest fresh form.Text (quoted bytes) t (ap is_whole (string_ends bytes h))
    (λ b behind f g more p. elim (of_class fresh g class.Quote 34 ((flat_map quoted_byte bytes ++ 34 ∷ []) ++ b ∷ more) refl p) [
      | inl m ↦ clash false m.0 refl
      | inr q ↦ goes_nowhere part.Text (flat_map quoted_byte bytes ++ 34 ∷ []) more b (ap (λ (s : Part). after s b) (string_ends bytes h)) (text_goes_on fresh g 34 ((flat_map quoted_byte bytes ++ 34 ∷ []) ++ b ∷ more) q)
    ])

pub string_sort : (bytes : List ℕ) → All IsByte bytes → sort_of form.Text (quoted bytes) ≡ Some sort.Text
string_sort bytes h = ap (λ (p : Part). Some (if is_closed_end p then sort.Text else sort.Malformed)) (string_ends bytes h)
