-- The parts of strings and character constants are those of C11.
use Rattle.std.proofs.Common.{◌≡◌, ℕ, Bool, true, false, cond, ◌||◌, eqb, List, [], ◌∷◌, ◌++◌, refl, ap, ◌∙◌, append_assoc, ◌↔◌}
use Rattle.std.specs.Char.{is_ascii_hexdigit}
use Rattle.std.specs.Str.{byte}
use Rattle.std.proofs.lemmas.Bool.{eqb-true, or_left, or_right}
use Rattle.lt_token.specs.declared.piece.Part.{Part}
use Rattle.lt_token.specs.declared.piece.Part.TheVariants as part
use Rattle.lt_token.specs.Bytes.{line_end, quote, apostrophe, backslash, is_octal, is_simple_escape}
use Rattle.lt_token.specs.Parts.{after, is_closed_end, ends_at, is_closed_after}
use Rattle.lt_token.specs.Literals.{IsEscape, simple, octal, octal_two, octal_three, hexadecimal, hexadecimal_two, is_plain, IsString, no_more, plain, escaped, IsOneCharacter, plain_one, escaped_one}

-- ---- what is left of a string or a character constant at each part

abbrev Rest : Part → List ℕ → Type 0
Rest part.Text bs = (cs : List ℕ) × (bs ≡ cs ++ quote ∷ []) × IsString cs
Rest part.TextEscape bs = (e cs : List ℕ) × (bs ≡ (e ++ cs) ++ quote ∷ []) × IsEscape e × IsString cs
Rest part.TextHex bs = (a : ℕ) × (cs : List ℕ) × (bs ≡ a ∷ cs ++ quote ∷ []) × (is_ascii_hexdigit a ≡ true) × IsString cs
Rest part.Character bs = (cs : List ℕ) × (bs ≡ cs ++ apostrophe ∷ []) × IsOneCharacter cs
Rest part.CharacterEscape bs = (e : List ℕ) × (bs ≡ e ++ apostrophe ∷ []) × IsEscape e
Rest part.CharacterHex bs = (ds : List ℕ) × (bs ≡ ds ++ apostrophe ∷ []) × IsEscape (byte "x" ∷ ds)
Rest part.CharacterHexOne bs = (a : ℕ) → is_ascii_hexdigit a ≡ true → (ds : List ℕ) × (bs ≡ ds ++ apostrophe ∷ []) × IsEscape (byte "x" ∷ a ∷ ds)
Rest part.OctalOne bs = (a : ℕ) → is_octal a ≡ true → (ds : List ℕ) × (bs ≡ ds ++ apostrophe ∷ []) × IsEscape (a ∷ ds)
Rest part.OctalTwo bs = (a b : ℕ) → is_octal a ≡ true → is_octal b ≡ true → (ds : List ℕ) × (bs ≡ ds ++ apostrophe ∷ []) × IsEscape (a ∷ b ∷ ds)
Rest part.Single bs = bs ≡ apostrophe ∷ []
Rest part.Closed bs = bs ≡ []
Rest part.Nothing bs = ⊥
Rest p bs = Unit {0}

-- what follows a byte
abbrev Step : Part → ℕ → List ℕ → Type 0
Step p b bs = Rest (after p b) bs → Rest p (b ∷ bs)

text_step : (b : ℕ) (bs : List ℕ) → Step part.Text b bs
text_step b bs = step (eqb b quote) (eqb b line_end) (eqb b backslash) refl refl refl
  where
    step : (t u v : Bool) → eqb b quote ≡ t → eqb b line_end ≡ u → eqb b backslash ≡ v
        → Rest (cond t part.Closed (cond u part.Nothing (cond v part.TextEscape part.Text))) bs → Rest part.Text (b ∷ bs)
    step true u v e f g r = let k = eqb-true b quote e in ([], rw (k, r) refl, no_more)
    step false true v e f g r = absurd r
    step false false true e f g r = let k = eqb-true b backslash g in (backslash ∷ r.0 ++ r.1, rw (k, r.2) refl, escaped r.0 r.3 r.4)
    step false false false e f g r = (b ∷ r.0, ap (λ (x : List ℕ). b ∷ x) r.1, plain b (rw (e, f, g) refl) r.2)

text_escape_step : (b : ℕ) (bs : List ℕ) → Step part.TextEscape b bs
text_escape_step b bs = step (eqb b (byte "x")) (is_simple_escape b) (is_octal b) refl refl refl
  where
    step : (t u v : Bool) → eqb b (byte "x") ≡ t → is_simple_escape b ≡ u → is_octal b ≡ v
        → Rest (cond t part.TextHex (cond (u || v) part.Text part.Nothing)) bs → Rest part.TextEscape (b ∷ bs)
    step true u v e f g r = let k = eqb-true b (byte "x") e in (byte "x" ∷ r.0 ∷ [], r.1, rw (k, r.2) refl, hexadecimal r.0 r.3, r.4)
    step false true v e f g r = (b ∷ [], r.0, ap (λ (x : List ℕ). b ∷ x) r.1, simple b f, r.2)
    step false false true e f g r = (b ∷ [], r.0, ap (λ (x : List ℕ). b ∷ x) r.1, octal b g, r.2)
    step false false false e f g r = absurd r

text_hex_step : (b : ℕ) (bs : List ℕ) → Step part.TextHex b bs
text_hex_step b bs = step (is_ascii_hexdigit b) refl
  where
    step : (t : Bool) → is_ascii_hexdigit b ≡ t → Rest (cond t part.Text part.Nothing) bs → Rest part.TextHex (b ∷ bs)
    step true e r = (b, r.0, ap (λ (x : List ℕ). b ∷ x) r.1, e, r.2)
    step false e r = absurd r

character_step : (b : ℕ) (bs : List ℕ) → Step part.Character b bs
character_step b bs = step (eqb b apostrophe) (eqb b line_end) (eqb b backslash) refl refl refl
  where
    step : (t u v : Bool) → eqb b apostrophe ≡ t → eqb b line_end ≡ u → eqb b backslash ≡ v
        → Rest (cond (t || u) part.Nothing (cond v part.CharacterEscape part.Single)) bs → Rest part.Character (b ∷ bs)
    step true u v e f g r = absurd r
    step false true v e f g r = absurd r
    step false false true e f g r = let k = eqb-true b backslash g in (backslash ∷ r.0, rw (k, r.1) refl, escaped_one r.0 r.2)
    step false false false e f g r = (b ∷ [], ap (λ (x : List ℕ). b ∷ x) r, plain_one b (rw (e, f, g) refl))

character_escape_step : (b : ℕ) (bs : List ℕ) → Step part.CharacterEscape b bs
character_escape_step b bs = step (eqb b (byte "x")) (is_octal b) (is_simple_escape b) refl refl refl
  where
    step : (t u v : Bool) → eqb b (byte "x") ≡ t → is_octal b ≡ u → is_simple_escape b ≡ v
        → Rest (cond t part.CharacterHex (cond u part.OctalOne (cond v part.Single part.Nothing))) bs → Rest part.CharacterEscape (b ∷ bs)
    step true u v e f g r = let k = eqb-true b (byte "x") e in (byte "x" ∷ r.0, rw (k, r.1) refl, r.2)
    step false true v e f g r = let x = r b f in (b ∷ x.0, ap (λ (y : List ℕ). b ∷ y) x.1, x.2)
    step false false true e f g r = (b ∷ [], ap (λ (x : List ℕ). b ∷ x) r, simple b g)
    step false false false e f g r = absurd r

character_hex_step : (b : ℕ) (bs : List ℕ) → Step part.CharacterHex b bs
character_hex_step b bs = step (is_ascii_hexdigit b) refl
  where
    step : (t : Bool) → is_ascii_hexdigit b ≡ t → Rest (cond t part.CharacterHexOne part.Nothing) bs → Rest part.CharacterHex (b ∷ bs)
    step true e r = let x = r b e in (b ∷ x.0, ap (λ (y : List ℕ). b ∷ y) x.1, x.2)
    step false e r = absurd r

single_step : (b : ℕ) (bs : List ℕ) → Step part.Single b bs
single_step b bs = step (eqb b apostrophe) refl
  where
    step : (t : Bool) → eqb b apostrophe ≡ t → Rest (cond t part.Closed part.Nothing) bs → Rest part.Single (b ∷ bs)
    step true e r = let k = eqb-true b apostrophe e in rw (k, r) refl
    step false e r = absurd r

hex_one_step : (b : ℕ) (bs : List ℕ) → Step part.CharacterHexOne b bs
hex_one_step b bs = step (is_ascii_hexdigit b) (eqb b apostrophe) refl refl
  where
    step : (t u : Bool) → is_ascii_hexdigit b ≡ t → eqb b apostrophe ≡ u → Rest (cond t part.Single (cond u part.Closed part.Nothing)) bs → Rest part.CharacterHexOne (b ∷ bs)
    step true u e f r = λ a h. (b ∷ [], ap (λ (x : List ℕ). b ∷ x) r, hexadecimal_two a b h e)
    step false true e f r = let k = eqb-true b apostrophe f in λ a h. ([], rw (k, r) refl, hexadecimal a h)
    step false false e f r = absurd r

octal_one_step : (b : ℕ) (bs : List ℕ) → Step part.OctalOne b bs
octal_one_step b bs = step (is_octal b) (eqb b apostrophe) refl refl
  where
    step : (t u : Bool) → is_octal b ≡ t → eqb b apostrophe ≡ u → Rest (cond t part.OctalTwo (cond u part.Closed part.Nothing)) bs → Rest part.OctalOne (b ∷ bs)
    step true u e f r = λ a h. (let x = r a b h e in (b ∷ x.0, ap (λ (y : List ℕ). b ∷ y) x.1, x.2))
    step false true e f r = let k = eqb-true b apostrophe f in λ a h. ([], rw (k, r) refl, octal a h)
    step false false e f r = absurd r

octal_two_step : (b : ℕ) (bs : List ℕ) → Step part.OctalTwo b bs
octal_two_step b bs = step (is_octal b) (eqb b apostrophe) refl refl
  where
    step : (t u : Bool) → is_octal b ≡ t → eqb b apostrophe ≡ u → Rest (cond t part.Single (cond u part.Closed part.Nothing)) bs → Rest part.OctalTwo (b ∷ bs)
    step true u e f r = λ a c h g. (b ∷ [], ap (λ (x : List ℕ). b ∷ x) r, octal_three a c b h g e)
    step false true e f r = let k = eqb-true b apostrophe f in λ a c h g. ([], rw (k, r) refl, octal_two a c h g)
    step false false e f r = absurd r

every_step : (p : Part) (b : ℕ) (bs : List ℕ) → Step p b bs
every_step part.Text b bs r = text_step b bs r
every_step part.TextEscape b bs r = text_escape_step b bs r
every_step part.TextHex b bs r = text_hex_step b bs r
every_step part.Character b bs r = character_step b bs r
every_step part.CharacterEscape b bs r = character_escape_step b bs r
every_step part.CharacterHex b bs r = character_hex_step b bs r
every_step part.CharacterHexOne b bs r = hex_one_step b bs r
every_step part.OctalOne b bs r = octal_one_step b bs r
every_step part.OctalTwo b bs r = octal_two_step b bs r
every_step part.Single b bs r = single_step b bs r
every_step part.Closed b bs r = absurd r
every_step part.Nothing b bs r = absurd r
every_step p b bs r = tt

at_end : (p : Part) → is_closed_end p ≡ true → Rest p []
at_end part.Closed h = refl
at_end p h = absurd cc

pub rest : (p : Part) (bs : List ℕ) → is_closed_after p bs ≡ true → Rest p bs
rest p [] h = at_end p h
rest p (b ∷ bs) h = every_step p b bs (rest (after p b) bs h)

-- ---- and what C11 writes leads to the closing quote

apart : (q : ℕ → Bool) (b c : ℕ) → q b ≡ true → q c ≡ false → eqb b c ≡ false
apart q b c h k = step (eqb b c) refl
  where
    step : (t : Bool) → eqb b c ≡ t → t ≡ false
    step false e = refl
    step true e = let same = eqb-true b c e in let x = ap q same in absurd cc

goes_on : (q : ℕ → Bool) (b : ℕ) → q b ≡ true → q quote ≡ false → q line_end ≡ false → q backslash ≡ false → after part.Text b ≡ part.Text
goes_on q b h x y z = rw (apart q b quote h x, apart q b line_end h y, apart q b backslash h z) refl

octal_on : (b : ℕ) → is_octal b ≡ true → after part.Text b ≡ part.Text
octal_on b h = goes_on is_octal b h refl refl refl

hex_on : (b : ℕ) → is_ascii_hexdigit b ≡ true → after part.Text b ≡ part.Text
hex_on b h = goes_on is_ascii_hexdigit b h refl refl refl

-- one byte behind a backslash
one_escapes : (b : ℕ) → eqb b (byte "x") ≡ false → (is_simple_escape b || is_octal b) ≡ true → after part.TextEscape b ≡ part.Text
one_escapes b e f = step (eqb b (byte "x")) (is_simple_escape b || is_octal b) e f
  where
    step : (t u : Bool) → t ≡ false → u ≡ true → cond t part.TextHex (cond u part.Text part.Nothing) ≡ part.Text
    step t u e f = rw (e, f) refl

octal_escapes : (a : ℕ) → is_octal a ≡ true → after part.TextEscape a ≡ part.Text
octal_escapes a h = one_escapes a (apart is_octal a (byte "x") h refl) (or_right (is_simple_escape a) (is_octal a) h)

hex_escapes : (a : ℕ) → is_ascii_hexdigit a ≡ true → after part.TextHex a ≡ part.Text
hex_escapes a h = step (is_ascii_hexdigit a) h
  where
    step : (t : Bool) → t ≡ true → cond t part.Text part.Nothing ≡ part.Text
    step t e = rw e refl

escape_goes : (e : List ℕ) → IsEscape e → (bs : List ℕ) → ends_at part.TextEscape (e ++ bs) ≡ ends_at part.Text bs
escape_goes e (simple b h) bs = ap (λ (p : Part). ends_at p bs) (one_escapes b (apart is_simple_escape b (byte "x") h refl) (or_left (is_simple_escape b) (is_octal b) h))
escape_goes e (octal a h) bs = ap (λ (p : Part). ends_at p bs) (octal_escapes a h)
escape_goes e (octal_two a b h k) bs = ap (λ (p : Part). ends_at (after p b) bs) (octal_escapes a h) ∙ ap (λ (p : Part). ends_at p bs) (octal_on b k)
escape_goes e (octal_three a b c h k l) bs =
    ap (λ (p : Part). ends_at (after (after p b) c) bs) (octal_escapes a h) ∙ ap (λ (p : Part). ends_at (after p c) bs) (octal_on b k) ∙ ap (λ (p : Part). ends_at p bs) (octal_on c l)
escape_goes e (hexadecimal a h) bs = ap (λ (p : Part). ends_at p bs) (hex_escapes a h)
escape_goes e (hexadecimal_two a b h k) bs = ap (λ (p : Part). ends_at (after p b) bs) (hex_escapes a h) ∙ ap (λ (p : Part). ends_at p bs) (hex_on b k)

plain_on : (b : ℕ) → is_plain quote b ≡ true → after part.Text b ≡ part.Text
plain_on b h = goes_on (is_plain quote) b h refl refl refl

string_goes : {cs : List ℕ} → IsString cs → ends_at part.Text (cs ++ quote ∷ []) ≡ part.Closed
string_goes no_more = refl
string_goes (plain b {bs} h s) = ap (λ (p : Part). ends_at p (bs ++ quote ∷ [])) (plain_on b h) ∙ string_goes s
string_goes (escaped e {bs} h s) = rw append_assoc (escape_goes e h (bs ++ quote ∷ []) ∙ string_goes s)

-- no octal digit is one of the other escapes
not_simple : (b : ℕ) → is_octal b ≡ true → is_simple_escape b ≡ false
not_simple b h =
    rw (
      apart is_octal b 39 h refl,
      apart is_octal b 34 h refl,
      apart is_octal b 63 h refl,
      apart is_octal b 92 h refl,
      apart is_octal b 97 h refl,
      apart is_octal b 98 h refl,
      apart is_octal b 102 h refl,
      apart is_octal b 110 h refl,
      apart is_octal b 114 h refl,
      apart is_octal b 116 h refl,
      apart is_octal b 118 h refl,
    ) refl

not_octal : (b : ℕ) → is_simple_escape b ≡ true → is_octal b ≡ false
not_octal b h = step (is_octal b) refl
  where
    step : (t : Bool) → is_octal b ≡ t → t ≡ false
    step false e = refl
    step true e = let x = not_simple b e in absurd cc

one_goes : {cs : List ℕ} → IsOneCharacter cs → ends_at part.Character (cs ++ apostrophe ∷ []) ≡ part.Closed
one_goes (plain_one b h) = rw (apart (is_plain apostrophe) b apostrophe h refl, apart (is_plain apostrophe) b line_end h refl, apart (is_plain apostrophe) b backslash h refl) refl
one_goes (escaped_one e (simple b h)) = rw (apart is_simple_escape b (byte "x") h refl, not_octal b h, h) refl
one_goes (escaped_one e (octal a h)) = rw (apart is_octal a (byte "x") h refl, h) refl
one_goes (escaped_one e (octal_two a b h k)) = rw (apart is_octal a (byte "x") h refl, h, k) refl
one_goes (escaped_one e (octal_three a b c h k l)) = rw (apart is_octal a (byte "x") h refl, h, k, l) refl
one_goes (escaped_one e (hexadecimal a h)) = rw h refl
one_goes (escaped_one e (hexadecimal_two a b h k)) = rw (h, k) refl

pub strings : (bs : List ℕ) → (is_closed_after part.Text bs ≡ true) ↔ ((cs : List ℕ) × (bs ≡ cs ++ quote ∷ []) × IsString cs)
strings bs = (rest part.Text bs, λ w. rw w.1 (ap is_closed_end (string_goes w.2)))

pub characters : (bs : List ℕ) → (is_closed_after part.Character bs ≡ true) ↔ ((cs : List ℕ) × (bs ≡ cs ++ apostrophe ∷ []) × IsOneCharacter cs)
characters bs = (rest part.Character bs, λ w. rw w.1 (ap is_closed_end (one_goes w.2)))
