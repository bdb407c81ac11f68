-- At most one list of tokens fits a text.
use Rattle.std.proofs.Common.{◌≡◌, ℕ, suc, ◌+◌, Bool, true, false, cond, eqb, List, [], ◌∷◌, ◌++◌, length, take, drop, Option, Some, None, refl, sym, ap, subst, ◌∙◌, arith, inl, inr}
use Rattle.std.specs.List.{list_all, prefix_len}
use Rattle.std.specs.Char.{is_ascii_digit}
use Rattle.std.specs.Str.{bytes_eq}
use Rattle.std.proofs.lemmas.Bool.{and_parts, eqb-true, or_cases}
use Rattle.std.proofs.lemmas.Slice.Eq.{bytes_eq-Decides}
use Rattle.std.proofs.lemmas.List.{take_at, drop_at}
use Rattle.lt_token.specs.declared.piece.Class.{Class}
use Rattle.lt_token.specs.declared.piece.Class.TheVariants as class
use Rattle.lt_token.specs.declared.piece.Form.{Form}
use Rattle.lt_token.specs.declared.piece.Form.TheVariants as form
use Rattle.lt_token.specs.declared.piece.Part.TheVariants as part
use Rattle.lt_token.specs.declared.lexeme.Sort.{Sort}
use Rattle.lt_token.specs.declared.lexeme.Role.{Role}
use Rattle.lt_token.specs.declared.lexeme.Role.TheVariants as role
use Rattle.lt_token.specs.declared.lexeme.Sort.TheVariants as sort
use Rattle.lt_token.specs.Bytes.{class_of, is_word_byte, is_in_line}
use Rattle.lt_token.specs.Parts.{is_whole_after}
use Rattle.lt_token.specs.Words.{is_among, punctuators, literal_prefixes}
use Rattle.lt_token.specs.Pieces.{is_literal, is_prefixed, is_fraction, is_line_comment, is_block_comment, is_piece_at, is_piece, Longest, NoPiece}
use Rattle.lt_token.specs.Lexemes as lex
use Rattle.lt_token.specs.Lexemes.{Lexeme, Cuts, sort_of, fresh_after}
use Rattle.lt_token.specs.Tokens as tok
use Rattle.lt_token.specs.Tokens.{Token, Refusal, Reads, Lexes, role_of, trails_after, after_group, token_at, no_token, unsupported_word}

-- ---- a piece has one form

abbrev form_slash : List ℕ → Form
form_slash [] = form.Punctuator
form_slash (c ∷ cs) = cond (eqb c 47) form.LineComment (cond (eqb c 42) form.BlockComment form.Punctuator)

abbrev form_dot : List ℕ → Form
form_dot [] = form.Punctuator
form_dot (c ∷ cs) = cond (is_ascii_digit c) form.Number form.Punctuator

abbrev form_word : Bool → Form
form_word true = form.Word
form_word false = form.Prefixed

-- the form that a piece of these bytes has
abbrev form_at : Class → List ℕ → Form
form_at class.Letter bs = form_word (list_all is_word_byte bs)
form_at class.Digit bs = form.Number
form_at class.Dot bs = form_dot bs
form_at class.Blank bs = form.Blank
form_at class.Quote bs = form.Text
form_at class.Apostrophe bs = form.Character
form_at class.Hash bs = form.Marker
form_at class.Slash bs = form_slash bs
form_at class.Sign bs = form.Punctuator

line_form : (bs : List ℕ) → is_line_comment bs ≡ true → form.LineComment ≡ form_slash bs
line_form [] h = absurd cc
line_form (c ∷ cs) h = rw (and_parts (eqb c 47) (list_all is_in_line cs) h).0 refl

block_form : (bs : List ℕ) → is_block_comment bs ≡ true → form.BlockComment ≡ form_slash bs
block_form [] h = absurd cc
block_form (c ∷ cs) h = let k = eqb-true c 42 (and_parts (eqb c 42) (is_whole_after part.Comment cs) h).0 in rw k refl

fraction_form : (bs : List ℕ) → is_fraction bs ≡ true → form.Number ≡ form_dot bs
fraction_form [] h = absurd cc
fraction_form (c ∷ cs) h = rw (and_parts (is_ascii_digit c) (is_whole_after part.Fraction cs) h).0 refl

-- nothing is left behind a run that has all the bytes
all_run : (p : ℕ → Bool) (bs : List ℕ) → list_all p bs ≡ true → drop (prefix_len p bs) bs ≡ []
all_run p [] h = refl
all_run p (b ∷ bs) h =
    let both = and_parts (p b) (list_all p bs) h in
    let n : 1 + prefix_len p bs ≡ suc (prefix_len p bs) = omega arith in
    rw (both.0, n) (all_run p bs both.1)

prefixed_form : (b : ℕ) (bs : List ℕ) → class_of b ≡ class.Letter → is_prefixed (b ∷ bs) ≡ true → form.Prefixed ≡ form_word (list_all is_word_byte bs)
prefixed_form b bs k h = step (list_all is_word_byte bs) refl
  where
    step : (t : Bool) → list_all is_word_byte bs ≡ t → form.Prefixed ≡ form_word t
    step false e = refl
    step true e =
        let w : list_all is_word_byte (b ∷ bs) ≡ true = rw (k, e) refl in
        let none = all_run is_word_byte (b ∷ bs) w in
        let literal = (and_parts (is_among (take (prefix_len is_word_byte (b ∷ bs)) (b ∷ bs)) literal_prefixes) (is_literal (drop (prefix_len is_word_byte (b ∷ bs)) (b ∷ bs))) h).1 in
        let e' = ap is_literal none in
        absurd cc

piece_form : (fresh : Bool) (f : Form) (k : Class) (b : ℕ) (bs : List ℕ) → class_of b ≡ k → is_piece_at fresh f k b bs ≡ true → f ≡ form_at k bs
piece_form fresh form.Word class.Letter b bs e h = rw h refl
piece_form fresh form.Prefixed class.Letter b bs e h = prefixed_form b bs e h
piece_form fresh form.Number class.Digit b bs e h = refl
piece_form fresh form.Number class.Dot b bs e h = fraction_form bs h
piece_form fresh form.Text class.Quote b bs e h = refl
piece_form fresh form.Character class.Apostrophe b bs e h = refl
piece_form fresh form.Blank class.Blank b bs e h = refl
piece_form fresh form.LineComment class.Slash b bs e h = line_form bs h
piece_form fresh form.BlockComment class.Slash b bs e h = block_form bs h
piece_form fresh form.Marker class.Hash b bs e h = refl
piece_form fresh f k b bs e h = absurd cc

abbrev form_of : List ℕ → Form
form_of [] = form.Punctuator
form_of (b ∷ bs) = form_at (class_of b) bs

abbrev is_punctuator_form : Form → Bool
is_punctuator_form form.Punctuator = true
is_punctuator_form _ = false

punctuator_form : (f : Form) → is_punctuator_form f ≡ true → form.Punctuator ≡ f
punctuator_form form.Punctuator h = refl
punctuator_form f h = absurd cc

any_of_all : (p : List ℕ → Bool) (ws : List (List ℕ)) (w : List ℕ) → list_all p ws ≡ true → is_among w ws ≡ true → p w ≡ true
any_of_all p [] w all h = absurd cc
any_of_all p (v ∷ ws) w all h =
    let both = and_parts (p v) (list_all p ws) all in
    elim (or_cases (bytes_eq w v) (is_among w ws) h) [
      | inl e ↦ ap p ((bytes_eq-Decides w v).0 e) ∙ both.0
      | inr e ↦ any_of_all p ws w both.1 e
    ]

punctuators_are : list_all (λ w. is_punctuator_form (form_of w)) punctuators ≡ true
unfolding punctuators
punctuators_are = refl

piece_is : (fresh : Bool) (f : Form) (w : List ℕ) → is_piece fresh f w ≡ true → f ≡ form_of w
piece_is fresh f [] h = absurd cc
piece_is fresh form.Punctuator (b ∷ bs) h = punctuator_form (form_of (b ∷ bs)) (any_of_all (λ w. is_punctuator_form (form_of w)) punctuators (b ∷ bs) punctuators_are h)
piece_is fresh form.Word (b ∷ bs) h = piece_form fresh form.Word (class_of b) b bs refl h
piece_is fresh form.Number (b ∷ bs) h = piece_form fresh form.Number (class_of b) b bs refl h
piece_is fresh form.Character (b ∷ bs) h = piece_form fresh form.Character (class_of b) b bs refl h
piece_is fresh form.Text (b ∷ bs) h = piece_form fresh form.Text (class_of b) b bs refl h
piece_is fresh form.Prefixed (b ∷ bs) h = piece_form fresh form.Prefixed (class_of b) b bs refl h
piece_is fresh form.Blank (b ∷ bs) h = piece_form fresh form.Blank (class_of b) b bs refl h
piece_is fresh form.LineComment (b ∷ bs) h = piece_form fresh form.LineComment (class_of b) b bs refl h
piece_is fresh form.BlockComment (b ∷ bs) h = piece_form fresh form.BlockComment (class_of b) b bs refl h
piece_is fresh form.Marker (b ∷ bs) h = piece_form fresh form.Marker (class_of b) b bs refl h

-- ---- the longest piece is one

pub same_cut : (fresh : Bool) (text : List ℕ) (f g : Form) (p q r s : List ℕ) → Longest fresh text f p r → Longest fresh text g q s → (f ≡ g) × (p ≡ q) × (r ≡ s)
same_cut fresh text f g p q r s a b =
    let n : length q ≡ length p = omega (arith, a.none_longer g q s b.parts b.is_one, b.none_longer f p r a.parts a.is_one) in
    let both : p ++ r ≡ q ++ s = sym a.parts ∙ b.parts in
    let piece : p ≡ q = sym (take_at p r (length p) refl) ∙ ap (take (length p)) both ∙ take_at q s (length p) n in
    let rest : r ≡ s = sym (drop_at p r (length p) refl) ∙ ap (drop (length p)) both ∙ drop_at q s (length p) n in
    (piece_is fresh f p a.is_one ∙ ap form_of piece ∙ sym (piece_is fresh g q b.is_one), piece, rest)

-- ---- what another cut of the text has where the longest piece is known

abbrev Next : Option Sort → List ℕ → List ℕ → Bool → ℕ → List Lexeme → Type 0
Next None p r fresh at ls = Cuts (fresh_after fresh p) (at + length p) r ls
Next (Some s) p r fresh at ls = (more : List Lexeme) × (ls ≡ record { sort = s; text = p; at = at } ∷ more) × Cuts (fresh_after fresh p) (at + length p) r more

nowhere : (fresh : Bool) (f : Form) (p r : List ℕ) → Longest fresh [] f p r → ⊥
nowhere fresh f [] r l = let h = l.is_one in absurd cc
nowhere fresh f (b ∷ bs) r l = let h = l.parts in absurd cc

moved : (fresh : Bool) (at : ℕ) (ls : List Lexeme) (f g : Form) (p q r s : List ℕ) → (g ≡ f) × (q ≡ p) × (s ≡ r) → Next (sort_of g q) q s fresh at ls → Next (sort_of f p) p r fresh at ls
moved fresh at ls f g p q r s e n =
    let a = subst (λ (x : Form). Next (sort_of x q) q s fresh at ls) e.0 n in
    let b = subst (λ (x : List ℕ). Next (sort_of f x) x s fresh at ls) e.1 a in
    subst (λ (x : List ℕ). Next (sort_of f p) p x fresh at ls) e.2 b

next : {fresh : Bool} {at : ℕ} {text : List ℕ} {ls : List Lexeme} (f : Form) (p r : List ℕ) → Cuts fresh at text ls → Longest fresh text f p r → Next (sort_of f p) p r fresh at ls
next {fresh} f p r lex.ended l = absurd (nowhere fresh f p r l)
next {fresh} {at} {text} {ls} f p r (lex.separator g q s m is more) l = moved fresh at ls f g p q r s (same_cut fresh text g f q p s r m l) (subst (λ (x : Option Sort). Next x q s fresh at ls) (sym is) more)
next {fresh} {at} {text} {ls} f p r (lex.lexeme {lexemes} g q s k m is more) l = moved fresh at ls f g p q r s (same_cut fresh text g f q p s r m l) (subst (λ (x : Option Sort). Next x q s fresh at ls) (sym is) (lexemes, refl, more))
next {fresh} {at} f p r (lex.stray {b} {text} none more) l = absurd (none f p r l.parts l.is_one)

over : {fresh : Bool} {at : ℕ} {ls : List Lexeme} → Cuts fresh at [] ls → ls ≡ []
over lex.ended = refl
over {fresh} (lex.separator g q s m is more) = absurd (nowhere fresh g q s m)
over {fresh} (lex.lexeme g q s k m is more) = absurd (nowhere fresh g q s m)

stuck : {fresh : Bool} {at b : ℕ} {text : List ℕ} {ls : List Lexeme} → NoPiece fresh (b ∷ text) → Cuts fresh at (b ∷ text) ls
    → (more : List Lexeme) × (ls ≡ record { sort = sort.Malformed; text = b ∷ []; at = at } ∷ more) × Cuts (fresh_after fresh (b ∷ [])) (at + 1) text more
stuck none (lex.separator g q s m is more) = absurd (none g q s m.parts m.is_one)
stuck none (lex.lexeme g q s k m is more) = absurd (none g q s m.parts m.is_one)
stuck none (lex.stray {lexemes} other more) = (lexemes, refl, more)

one_cut : {fresh : Bool} {at : ℕ} {text : List ℕ} {ls ms : List Lexeme} → Cuts fresh at text ls → Cuts fresh at text ms → ms ≡ ls
one_cut lex.ended d = over d
one_cut {fresh} {at} {text} {ls} {ms} (lex.separator f p r l is more) d = one_cut more (subst (λ (x : Option Sort). Next x p r fresh at ms) is (next f p r d l))
one_cut {fresh} {at} {text} {ls} {ms} (lex.lexeme f p r k l is more) d =
    let n = subst (λ (x : Option Sort). Next x p r fresh at ms) is (next f p r d l) in
    n.1 ∙ ap (λ (x : List Lexeme). record { sort = k; text = p; at = at } ∷ x) (one_cut more n.2)
one_cut {fresh} {at} (lex.stray {b} none more) d =
    let n = stuck none d in
    n.1 ∙ ap (λ (x : List Lexeme). record { sort = sort.Malformed; text = b ∷ []; at = at } ∷ x) (one_cut more n.2)

-- ---- one reading of the lexemes

-- what a reading has, by the role of the first lexeme and what stands behind its parentheses
abbrev Read : Role → Option (List Lexeme) → Bool → Lexeme → List Lexeme → List Token → Option Refusal → Type 0
Read (role.Token k) group trails l ls ts refusal = (more : List Token) × (ts ≡ token_at k l ∷ more) × Reads (trails_after k l.text) ls more refusal
Read role.Skipped group trails l ls ts refusal = Reads trails ls ts refusal
Read role.SkippedGroup (Some rest) trails l ls ts refusal = Reads trails rest ts refusal
Read role.SkippedGroup None trails l ls ts refusal = (ts ≡ []) × (refusal ≡ Some (no_token l.at))
Read role.Unsupported group trails l ls ts refusal = (ts ≡ []) × (refusal ≡ Some (unsupported_word l.text l.at))
Read role.Malformed group trails l ls ts refusal = (ts ≡ []) × (refusal ≡ Some (no_token l.at))

read : {trails : Bool} {l : Lexeme} {ls : List Lexeme} {ts : List Token} {refusal : Option Refusal} → Reads trails (l ∷ ls) ts refusal → Read (role_of trails l.sort l.text) (after_group ls) trails l ls ts refusal
read {trails} {l} {ls} {ts} {refusal} (tok.token {ts = more} l' k is d) = rw is (more, refl, d)
read {trails} {l} {ls} {ts} {refusal} (tok.skips l' is d) = rw is d
read {trails} {l} {ls} {ts} {refusal} (tok.skips_group l' rest is group d) = rw (is, group) d
read {trails} {l} {ls} {ts} {refusal} (tok.unbalanced l' is group) = rw (is, group) (refl, refl)
read {trails} {l} {ls} {ts} {refusal} (tok.refuses l' is) = rw is (refl, refl)
read {trails} {l} {ls} {ts} {refusal} (tok.malformed l' is) = rw is (refl, refl)

read_end : {trails : Bool} {ts : List Token} {refusal : Option Refusal} → Reads trails [] ts refusal → (ts ≡ []) × (refusal ≡ None)
read_end tok.ended = (refl, refl)

one_reading : {trails : Bool} {ls : List Lexeme} {ts us : List Token} {r s : Option Refusal} → Reads trails ls ts r → Reads trails ls us s → (us ≡ ts) × (s ≡ r)
one_reading tok.ended d = read_end d
one_reading {trails} {ls} {ts} {us} {r} {s} (tok.token {ls = rest} l k is more) d =
    let n = rw is at (read d) in
    let same = one_reading more n.2 in
    (n.1 ∙ ap (λ (x : List Token). token_at k l ∷ x) same.0, same.1)
one_reading (tok.skips l is more) d = let n = rw is at (read d) in one_reading more n
one_reading (tok.skips_group l rest is group more) d = let n = rw (is, group) at (read d) in one_reading more n
one_reading (tok.unbalanced l is group) d = rw (is, group) at (read d)
one_reading (tok.refuses l is) d = rw is at (read d)
one_reading (tok.malformed l is) d = rw is at (read d)

pub at_most_one : (text : List ℕ) (ts us : List Token) (r s : Option Refusal) → Lexes text ts r → Lexes text us s → (ts ≡ us) × (r ≡ s)
at_most_one text ts us r s a b =
    let cut = one_cut a.cuts b.cuts in
    let same = one_reading a.reads (subst (λ (x : List Lexeme). Reads false x us s) cut b.reads) in
    (sym same.0, sym same.1)
