-- The text of words that are spelt well is one of bytes.
use Rattle.std.proofs.Common.{◌≡◌, ℕ, zero, suc, ◌+◌, ◌*◌, ◌/◌, ◌%◌, ◌≤◌, Bool, true, false, leb, eqb, List, [], ◌∷◌, refl, ap, arith}
use Rattle.std.specs.Prelude.{if◌then◌else◌, ◌&&◌, ◌||◌, replicate}
use Rattle.std.specs.List.{All, list_all, flat_map}
use Rattle.std.proofs.lemmas.Bool.{and_parts}
use Rattle.std.proofs.lemmas.Bool.Decides.{nat_tests}
use Rattle.std.proofs.lemmas.List.Elements.{All-nil, All-cons, All-head, All-tail, All-append}
use Rattle.lt_token.specs.declared.piece.Class.{Class}
use Rattle.lt_token.specs.declared.piece.Class.TheVariants as class
use Rattle.lt_token.specs.declared.piece.Form.TheVariants as form
use Rattle.lt_token.specs.Bytes.{class_of, is_word_byte, goes_on_word}
use Rattle.lt_token.specs.Words.{punctuators}
use Rattle.lt_token.specs.Pieces.{is_piece, is_piece_at}
use Rattle.lt_tree.specs.declared.terminal.Terminal.{Terminal}
use Rattle.lt_tree.specs.Symbols.{spelling}
use Rattle.lt_tree.specs.Pieces as p
use Rattle.lt_tree.specs.Pieces.{Word, word, gap, indent, line_end, quoted_byte, octal, quoted, written, text_of}
use Rattle.lt_tree.specs.Canon.{Pieces}
use Rattle.lt_print.proofs.Cutting.{any_of_all, clash}
use Rattle.lt_print.proofs.CuttingQuotes.{IsByte}
use Rattle.lt_print.proofs.Written.{IsWritten, a_punctuator, a_keyword, a_mark_name, written_as}
use Rattle.lt_print.proofs.Clean.{IsConstant, integer, character, IsGood, Clean}

-- ---- words of letters and digits

beyond : (b : ℕ) → 256 ≤ b → is_word_byte b ≡ false
beyond b h =
    let low : (leb 97 b && leb b 122) ≡ false = grind (arith, nat_tests) in
    let high : (leb 65 b && leb b 90) ≡ false = grind (arith, nat_tests) in
    let underscore : eqb b 95 ≡ false = grind (arith, nat_tests) in
    let digit : (leb 48 b && leb b 57) ≡ false = grind (arith, nat_tests) in
    let dot : eqb b 46 ≡ false = grind (arith, nat_tests) in
    let space : eqb b 32 ≡ false = grind (arith, nat_tests) in
    let blank : (leb 9 b && leb b 13) ≡ false = grind (arith, nat_tests) in
    let quote : eqb b 34 ≡ false = grind (arith, nat_tests) in
    let apostrophe : eqb b 39 ≡ false = grind (arith, nat_tests) in
    let hash : eqb b 35 ≡ false = grind (arith, nat_tests) in
    let slash : eqb b 47 ≡ false = grind (arith, nat_tests) in
    rw (low, high, underscore, digit, dot, space, blank, quote, apostrophe, hash, slash) refl

word_byte : (b : ℕ) → is_word_byte b ≡ true → IsByte b
word_byte b h = step (leb 256 b) refl
  where
    step : (large : Bool) → leb 256 b ≡ large → IsByte b
    step true e = let far : 256 ≤ b = grind (arith, nat_tests) in absurd (clash (is_word_byte b) h (beyond b far))
    step false e = grind (arith, nat_tests)

all_word_bytes : (w : List ℕ) → list_all is_word_byte w ≡ true → All IsByte w
all_word_bytes [] h = All-nil IsByte
all_word_bytes (b ∷ bs) h = let both = and_parts (is_word_byte b) (list_all is_word_byte bs) h in All-cons IsByte b bs (word_byte b both.0) (all_word_bytes bs both.1)

letter_first : (b : ℕ) (bs : List ℕ) (k : Class) → class_of b ≡ k → is_piece_at true form.Word k b bs ≡ true → All IsByte (b ∷ bs)
letter_first b bs class.Letter e h = All-cons IsByte b bs (word_byte b (ap goes_on_word e)) (all_word_bytes bs h)
letter_first b bs k e h = absurd cc

word_bytes : (w : List ℕ) → is_piece true form.Word w ≡ true → All IsByte w
word_bytes [] h = absurd (clash false h refl)
word_bytes (b ∷ bs) h = letter_first b bs (class_of b) refl h

-- ---- signs

pub small_bytes : (w : List ℕ) → list_all (λ b. leb b 127) w ≡ true → All IsByte w
small_bytes [] h = All-nil IsByte
small_bytes (b ∷ bs) h = let both = and_parts (leb b 127) (list_all (λ b. leb b 127) bs) h in All-cons IsByte b bs (small b both.0) (small_bytes bs both.1)
  where
    small : (b : ℕ) → leb b 127 ≡ true → IsByte b
    small b h = grind (arith, nat_tests)

punctuators_small : list_all (λ w. list_all (λ b. leb b 127) w) punctuators ≡ true
unfolding punctuators
punctuators_small = refl

sign_bytes : (x : Terminal) → IsWritten x → All IsByte (spelling x)
sign_bytes x (a_punctuator b is back) = small_bytes (spelling x) (any_of_all (λ w. list_all (λ b. leb b 127) w) punctuators (spelling x) punctuators_small is)
sign_bytes x (a_keyword b is role back) = word_bytes (spelling x) (is true)
sign_bytes x (a_mark_name b is role back) = word_bytes (spelling x) (is true)

-- ---- literals

octal_bytes : (b : ℕ) → All IsByte (octal b)
octal_bytes b =
    let third : All IsByte ((48 + (b % 8)) ∷ []) = All-cons IsByte (48 + (b % 8)) [] (omega arith) (All-nil IsByte) in
    let second : All IsByte ((48 + ((b / 8) % 8)) ∷ (48 + (b % 8)) ∷ []) = All-cons IsByte (48 + ((b / 8) % 8)) ((48 + (b % 8)) ∷ []) (omega arith) third in
    All-cons IsByte 92 ((48 + ((b / 64) % 8)) ∷ (48 + ((b / 8) % 8)) ∷ (48 + (b % 8)) ∷ []) (omega arith)
    (All-cons IsByte (48 + ((b / 64) % 8)) ((48 + ((b / 8) % 8)) ∷ (48 + (b % 8)) ∷ []) (omega arith) second)

one : (b : ℕ) → IsByte b → All IsByte (b ∷ [])
one b x = All-cons IsByte b [] x (All-nil IsByte)

two : (a b : ℕ) → IsByte a → IsByte b → All IsByte (a ∷ b ∷ [])
two a b x y = All-cons IsByte a (b ∷ []) x (one b y)

chosen : (t : Bool) (v w : List ℕ) → All IsByte v → All IsByte w → All IsByte (if t then v else w)
chosen true v w a b = a
chosen false v w a b = b

quoted_one : (b : ℕ) → IsByte b → All IsByte (quoted_byte b)
quoted_one b is =
    let plain : All IsByte (if leb 32 b && leb b 126 then b ∷ [] else octal b) = chosen (leb 32 b && leb b 126) (b ∷ []) (octal b) (one b is) (octal_bytes b) in
    let escaped : All IsByte (if eqb b 34 || eqb b 92 then 92 ∷ b ∷ [] else (if leb 32 b && leb b 126 then b ∷ [] else octal b)) =
    chosen (eqb b 34 || eqb b 92) (92 ∷ b ∷ []) (if leb 32 b && leb b 126 then b ∷ [] else octal b) (two 92 b (omega arith) is) plain in
    chosen (eqb b 10) (92 ∷ 110 ∷ []) (if eqb b 9 then 92 ∷ 116 ∷ [] else (if eqb b 34 || eqb b 92 then 92 ∷ b ∷ [] else (if leb 32 b && leb b 126 then b ∷ [] else octal b))) (two 92 110 (omega arith) (omega arith))
    (chosen (eqb b 9) (92 ∷ 116 ∷ []) (if eqb b 34 || eqb b 92 then 92 ∷ b ∷ [] else (if leb 32 b && leb b 126 then b ∷ [] else octal b)) (two 92 116 (omega arith) (omega arith)) escaped)

quoted_all : (bytes : List ℕ) → All IsByte bytes → All IsByte (flat_map quoted_byte bytes)
quoted_all [] all = All-nil IsByte
quoted_all (b ∷ bs) all = All-append IsByte (quoted_byte b) (flat_map quoted_byte bs) (quoted_one b (All-head IsByte b bs all)) (quoted_all bs (All-tail IsByte b bs all))

quoted_bytes : (bytes : List ℕ) → All IsByte bytes → All IsByte (quoted bytes)
quoted_bytes bytes all =
    All-append IsByte (34 ∷ flat_map quoted_byte bytes) (34 ∷ []) (All-cons IsByte 34 (flat_map quoted_byte bytes) (omega arith) (quoted_all bytes all)) (one 34 (omega arith))

-- ---- pieces

constant_bytes : (w : List ℕ) → IsConstant w → All IsByte w
constant_bytes w (integer is i all) = all
constant_bytes w (character is all) = all

written_bytes : (w : Word) → IsGood w → All IsByte (written w)
written_bytes (p.name w) good = good.bytes
written_bytes (p.constant w) good = constant_bytes w good
written_bytes (p.literal bytes) good = quoted_bytes bytes good
written_bytes (p.sign x) good = sign_bytes x (written_as x good)

spaces_bytes : (n : ℕ) → All IsByte (replicate n 32)
spaces_bytes zero = All-nil IsByte
spaces_bytes (suc n) = All-cons IsByte 32 (replicate n 32) (omega arith) (spaces_bytes n)

pub text_bytes : (ps : Pieces) (after : List ℕ) → Clean ps after → All IsByte (text_of ps)
unfolding text_of
text_bytes [] after clean = All-nil IsByte
text_bytes (word w ∷ ps) after clean = All-append IsByte (written w) (text_of ps) (written_bytes w clean.0) (text_bytes ps after clean.2)
text_bytes (gap ∷ ps) after clean = All-cons IsByte 32 (text_of ps) (omega arith) (text_bytes ps after clean)
text_bytes (indent n ∷ ps) after clean = All-append IsByte (replicate (2 * n) 32) (text_of ps) (spaces_bytes (2 * n)) (text_bytes ps after clean)
text_bytes (line_end ∷ ps) after clean = All-cons IsByte 10 (text_of ps) (omega arith) (text_bytes ps after clean)
