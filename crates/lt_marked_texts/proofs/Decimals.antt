-- The text of a number is an integer constant.
use Rattle.std.proofs.Common.{◌≡◌, ℕ, suc, ◌+◌, ◌^◌, ◌<◌, ◌≤◌, ◌/◌, ◌%◌, Bool, true, false, eqb, List, [], ◌∷◌, ◌++◌, drop, refl, sym, ap, ◌∙◌, subst, arith}
use Rattle.std.specs.Prelude.{if◌then◌else◌, ◌&&◌}
use Rattle.std.specs.Fmt.{decimal}
use Rattle.std.specs.Char.{is_ascii_digit}
use Rattle.std.specs.List.{All, list_all, prefix_len}
use Rattle.std.proofs.lemmas.Bool.{and_parts, eqb-true}
use Rattle.std.proofs.lemmas.Bool.Decides.{nat_tests}
use Rattle.std.proofs.lemmas.Fmt.{decimal_by_steps_wide}
use Rattle.std.proofs.lemmas.List.Elements.{All-nil, All-cons}
use Rattle.std.proofs.lemmas.List.Folds.{list_all-append}
use Rattle.lt_token.specs.declared.piece.Class.{Class}
use Rattle.lt_token.specs.declared.piece.Class.TheVariants as class
use Rattle.lt_token.specs.declared.piece.Form.TheVariants as form
use Rattle.lt_token.specs.declared.piece.Part.{Part}
use Rattle.lt_token.specs.declared.piece.Part.TheVariants as part
use Rattle.lt_token.specs.Bytes.{class_of}
use Rattle.lt_token.specs.Parts.{is_whole, ends_at}
use Rattle.lt_token.specs.Words.{is_among, integer_suffixes}
use Rattle.lt_token.specs.Pieces.{is_piece_at}
use Rattle.lt_token.specs.Lexemes.{past, is_integer}
use Rattle.lt_print.proofs.CuttingConstants.{digit_class}
use Rattle.lt_print.proofs.CuttingQuotes.{IsByte}
use Rattle.lt_print.proofs.Clean.{IsConstant, integer}

-- the digits of a number, of which the first is `0` only if it is the only one
record Digits (n : ℕ) (w : List ℕ) : Type 0 where
  first : ℕ
  rest : List ℕ
  parts : w ≡ first ∷ rest
  begins : is_ascii_digit first ≡ true
  goes_on : list_all is_ascii_digit rest ≡ true
  alone : first ≡ 48 → (n ≡ 0) × (rest ≡ [])

is_digit : (k : ℕ) → k < 10 → is_ascii_digit (48 + k) ≡ true
is_digit k h = grind (arith, nat_tests)

one_digit : (n : ℕ) → n < 10 → Digits n ((48 + n) ∷ [])
one_digit n h = record { first = 48 + n; rest = []; parts = refl; begins = is_digit n h; goes_on = refl; alone = λ e. (omega arith, refl) }

no_leading_zero : (n : ℕ) → 10 ≤ n → n / 10 ≡ 0 → ⊥
no_leading_zero n h e = omega arith

one_more_digit : (n : ℕ) (w : List ℕ) → 10 ≤ n → Digits (n / 10) w → Digits n (w ++ ((48 + n % 10) ∷ []))
one_more_digit n w h d = record {
  first = d.first;
  rest = d.rest ++ ((48 + n % 10) ∷ []);
  parts = ap (λ v. v ++ ((48 + n % 10) ∷ [])) d.parts;
  begins = d.begins;
  goes_on = all_digits (list_all is_ascii_digit d.rest) d.goes_on;
  alone = λ e. absurd (no_leading_zero n h (d.alone e).0);
}
  where
    all_digits : (b : Bool) → list_all is_ascii_digit d.rest ≡ true → list_all is_ascii_digit (d.rest ++ ((48 + n % 10) ∷ [])) ≡ true
    all_digits b e = list_all-append is_ascii_digit d.rest ((48 + n % 10) ∷ []) ∙ ap (λ x. x && list_all is_ascii_digit ((48 + n % 10) ∷ [])) e ∙ ap (λ x. x && true) (is_digit (n % 10) (omega arith))

digits_of_number : (n : ℕ) → n < 10 ^ 64 → Digits n (decimal n)
digits_of_number n h = decimal_by_steps_wide Digits one_digit one_more_digit n h

-- ---- bytes

digit_byte : (b : ℕ) → is_ascii_digit b ≡ true → IsByte b
digit_byte b h = grind (arith, nat_tests)

digits_bytes : (w : List ℕ) → list_all is_ascii_digit w ≡ true → All IsByte w
digits_bytes [] h = All-nil IsByte
digits_bytes (b ∷ bs) h = let both = and_parts (is_ascii_digit b) (list_all is_ascii_digit bs) h in All-cons IsByte b bs (digit_byte b both.0) (digits_bytes bs both.1)

-- ---- the piece

stays : (b : Bool) (x y : Part) → b ≡ true → (if b then x else y) ≡ x
stays true x y h = refl
stays false x y h = absurd cc

digits_end : (w : List ℕ) → list_all is_ascii_digit w ≡ true → ends_at part.Digits w ≡ part.Digits
digits_end [] h = refl
digits_end (b ∷ bs) h =
    let both = and_parts (is_ascii_digit b) (list_all is_ascii_digit bs) h in ap (λ (p : Part). ends_at p bs) (stays (is_ascii_digit b) part.Digits _ both.0) ∙ digits_end bs both.1

number_at : (fresh : Bool) (k : Class) (b : ℕ) (bs : List ℕ) → k ≡ class.Digit → eqb b 48 ≡ false → list_all is_ascii_digit bs ≡ true → is_piece_at fresh form.Number k b bs ≡ true
number_at fresh class.Digit b bs e h all = ap (λ (z : Bool). is_whole (ends_at (if z then part.Zero else part.Digits) bs)) h ∙ ap is_whole (digits_end bs all)
number_at fresh k b bs e h all = absurd cc

-- ---- the suffix

behind_all : (p : ℕ → Bool) (w : List ℕ) → list_all p w ≡ true → drop (prefix_len p w) w ≡ []
behind_all p [] h = refl
behind_all p (b ∷ bs) h =
    let both = and_parts (p b) (list_all p bs) h in
    let n : 1 + prefix_len p bs ≡ suc (prefix_len p bs) = omega arith in
    rw (both.0, n) (behind_all p bs both.1)

none_behind : (w : List ℕ) → list_all is_ascii_digit w ≡ true → is_among (past is_ascii_digit w) integer_suffixes ≡ true
unfolding past integer_suffixes
none_behind w h = ap (λ v. is_among v integer_suffixes) (behind_all is_ascii_digit w h)

and_true : (a b : Bool) → a ≡ true → b ≡ true → (a && b) ≡ true
and_true true b h e = e
and_true false b h e = absurd cc

constant_by : (first : ℕ) (rest : List ℕ) (zero : Bool) → eqb first 48 ≡ zero → is_ascii_digit first ≡ true → list_all is_ascii_digit rest ≡ true → (first ≡ 48 → rest ≡ []) → IsConstant (first ∷ rest)
unfolding past integer_suffixes
constant_by first rest true z begins goes_on alone =
    let a : 48 ≡ first = sym (eqb-true first 48 z) in
    let b : [] ≡ rest = sym (alone (eqb-true first 48 z)) in
    subst (λ (x : ℕ). IsConstant (x ∷ rest)) a (subst (λ (v : List ℕ). IsConstant (48 ∷ v)) b (integer (λ fresh. refl) refl (digits_bytes (48 ∷ []) refl)))
constant_by first rest false z begins goes_on alone =
    let all : list_all is_ascii_digit (first ∷ rest) ≡ true = and_true (is_ascii_digit first) (list_all is_ascii_digit rest) begins goes_on in
    integer (λ fresh. number_at fresh (class_of first) first rest (digit_class first begins) z goes_on) (decimal_integer first rest z (none_behind (first ∷ rest) all)) (digits_bytes (first ∷ rest) all)
  where
    decimal_integer : (first : ℕ) (rest : List ℕ) → eqb first 48 ≡ false → is_among (past is_ascii_digit (first ∷ rest)) integer_suffixes ≡ true → is_integer (first ∷ rest) ≡ true
    decimal_integer first rest z h = rw z h

pub decimal_constant : (n : ℕ) → n < 10 ^ 64 → IsConstant (decimal n)
decimal_constant n h =
    let d = digits_of_number n h in
    subst IsConstant (sym d.parts) (constant_by d.first d.rest (eqb d.first 48) refl d.begins d.goes_on (λ e. (d.alone e).1))
