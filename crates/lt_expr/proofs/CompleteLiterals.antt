-- A literal's value and the text of adjacent literals are read.
use Rattle.std.proofs.Common.{◌≡◌, ℕ, zero, suc, ◌+◌, ◌-◌, ◌*◌, ◌%◌, ◌<◌, ◌≤◌, Bool, true, false, not, cond, ◌&&◌, eqb, List, [], ◌∷◌, length, Option, Some, None, refl, ap, arith}
use Rattle.std.specs.Prelude.{option_map}
use Rattle.std.proofs.lemmas.Bool.{and_parts, not-true}
use Rattle.lt_tree.specs.Strings.{is_plain, is_octal, hex_value, simple_escape, third_octal, second_octal, with_second_hex, second_hex, hex_escape, escape, Spells, closed, plain, escaped}
use Rattle.lt_tree.specs.Symbols.{Symbol}
use Rattle.lt_tree.specs.Grammar as g
use Rattle.lt_tree.specs.Grammar.{IsLiteral, IsText}
use Rattle.lt_expr.specs.Literals.{value_within, value_of, begins_literal, text_of}

-- ---- an escape takes bytes

abbrev Spelt : Type 0
Spelt = ℕ × List ℕ

abbrev spelt : ℕ → List ℕ → Spelt
spelt v bytes = (v, bytes)

third_short : (v : ℕ) (bytes : List ℕ) → length (third_octal v bytes).1 ≤ length bytes
third_short v [] = omega arith
third_short v (b ∷ bytes) = step (is_octal b)
  where
    step : (o : Bool) → length (cond o (spelt ((8 * v + (b - 48)) % 256) bytes) (spelt v (b ∷ bytes))).1 ≤ suc (length bytes)
    step true = omega arith
    step false = omega arith

second_short : (v : ℕ) (bytes : List ℕ) → length (second_octal v bytes).1 ≤ length bytes
second_short v [] = omega arith
second_short v (b ∷ bytes) = step (is_octal b)
  where
    step : (o : Bool) → length (cond o (third_octal (8 * v + (b - 48)) bytes) (spelt v (b ∷ bytes))).1 ≤ suc (length bytes)
    step true = omega (arith, third_short (8 * v + (b - 48)) bytes)
    step false = omega arith

hex_short : (v : ℕ) (bytes : List ℕ) → length (second_hex v bytes).1 ≤ length bytes
hex_short v [] = omega arith
hex_short v (b ∷ bytes) = step (hex_value b)
  where
    step : (w : Option ℕ) → length (with_second_hex v b bytes w).1 ≤ suc (length bytes)
    step None = omega arith
    step (Some w) = omega arith

-- what is behind an escape
behind_is : (x : Spelt) (v : ℕ) (rest : List ℕ) → Some x ≡ Some (v, rest) → x.1 ≡ rest
behind_is x v rest e = let same : x ≡ (v, rest) = cc in ap (λ (y : Spelt). y.1) same

escape_shorter : (bytes : List ℕ) (v : ℕ) (rest : List ℕ) → escape bytes ≡ Some (v, rest) → length rest < length bytes
escape_shorter [] v rest e = absurd cc
escape_shorter (b ∷ bytes) v rest e = step (is_octal b) (eqb b 120) e
  where
    simple : (w : Option ℕ) → option_map (λ (u : ℕ). spelt u bytes) w ≡ Some (v, rest) → length rest < suc (length bytes)
    simple None e = absurd cc
    simple (Some w) e = let same = behind_is (w, bytes) v rest e in omega (arith, ap length same)

    with_digit : (d : ℕ) (others : List ℕ) (w : Option ℕ) → option_map (λ u. second_hex u others) w ≡ Some (v, rest) → length rest < suc (suc (length others))
    with_digit d others None e = absurd cc
    with_digit d others (Some w) e = let same = behind_is (second_hex w others) v rest e in omega (arith, ap length same, hex_short w others)

    hexadecimal : (us : List ℕ) → hex_escape us ≡ Some (v, rest) → length rest < suc (length us)
    hexadecimal [] e = absurd cc
    hexadecimal (d ∷ others) e = with_digit d others (hex_value d) e

    other : (h : Bool) → cond h (hex_escape bytes) (option_map (λ (u : ℕ). spelt u bytes) (simple_escape b)) ≡ Some (v, rest) → length rest < suc (length bytes)
    other true e = hexadecimal bytes e
    other false e = simple (simple_escape b) e

    step : (o h : Bool) → cond o (Some (second_octal (b - 48) bytes)) (cond h (hex_escape bytes) (option_map (λ (u : ℕ). spelt u bytes) (simple_escape b))) ≡ Some (v, rest) → length rest < suc (length bytes)
    step true h e = let same = behind_is (second_octal (b - 48) bytes) v rest e in omega (arith, ap length same, second_short (b - 48) bytes)
    step false h e = other h e

-- ---- the value of a literal

-- a byte that stands for itself is no quote
plain_quote : (b : ℕ) → is_plain b ≡ true → eqb b 34 ≡ false
plain_quote b p = not-true (eqb b 34) (and_parts (not (eqb b 34)) (not (eqb b 92)) (and_parts (not (eqb b 34) && not (eqb b 92)) (not (eqb b 10)) p).0).0

-- what is spelled is the value
pub spelt_is_value : (n : ℕ) {bytes value : List ℕ} → Spells bytes value → length bytes ≤ n → value_within n bytes ≡ Some value
unfolding value_within
spelt_is_value zero closed big = absurd (omega arith)
spelt_is_value (suc n) closed big = refl
spelt_is_value zero (plain p d) big = absurd (omega arith)
spelt_is_value (suc n) (plain {b} p d) big = rw (p, plain_quote b p, spelt_is_value n d (omega arith)) refl
spelt_is_value zero (escaped e d) big = absurd (omega arith)
spelt_is_value (suc n) (escaped {v} {bytes} {rest} e d) big = rw (e, spelt_is_value n d (omega (arith, escape_shorter bytes v rest e))) refl

-- a literal's value is what it spells
pub literal_is_value : {w bytes : List ℕ} → IsLiteral w bytes → value_of w ≡ Some bytes
literal_is_value (g.quoted {text} d) = spelt_is_value (length text) d (omega arith)

-- ---- adjacent literals

another : {ts rest : List Symbol} {bytes : List ℕ} → IsText ts bytes rest → begins_literal ts ≡ true
another (g.one_literal l) = refl
another (g.more_literals l d) = refl

-- adjacent literals are read together, where none follows
pub text_is_read : {ts rest : List Symbol} {bytes : List ℕ} → IsText ts bytes rest → begins_literal rest ≡ false → text_of ts ≡ Some (bytes, rest)
text_is_read (g.one_literal l) quiet = rw (literal_is_value l, quiet) refl
text_is_read (g.more_literals l d) quiet = rw (literal_is_value l, another d, text_is_read d quiet) refl
