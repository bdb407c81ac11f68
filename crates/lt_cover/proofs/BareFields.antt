-- The fields that a writer of rows writes as they are.
use Rattle.std.proofs.Common.{◌≡◌, ℕ, ◌<◌, ◌^◌, false, cond, List, [], ◌∷◌, refl, arith, ◌∙◌, ap}
use Rattle.std.specs.Prelude.{IsTrue, ◌||◌}
use Rattle.std.specs.List.{list_any}
use Rattle.std.specs.Fmt.{decimal}
use Rattle.std.proofs.lemmas.Bool.Decides.{nat_tests}
use Rattle.std.proofs.lemmas.List.Elements.{All-head, All-tail}
use Rattle.std.specs.Char.{digit_value}
use Rattle.std.specs.Str.Parse.{AllDigits}
use Rattle.std.proofs.lemmas.Str.Parse.{digit_from_value}
use Rattle.std.proofs.lemmas.Fmt.{decimal_is_IsNumeral}
use Rattle.csv.specs.Writing.{default_writer, needs_byte, needs_quotes, field_text, quoted}
use Rattle.lt_model.specs.Plain.{is_plain_byte, IsPlain}

-- no byte of the field calls for quotes
abbrev pub IsBare : List ℕ → Type 0
IsBare field = needs_quotes default_writer field ≡ false

bare_byte : (b : ℕ) → IsTrue (is_plain_byte b) → needs_byte default_writer b ≡ false
bare_byte b h = grind (arith, nat_tests)

bare_digit : (b : ℕ) → digit_value b < 10 → needs_byte default_writer b ≡ false
bare_digit b h = let k = digit_from_value b h in grind (arith, nat_tests)

pub bare_cons : (b : ℕ) (bytes : List ℕ) → needs_byte default_writer b ≡ false → IsBare bytes → IsBare (b ∷ bytes)
bare_cons b bytes h k = ap (λ x. x || list_any (needs_byte default_writer) bytes) h ∙ k

pub bare_plain : (name : List ℕ) → IsPlain name → IsBare name
bare_plain [] h = refl
bare_plain (b ∷ name) h =
    let P : ℕ → Type 0 = λ x. IsTrue (is_plain_byte x) in
    bare_cons b name (bare_byte b (All-head P b name h)) (bare_plain name (All-tail P b name h))

bare_digits : (digits : List ℕ) → AllDigits 10 digits → IsBare digits
bare_digits [] h = refl
bare_digits (b ∷ digits) h = bare_cons b digits (bare_digit b h.0) (bare_digits digits h.1)

pub bare_decimal : (n : ℕ) → n < 2 ^ 64 → IsBare (decimal n)
bare_decimal n h = bare_digits (decimal n) (decimal_is_IsNumeral n h).0.1

pub bare_number : (n : ℕ) (bytes text : List ℕ) → bytes ≡ text → text ≡ decimal n → n < 2 ^ 64 → IsBare bytes
bare_number n bytes text same is h = rw (same, is) (bare_decimal n h)

pub bare_field : (field : List ℕ) → IsBare field → field_text default_writer field ≡ field
bare_field field h = ap (λ b. cond b (quoted default_writer field) field) h
