-- Numbers in decimal: what `parse` reads of their digits.
use Rattle.std.proofs.Common.{◌≡◌, ℕ, ◌<◌, ◌^◌, true, false, List, [], ◌∷◌, length, ap, arith, rules, Result, Ok, Err, Option, Some, None, refl, ltb}
use Rattle.std.specs.Prelude.{MatchResult}
use Rattle.std.specs.Result.{result_ok}
use Rattle.std.specs.Str.{IsUtf8}
use Rattle.std.specs.List.{list_all}
use Rattle.std.specs.Char.{is_ascii_digit}
use Rattle.std.specs.Result.{OkIff}
use Rattle.std.specs.Str.Parse.{ParsesUnsigned, digits_value}
use Rattle.std.proofs.lemmas.Str.{IsUtf8-from_ascii}
use Rattle.std.proofs.lemmas.Fmt.{IsAscii-from_digits}
use Rattle.std.proofs.lemmas.Bool.{false≢true}
use Rattle.std.proofs.lemmas.Bool.Decides.{nat_tests}
use Rattle.std.proofs.lemmas.Str.Parse.{IsNumeralModel, numerals_by_value, parse_digits}
use Rattle.lt_entry.specs.Reading.{starts_well, read_decimal}

pub own : IsNumeralModel (λ ds. list_all is_ascii_digit ds ≡ true) (digits_value 10)
own = numerals_by_value _ (search rules)

pub digits_are_utf8 : (digits : List ℕ) → list_all is_ascii_digit digits ≡ true → IsUtf8 digits
digits_are_utf8 digits h = IsUtf8-from_ascii digits (IsAscii-from_digits digits (own.to digits h))

pub some_digits : (digits : List ℕ) → starts_well digits ≡ true → 0 < length digits
some_digits [] h = absurd (false≢true h)
some_digits (b ∷ digits) h = omega arith

read : {E : Type 0} (digits : List ℕ) (r : Result ℕ E) → starts_well digits ≡ true → list_all is_ascii_digit digits ≡ true → 0 < length digits → OkIff r ((0 < length digits) × (digits_value 10 digits < 2 ^ 64)) (digits_value 10 digits) → result_ok r ≡ read_decimal digits
read digits (Ok n) starts all some is =
    let small : ltb (digits_value 10 digits) (2 ^ 64) ≡ true = grind (arith, nat_tests, is.0.1) in
    rw (starts, all, small) (ap Some is.1)
read digits (Err e) starts all some is =
    let large : ltb (digits_value 10 digits) (2 ^ 64) ≡ false = grind (arith, nat_tests, is) in
    rw (starts, all, large) refl

-- What `parse` reads is the number.
pub parsed_decimal : {E : Type 0} (digits text : List ℕ) (r : Result ℕ E) → starts_well digits ≡ true → list_all is_ascii_digit digits ≡ true → text ≡ digits → ParsesUnsigned 64 10 text r → result_ok r ≡ read_decimal digits
parsed_decimal {E} digits text r starts all same parses =
    let from : ParsesUnsigned 64 10 digits r = rw same at parses in
    read digits r starts all (some_digits digits starts) (parse_digits own 64 digits r from all)

-- what an answer that became `None` says
pub fact_from_none : {S E : Type 0} (r : Result S E) (o : Option S) (P : S → Type 0) (Q : E → Type 0) (N : Type 0) → o ≡ result_ok r → o ≡ None → MatchResult r P Q → ((e : E) → Q e → N) → N
fact_from_none (Ok s) o P Q N is none m f = cc
fact_from_none (Err e) o P Q N is none m f = f e m
