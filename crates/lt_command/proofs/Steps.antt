-- Numbers of steps: what `parse` reads of a word, and the word that writes it.
use Rattle.std.proofs.Common.{◌≡◌, ℕ, ◌<◌, ◌≤◌, ◌^◌, ◌==◌, Bool, true, false, List, [], ◌∷◌, length, get_or, refl, sym, ◌∙◌, ap, arith, rules, lit<, Result, Ok, Some, None, subst}
use Rattle.std.specs.List.{list_all}
use Rattle.std.specs.Char.{is_ascii_digit}
use Rattle.std.specs.Str.{bytes_eq}
use Rattle.std.specs.Str.Parse.{ParsesUnsigned, IsNumeral, digits_value, without_leading_plus}
use Rattle.std.specs.Fmt.{decimal}
use Rattle.std.specs.Prelude.{nat_le}
use Rattle.std.proofs.lemmas.Bool.{false≢true}
use Rattle.std.proofs.lemmas.Bool.Decides.{nat_tests}
use Rattle.std.proofs.lemmas.Slice.Eq.{bytes_eq-Decides}
use Rattle.std.proofs.lemmas.Str.Parse.{IsNumeralModel, numerals_by_value}
use Rattle.std.proofs.lemmas.Fmt.{decimal_digit, decimal_is_IsNumeral, first_decimal, digits_decimal, decimal-digits_value, parse-decimal}
use Rattle.lt_command.specs.Plan.{steps_of}
use Rattle.lt_command.specs.Views.{starts_well}

own : IsNumeralModel (λ ds. list_all is_ascii_digit ds ≡ true) (digits_value 10)
own = numerals_by_value _ (search rules)

-- a word that writes no such number
no_steps : (word : List ℕ) → ((n : ℕ) → 1 ≤ n → n ≤ 10000000 → word ≡ decimal n → ⊥) → steps_of word ≡ None
no_steps word not =
    let v = digits_value 10 word in
    go (bytes_eq word (decimal v)) (nat_le 1 v) (nat_le v 10000000) refl refl refl
  where
    go : (a b d : Bool) → bytes_eq word (decimal (digits_value 10 word)) ≡ a → nat_le 1 (digits_value 10 word) ≡ b
        → nat_le (digits_value 10 word) 10000000 ≡ d → steps_of word ≡ None
    go true true true same low high =
        absurd (not (digits_value 10 word) (grind (arith, nat_tests)) (grind (arith, nat_tests)) ((bytes_eq-Decides word (decimal (digits_value 10 word))).0 same))
    go false b d same low high = rw same refl
    go true false d same low high = rw (same, low) refl
    go true true false same low high = rw (same, low, high) refl

-- the word that writes the number n
steps_are : (word : List ℕ) (n : ℕ) → digits_value 10 word ≡ n → word ≡ decimal n → 1 ≤ n → n ≤ 10000000 → steps_of word ≡ Some n
steps_are word n value is low high =
    let same : bytes_eq word (decimal (digits_value 10 word)) ≡ true =
    (bytes_eq-Decides word (decimal (digits_value 10 word))).1 (is ∙ ap decimal (sym value)) in
    let more : nat_le 1 (digits_value 10 word) ≡ true = grind (arith, nat_tests) in
    let less : nat_le (digits_value 10 word) 10000000 ≡ true = grind (arith, nat_tests) in
    rw (same, more, less) (ap Some value)

first_digit : (ds : List ℕ) → list_all is_ascii_digit ds ≡ true → 0 < length ds → 48 < get_or ds 0 0 → starts_well ds ≡ true
first_digit [] all some more = absurd (omega arith)
first_digit (b ∷ ds) all some more = grind (arith, nat_tests)

begins_well : (n : ℕ) → 1 ≤ n → n ≤ 10000000 → starts_well (decimal n) ≡ true
begins_well n low high =
    first_digit (decimal n) (digits_decimal own n (omega arith)) (decimal_is_IsNumeral n (omega arith)).0.0 (first_decimal n (omega arith) (omega arith))

pub starts_else : (word : List ℕ) → starts_well word ≡ false → steps_of word ≡ None
starts_else word h = no_steps word (λ n low high is. false≢true (sym h ∙ ap starts_well is ∙ begins_well n low high))

digits_first : (word : List ℕ) → starts_well word ≡ true → (without_leading_plus word ≡ word) × (0 < length word) × (48 < get_or word 0 0)
digits_first [] h = absurd (false≢true h)
digits_first (b ∷ bytes) h =
    let more : 48 < b = grind (arith, nat_tests) in
    let no_plus : (b == 43) ≡ false = grind (arith, nat_tests) in
    (rw no_plus refl, omega arith, more)

pub steps_read : {E : Type 0} (word : List ℕ) (r : Result ℕ E) (n : ℕ) → ParsesUnsigned 64 10 word r → r ≡ Ok n → starts_well word ≡ true → n ≤ 10000000 → steps_of word ≡ Some n
steps_read {E} word r n parses is starts small =
    let first = digits_first word starts in
    let parsed : (IsNumeral 10 (without_leading_plus word) × (digits_value 10 (without_leading_plus word) < 2 ^ 64)) × (n ≡ digits_value 10 (without_leading_plus word)) =
    subst (λ (o : Result ℕ E). ParsesUnsigned 64 10 word o) is parses in
    let numeral : IsNumeral 10 word = subst (IsNumeral 10) first.0 parsed.0.0 in
    let value : digits_value 10 word ≡ n = ap (digits_value 10) (sym first.0) ∙ sym parsed.1 in
    let written : decimal (digits_value 10 word) ≡ word =
    decimal-digits_value own word (own.from word numeral.1) first.1 (λ e. absurd (omega arith)) (omega arith) in
    let some : n ≡ 0 → ⊥ = λ e. let zero_word : get_or word 0 0 ≡ 48 = ap (λ (ds : List ℕ). get_or ds 0 0) (sym written ∙ ap decimal (value ∙ e) ∙ decimal_digit 0 (lit< tt)) in omega arith in
    steps_are word n value (sym written ∙ ap decimal value) (omega arith) small

pub no_steps_read : {E : Type 0} (word : List ℕ) (r : Result ℕ E) → ParsesUnsigned 64 10 word r → ((n : ℕ) → r ≡ Ok n → n ≤ 10000000 → ⊥) → steps_of word ≡ None
no_steps_read word r parses not =
    no_steps word (λ n low high is. not n (parse-decimal 64 n word r (omega arith) (omega arith) is parses) high)
