-- A number that is read is the number that the word writes, and every number is read.
use Rattle.std.proofs.Common.{◌≡◌, ℕ, suc, zero, ◌<◌, ◌^◌, Bool, true, false, cond, List, [], ◌∷◌, length, get_or, refl, sym, ◌∙◌, ap, arith, lit<, inl, inr, Option, Some, None, ltb}
use Rattle.std.specs.Prelude.{◌⊎◌, ◌&&◌, option_map, decimal}
use Rattle.std.specs.List.{list_all}
use Rattle.std.specs.Char.{is_ascii_digit}
use Rattle.std.specs.Str.Parse.{digits_value}
use Rattle.std.proofs.lemmas.Bool.{false≢true}
use Rattle.std.proofs.lemmas.Bool.Decides.{nat_tests, eqb_tells}
use Rattle.std.proofs.lemmas.Fmt.{decimal_digit, decimal_is_IsNumeral, first_decimal, digits_decimal, digits_value-decimal, decimal-digits_value}
use Rattle.lt_entry.specs.Written.{Numeral, numeral_word, is_numeral}
use Rattle.lt_entry.specs.Reading.{starts_well, read_decimal, read_numeral}
use Rattle.lt_entry.proofs.Numbers.{own}

starts : (digits : List ℕ) → 0 < length digits → (48 < get_or digits 0 0) ⊎ (length digits ≡ 1) → starts_well digits ≡ true
starts [] h k = absurd (omega arith)
starts (b ∷ digits) h (inl k) = grind (arith, nat_tests)
starts (b ∷ digits) h (inr k) = grind (arith, nat_tests)

decimal_starts : (n : ℕ) → n < 2 ^ 64 → starts_well (decimal n) ≡ true
decimal_starts zero h = ap starts_well (decimal_digit 0 (lit< tt))
decimal_starts (suc n) h = starts (decimal (suc n)) (decimal_is_IsNumeral (suc n) h).0.0 (inl (first_decimal (suc n) (omega arith) h))

value_of_decimal : (digits : List ℕ) → starts_well digits ≡ true → list_all is_ascii_digit digits ≡ true → digits_value 10 digits < 2 ^ 64 → decimal (digits_value 10 digits) ≡ digits
value_of_decimal [] h all small = absurd (false≢true h)
value_of_decimal (b ∷ digits) h all small = decimal-digits_value own (b ∷ digits) all (omega arith) (λ first. grind (arith, nat_tests)) small

pub decimal_read : (n : ℕ) → n < 2 ^ 64 → read_decimal (decimal n) ≡ Some n
decimal_read n h =
    let is : digits_value 10 (decimal n) ≡ n = digits_value-decimal own n h in
    let all : list_all is_ascii_digit (decimal n) ≡ true = digits_decimal own n h in
    let small : ltb n (2 ^ 64) ≡ true = grind (arith, nat_tests) in
    rw (decimal_starts n h, all, is, small) refl

decimal_by_tests : (digits : List ℕ) (n : ℕ) (s a t : Bool) → starts_well digits ≡ s → list_all is_ascii_digit digits ≡ a → ltb (digits_value 10 digits) (2 ^ 64) ≡ t → cond (s && a && t) (Some (digits_value 10 digits)) None ≡ Some n → (n < 2 ^ 64) × (decimal n ≡ digits)
decimal_by_tests digits n true true true es ea et h =
    let is : digits_value 10 digits ≡ n = cc in
    let small : digits_value 10 digits < 2 ^ 64 = grind (arith, nat_tests) in
    (rw (sym is) small, ap decimal (sym is) ∙ value_of_decimal digits es ea small)
decimal_by_tests digits n true true false es ea et h = cc
decimal_by_tests digits n true false t es ea et h = cc
decimal_by_tests digits n false a t es ea et h = cc

pub decimal_said : (digits : List ℕ) (n : ℕ) → read_decimal digits ≡ Some n → (n < 2 ^ 64) × (decimal n ≡ digits)
decimal_said digits n h = decimal_by_tests digits n (starts_well digits) (list_all is_ascii_digit digits) (ltb (digits_value 10 digits) (2 ^ 64)) refl refl refl h

-- ---- numbers with their signs

is_small : (n : Numeral) → n.size < 2 ^ 64 → is_numeral n ≡ true
is_small n h = grind (arith, nat_tests)

small_is : (n : Numeral) → is_numeral n ≡ true → n.size < 2 ^ 64
small_is n h = grind (arith, nat_tests)

minus_is_no_digit : (b : ℕ) (digits : List ℕ) (n : ℕ) → b ≡ 45 → read_decimal (b ∷ digits) ≡ Some n → ⊥
minus_is_no_digit b digits n is h = false≢true (let k : None ≡ Some n = rw is at h in cc)

plain_read : (digits : List ℕ) (n : ℕ) → read_decimal digits ≡ Some n → read_numeral digits ≡ Some (record { is_negative = false; size = n })
plain_read [] n h = cc
plain_read (b ∷ digits) n h = elim (eqb_tells b 45) [
  | inl k ↦ absurd (minus_is_no_digit b digits n k.1 h)
  | inr k ↦ rw (k.0, h) refl
]

read_with_sign : (t : Bool) (m : ℕ) → m < 2 ^ 64 → read_numeral (numeral_word (record { is_negative = t; size = m })) ≡ Some (record { is_negative = t; size = m })
read_with_sign true m h = rw (decimal_read m h) refl
read_with_sign false m h = plain_read (decimal m) m (decimal_read m h)

pub numeral_read : (n : Numeral) → is_numeral n ≡ true → read_numeral (numeral_word n) ≡ Some n
numeral_read n h = read_with_sign n.is_negative n.size (small_is n h)

numeral_from : (t : Bool) (o : Option ℕ) (n : Numeral) → option_map (λ m. record { is_negative = t; size = m }) o ≡ Some n → (o ≡ Some n.size) × (n.is_negative ≡ t)
numeral_from t None n h = cc
numeral_from t (Some m) n h =
    let e : record { is_negative = t; size = m } ≡ n = cc in
    (ap (λ (k : Numeral). Some k.size) e, ap (λ (k : Numeral). k.is_negative) (sym e))

pub numeral_said : (word : List ℕ) (n : Numeral) → read_numeral word ≡ Some n → (is_numeral n ≡ true) × (numeral_word n ≡ word)
numeral_said [] n h = cc
numeral_said (b ∷ digits) n h = elim (eqb_tells b 45) [
  | inl k ↦
      let f = numeral_from true (read_decimal digits) n (rw k.0 at h) in
      let d = decimal_said digits n.size f.0 in
      (is_small n d.0, rw (f.1, d.1, k.1) refl)
  | inr k ↦
      let f = numeral_from false (read_decimal (b ∷ digits)) n (rw k.0 at h) in
      let d = decimal_said (b ∷ digits) n.size f.0 in
      (is_small n d.0, rw (f.1, d.1) refl)
]
