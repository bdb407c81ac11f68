-- Ids in decimal.
use Rattle.std.proofs.Common.{◌≡◌, ℕ, ◌<◌, ◌≤◌, ◌^◌, ◌≢◌, true, false, List, [], ◌∷◌, length, get_or, sym, subst, ◌∙◌, ap, arith, lit<, Option, Some, None, Result, Ok, Err}
use Rattle.std.specs.Result.{result_ok, MatchResult}
use Rattle.std.specs.Str.{IsUtf8}
use Rattle.std.specs.Str.Parse.{ParsesUnsigned, AllDigits, digits_value}
use Rattle.std.specs.Fmt.{decimal}
use Rattle.std.proofs.lemmas.Str.{IsUtf8-from_ascii}
use Rattle.std.proofs.lemmas.Bool.{false≢true}
use Rattle.std.proofs.lemmas.Bool.Decides.{nat_tests}
use Rattle.std.proofs.lemmas.Str.Parse.{IsNumeralModel, numerals_by_value, tells_digits, parse_plain, digit_at}
use Rattle.std.proofs.lemmas.Fmt.{decimal_digit, decimal_nonempty, first_decimal, digits_decimal, digits_value-decimal, decimal-digits_value, decimal_injective, IsAscii-decimal}
use Rattle.lt_cover.specs.Coverage.Names.{IsId}
use Rattle.lt_cover.specs.Coverage.Rows.{begins_well, Reads, IsAny}
use Rattle.lt_model.specs.Operators.{number_of_kind}
use Rattle.lt_model.specs.declared.operator.Ub.{Ub}
use Rattle.lt_cover.proofs.Ends.{small_kind}

own : IsNumeralModel (AllDigits 10) (digits_value 10)
own = numerals_by_value (AllDigits 10) tells_digits

abbrev IsNoId : List ℕ → Type 0
IsNoId word = (x : ℕ) → IsId x → decimal x ≡ word → ⊥

begins : (word : List ℕ) → 0 < length word → 48 < get_or word 0 0 → get_or word 0 0 ≤ 57 → begins_well word ≡ true
begins [] h low high = absurd (omega arith)
begins (b ∷ rest) h low high = grind (arith, nat_tests)

begun : (word : List ℕ) → begins_well word ≡ true → (0 < length word) × (48 < get_or word 0 0) × (get_or word 0 0 ≤ 57)
begun [] h = absurd (false≢true h)
begun (b ∷ rest) h = (omega arith, grind (arith, nat_tests), grind (arith, nat_tests))

id_begins : (x : ℕ) → IsId x → begins_well (decimal x) ≡ true
id_begins x id =
    let small : x < 2 ^ 64 = omega (arith, id.1) in
    let some = decimal_nonempty x small in
    let digit = digit_at (decimal x) 0 (digits_decimal own x small) some in
    begins (decimal x) some (first_decimal x (omega (arith, id.0)) small) (omega (arith, digit))

pub not_begun : (word : List ℕ) → begins_well word ≡ false → IsNoId word
not_begun word h x id is = false≢true (sym h ∙ (ap begins_well (sym is) ∙ id_begins x id))

pub id_is_utf8 : (word : List ℕ) (x : ℕ) → IsId x → decimal x ≡ word → IsUtf8 word
id_is_utf8 word x id is = subst IsUtf8 is (IsUtf8-from_ascii (decimal x) (IsAscii-decimal x (omega (arith, id.1))))

-- what `parse` gives of a word that begins well
abbrev IsParsed : List ℕ → Option ℕ → Type 0
IsParsed word None = IsNoId word
IsParsed word (Some id) = (1 ≤ id) × (id < 2 ^ 32) × (decimal id ≡ word)

no_zero : (word : List ℕ) → begins_well word ≡ true → decimal 0 ≡ word → ⊥
no_zero word h is =
    let e : get_or word 0 0 ≡ 48 = ap (λ w. get_or w 0 0) (sym is ∙ decimal_digit 0 (lit< tt)) in
    absurd (omega (arith, (begun word h).1, e))

parsed_by : (E : Type 0) (word : List ℕ) (r : Result ℕ E) → begins_well word ≡ true → ParsesUnsigned {E = E} 32 10 word r → IsParsed word (result_ok r)
parsed_by E word (Ok id) h parses =
    let b = begun word h in
    let k = parse_plain own {E = E} 32 word (Ok id) parses (λ e. absurd (omega (arith, b.1, e))) in
    let n = digits_value 10 word in
    let small : n < 2 ^ 32 = k.0.2 in
    let is : decimal n ≡ word = decimal-digits_value own word k.0.0 b.0 (λ e. absurd (omega (arith, b.1, e))) (omega arith) in
    let same : id ≡ n = k.1 in
    let some : n ≢ 0 = λ z. no_zero word h (ap decimal (sym z) ∙ is) in
    (omega arith, omega arith, ap decimal same ∙ is)
parsed_by E word (Err e) h parses = λ x id is.
    let b = begun word h in
    let k = parse_plain own {E = E} 32 word (Err e) parses (λ e. absurd (omega (arith, b.1, e))) in
    let small : x < 2 ^ 64 = omega (arith, id.1) in
    let value : digits_value 10 word ≡ x = ap (digits_value 10) (sym is) ∙ digits_value-decimal own x small in
    k (subst (AllDigits 10) is (digits_decimal own x small), b.0, omega (arith, value, id.1))

pub id_parsed : {E : Type 0} (word text : List ℕ) (r : Result ℕ E) (o : Option ℕ) → begins_well word ≡ true → text ≡ word → ParsesUnsigned {E = E} 32 10 text r → o ≡ result_ok r → IsParsed word o
id_parsed {E} word text r o h same parses is = subst (IsParsed word) (sym is) (parsed_by E word r h (subst (λ (t : List ℕ). ParsesUnsigned {E = E} 32 10 t r) same parses))

pub none_parsed : (word : List ℕ) (o : Option ℕ) → o ≡ None → IsParsed word o → IsNoId word
none_parsed word o is h = subst (IsParsed word) is h

pub some_parsed : (word : List ℕ) (o : Option ℕ) (id : ℕ) → o ≡ Some id → IsParsed word o → IsParsed word (Some id)
some_parsed word o id is h = subst (IsParsed word) is h

pub id_too_great : (word : List ℕ) (id : ℕ) → IsParsed word (Some id) → 2147483647 < id → IsNoId word
id_too_great word id h great x ok is =
    let same : x ≡ id = decimal_injective x id (omega (arith, ok.1)) (omega (arith, h.1)) (is ∙ sym h.2) in
    absurd (omega (arith, same, ok.1))

pub kind_read : (word : List ℕ) (id : ℕ) (o : Option Ub) → IsId id → decimal id ≡ word → Reads {X = Ub} IsAny number_of_kind id o → Reads {X = Ub} IsAny (λ kind. decimal (number_of_kind kind)) word o
kind_read word id None ok is h = λ kind any e. h kind tt (decimal_injective (number_of_kind kind) id (small_kind kind) (omega (arith, ok.1)) (e ∙ sym is))
kind_read word id (Some kind) ok is h = (tt, ap decimal h.1 ∙ is)

-- what an answer that became `None` says
pub fact_from_none : {S E : Type 0} (r : Result S E) (o : Option S) (P : S → Type 0) (Q : E → Type 0) (N : Type 0) → o ≡ result_ok r → o ≡ None → MatchResult r P Q → ((e : E) → Q e → N) → N
fact_from_none (Ok s) o P Q N is none m f = cc
fact_from_none (Err e) o P Q N is none m f = f e m
