-- The first type of a list that has a value.
use Rattle.std.proofs.Common.{◌≡◌, refl, sym, ap, ◌∙◌, ℕ, suc, ◌+◌, ◌<◌, ◌≤◌, ◌-◌, ◌^◌, ◌≤ℤ◌, min, ℤ, pos, Bool, true, false, ◌&&◌, cond, List, [], ◌∷◌, length, drop, get_or, Some, None, inl, inr, drop-cons, add-one, arith}
use Rattle.std.specs.Prelude.{option_map, int_le}
use Rattle.std.proofs.lemmas.Bool.{cases_lt, cond-true, cond-false}
use Rattle.std.proofs.lemmas.Int.{ints}
use Rattle.std.proofs.Math.ListN.{drop_of_length-le}
use Rattle.lt_model.specs.declared.scalar.DataModel.{DataModel}
use Rattle.lt_model.specs.declared.scalar.Scalar.{Scalar}
use Rattle.lt_model.specs.Scalar.{least_of, greatest_of}
use Rattle.lt_model.specs.Operators.{is_value}
use Rattle.lt_model.proofs.Ranges.{bounds_of}
use Rattle.lt_tree.specs.Typing.Constants.{is_listed, first_that_has, integer_types, integer_of, of_type}
use Rattle.lt_tree.specs.Constants.{is_suffix}

-- a type that may not be taken is passed over
pub passed_over : (m : DataModel) (decimal : Bool) (suffix : List ℕ) (z : ℤ) (types : List Scalar) (i : ℕ) (d : Scalar) → i < length types
    → (is_listed m decimal suffix (get_or types i d) && is_value m (get_or types i d) z) ≡ false → first_that_has m decimal suffix z (drop i types) ≡ first_that_has m decimal suffix z (drop (i + 1) types)
passed_over m decimal suffix z types i d within not =
    ap (first_that_has m decimal suffix z) (drop-cons types i d within)
    ∙ cond-false _ (Some (get_or types i d)) (first_that_has m decimal suffix z (drop (suc i) types)) not
    ∙ ap (λ k. first_that_has m decimal suffix z (drop k types)) (sym (add-one i))

pub taken_here : (m : DataModel) (decimal : Bool) (suffix : List ℕ) (z : ℤ) (types : List Scalar) (i : ℕ) (d : Scalar) → i < length types
    → (is_listed m decimal suffix (get_or types i d) && is_value m (get_or types i d) z) ≡ true → first_that_has m decimal suffix z (drop i types) ≡ Some (get_or types i d)
taken_here m decimal suffix z types i d within is =
    ap (first_that_has m decimal suffix z) (drop-cons types i d within) ∙ cond-true _ (Some (get_or types i d)) (first_that_has m decimal suffix z (drop (suc i) types)) is

pub none_left : (m : DataModel) (decimal : Bool) (suffix : List ℕ) (z : ℤ) (types : List Scalar) (i : ℕ) → length types ≤ i → first_that_has m decimal suffix z (drop i types) ≡ None
none_left m decimal suffix z types i all = ap (first_that_has m decimal suffix z) (drop_of_length-le types all)

-- ---- numbers that no type has

beyond : (l g : ℤ) (n : ℕ) → g ≤ℤ pos (2 ^ 64 - 1) → 2 ^ 64 ≤ n → (int_le l (pos n) && int_le (pos n) g) ≡ false
beyond l g n high big = grind (arith, ints)

too_large : (m : DataModel) (decimal : Bool) (suffix : List ℕ) (n : ℕ) (types : List Scalar) → 2 ^ 64 ≤ n → first_that_has m decimal suffix (pos n) types ≡ None
too_large m decimal suffix n [] big = refl
too_large m decimal suffix n (s ∷ types) big =
    ap (λ has. cond (is_listed m decimal suffix s && has) (Some s) (first_that_has m decimal suffix (pos n) types)) (beyond (least_of m s) (greatest_of m s) n (bounds_of m s).high big)
    ∙ skipped (is_listed m decimal suffix s) ∙ too_large m decimal suffix n types big
  where
    skipped : (b : Bool) → cond (b && false) (Some s) (first_that_has m decimal suffix (pos n) types) ≡ first_that_has m decimal suffix (pos n) types
    skipped true = refl
    skipped false = refl

-- A number that is cut off at 2 ^ 64 has the type that it has, and is the same where it has one.
pub cut_off : (m : DataModel) (decimal : Bool) (suffix : List ℕ) (n : ℕ) (types : List Scalar)
    → option_map (of_type (pos (min n (2 ^ 64)))) (first_that_has m decimal suffix (pos (min n (2 ^ 64))) types) ≡ option_map (of_type (pos n)) (first_that_has m decimal suffix (pos n) types)
cut_off m decimal suffix n types = elim (cases_lt n (2 ^ 64)) [
  | inl below ↦ let same : min n (2 ^ 64) ≡ n = omega arith in ap (λ k. option_map (of_type (pos k)) (first_that_has m decimal suffix (pos k) types)) same
  | inr above ↦
      ap (option_map (of_type (pos (min n (2 ^ 64))))) (too_large m decimal suffix (min n (2 ^ 64)) types (omega arith))
      ∙ sym (ap (option_map (of_type (pos n))) (too_large m decimal suffix n types above))
]

pub integer_cut_off : (m : DataModel) (decimal : Bool) (p : ℕ × List ℕ) (value : ℕ) (suffix : List ℕ) → value ≡ min p.0 (2 ^ 64) → suffix ≡ p.1 → integer_of m decimal (value, suffix) ≡ integer_of m decimal p
integer_cut_off m decimal p value suffix cut rest =
    ap (λ n. integer_of m decimal (n, suffix)) cut ∙ ap (λ bytes. integer_of m decimal (min p.0 (2 ^ 64), bytes)) rest
    ∙ ap (λ c. cond (is_suffix p.1) c None) (cut_off m decimal p.1 p.0 integer_types)
