-- Numbers that cells hold are of 64 bits where the ends of their ranges are.
use Rattle.std.proofs.Common.{◌≡◌, ℕ, ◌^◌, Bool, true, false, cond, List, [], ◌∷◌, Option, Some, ℤ, pos, neg_ℤ, ◌≤ℤ◌, sym, arith}
use Rattle.std.specs.Prelude.{int_le, option_and_then, IfSome}
use Rattle.std.specs.List.{list_all, find}
use Rattle.std.proofs.lemmas.Int.{ints}
use Rattle.lt_model.specs.declared.input.FreeCell.{FreeCell}
use Rattle.lt_model.specs.declared.input.Input.{Input}
use Rattle.lt_model.specs.declared.input.Place.{Place}
use Rattle.lt_model.specs.declared.input.Spec.{Spec}
use Rattle.lt_model.specs.declared.input.StartValue.{StartValue}
use Rattle.lt_model.specs.declared.input.StartValue.TheVariants as start
use Rattle.lt_model.specs.declared.input.Want.{Want}
use Rattle.lt_model.specs.declared.input.Want.TheVariants as want
use Rattle.lt_entry.specs.Conditions.{same_place}
use Rattle.lt_entry.specs.Meeting.{held, is_wanted, number_of}
use Rattle.lt_entry.specs.Inputs.{has_ends_64, is_number_64}
use Rattle.lt_input_values.specs.Bounds.{IsWithin, HaveNumbers64}
use Rattle.lt_input_values.proofs.Truths.{both}

pub told : (a b : ℤ) → int_le a b ≡ true → a ≤ℤ b
told a b h = omega (arith, ints, sym h)

between : (n : ℕ) (low high z : ℤ) → IsWithin n low → IsWithin n high → low ≤ℤ z → z ≤ℤ high → IsWithin n z
between n low high z l h a b = (omega (arith, ints), omega (arith, ints))

number_within : (z : ℤ) → is_number_64 z ≡ true → IsWithin (2 ^ 64) z
number_within z h =
    let hs = both (int_le (neg_ℤ (pos (2 ^ 64))) z) (int_le z (pos (2 ^ 64))) h in
    (told (neg_ℤ (pos (2 ^ 64))) z hs.0, told z (pos (2 ^ 64)) hs.1)

wanted_64 : (w : Want) (v : StartValue) → has_ends_64 w ≡ true → is_wanted w v ≡ true → IfSome (number_of v) (IsWithin (2 ^ 64))
wanted_64 (want.Between low high) (start.Number z) ends h =
    let es = both (is_number_64 low) (is_number_64 high) ends in
    let hs = both (int_le low z) (int_le z high) h in
    between (2 ^ 64) low high z (number_within low es.0) (number_within high es.1) (told low z hs.0) (told z high hs.1)
wanted_64 (want.OneOf targets) (start.Number z) ends h = absurd (cc)
wanted_64 w (start.Point target) ends h = tt
wanted_64 w start.Other ends h = tt

first_64 : (input : Input) (cell : FreeCell) (t : Bool) (o : Option FreeCell) → IfSome (number_of (held input cell)) (IsWithin (2 ^ 64)) → IfSome (option_and_then (λ cell. number_of (held input cell)) o) (IsWithin (2 ^ 64)) → IfSome (option_and_then (λ cell. number_of (held input cell)) (cond t (Some cell) o)) (IsWithin (2 ^ 64))
first_64 input cell true o here later = here
first_64 input cell false o here later = later

found_64 : (input : Input) (place : Place) (cells : List FreeCell) → list_all (λ cell. has_ends_64 cell.want) cells ≡ true → list_all (λ cell. is_wanted cell.want (held input cell)) cells ≡ true → IfSome (option_and_then (λ cell. number_of (held input cell)) (find (λ cell. same_place cell.at place) cells)) (IsWithin (2 ^ 64))
found_64 input place [] ends h = tt
found_64 input place (cell ∷ cells) ends h =
    let es = both (has_ends_64 cell.want) (list_all (λ cell. has_ends_64 cell.want) cells) ends in
    let hs = both (is_wanted cell.want (held input cell)) (list_all (λ cell. is_wanted cell.want (held input cell)) cells) h in
    first_64 input cell (same_place cell.at place) (find (λ cell. same_place cell.at place) cells) (wanted_64 cell.want (held input cell) es.0 hs.0) (found_64 input place cells es.1 hs.1)

pub numbers_64 : (spec : Spec) (input : Input) → list_all (λ cell. has_ends_64 cell.want) spec.cells ≡ true → list_all (λ cell. is_wanted cell.want (held input cell)) spec.cells ≡ true → HaveNumbers64 spec input
numbers_64 spec input ends h place = found_64 input place spec.cells ends h
