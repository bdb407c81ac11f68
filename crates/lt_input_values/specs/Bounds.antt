-- Bounds by which the sums of requirements fit 128 signed bits.
use Rattle.std.specs.Prelude.{ℕ, ℤ, pos, neg_ℤ, ◌≤ℤ◌, ◌^◌, IfSome}
use Rattle.lt_model.specs.declared.input.Input.{Input}
use Rattle.lt_model.specs.declared.input.Place.{Place}
use Rattle.lt_model.specs.declared.input.Spec.{Spec}
use Rattle.lt_entry.specs.Meeting.{number_at}

-- the number is at most so large, either way
abbrev pub IsWithin : ℕ → ℤ → Type 0
IsWithin n z = (neg_ℤ (pos n) ≤ℤ z) × (z ≤ℤ pos n)

-- The numbers that an input's cells hold are of 64 bits.
abbrev pub HaveNumbers64 : Spec → Input → Type 0
HaveNumbers64 spec input = (place : Place) → IfSome (number_at spec input place) (IsWithin (2 ^ 64))
