-- The test of whether a number is a value of a type.
use Rattle.std.proofs.Common.{arith, ◌≡◌, ◌↔◌, sym, ◌∙◌, ℤ, ◌≤ℤ◌, Bool, true, false, ◌&&◌}
use Rattle.std.specs.Prelude.{IsTrue, int_le}
use Rattle.std.proofs.lemmas.Int.{ints}
use Rattle.lt_model.specs.Scalar.{least_of, greatest_of, IsValue}
use Rattle.lt_model.specs.Operators.{is_value}
use Rattle.lt_model.specs.declared.scalar.DataModel.{DataModel}
use Rattle.lt_model.specs.declared.scalar.Scalar.{Scalar}

pub between_from_test : (l g z : ℤ) → (int_le l z && int_le z g) ≡ true → (l ≤ℤ z) × (z ≤ℤ g)
between_from_test l g z e = (grind (arith, ints), grind (arith, ints))

pub test_from_between : (l g z : ℤ) → l ≤ℤ z → z ≤ℤ g → (int_le l z && int_le z g) ≡ true
test_from_between l g z p q = grind (arith, ints)

pub value_test : (m : DataModel) (s : Scalar) (z : ℤ) (r : Bool) → r ≡ is_value m s z → IsTrue r ↔ IsValue m s z
value_test m s z r e = (
  λ t. let h = between_from_test (least_of m s) (greatest_of m s) z (sym e ∙ t) in record { above = h.0; below = h.1 },
  λ v. e ∙ test_from_between (least_of m s) (greatest_of m s) z v.above v.below,
)
