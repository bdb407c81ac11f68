-- What an operator gives on members is in the table, and the table's sets grow with the operands.
use Rattle.std.proofs.Common.{◌≡◌, sym, subst, ℤ, pos, negsuc, suc, zero, ◌*ℤ◌, ◌+ℤ◌, ◌-ℤ◌, Bool, true, false}
use Rattle.std.specs.Prelude.{Ok, Err, if◌then◌else◌, unsigned_abs, int_lt, int_div, int_rem, bit_and, bit_or, bit_xor}
use Rattle.std.specs.Int.{int_shr}
use Rattle.std.proofs.lemmas.Nat.{or_lt, xor_lt}
use Rattle.lt_model.specs.declared.scalar.DataModel.{DataModel}
use Rattle.lt_model.specs.declared.scalar.Scalar.{Scalar}
use Rattle.lt_model.specs.declared.operator.Op.{Op}
use Rattle.lt_model.specs.declared.operator.Op.TheVariants as O
use Rattle.lt_model.specs.declared.operator.Ub.{Ub}
use Rattle.lt_model.specs.declared.operator.Ub.TheVariants.{Overflow, Quotient, Shift}
use Rattle.lt_model.specs.Scalar.{is_signed, wrapped, IsValue}
use Rattle.lt_model.specs.Operators.{is_value, is_count, exact_or, after_division, bitwise, value_of}
use Rattle.lt_model.proofs.Results.{value_of_fits}
use Rattle.lt_value.specs.Num.{Holds, IsBelow}
use Rattle.lt_value.specs.Entry.{Entry, IsIn, IsSettled, written}
use Rattle.lt_value.specs.Table.{IsResult, IsBetween, IsEndQuotient, power, right_shift, sum_row, difference_row, product_row, remainder_row, left_shift_row, right_shift_row, exact_or_row, and_row, or_row}
use Rattle.lt_value.specs.Forward.{AreTaken, TakesRight, IsTakenFrom}
use Rattle.lt_value.specs.declared.num.Num.{Num}
use Rattle.lt_value.proofs.MadeAnswers.{plain}
use Rattle.lt_value.proofs.Settled.{given, settled_given, settled_value, settled_wider}
use Rattle.lt_value.proofs.Sums.{sum_holds, difference_holds, sum_wider, difference_wider}
use Rattle.lt_value.proofs.Products.{product_holds, product_wider}
use Rattle.lt_value.proofs.Quotients.{quotient_holds, quotients_wider}
use Rattle.lt_value.proofs.Remainders.{remainder_holds, remainder_wider}
use Rattle.lt_value.proofs.Shifts.{left_shift_holds, left_shift_wider, right_shift_holds, right_shift_wider}
use Rattle.lt_value.proofs.Bits.{and_holds, and_wider, or_holds, or_wider}

-- what a defined value says
divided : (m : DataModel) (s : Scalar) (x y z v : ℤ) → after_division m s x y z ≡ Ok v → v ≡ z
divided m s x (pos zero) z v e = cc
divided m s x (pos (suc n)) z v e = by_test (is_value m s (int_div x (pos (suc n)))) Quotient z v e
  where
    by_test : (t : Bool) (kind : Ub) (z v : ℤ) → (if t then Ok z else Err kind) ≡ Ok v → v ≡ z
    by_test true kind z v e = cc
    by_test false kind z v e = cc
divided m s x (negsuc n) z v e = by_test (is_value m s (int_div x (negsuc n))) Quotient z v e
  where
    by_test : (t : Bool) (kind : Ub) (z v : ℤ) → (if t then Ok z else Err kind) ≡ Ok v → v ≡ z
    by_test true kind z v e = cc
    by_test false kind z v e = cc

shifted : (m : DataModel) (s : Scalar) (x y v : ℤ) → value_of m O.Shl s x y ≡ Ok v → given Shift m s (x *ℤ pos (power y)) ≡ Ok v
shifted m s x y v e = by_tests (is_count m s y) (is_signed m s) (int_lt x (pos 0)) e
  where
    z : ℤ
    z = x *ℤ pos (power y)

    by_tests : (t u w : Bool) → (if t then (if u then (if w then Err Shift else exact_or Shift m s z) else Ok (wrapped m s z)) else Err Shift) ≡ Ok v → (if u then exact_or Shift m s z else Ok (wrapped m s z)) ≡ Ok v
    by_tests true true true e = cc
    by_tests true true false e = e
    by_tests true false w e = e
    by_tests false u w e = cc

shifted_down : (m : DataModel) (s : Scalar) (x y v : ℤ) → value_of m O.Shr s x y ≡ Ok v → v ≡ right_shift x y
shifted_down m s x y v e = by_test (is_count m s y) e
  where
    by_test : (t : Bool) → (if t then Ok (int_shr x (unsigned_abs y)) else Err Shift) ≡ Ok v → v ≡ right_shift x y
    by_test true e = cc
    by_test false e = cc

-- a result that is a value
kept : (m : DataModel) (s : Scalar) (e : Entry) (z v : ℤ) → v ≡ z → IsIn e z → IsValue m s v → IsSettled m s e v
kept m s e z v is h value = settled_value m s e v (subst (IsIn e) (sym is) h) value

value_is : (m : DataModel) (o : Op) (s : Scalar) (x y v : ℤ) → IsValue m s x → value_of m o s x y ≡ Ok v → IsValue m s v
value_is m o s x y v value e = value_of_fits m o s x y (Ok v) (sym e) value

bits_given : (z v : ℤ) → plain z ≡ plain v → v ≡ z
bits_given z v e = cc

pub result_holds : (m : DataModel) (o : Op) (s : Scalar) (p q : Num) (x y v : ℤ) → AreTaken m o s p q → Holds p x → Holds q y → IsValue m s x → TakesRight m o s y → value_of m o s x y ≡ Ok v → IsResult m o s p q v
result_holds m O.Add s p q x y v t h k value takes e = settled_given Overflow m s (sum_row (written p) (written q)) (x +ℤ y) v (sum_holds p q x y h k) e
result_holds m O.Sub s p q x y v t h k value takes e = settled_given Overflow m s (difference_row (written p) (written q)) (x -ℤ y) v (difference_holds p q x y h k) e
result_holds m O.Mul s p q x y v t h k value takes e = settled_given Overflow m s (product_row (written p) (written q)) (x *ℤ y) v (product_holds p q x y h k) e
result_holds m O.Div s p q x y v t h k value takes e = (subst (IsBetween (IsEndQuotient p q)) (sym (divided m s x y (int_div x y) v e)) (quotient_holds p q x y takes.1 h k), value_is m O.Div s x y v value e)
result_holds m O.Rem s p q x y v t h k value takes e = kept m s (remainder_row (written p) (written q)) (int_rem x y) v (divided m s x y (int_rem x y) v e) (remainder_holds p q x y takes.1 h k) (value_is m O.Rem s x y v value e)
result_holds m O.Shl s p q x y v t h k value takes e = settled_given Shift m s (left_shift_row (written p) (written q)) (x *ℤ pos (power y)) v (left_shift_holds p q x y t.left_lo.1 t.right_lo.0 h k) (shifted m s x y v e)
result_holds m O.Shr s p q x y v t h k value takes e = kept m s (right_shift_row (written p) (written q)) (right_shift x y) v (shifted_down m s x y v e) (right_shift_holds p q x y t.right_lo.0 h k) (value_is m O.Shr s x y v value e)
result_holds m O.And s p q x y v t h k value takes e =
    kept m s (exact_or_row bit_and m s (written p) (written q) (and_row m s (written p) (written q))) (bitwise bit_and m s x y) v (bits_given (bitwise bit_and m s x y) v e)
    (and_holds m s p q x y (record { first = t.left_lo; last = t.left_hi }) (record { first = t.right_lo; last = t.right_hi }) h k) (value_is m O.And s x y v value e)
result_holds m O.Or s p q x y v t h k value takes e =
    kept m s (exact_or_row bit_or m s (written p) (written q) (or_row m s (written p) (written q))) (bitwise bit_or m s x y) v (bits_given (bitwise bit_or m s x y) v e)
    (or_holds bit_or m s p q x y or_lt (record { first = t.left_lo; last = t.left_hi }) (record { first = t.right_lo; last = t.right_hi }) h k) (value_is m O.Or s x y v value e)
result_holds m O.Xor s p q x y v t h k value takes e =
    kept m s (exact_or_row bit_xor m s (written p) (written q) (or_row m s (written p) (written q))) (bitwise bit_xor m s x y) v (bits_given (bitwise bit_xor m s x y) v e)
    (or_holds bit_xor m s p q x y xor_lt (record { first = t.left_lo; last = t.left_hi }) (record { first = t.right_lo; last = t.right_hi }) h k) (value_is m O.Xor s x y v value e)
result_holds m O.Lt s p q x y v t h k value takes e = (x, y, h, k, e)
result_holds m O.Le s p q x y v t h k value takes e = (x, y, h, k, e)
result_holds m O.Gt s p q x y v t h k value takes e = (x, y, h, k, e)
result_holds m O.Ge s p q x y v t h k value takes e = (x, y, h, k, e)
result_holds m O.Eq s p q x y v t h k value takes e = (x, y, h, k, e)
result_holds m O.Ne s p q x y v t h k value takes e = (x, y, h, k, e)

-- the sets of lesser operands
abbrev pub IsSomeRight : DataModel → Op → Scalar → Num → Type 0
IsSomeRight m o s b = (y : ℤ) × IsTakenFrom b (TakesRight m o s) y

pub result_wider : (m : DataModel) (o : Op) (s : Scalar) (a b c d : Num) (z : ℤ) → AreTaken m o s c d → IsSomeRight m o s b → IsBelow a c → IsBelow b d → IsResult m o s a b z → IsResult m o s c d z
result_wider m O.Add s a b c d z t y f g h = settled_wider m s (sum_row (written a) (written b)) (sum_row (written c) (written d)) z (sum_wider a b c d f g) h
result_wider m O.Sub s a b c d z t y f g h = settled_wider m s (difference_row (written a) (written b)) (difference_row (written c) (written d)) z (difference_wider a b c d f g) h
result_wider m O.Mul s a b c d z t y f g h = settled_wider m s (product_row (written a) (written b)) (product_row (written c) (written d)) z (product_wider a b c d f g) h
result_wider m O.Div s a b c d z t y f g h = (quotients_wider a b c d z f g h.0, h.1)
result_wider m O.Rem s a b c d z t y f g h = settled_wider m s (remainder_row (written a) (written b)) (remainder_row (written c) (written d)) z (remainder_wider a b c d y.0 y.1.0 y.1.1.1 f g) h
result_wider m O.Shl s a b c d z t y f g h = settled_wider m s (left_shift_row (written a) (written b)) (left_shift_row (written c) (written d)) z (left_shift_wider a b c d t.left_lo.1 t.right_lo.0 f g) h
result_wider m O.Shr s a b c d z t y f g h = settled_wider m s (right_shift_row (written a) (written b)) (right_shift_row (written c) (written d)) z (right_shift_wider a b c d t.right_lo.0 f g) h
result_wider m O.And s a b c d z t y f g h =
    settled_wider m s (exact_or_row bit_and m s (written a) (written b) (and_row m s (written a) (written b))) (exact_or_row bit_and m s (written c) (written d) (and_row m s (written c) (written d))) z
    (and_wider m s a b c d (record { first = t.left_lo; last = t.left_hi }) (record { first = t.right_lo; last = t.right_hi }) f g) h
result_wider m O.Or s a b c d z t y f g h =
    settled_wider m s (exact_or_row bit_or m s (written a) (written b) (or_row m s (written a) (written b))) (exact_or_row bit_or m s (written c) (written d) (or_row m s (written c) (written d))) z
    (or_wider bit_or m s a b c d or_lt (record { first = t.left_lo; last = t.left_hi }) (record { first = t.right_lo; last = t.right_hi }) f g) h
result_wider m O.Xor s a b c d z t y f g h =
    settled_wider m s (exact_or_row bit_xor m s (written a) (written b) (or_row m s (written a) (written b))) (exact_or_row bit_xor m s (written c) (written d) (or_row m s (written c) (written d))) z
    (or_wider bit_xor m s a b c d xor_lt (record { first = t.left_lo; last = t.left_hi }) (record { first = t.right_lo; last = t.right_hi }) f g) h
result_wider m O.Lt s a b c d z t y f g (u, v, p, q, e) = (u, v, f u p, g v q, e)
result_wider m O.Le s a b c d z t y f g (u, v, p, q, e) = (u, v, f u p, g v q, e)
result_wider m O.Gt s a b c d z t y f g (u, v, p, q, e) = (u, v, f u p, g v q, e)
result_wider m O.Ge s a b c d z t y f g (u, v, p, q, e) = (u, v, f u p, g v q, e)
result_wider m O.Eq s a b c d z t y f g (u, v, p, q, e) = (u, v, f u p, g v q, e)
result_wider m O.Ne s a b c d z t y f g (u, v, p, q, e) = (u, v, f u p, g v q, e)
