-- What an operator gives is a value of its type.
use Rattle.std.proofs.Common.{arith, ◌≡◌, refl, ℕ, ℤ, pos, negsuc, zero, suc, ◌+ℤ◌, ◌≤ℤ◌, ◌^◌, ◌/◌, ◌%◌, ◌≤◌, ◌<◌, ◌⊎◌, inl, inr, Bool, true, false, ◌&&◌}
use Rattle.std.specs.Prelude.{Result, Ok, Err, IfOk, if◌then◌else◌, int_le, int_div, int_rem, unsigned_abs, int_lt, ◌*ℤ◌, neg_ℤ, bit_and, bit_or, bit_xor}
use Rattle.std.specs.Int.{int_shr}
use Rattle.std.proofs.lemmas.Int.{ints}
use Rattle.std.proofs.Math.Nat.{mod-le, div-le_self}
use Rattle.lt_model.specs.Scalar.{is_signed, least_of, greatest_of, wrapped, IsValue}
use Rattle.lt_model.specs.Operators.{is_value, exact_or, settled, after_division, is_count, shifted_left, bits_of, truth, value_of}
use Rattle.lt_model.specs.declared.operator.Op.{Op}
use Rattle.lt_model.specs.declared.operator.Op.TheVariants as O
use Rattle.lt_model.specs.declared.operator.Ub.{Ub}
use Rattle.lt_model.specs.declared.operator.Ub.TheVariants.{Overflow, Quotient, Shift}
use Rattle.lt_model.specs.declared.scalar.DataModel.{DataModel}
use Rattle.lt_model.specs.declared.scalar.Scalar.{Scalar}
use Rattle.lt_model.proofs.Values.{between_from_test}
use Rattle.lt_model.proofs.Ranges.{Bounds, bounds_of, IsValue-wrapped}

-- a result under a test, where the result is a value if the test holds
under_test : (kind : Ub) (m : DataModel) (s : Scalar) (b : Bool) (z : ℤ) → (b ≡ true → IsValue m s z) → IfOk (if b then Ok z else Err kind) (IsValue m s)
under_test kind m s true z h = h refl
under_test kind m s false z h = tt

-- an exact result that is given is a value of the type
exact_or_fits : (kind : Ub) (m : DataModel) (s : Scalar) (z : ℤ) → IfOk (exact_or kind m s z) (IsValue m s)
exact_or_fits kind m s z =
    under_test kind m s (is_value m s z) z (λ e. let h = between_from_test _ _ _ e in record { above = h.0; below = h.1 })

either : (b : Bool) (m : DataModel) (s : Scalar) (x y : Result ℤ Ub) → IfOk x (IsValue m s) → IfOk y (IsValue m s) → IfOk (if b then x else y) (IsValue m s)
either true m s x y p q = p
either false m s x y p q = q

settled_fits : (m : DataModel) (s : Scalar) (z : ℤ) → IfOk (settled m s z) (IsValue m s)
settled_fits m s z = either (is_signed m s) m s (exact_or Overflow m s z) (Ok (wrapped m s z)) (exact_or_fits Overflow m s z) (IsValue-wrapped m s z)

-- z lies between zero and a
abbrev IsNearer : ℤ → ℤ → Type 0
IsNearer a z = ((pos 0 ≤ℤ z) × (z ≤ℤ a)) ⊎ ((a ≤ℤ z) × (z ≤ℤ pos 0))

nearer_fits : (m : DataModel) (s : Scalar) (a z : ℤ) → IsValue m s a → IsNearer a z → IsValue m s z
nearer_fits m s a z v h =
    let b : Bounds m s = bounds_of m s in
    elim h [ inl p ↦ record { above = omega (arith, ints); below = omega (arith, ints) } | inr p ↦ record { above = omega (arith, ints); below = omega (arith, ints) } ]

negated_nearer : (a r : ℕ) → r ≤ suc a → IsNearer (negsuc a) (neg_ℤ (pos r))
negated_nearer a zero h = inr (omega (arith, ints), omega (arith, ints))
negated_nearer a (suc r) h = inr (omega (arith, ints), omega (arith, ints))

remainder_nearer : (a b : ℤ) → IsNearer a (int_rem a b)
remainder_nearer (pos a) b = let h = mod-le a (unsigned_abs b) in inl (omega (arith, ints), omega (arith, ints))
remainder_nearer (negsuc a) b = negated_nearer a _ (mod-le (suc a) (unsigned_abs b))

shift_nearer : (a : ℤ) (k : ℕ) → IsNearer a (int_shr a k)
shift_nearer (pos a) k = let h = div-le_self a (2 ^ k) in inl (omega (arith, ints), omega (arith, ints))
shift_nearer (negsuc a) k = let h = div-le_self a (2 ^ k) in inr (omega (arith, ints), omega (arith, ints))

division_fits : (m : DataModel) (s : Scalar) (a b z : ℤ) → ((is_value m s (int_div a b) ≡ true) → IsValue m s z) → IfOk (after_division m s a b z) (IsValue m s)
division_fits m s a (pos zero) z h = tt
division_fits m s a (pos (suc n)) z h = under_test Quotient m s (is_value m s (int_div a (pos (suc n)))) z h
division_fits m s a (negsuc n) z h = under_test Quotient m s (is_value m s (int_div a (negsuc n))) z h

left_shift_fits : (m : DataModel) (s : Scalar) (a : ℤ) (k : ℕ) → IfOk (shifted_left m s a k) (IsValue m s)
left_shift_fits m s a k =
    let z : ℤ = a *ℤ pos (2 ^ k) in
    either (is_signed m s) m s (if int_lt a (pos 0) then Err Shift else exact_or Shift m s z) (Ok (wrapped m s z)) (either (int_lt a (pos 0)) m s (Err Shift) (exact_or Shift m s z) tt (exact_or_fits Shift m s z)) (IsValue-wrapped m s z)

truth_fits : (m : DataModel) (s : Scalar) (b : Bool) → IsValue m s (truth b)
truth_fits m s b =
    let h : Bounds m s = bounds_of m s in
    elim b as (λ v. IsValue m s (truth v)) [ true ↦ record { above = omega (arith, ints); below = h.one } | false ↦ record { above = h.not_above; below = omega (arith, ints) } ]

pub value_of_fits : (m : DataModel) (o : Op) (s : Scalar) (a b : ℤ) (r : Result ℤ Ub) → r ≡ value_of m o s a b → IsValue m s a → IfOk r (IsValue m s)
value_of_fits m O.Add s a b r e v = rw e (settled_fits m s _)
value_of_fits m O.Sub s a b r e v = rw e (settled_fits m s _)
value_of_fits m O.Mul s a b r e v = rw e (settled_fits m s _)
value_of_fits m O.Div s a b r e v = rw e (division_fits m s a b (int_div a b) (λ t. let h = between_from_test _ _ _ t in record { above = h.0; below = h.1 }))
value_of_fits m O.Rem s a b r e v = rw e (division_fits m s a b (int_rem a b) (λ t. nearer_fits m s a _ v (remainder_nearer a b)))
value_of_fits m O.Shl s a b r e v = rw e (either (is_count m s b) m s _ _ (left_shift_fits m s a (unsigned_abs b)) tt)
value_of_fits m O.Shr s a b r e v = rw e (under_test Shift m s (is_count m s b) _ (λ t. nearer_fits m s a _ v (shift_nearer a (unsigned_abs b))))
value_of_fits m O.And s a b r e v = rw e (IsValue-wrapped m s (pos (bit_and (bits_of m s a) (bits_of m s b))))
value_of_fits m O.Or s a b r e v = rw e (IsValue-wrapped m s (pos (bit_or (bits_of m s a) (bits_of m s b))))
value_of_fits m O.Xor s a b r e v = rw e (IsValue-wrapped m s (pos (bit_xor (bits_of m s a) (bits_of m s b))))
value_of_fits m O.Lt s a b r e v = rw e (truth_fits m s _)
value_of_fits m O.Le s a b r e v = rw e (truth_fits m s _)
value_of_fits m O.Gt s a b r e v = rw e (truth_fits m s _)
value_of_fits m O.Ge s a b r e v = rw e (truth_fits m s _)
value_of_fits m O.Eq s a b r e v = rw e (truth_fits m s _)
value_of_fits m O.Ne s a b r e v = rw e (truth_fits m s _)
