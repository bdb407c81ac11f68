-- The operands are the only ones, so that the table's numbers of them are what the operator gives.
use Rattle.std.proofs.Common.{arith, ◌≡◌, refl, sym, subst, ℤ, pos, ◌≤ℤ◌, ◌<ℤ◌, ◌≢◌, ◌⊎◌, inl, inr, ◌*ℤ◌, Bool, true, false, ◌&&◌}
use Rattle.std.specs.Prelude.{Option, Some, None, IfSome, IfNone, Result, Ok, Err, if◌then◌else◌, int_lt, int_le}
use Rattle.std.proofs.lemmas.Int.{ints}
use Rattle.lt_model.specs.declared.scalar.DataModel.{DataModel}
use Rattle.lt_model.specs.declared.scalar.Scalar.{Scalar}
use Rattle.lt_model.specs.declared.operator.Op.{Op}
use Rattle.lt_model.specs.declared.operator.Op.TheVariants as O
use Rattle.lt_model.specs.declared.operator.Ub.{Ub}
use Rattle.lt_model.specs.declared.operator.Ub.TheVariants.{Shift}
use Rattle.lt_model.specs.Scalar.{width_of, is_signed, wrapped, IsValue}
use Rattle.lt_model.specs.Operators.{value_of, exact_or, is_count, IsRightOperand, IsShift}
use Rattle.lt_value.specs.Num.{Holds, IsBelow, IsExactly, IsEmpty}
use Rattle.lt_value.specs.Table.{IsResult, IsAnswer, power}
use Rattle.lt_value.specs.Forward.{TakesLeft, TakesRight, IsCount, IsTakenFrom, IsOperand, IsLeftTaken, IsRightTaken, AreTaken, IsForward}
use Rattle.lt_value.specs.declared.num.Num.{Num}
use Rattle.lt_value.proofs.Cuts.{if_some_as, if_none_as}
use Rattle.lt_value.proofs.Settling.{exactly_as, empty_as}
use Rattle.lt_value.proofs.MadeSettled.{unsigned_least}
use Rattle.lt_value.proofs.Results.{result_holds, result_wider}

pub both_taken : (m : DataModel) (o : Op) (s : Scalar) (a b p q : Num) → IsLeftTaken m o s a p → IsRightTaken m o s b q → AreTaken m o s p q
both_taken m o s a b p q l r = record {
  left_lo = l.lo;
  left_hi = l.hi;
  right_lo = r.lo;
  right_hi = r.hi;
  right_some =
      let k = r.operand.some in
      (k.0, (r.operand.least.holds k.0 k.1, k.1.1));
}

-- operands of lesser sets are below those of greater
operand_below : (n m p q : Num) (takes : ℤ → Type 0) → IsBelow n m → IsOperand n takes p → IsOperand m takes q → IsBelow p q
operand_below n m p q takes f g h = g.least.least q (λ z k. h.least.holds z (f z k.0, k.1))

same_below : (n : Num) → IsBelow n n
same_below n z h = h

-- from lesser sets to greater
pub forward_wider : (m : DataModel) (o : Op) (s : Scalar) (a b c d p q : Num) (z : ℤ) → IsBelow a c → IsBelow b d → IsLeftTaken m o s c p → IsRightTaken m o s d q → IsForward m o s a b z → IsResult m o s p q z
forward_wider m o s a b c d p q z f g l r h =
    let k = h.right_is.some in
    result_wider m o s h.left h.right p q z (both_taken m o s c d p q l r) (k.0, (h.right_is.least.holds k.0 k.1, k.1.1))
    (operand_below a c h.left p (TakesLeft m o s) f h.left_is l.operand)
    (operand_below b d h.right q (TakesRight m o s) g h.right_is r.operand)
    h.result

pub forward_from : (m : DataModel) (o : Op) (s : Scalar) (a b p q : Num) (z : ℤ) → IsLeftTaken m o s a p → IsRightTaken m o s b q → IsResult m o s p q z → IsForward m o s a b z
forward_from m o s a b p q z l r h = record { left = p; right = q; left_is = l.operand; right_is = r.operand; result = h }

pub forward_some : (m : DataModel) (o : Op) (s : Scalar) (a b p q : Num) (r : Option Num) → IsLeftTaken m o s a p → IsRightTaken m o s b q → IfSome r (IsExactly (IsResult m o s p q)) → IfSome r (IsExactly (IsForward m o s a b))
forward_some m o s a b p q r f g = if_some_as (IsExactly (IsResult m o s p q)) (IsExactly (IsForward m o s a b))
    (λ n. exactly_as (IsResult m o s p q) (IsForward m o s a b) n (λ z. forward_from m o s a b p q z f g) (λ z. forward_wider m o s a b a b p q z (same_below a) (same_below b) f g)) r

pub forward_none : (m : DataModel) (o : Op) (s : Scalar) (a b p q : Num) (r : Option Num) → IsLeftTaken m o s a p → IsRightTaken m o s b q → IfNone r (IsEmpty (IsResult m o s p q)) → IfNone r (IsEmpty (IsForward m o s a b))
forward_none m o s a b p q r f g = if_none_as (IsEmpty (IsResult m o s p q)) (IsEmpty (IsForward m o s a b))
    (empty_as (IsResult m o s p q) (IsForward m o s a b) (λ z. forward_wider m o s a b a b p q z (same_below a) (same_below b) f g)) r

pub nothing_left : (m : DataModel) (o : Op) (s : Scalar) (a b : Num) → IsEmpty (IsTakenFrom a (TakesLeft m o s)) → IsEmpty (IsForward m o s a b)
nothing_left m o s a b none z h = none h.left_is.some.0 h.left_is.some.1

pub nothing_right : (m : DataModel) (o : Op) (s : Scalar) (a b : Num) → IsEmpty (IsTakenFrom b (TakesRight m o s)) → IsEmpty (IsForward m o s a b)
nothing_right m o s a b none z h = none h.right_is.some.0 h.right_is.some.1

-- an answer that can't be none
pub has : (P : Num → Type 0) (Q : Type 0) (o : Option Num) → IfSome o P → IfNone o Q → (Q → ⊥) → (n : Num) × P n
has P Q None h k f = absurd (f k)
has P Q (Some n) h k f = (n, h)

-- ---- what a defined value says of its operands
count_of : (m : DataModel) (s : Scalar) (y : ℤ) (r : Result ℤ Ub) (z : ℤ) → (if is_count m s y then r else Err Shift) ≡ Ok z → IsCount m s y
count_of m s y r z e = by_test (is_count m s y) refl e
  where
    parts : (y w : ℤ) → (int_le (pos 0) y && int_lt y w) ≡ true → (pos 0 ≤ℤ y) × (y <ℤ w)
    parts y w e = (grind (arith, ints), grind (arith, ints))

    by_test : (t : Bool) → is_count m s y ≡ t → (if t then r else Err Shift) ≡ Ok z → IsCount m s y
    by_test true t e = parts y (pos (width_of m s)) t
    by_test false t e = cc

shiftable : (m : DataModel) (s : Scalar) (x y z : ℤ) → IsValue m s x → value_of m O.Shl s x y ≡ Ok z → pos 0 ≤ℤ x
shiftable m s x y z v e = by_tests (is_count m s y) (is_signed m s) (int_lt x (pos 0)) refl refl e
  where
    k : ℤ
    k = x *ℤ pos (power y)

    natural : int_lt x (pos 0) ≡ false → pos 0 ≤ℤ x
    natural e = omega (arith, ints)

    by_tests : (t u w : Bool) → is_signed m s ≡ u → int_lt x (pos 0) ≡ w → (if t then (if u then (if w then Err Shift else exact_or Shift m s k) else Ok (wrapped m s k)) else Err Shift) ≡ Ok z → pos 0 ≤ℤ x
    by_tests true true true p q e = cc
    by_tests true true false p q e = natural q
    by_tests true false w p q e = subst (λ (l : ℤ). l ≤ℤ x) (unsigned_least m s p) v.above
    by_tests false u w p q e = cc

-- only shifts take counts of other types
abbrev IsNoShift : Op → Type 0
IsNoShift o = IsShift o → ⊥

right_value : (m : DataModel) (o : Op) (s : Scalar) (y : ℤ) → IsNoShift o → IsRightOperand m o s y → IsValue m s y
right_value m o s y no' h = elim h [ inl v ↦ v | inr k ↦ absurd (no' k.0) ]

divides : (m : DataModel) (o : Op) (s : Scalar) (x y z : ℤ) → (o ≡ O.Div) ⊎ (o ≡ O.Rem) → value_of m o s x y ≡ Ok z → y ≢ pos 0
divides m o s x y z is e zero_is = elim is [ inl k ↦ by_div k | inr k ↦ by_rem k ]
  where
    by_div : o ≡ O.Div → ⊥
    by_div k = let f = rw (k, zero_is) at e in cc

    by_rem : o ≡ O.Rem → ⊥
    by_rem k = let f = rw (k, zero_is) at e in cc

takes_left : (m : DataModel) (o : Op) (s : Scalar) (x y z : ℤ) → IsValue m s x → value_of m o s x y ≡ Ok z → TakesLeft m o s x
takes_left m O.Shl s x y z v e = (v, shiftable m s x y z v e)
takes_left m O.Add s x y z v e = v
takes_left m O.Sub s x y z v e = v
takes_left m O.Mul s x y z v e = v
takes_left m O.Div s x y z v e = v
takes_left m O.Rem s x y z v e = v
takes_left m O.Shr s x y z v e = v
takes_left m O.And s x y z v e = v
takes_left m O.Or s x y z v e = v
takes_left m O.Xor s x y z v e = v
takes_left m O.Lt s x y z v e = v
takes_left m O.Le s x y z v e = v
takes_left m O.Gt s x y z v e = v
takes_left m O.Ge s x y z v e = v
takes_left m O.Eq s x y z v e = v
takes_left m O.Ne s x y z v e = v

takes_right : (m : DataModel) (o : Op) (s : Scalar) (x y z : ℤ) → IsRightOperand m o s y → value_of m o s x y ≡ Ok z → TakesRight m o s y
takes_right m O.Shl s x y z h e = count_of m s y _ z e
takes_right m O.Shr s x y z h e = count_of m s y _ z e
takes_right m O.Div s x y z h e = (right_value m O.Div s y (λ k. k) h, divides m O.Div s x y z (inl refl) e)
takes_right m O.Rem s x y z h e = (right_value m O.Rem s y (λ k. k) h, divides m O.Rem s x y z (inr refl) e)
takes_right m O.Add s x y z h e = right_value m O.Add s y (λ k. k) h
takes_right m O.Sub s x y z h e = right_value m O.Sub s y (λ k. k) h
takes_right m O.Mul s x y z h e = right_value m O.Mul s y (λ k. k) h
takes_right m O.And s x y z h e = right_value m O.And s y (λ k. k) h
takes_right m O.Or s x y z h e = right_value m O.Or s y (λ k. k) h
takes_right m O.Xor s x y z h e = right_value m O.Xor s y (λ k. k) h
takes_right m O.Lt s x y z h e = right_value m O.Lt s y (λ k. k) h
takes_right m O.Le s x y z h e = right_value m O.Le s y (λ k. k) h
takes_right m O.Gt s x y z h e = right_value m O.Gt s y (λ k. k) h
takes_right m O.Ge s x y z h e = right_value m O.Ge s y (λ k. k) h
takes_right m O.Eq s x y z h e = right_value m O.Eq s y (λ k. k) h
takes_right m O.Ne s x y z h e = right_value m O.Ne s y (λ k. k) h

-- ---- the laws
pub forward_sound : (m : DataModel) (o : Op) (s : Scalar) (a b : Num) (l r : Option Num) → IfSome l (IsLeftTaken m o s a) → IfNone l (IsEmpty (IsTakenFrom a (TakesLeft m o s))) → IfSome r (IsRightTaken m o s b) → IfNone r (IsEmpty (IsTakenFrom b (TakesRight m o s))) → (x y z : ℤ) → Holds a x → Holds b y → IsValue m s x → IsRightOperand m o s y → value_of m o s x y ≡ Ok z → IsForward m o s a b z
forward_sound m o s a b l r ls ln rs rn x y z p q v w e =
    let tl = takes_left m o s x y z v e in
    let tr = takes_right m o s x y z w e in
    let (left, f) = has (IsLeftTaken m o s a) (IsEmpty (IsTakenFrom a (TakesLeft m o s))) l ls ln (λ none. none x (p, tl)) in
    let (right, g) = has (IsRightTaken m o s b) (IsEmpty (IsTakenFrom b (TakesRight m o s))) r rs rn (λ none. none y (q, tr)) in
    forward_from m o s a b left right z f g (result_holds m o s left right x y z (both_taken m o s a b left right f g) (f.operand.least.holds x (p, tl)) (g.operand.least.holds y (q, tr)) v tr e)

pub forward_monotone : (m : DataModel) (o : Op) (s : Scalar) (a b c d : Num) (l r : Option Num) → IsBelow a c → IsBelow b d → IfSome l (IsLeftTaken m o s c) → IfNone l (IsEmpty (IsTakenFrom c (TakesLeft m o s))) → IfSome r (IsRightTaken m o s d) → IfNone r (IsEmpty (IsTakenFrom d (TakesRight m o s))) → (z : ℤ) → IsForward m o s a b z → IsForward m o s c d z
forward_monotone m o s a b c d l r f g ls ln rs rn z h =
    let i = h.left_is.some in
    let j = h.right_is.some in
    let (left, p) = has (IsLeftTaken m o s c) (IsEmpty (IsTakenFrom c (TakesLeft m o s))) l ls ln (λ none. none i.0 (f i.0 i.1.0, i.1.1)) in
    let (right, q) = has (IsRightTaken m o s d) (IsEmpty (IsTakenFrom d (TakesRight m o s))) r rs rn (λ none. none j.0 (g j.0 j.1.0, j.1.1)) in
    forward_from m o s c d left right z p q (forward_wider m o s a b c d left right z f g p q h)

-- ---- the table's entry of a relation is its answers
at_relation : (m : DataModel) (o k : Op) (s : Scalar) (a b n : Num) → o ≡ k → (IsExactly (IsAnswer m k s a b) n → IsExactly (IsResult m k s a b) n) → IsExactly (IsAnswer m o s a b) n → IsExactly (IsResult m o s a b) n
at_relation m o k s a b n e f = subst (λ (i : Op). IsExactly (IsAnswer m i s a b) n → IsExactly (IsResult m i s a b) n) (sym e) f

pub relation_result : (m : DataModel) (o : Op) (s : Scalar) (a b n : Num) → (o ≡ O.Lt) ⊎ ((o ≡ O.Le) ⊎ ((o ≡ O.Gt) ⊎ ((o ≡ O.Ge) ⊎ ((o ≡ O.Eq) ⊎ (o ≡ O.Ne))))) → IsExactly (IsAnswer m o s a b) n → IsExactly (IsResult m o s a b) n
relation_result m o s a b n (inl e) = at_relation m o O.Lt s a b n e (λ h. h)
relation_result m o s a b n (inr (inl e)) = at_relation m o O.Le s a b n e (λ h. h)
relation_result m o s a b n (inr (inr (inl e))) = at_relation m o O.Gt s a b n e (λ h. h)
relation_result m o s a b n (inr (inr (inr (inl e)))) = at_relation m o O.Ge s a b n e (λ h. h)
relation_result m o s a b n (inr (inr (inr (inr (inl e))))) = at_relation m o O.Eq s a b n e (λ h. h)
relation_result m o s a b n (inr (inr (inr (inr (inr e))))) = at_relation m o O.Ne s a b n e (λ h. h)
