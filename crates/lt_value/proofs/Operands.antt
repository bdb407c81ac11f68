-- Which members an operator takes, and the least `Num` of these.
use Rattle.std.proofs.Common.{arith, ◌≡◌, refl, sym, ◌∙◌, ap, ℕ, ℤ, pos, negsuc, ◌≤ℤ◌, ◌≢◌, ◌⊎◌, inl, inr, ◌↔◌, ◌-ℤ◌, ◌-◌, ◌^◌, ◌≤◌, to_z, of_z}
use Rattle.std.specs.Int.{w128}
use Rattle.std.specs.Prelude.{Option, IfSome, IfNone}
use Rattle.std.proofs.lemmas.Int.{ints}
use Rattle.lt_model.specs.declared.scalar.DataModel.{DataModel}
use Rattle.lt_model.specs.declared.scalar.Scalar.{Scalar}
use Rattle.lt_model.specs.declared.operator.Op.{Op}
use Rattle.lt_model.specs.declared.operator.Op.TheVariants as O
use Rattle.lt_model.specs.Scalar.{width_of, least_of, greatest_of, IsValue}
use Rattle.lt_model.proofs.Ranges.{Bounds, bounds_of}
use Rattle.lt_value.specs.Num.{Holds, IsBelow, IsMeet, AreApart, IsLeast, IsExactly, IsEmpty}
use Rattle.lt_value.specs.Refine.{IsBut, IsFrom}
use Rattle.lt_value.specs.Forward.{TakesLeft, TakesRight, IsDivisor, IsCount, IsTakenFrom, IsOperand, IsRightEnd, IsLeftTaken, IsRightTaken}
use Rattle.lt_value.specs.declared.num.Num.{Num}
use Rattle.lt_value.proofs.Members.{lo_holds, hi_holds}
use Rattle.lt_value.proofs.Cuts.{least_as, least_from_exact, if_some_as, if_none_as}

-- ---- met with an interval
pub taken_by_meet : (P : ℤ → Type 0) (n r p : Num) → ((z : ℤ) → Holds r z ↔ P z) → IsMeet n r p → IsExactly (IsTakenFrom n P) p
taken_by_meet P n r p is meets z = (λ h. let k = (meets z).0 h in (k.0, (is z).0 k.1), λ h. (meets z).1 (h.0, (is z).1 h.1))

pub none_by_meet : (P : ℤ → Type 0) (n r : Num) → ((z : ℤ) → Holds r z ↔ P z) → AreApart n r → IsEmpty (IsTakenFrom n P)
none_by_meet P n r is apart z h = apart z h.0 ((is z).1 h.1)

-- members of members
pub taken_again : (P : ℤ → Type 0) (n v p : Num) (limit : ℤ) → limit ≡ pos 0 → IsExactly (IsTakenFrom n P) v → IsExactly (IsFrom v limit) p → IsExactly (IsTakenFrom n (λ z. P z × (pos 0 ≤ℤ z))) p
taken_again P n v p limit zero_is first second z = (
  λ h. let k = (second z).0 h in let j = (first z).0 k.0 in (j.0, (j.1, omega (arith, ints, k.1))),
  λ h. (second z).1 ((first z).1 (h.0, h.1.0), omega (arith, ints, h.1.1)),
)

pub none_again : (P : ℤ → Type 0) (n v : Num) (limit : ℤ) → limit ≡ pos 0 → IsExactly (IsTakenFrom n P) v → IsEmpty (IsFrom v limit) → IsEmpty (IsTakenFrom n (λ z. P z × (pos 0 ≤ℤ z)))
none_again P n v limit zero_is first second z h = second z ((first z).1 (h.0, h.1.0), omega (arith, ints, h.1.1))

-- ---- operands that are exact
exact_operand : (P : ℤ → Type 0) (n p : Num) → IsExactly (IsTakenFrom n P) p → IsOperand n P p
exact_operand P n p is = record { some = (p.lo, (is p.lo).0 (lo_holds p)); least = least_from_exact (IsTakenFrom n P) p is }

taken_as : (P Q : ℤ → Type 0) (n p : Num) → ((z : ℤ) → P z → Q z) → ((z : ℤ) → Q z → P z) → IsExactly (IsTakenFrom n P) p → IsExactly (IsTakenFrom n Q) p
taken_as P Q n p f g is z = (λ h. let k = (is z).0 h in (k.0, f z k.1), λ h. (is z).1 (h.0, g z h.1))

left_taken : (m : DataModel) (o : Op) (s : Scalar) (n p : Num) → IsExactly (IsTakenFrom n (TakesLeft m o s)) p → IsLeftTaken m o s n p
left_taken m o s n p is = record { operand = exact_operand (TakesLeft m o s) n p is; lo = ((is p.lo).0 (lo_holds p)).1; hi = ((is p.hi).0 (hi_holds p)).1 }

right_taken : (m : DataModel) (o : Op) (s : Scalar) (n p : Num) → ((z : ℤ) → TakesRight m o s z → IsRightEnd m o s z) → IsExactly (IsTakenFrom n (TakesRight m o s)) p → IsRightTaken m o s n p
right_taken m o s n p f is = record { operand = exact_operand (TakesRight m o s) n p is; lo = f p.lo ((is p.lo).0 (lo_holds p)).1; hi = f p.hi ((is p.hi).0 (hi_holds p)).1 }

-- ---- divisors
pub divisors_taken : (m : DataModel) (s : Scalar) (n v p : Num) (zero_is : ℤ) → zero_is ≡ pos 0 → IsExactly (IsTakenFrom n (IsValue m s)) v → (v.lo ≢ pos 0) ⊎ (v.hi ≢ pos 0) → IsLeast (IsBut v zero_is) p → IsRightTaken m O.Div s n p
divisors_taken m s n v p k is first ne l = record {
  operand = record {
    some = elim ne [ inl h ↦ (v.lo, from v.lo (lo_holds v, λ e. h (e ∙ is))) | inr h ↦ (v.hi, from v.hi (hi_holds v, λ e. h (e ∙ is))) ];
    least = least_as (IsBut v k) (IsTakenFrom n (IsDivisor m s)) p from (λ z h. ((first z).1 (h.0, h.1.0), λ e. h.1.1 (e ∙ is))) l;
  };
  lo = ((first p.lo).0 (below p.lo (lo_holds p))).1;
  hi = ((first p.hi).0 (below p.hi (hi_holds p))).1;
}
  where
    from : (z : ℤ) → IsBut v k z → IsTakenFrom n (IsDivisor m s) z
    from z h = let j = (first z).0 h.0 in (j.0, (j.1, λ e. h.1 (e ∙ sym is)))

    below : IsBelow p v
    below = l.least v (λ z h. h.0)

pub no_divisors_but : (m : DataModel) (s : Scalar) (n v : Num) (k : ℤ) → k ≡ pos 0 → IsExactly (IsTakenFrom n (IsValue m s)) v → IsEmpty (IsBut v k) → IsEmpty (IsTakenFrom n (IsDivisor m s))
no_divisors_but m s n v k is first none z h = none z ((first z).1 (h.0, h.1.0), λ e. h.1.1 (e ∙ is))

pub only_zero : (m : DataModel) (s : Scalar) (n v : Num) → IsExactly (IsTakenFrom n (IsValue m s)) v → v.lo ≡ pos 0 → v.hi ≡ pos 0 → IsEmpty (IsTakenFrom n (IsDivisor m s))
only_zero m s n v first p q z h = let k = (first z).1 (h.0, h.1.0) in h.1.1 (omega (arith, ints, k.above, k.below))

-- ---- by operator
left_as : (m : DataModel) (o : Op) (s : Scalar) (x : ℤ) → (o ≡ O.Shl → ⊥) → (IsValue m s x → TakesLeft m o s x) × (TakesLeft m o s x → IsValue m s x)
left_as m O.Shl s x h = absurd (h refl)
left_as m O.Add s x h = (λ k. k, λ k. k)
left_as m O.Sub s x h = (λ k. k, λ k. k)
left_as m O.Mul s x h = (λ k. k, λ k. k)
left_as m O.Div s x h = (λ k. k, λ k. k)
left_as m O.Rem s x h = (λ k. k, λ k. k)
left_as m O.Shr s x h = (λ k. k, λ k. k)
left_as m O.And s x h = (λ k. k, λ k. k)
left_as m O.Or s x h = (λ k. k, λ k. k)
left_as m O.Xor s x h = (λ k. k, λ k. k)
left_as m O.Lt s x h = (λ k. k, λ k. k)
left_as m O.Le s x h = (λ k. k, λ k. k)
left_as m O.Gt s x h = (λ k. k, λ k. k)
left_as m O.Ge s x h = (λ k. k, λ k. k)
left_as m O.Eq s x h = (λ k. k, λ k. k)
left_as m O.Ne s x h = (λ k. k, λ k. k)

-- neither divides nor shifts
abbrev pub IsPlainOp : Op → Type 0
IsPlainOp o = (o ≡ O.Div → ⊥) × (o ≡ O.Rem → ⊥) × (o ≡ O.Shl → ⊥) × (o ≡ O.Shr → ⊥)

abbrev IsPlainAt : DataModel → Op → Scalar → ℤ → Type 0
IsPlainAt m o s x = (IsValue m s x → TakesRight m o s x) × (TakesRight m o s x → IsValue m s x) × (IsValue m s x → IsRightEnd m o s x)

right_as : (m : DataModel) (o : Op) (s : Scalar) (x : ℤ) → IsPlainOp o → IsPlainAt m o s x
right_as m O.Div s x h = absurd (h.0 refl)
right_as m O.Rem s x h = absurd (h.1 refl)
right_as m O.Shl s x h = absurd (h.2 refl)
right_as m O.Shr s x h = absurd (h.3 refl)
right_as m O.Add s x h = (λ k. k, λ k. k, λ k. k)
right_as m O.Sub s x h = (λ k. k, λ k. k, λ k. k)
right_as m O.Mul s x h = (λ k. k, λ k. k, λ k. k)
right_as m O.And s x h = (λ k. k, λ k. k, λ k. k)
right_as m O.Or s x h = (λ k. k, λ k. k, λ k. k)
right_as m O.Xor s x h = (λ k. k, λ k. k, λ k. k)
right_as m O.Lt s x h = (λ k. k, λ k. k, λ k. k)
right_as m O.Le s x h = (λ k. k, λ k. k, λ k. k)
right_as m O.Gt s x h = (λ k. k, λ k. k, λ k. k)
right_as m O.Ge s x h = (λ k. k, λ k. k, λ k. k)
right_as m O.Eq s x h = (λ k. k, λ k. k, λ k. k)
right_as m O.Ne s x h = (λ k. k, λ k. k, λ k. k)

pub left_by_shl : (m : DataModel) (o : Op) (s : Scalar) (n : Num) (r : Option Num) → o ≡ O.Shl → IfSome r (IsExactly (IsTakenFrom n (TakesLeft m O.Shl s))) → IfSome r (IsLeftTaken m o s n)
left_by_shl m o s n r e h = rw e (if_some_as (IsExactly (IsTakenFrom n (TakesLeft m O.Shl s))) (IsLeftTaken m O.Shl s n) (λ p is. left_taken m O.Shl s n p is) r h)

pub left_by_values : (m : DataModel) (o : Op) (s : Scalar) (n : Num) (r : Option Num) → (o ≡ O.Shl → ⊥) → IfSome r (IsExactly (IsTakenFrom n (IsValue m s))) → IfSome r (IsLeftTaken m o s n)
left_by_values m o s n r ne h = if_some_as (IsExactly (IsTakenFrom n (IsValue m s))) (IsLeftTaken m o s n) (λ p is. left_taken m o s n p (taken_as (IsValue m s) (TakesLeft m o s) n p (λ z. (left_as m o s z ne).0) (λ z. (left_as m o s z ne).1) is)) r h

pub none_left_by_values : (m : DataModel) (o : Op) (s : Scalar) (n : Num) (r : Option Num) → (o ≡ O.Shl → ⊥) → IfNone r (IsEmpty (IsTakenFrom n (IsValue m s))) → IfNone r (IsEmpty (IsTakenFrom n (TakesLeft m o s)))
none_left_by_values m o s n r ne h = if_none_as (IsEmpty (IsTakenFrom n (IsValue m s))) (IsEmpty (IsTakenFrom n (TakesLeft m o s))) (λ none z k. none z (k.0, (left_as m o s z ne).1 k.1)) r h

pub right_by_values : (m : DataModel) (o : Op) (s : Scalar) (n : Num) (r : Option Num) → IsPlainOp o → IfSome r (IsExactly (IsTakenFrom n (IsValue m s))) → IfSome r (IsRightTaken m o s n)
right_by_values m o s n r ne h =
    if_some_as (IsExactly (IsTakenFrom n (IsValue m s))) (IsRightTaken m o s n)
    (λ p is. right_taken m o s n p (λ z k. let a = right_as m o s z ne in a.2 (a.1 k)) (taken_as (IsValue m s) (TakesRight m o s) n p (λ z. (right_as m o s z ne).0) (λ z. (right_as m o s z ne).1) is)) r h

pub none_right_by_values : (m : DataModel) (o : Op) (s : Scalar) (n : Num) (r : Option Num) → IsPlainOp o → IfNone r (IsEmpty (IsTakenFrom n (IsValue m s))) → IfNone r (IsEmpty (IsTakenFrom n (TakesRight m o s)))
none_right_by_values m o s n r ne h = if_none_as (IsEmpty (IsTakenFrom n (IsValue m s))) (IsEmpty (IsTakenFrom n (TakesRight m o s))) (λ none z k. none z (k.0, (right_as m o s z ne).1 k.1)) r h

pub right_by_counts : (m : DataModel) (o : Op) (s : Scalar) (n : Num) (r : Option Num) → (o ≡ O.Shl) ⊎ (o ≡ O.Shr) → IfSome r (IsExactly (IsTakenFrom n (IsCount m s))) → IfSome r (IsRightTaken m o s n)
right_by_counts m o s n r e h = elim e [
  | inl is ↦ rw is (if_some_as (IsExactly (IsTakenFrom n (IsCount m s))) (IsRightTaken m O.Shl s n) (λ p x. right_taken m O.Shl s n p (λ z k. k) x) r h)
  | inr is ↦ rw is (if_some_as (IsExactly (IsTakenFrom n (IsCount m s))) (IsRightTaken m O.Shr s n) (λ p x. right_taken m O.Shr s n p (λ z k. k) x) r h)
]

pub none_right_by_counts : (m : DataModel) (o : Op) (s : Scalar) (n : Num) (r : Option Num) → (o ≡ O.Shl) ⊎ (o ≡ O.Shr) → IfNone r (IsEmpty (IsTakenFrom n (IsCount m s))) → IfNone r (IsEmpty (IsTakenFrom n (TakesRight m o s)))
none_right_by_counts m o s n r e h = elim e [ inl is ↦ rw is h | inr is ↦ rw is h ]

pub right_by_divisors : (m : DataModel) (o : Op) (s : Scalar) (n : Num) (r : Option Num) → (o ≡ O.Div) ⊎ (o ≡ O.Rem) → IfSome r (IsRightTaken m O.Div s n) → IfSome r (IsRightTaken m o s n)
right_by_divisors m o s n r e h = elim e [
  | inl is ↦ rw is h
  | inr is ↦ rw is (if_some_as (IsRightTaken m O.Div s n) (IsRightTaken m O.Rem s n) (λ p x. record { operand = record { some = x.operand.some; least = least_as (IsTakenFrom n (IsDivisor m s)) (IsTakenFrom n (TakesRight m O.Rem s)) p (λ z k. k) (λ z k. k) x.operand.least }; lo = x.lo; hi = x.hi }) r h)
]

pub none_right_by_divisors : (m : DataModel) (o : Op) (s : Scalar) (n : Num) (r : Option Num) → (o ≡ O.Div) ⊎ (o ≡ O.Rem) → IfNone r (IsEmpty (IsTakenFrom n (IsDivisor m s))) → IfNone r (IsEmpty (IsTakenFrom n (TakesRight m o s)))
none_right_by_divisors m o s n r e h = elim e [ inl is ↦ rw is h | inr is ↦ rw is h ]

-- ---- as the code computes them
pub zero_from_code : (n : Num) (z : ℤ) → negsuc (2 ^ 63 - 1) ≤ℤ z → z ≤ℤ pos (2 ^ 64 - 1) → of_z w128 z ≡ 0 → z ≡ pos 0
zero_from_code n (pos k) p q e = ap pos e
zero_from_code n (negsuc k) p q e = absurd (omega (arith, ints))

pub zero_to_code : (z : ℤ) → z ≡ pos 0 → of_z w128 z ≡ 0
zero_to_code z e = ap (of_z w128) e

pub lo_zero : (n : Num) → of_z w128 n.lo ≡ 0 → n.lo ≡ pos 0
lo_zero n e = zero_from_code n n.lo n.canonical.least (omega (arith, ints, n.canonical.ordered, n.canonical.greatest)) e

pub hi_zero : (n : Num) → of_z w128 n.hi ≡ 0 → n.hi ≡ pos 0
hi_zero n e = zero_from_code n n.hi (omega (arith, ints, n.canonical.ordered, n.canonical.least)) n.canonical.greatest e

pub range_is : (m : DataModel) (s : Scalar) (n : Num) (lo hi : ℤ) → lo ≡ least_of m s → hi ≡ greatest_of m s → ((z : ℤ) → Holds n z ↔ ((lo ≤ℤ z) × (z ≤ℤ hi))) → (z : ℤ) → Holds n z ↔ IsValue m s z
range_is m s n lo hi p q is z = (
  λ h. let k = (is z).0 h in record { above = omega (arith, ints, k.0); below = omega (arith, ints, k.1) },
  λ v. (is z).1 (omega (arith, ints, v.above), omega (arith, ints, v.below)),
)

pub least_code : (m : DataModel) (s : Scalar) (z : ℤ) → z ≡ least_of m s → to_z w128 (of_z w128 z) ≡ least_of m s
least_code m s z e = let b : Bounds m s = bounds_of m s in omega (arith, ints, b.low, b.not_above)

pub greatest_code : (m : DataModel) (s : Scalar) (z : ℤ) → z ≡ greatest_of m s → to_z w128 (of_z w128 z) ≡ greatest_of m s
greatest_code m s z e = let b : Bounds m s = bounds_of m s in omega (arith, ints, b.one, b.high)

pub counts_are : (m : DataModel) (s : Scalar) (n : Num) (hi : ℤ) → hi ≡ pos (width_of m s) -ℤ pos 1 → ((z : ℤ) → Holds n z ↔ ((pos 0 ≤ℤ z) × (z ≤ℤ hi))) → (z : ℤ) → Holds n z ↔ IsCount m s z
counts_are m s n hi e is z = (
  λ h. let k = (is z).0 h in (k.0, omega (arith, ints, k.1)),
  λ v. (is z).1 (v.0, omega (arith, ints, v.1)),
)

pub count_code : (w k : ℕ) (from : ℤ) → from ≡ pos w → w ≡ k → k ≤ 64 → to_z w128 (of_z w128 (to_z w128 (of_z w128 from) -ℤ pos 1)) ≡ pos k -ℤ pos 1
count_code w k from e f le = omega (arith, ints)
