-- The entries that the code makes of the operators on bits are the table's rows.
use Rattle.std.proofs.Common.{arith, ◌≡◌, refl, sym, ◌∙◌, ap, ap₂, subst, ℕ, ℤ, pos, ◌≤ℤ◌, ◌<ℤ◌, ◌^◌, ◌↔◌, Bool, true, false, ◌&&◌, to_z, of_z}
use Rattle.std.specs.Prelude.{Result, unsigned_abs, if◌then◌else◌, int_le, Option, IfSome, IfNone}
use Rattle.std.specs.Int.{int_min, int_max, w128}
use mir.Val.{SFits}
use Rattle.std.proofs.lemmas.Int.{ints, clamps, to_z-of_z}
use Rattle.lt_model.specs.declared.scalar.DataModel.{DataModel}
use Rattle.lt_model.specs.declared.scalar.Scalar.{Scalar}
use Rattle.lt_model.specs.declared.operator.Ub.{Ub}
use Rattle.lt_model.specs.Scalar.{least_of, greatest_of, IsValue}
use Rattle.lt_model.specs.Operators.{bits_of, bitwise}
use Rattle.lt_model.proofs.Ranges.{Bounds, bounds_of, IsValue-wrapped}
use Rattle.lt_value.specs.Num.{Holds, IsExactly}
use Rattle.lt_value.specs.Entry.{Entry, entry_of, IsIn, IsSettled, written, is_single, range_of}
use Rattle.lt_value.specs.Table.{exact_or_row, and_row, or_row, mask_of}
use Rattle.lt_value.specs.declared.num.Num.{Num}
use Rattle.lt_value.proofs.Orders.{le_true}
use Rattle.lt_value.proofs.Members.{lo_fits, hi_fits}
use Rattle.lt_value.proofs.Cuts.{if_some_as, if_none_as}
use Rattle.lt_model.proofs.Whole.{abs_up}
use Rattle.lt_value.proofs.Settling.{exactly_as, rest_alone}
use Rattle.lt_value.proofs.MadeAnswers.{plain, same_number}
use Rattle.lt_value.proofs.Made.{min_fits, max_fits, within_settled, ones_made, ones_settled}
use Rattle.lt_value.proofs.Bits.{AreValues, mask_value}

pub exact_is : (n : Num) (v v' : ℤ) (r : Result ℤ Ub) → plain v ≡ r → v' ≡ v → ((z : ℤ) → Holds n z ↔ (z ≡ v')) → (z : ℤ) → Holds n z ↔ (r ≡ plain z)
exact_is n v v' r e f is z = (
  λ h. sym e ∙ ap plain (sym ((is z).0 h ∙ f)),
  λ h. (is z).1 (sym (same_number v z (e ∙ h)) ∙ sym f),
)

pub value_fits : (m : DataModel) (s : Scalar) (z : ℤ) → IsValue m s z → SFits w128 z
value_fits m s z v = let b : Bounds m s = bounds_of m s in omega (arith, ints, v.above, v.below, b.low, b.high)

-- ---- two single numbers
choose : (t : Bool) (b : Bool) (e row : Entry) → t ≡ b → t ≡ true → (if b then e else row) ≡ e
choose t b e row is yes' = rw (sym is ∙ yes') refl

other : (t : Bool) (b : Bool) (e row : Entry) → t ≡ b → t ≡ false → (if b then e else row) ≡ row
other t b e row is no' = rw (sym is ∙ no') refl

pub exact_made : (f : ℕ → ℕ → ℕ) (m : DataModel) (s : Scalar) (a b : Num) (row : Entry) (t : Bool) (v : ℤ) (o : Option Num) → t ≡ (is_single (written a) && is_single (written b)) → t ≡ true → v ≡ bitwise f m s a.lo b.lo → IfSome o (λ n. (z : ℤ) → Holds n z ↔ (plain v ≡ plain z)) → IfSome o (IsExactly (IsSettled m s (exact_or_row f m s (written a) (written b) row)))
exact_made f m s a b row t v o is yes' e =
    if_some_as (λ n. (z : ℤ) → Holds n z ↔ (plain v ≡ plain z)) (IsExactly (IsSettled m s (exact_or_row f m s (written a) (written b) row)))
    (λ n k. subst (λ (r : Entry). IsExactly (IsSettled m s r) n) (sym (choose t (is_single (written a) && is_single (written b)) one row is yes')) (alone n k)) o
  where
    u : ℤ
    u = bitwise f m s a.lo b.lo

    one : Entry
    one = entry_of u u 0 u

    value : IsValue m s u
    value = IsValue-wrapped m s (pos (f (bits_of m s a.lo) (bits_of m s b.lo)))

    alone : (n : Num) → ((z : ℤ) → Holds n z ↔ (plain v ≡ plain z)) → IsExactly (IsSettled m s one) n
    alone n k =
        exactly_as (IsIn one) (IsSettled m s one) n (λ z. (within_settled m s one value.above value.below z).1) (λ z. (within_settled m s one value.above value.below z).0)
        (rest_alone n u u u v 0 refl e (omega (arith, ints)) (omega (arith, ints)) (λ z. (λ h. sym (same_number v z ((k z).0 h)), λ h. (k z).1 (ap plain (sym h)))))

pub exact_none : (P : Type 0) (v : ℤ) (o : Option Num) → IfNone o ((z : ℤ) → plain v ≡ plain z → ⊥) → IfNone o P
exact_none P v o h = if_none_as ((z : ℤ) → plain v ≡ plain z → ⊥) P (λ k. absurd (k v refl)) o h

pub row_made : (f : ℕ → ℕ → ℕ) (m : DataModel) (s : Scalar) (a b n : Num) (row : Entry) (t : Bool) → t ≡ (is_single (written a) && is_single (written b)) → t ≡ false → IsExactly (IsSettled m s row) n → IsExactly (IsSettled m s (exact_or_row f m s (written a) (written b) row)) n
row_made f m s a b n row t is no' h = subst (λ (r : Entry). IsExactly (IsSettled m s r) n) (sym (other t (is_single (written a) && is_single (written b)) (entry_of (bitwise f m s a.lo b.lo) (bitwise f m s a.lo b.lo) 0 (bitwise f m s a.lo b.lo)) row is no')) h

pub ends_code : (f : ℕ → ℕ → ℕ) (m : DataModel) (s : Scalar) (a b : Num) → bitwise f m s (to_z w128 (of_z w128 a.lo)) (to_z w128 (of_z w128 b.lo)) ≡ bitwise f m s a.lo b.lo
ends_code f m s a b = ap₂ (bitwise f m s) (to_z-of_z w128 a.lo (lo_fits a)) (to_z-of_z w128 b.lo (lo_fits b))

-- ---- rows from 0 on, and the whole range
from_test : (l : ℤ) (t b : Bool) → t ≡ int_le (pos 0) l → t ≡ b → int_le (pos 0) l ≡ b
from_test l t b e f = sym e ∙ f

pub and_both : (m : DataModel) (s : Scalar) (a b n : Num) (hi : ℤ) (t u : Bool) → AreValues m s a → t ≡ int_le (pos 0) a.lo → t ≡ true → u ≡ int_le (pos 0) b.lo → u ≡ true → hi ≡ int_min a.hi b.hi → ((z : ℤ) → Holds n z ↔ ((pos 0 ≤ℤ z) × (z ≤ℤ hi))) → IsExactly (IsSettled m s (and_row m s (written a) (written b))) n
and_both m s a b n hi t u v e f g h is k = rw (from_test a.lo t true e f, from_test b.lo u true g h) (ones_made m s n (pos 0) (int_min a.hi b.hi) (pos 0) hi (bounds_of m s).not_above (omega (arith, ints, clamps, v.last.below)) refl is k)

pub and_left_only : (m : DataModel) (s : Scalar) (a b n : Num) (hi : ℤ) (t u : Bool) → AreValues m s a → t ≡ int_le (pos 0) a.lo → t ≡ true → u ≡ int_le (pos 0) b.lo → u ≡ false → hi ≡ a.hi → ((z : ℤ) → Holds n z ↔ ((pos 0 ≤ℤ z) × (z ≤ℤ hi))) → IsExactly (IsSettled m s (and_row m s (written a) (written b))) n
and_left_only m s a b n hi t u v e f g h is k = rw (from_test a.lo t true e f, from_test b.lo u false g h) (ones_made m s n (pos 0) a.hi (pos 0) hi (bounds_of m s).not_above v.last.below refl is k)

pub and_right_only : (m : DataModel) (s : Scalar) (a b n : Num) (hi : ℤ) (t u : Bool) → AreValues m s b → t ≡ int_le (pos 0) a.lo → t ≡ false → u ≡ int_le (pos 0) b.lo → u ≡ true → hi ≡ b.hi → ((z : ℤ) → Holds n z ↔ ((pos 0 ≤ℤ z) × (z ≤ℤ hi))) → IsExactly (IsSettled m s (and_row m s (written a) (written b))) n
and_right_only m s a b n hi t u v e f g h is k = rw (from_test a.lo t false e f, from_test b.lo u true g h) (ones_made m s n (pos 0) b.hi (pos 0) hi (bounds_of m s).not_above v.last.below refl is k)

pub whole_made : (m : DataModel) (s : Scalar) (n : Num) → ((z : ℤ) → Holds n z ↔ IsValue m s z) → IsExactly (IsSettled m s (range_of m s)) n
whole_made m s n is z =
    let k = ones_settled m s (least_of m s) (greatest_of m s) (omega (arith, ints)) (omega (arith, ints)) z in (
      λ h. let v = (is z).0 h in k.1 (v.above, v.below),
      λ h. let r = k.0 h in (is z).1 (record { above = r.0; below = r.1 }),
    )

pub and_neither : (m : DataModel) (s : Scalar) (a b n : Num) (t u : Bool) → t ≡ int_le (pos 0) a.lo → t ≡ false → u ≡ int_le (pos 0) b.lo → u ≡ false → ((z : ℤ) → Holds n z ↔ IsValue m s z) → IsExactly (IsSettled m s (and_row m s (written a) (written b))) n
and_neither m s a b n t u e f g h is = rw (from_test a.lo t false e f, from_test b.lo u false g h) (whole_made m s n is)

pub or_first_negative : (m : DataModel) (s : Scalar) (a b n : Num) (t : Bool) → t ≡ int_le (pos 0) a.lo → t ≡ false → ((z : ℤ) → Holds n z ↔ IsValue m s z) → IsExactly (IsSettled m s (or_row m s (written a) (written b))) n
or_first_negative m s a b n t e f is = rw (from_test a.lo t false e f) (whole_made m s n is)

pub or_second_negative : (m : DataModel) (s : Scalar) (a b n : Num) (t u : Bool) → t ≡ int_le (pos 0) a.lo → t ≡ true → u ≡ int_le (pos 0) b.lo → u ≡ false → ((z : ℤ) → Holds n z ↔ IsValue m s z) → IsExactly (IsSettled m s (or_row m s (written a) (written b))) n
or_second_negative m s a b n t u e f g h is = rw (from_test a.lo t true e f, from_test b.lo u false g h) (whole_made m s n is)

-- the greatest number of either side is a value
top_value : (m : DataModel) (s : Scalar) (a b : Num) → AreValues m s a → AreValues m s b → pos 0 ≤ℤ a.lo → (pos (unsigned_abs (int_max a.hi b.hi)) ≡ int_max a.hi b.hi) × (int_max a.hi b.hi ≤ℤ greatest_of m s)
top_value m s a b va vb p = (abs_up (int_max a.hi b.hi) (omega (arith, ints, clamps, a.canonical.ordered)), omega (arith, ints, clamps, va.last.below, vb.last.below))

natural_from : (l : ℤ) (t : Bool) → t ≡ int_le (pos 0) l → t ≡ true → pos 0 ≤ℤ l
natural_from l t e f = le_true (pos 0) l (sym e ∙ f)

max_is : (a b : Num) (top : ℤ) → top ≡ int_max (to_z w128 (of_z w128 a.hi)) (to_z w128 (of_z w128 b.hi)) → top ≡ int_max a.hi b.hi
max_is a b top e = e ∙ ap₂ int_max (to_z-of_z w128 a.hi (hi_fits a)) (to_z-of_z w128 b.hi (hi_fits b))

max_code : (a b : Num) (top : ℤ) → top ≡ int_max (to_z w128 (of_z w128 a.hi)) (to_z w128 (of_z w128 b.hi)) → to_z w128 (of_z w128 top) ≡ int_max a.hi b.hi
max_code a b top e = to_z-of_z w128 top (subst (SFits w128) (sym (max_is a b top e)) (max_fits a.hi b.hi (hi_fits a) (hi_fits b))) ∙ max_is a b top e

pub min_code : (a b : Num) (top : ℤ) → top ≡ int_min (to_z w128 (of_z w128 a.hi)) (to_z w128 (of_z w128 b.hi)) → to_z w128 (of_z w128 top) ≡ int_min a.hi b.hi
min_code a b top e =
    let is : top ≡ int_min a.hi b.hi = e ∙ ap₂ int_min (to_z-of_z w128 a.hi (hi_fits a)) (to_z-of_z w128 b.hi (hi_fits b)) in
    to_z-of_z w128 top (subst (SFits w128) (sym is) (min_fits a.hi b.hi (hi_fits a) (hi_fits b))) ∙ is

-- the mask, as the code computes it
pub mask_below : (m : DataModel) (s : Scalar) (a b : Num) (top : ℤ) → AreValues m s a → AreValues m s b → top ≡ int_max (to_z w128 (of_z w128 a.hi)) (to_z w128 (of_z w128 b.hi)) → to_z w128 (of_z w128 top) <ℤ pos (2 ^ 64)
mask_below m s a b top va vb e =
    let b' : Bounds m s = bounds_of m s in
    omega (arith, ints, clamps, max_code a b top e, va.last.below, vb.last.below, b'.high)

mask_number : (m : DataModel) (s : Scalar) (a b : Num) (top k : ℤ) (t : Bool) → AreValues m s a → AreValues m s b → t ≡ int_le (pos 0) a.lo → t ≡ true → top ≡ int_max (to_z w128 (of_z w128 a.hi)) (to_z w128 (of_z w128 b.hi)) → k ≡ pos (mask_of (unsigned_abs (to_z w128 (of_z w128 top)))) → (k ≡ pos (mask_of (unsigned_abs (int_max a.hi b.hi)))) × (pos (mask_of (unsigned_abs (int_max a.hi b.hi))) ≤ℤ greatest_of m s)
mask_number m s a b top k t va vb e f g h =
    let v = top_value m s a b va vb (natural_from a.lo t e f) in (
      h ∙ ap (λ (z : ℤ). pos (mask_of (unsigned_abs z))) (max_code a b top g),
      (mask_value m s (unsigned_abs (int_max a.hi b.hi)) (omega (arith, ints, v.0, v.1))).0,
    )

mask_fits : (m : DataModel) (s : Scalar) (n : ℕ) → pos n ≤ℤ greatest_of m s → SFits w128 (pos n)
mask_fits m s n h = let b : Bounds m s = bounds_of m s in omega (arith, ints, b.high)

pub mask_code : (m : DataModel) (s : Scalar) (a b : Num) (top k : ℤ) (t : Bool) → AreValues m s a → AreValues m s b → t ≡ int_le (pos 0) a.lo → t ≡ true → top ≡ int_max (to_z w128 (of_z w128 a.hi)) (to_z w128 (of_z w128 b.hi)) → k ≡ pos (mask_of (unsigned_abs (to_z w128 (of_z w128 top)))) → (to_z w128 (of_z w128 k) ≡ pos (mask_of (unsigned_abs (int_max a.hi b.hi)))) × (pos (mask_of (unsigned_abs (int_max a.hi b.hi))) ≤ℤ greatest_of m s)
mask_code m s a b top k t va vb e f g h =
    let r = mask_number m s a b top k t va vb e f g h in
    (to_z-of_z w128 k (subst (SFits w128) (sym r.0) (mask_fits m s (mask_of (unsigned_abs (int_max a.hi b.hi))) r.1)) ∙ r.0, r.1)

pub or_both : (m : DataModel) (s : Scalar) (a b n : Num) (hi : ℤ) (t u : Bool) → t ≡ int_le (pos 0) a.lo → t ≡ true → u ≡ int_le (pos 0) b.lo → u ≡ true → (hi ≡ pos (mask_of (unsigned_abs (int_max a.hi b.hi)))) × (pos (mask_of (unsigned_abs (int_max a.hi b.hi))) ≤ℤ greatest_of m s) → ((z : ℤ) → Holds n z ↔ ((pos 0 ≤ℤ z) × (z ≤ℤ hi))) → IsExactly (IsSettled m s (or_row m s (written a) (written b))) n
or_both m s a b n hi t u e f g h r k = rw (from_test a.lo t true e f, from_test b.lo u true g h) (ones_made m s n (pos 0) (pos (mask_of (unsigned_abs (int_max a.hi b.hi)))) (pos 0) hi (bounds_of m s).not_above r.1 refl r.0 k)
