-- The entries that the code makes of shifts are the table's rows.
use Rattle.std.proofs.Common.{arith, ◌≡◌, sym, ◌∙◌, ap, subst, ℕ, ℤ, pos, negsuc, ◌*ℤ◌, ◌≤ℤ◌, ◌<ℤ◌, ◌*◌, ◌≤◌, ◌^◌, to_z, of_z}
use Rattle.std.specs.Prelude.{unsigned_abs, if◌then◌else◌, ◌==◌}
use Rattle.std.specs.Int.{int_min, int_max, int_shr, w128}
use mir.Val.{SFits}
use Rattle.std.proofs.lemmas.Int.{ints, clamps, to_z_pos, to_z-of_z}
use Rattle.std.proofs.Math.Nat.{div-le_self}
use Rattle.lt_model.specs.declared.scalar.DataModel.{DataModel}
use Rattle.lt_model.specs.declared.scalar.Scalar.{Scalar}
use Rattle.lt_model.specs.declared.operator.Op.TheVariants as O
use Rattle.lt_model.specs.Scalar.{least_of, greatest_of, IsValue}
use Rattle.lt_model.proofs.Ranges.{Bounds, bounds_of}
use Rattle.lt_value.specs.Entry.{IsCongruent, written, rest_of}
use Rattle.lt_value.specs.Table.{power, left_shift_row, right_shift, least_corner, greatest_corner}
use Rattle.lt_value.specs.Forward.{AreTaken, IsCount}
use Rattle.lt_value.specs.declared.num.Num.{Num}
use Rattle.lt_value.proofs.Members.{lo_holds, lo_fits, hi_fits}
use Rattle.lt_model.proofs.Whole.{abs_up}
use Rattle.lt_value.proofs.Corners.{least_corner_above, greatest_corner_below}
use Rattle.lt_value.proofs.Shifts.{left_shift_holds, power_grows}
use Rattle.lt_value.proofs.Bits.{AreValues, member_value}
use Rattle.lt_value.proofs.Made.{IsMade, AreFour, least_span, greatest_span, product_small}

pub low_power : (b : Num) (k : ℕ) → k ≡ power (to_z w128 (of_z w128 b.lo)) → k ≡ power b.lo
low_power b k e = e ∙ ap power (to_z-of_z w128 b.lo (lo_fits b))

pub high_power : (b : Num) (k : ℕ) → k ≡ power (to_z w128 (of_z w128 b.hi)) → k ≡ power b.hi
high_power b k e = e ∙ ap power (to_z-of_z w128 b.hi (hi_fits b))

pub count_below : (m : DataModel) (s : Scalar) (z : ℤ) → IsCount m s z → z <ℤ pos 64
count_below m s z h = omega (arith, ints, h.1, (bounds_of m s).width)

pub lo_count : (m : DataModel) (s : Scalar) (b : Num) → IsCount m s b.lo → to_z w128 (of_z w128 b.lo) <ℤ pos 64
lo_count m s b h = omega (arith, ints, to_z-of_z w128 b.lo (lo_fits b), count_below m s b.lo h)

pub hi_count : (m : DataModel) (s : Scalar) (b : Num) → IsCount m s b.hi → to_z w128 (of_z w128 b.hi) <ℤ pos 64
hi_count m s b h = omega (arith, ints, to_z-of_z w128 b.hi (hi_fits b), count_below m s b.hi h)

-- ---- to the left
times : (x : ℤ) (k l p : ℕ) → pos 0 ≤ℤ x → k ≡ unsigned_abs x → l ≡ p → pos (k * l) ≡ x *ℤ pos p
times x k l p up e f =
    let is : pos k ≡ x = ap pos e ∙ abs_up x up in
    subst (λ (z : ℤ). pos (k * l) ≡ z *ℤ pos p) is (ap (λ (i : ℕ). pos (k * i)) f)

pub left_made : (a b : Num) (k n low high step : ℕ) (lo hi : ℤ) → pos 0 ≤ℤ a.lo → pos 0 ≤ℤ b.lo → k ≡ unsigned_abs a.lo → n ≡ unsigned_abs a.hi → low ≡ power b.lo → high ≡ power b.hi → step ≡ (if b.step == 0 then a.step * low else 1) → lo ≡ pos (k * low) → hi ≡ pos (n * high) → IsMade (left_shift_row (written a) (written b)) lo hi step
left_made a b k n low high step lo hi p q e f g h s u v = record {
  lo_is = lo_is;
  hi_is = v ∙ times a.hi n high (power b.hi) (omega (arith, ints, a.canonical.ordered)) f h;
  step_is = s ∙ ap (λ (i : ℕ). if b.step == 0 then a.step * i else 1) g;
  rest = subst (IsCongruent (if b.step == 0 then a.step * power b.lo else 1) (if b.step == 0 then rest_of a *ℤ pos (power b.lo) else pos 0)) (sym lo_is) (left_shift_holds a b a.lo b.lo p q (lo_holds a) (lo_holds b)).congruent;
}
  where
    lo_is : lo ≡ a.lo *ℤ pos (power b.lo)
    lo_is = u ∙ times a.lo k low (power b.lo) p e g

pub left_order : (a b : Num) (k n low high : ℕ) → pos 0 ≤ℤ a.lo → pos 0 ≤ℤ b.lo → k ≡ unsigned_abs a.lo → n ≡ unsigned_abs a.hi → low ≡ power b.lo → high ≡ power b.hi → k * low ≤ n * high
left_order a b k n low high p q e f g h =
    product_small k low n high
    (omega (arith, ints, e, f, a.canonical.ordered, abs_up a.lo p, abs_up a.hi (omega (arith, ints, a.canonical.ordered))))
    (omega (arith, g, h, power_grows b.lo b.hi q b.canonical.ordered))

pub left_small : (k low : ℕ) → k ≤ 2 ^ 63 → low ≤ 2 ^ 63 → k * low ≤ 2 ^ 126
left_small k low p q = omega (arith, product_small k low (2 ^ 63) (2 ^ 63) p q)

pub as_signed : (n : ℕ) → n ≤ 2 ^ 126 → to_z w128 n ≡ pos n
as_signed n h = to_z_pos w128 n (omega arith)

pub signed_fits : (n : ℕ) → n ≤ 2 ^ 126 → SFits w128 (pos n)
signed_fits n h = omega (arith, ints)

pub signed_size : (n : ℕ) → n ≤ 2 ^ 126 → unsigned_abs (to_z w128 n) ≤ 2 ^ 126
signed_size n h = subst (λ (z : ℤ). unsigned_abs z ≤ 2 ^ 126) (sym (as_signed n h)) h

-- ---- to the right
shr_value : (m : DataModel) (s : Scalar) (x : ℤ) (k : ℕ) → IsValue m s x → IsValue m s (int_shr x k)
shr_value m s (pos a) k v = let le = div-le_self a (2 ^ k) in let b : Bounds m s = bounds_of m s in record { above = omega (arith, ints, b.not_above); below = omega (arith, ints, v.below) }
shr_value m s (negsuc a) k v = let le = div-le_self a (2 ^ k) in let b : Bounds m s = bounds_of m s in record { above = omega (arith, ints, v.above); below = omega (arith, ints, b.one) }

-- the span of the shifts, as the code computes it
pub record IsRightSpan (m : DataModel) (s : Scalar) (a b : Num) (lo hi : ℤ) : Type 0 where
  pub low : least_of m s ≤ℤ least_corner right_shift (written a) (written b)
  pub high : greatest_corner right_shift (written a) (written b) ≤ℤ greatest_of m s
  pub lo_is : lo ≡ least_corner right_shift (written a) (written b)
  pub hi_is : hi ≡ greatest_corner right_shift (written a) (written b)
  pub ordered : lo ≤ℤ hi

pub right_span : (m : DataModel) (s : Scalar) (a b : Num) (p q r t lo hi : ℤ) → AreTaken m O.Shr s a b → AreFour right_shift a b p q r t
    → lo ≡ int_min (int_min (to_z w128 (of_z w128 p)) (to_z w128 (of_z w128 q))) (int_min (to_z w128 (of_z w128 r)) (to_z w128 (of_z w128 t)))
    → hi ≡ int_max (int_max (to_z w128 (of_z w128 p)) (to_z w128 (of_z w128 q))) (int_max (to_z w128 (of_z w128 r)) (to_z w128 (of_z w128 t)))
    → IsRightSpan m s a b (to_z w128 (of_z w128 lo)) (to_z w128 (of_z w128 hi))
right_span m s a b p q r t lo hi k four e f = record {
  low = least_corner_above right_shift a b (least_of m s) (λ x y h j. (shr_value m s x (unsigned_abs y) (member_value m s a x values h)).above);
  high = greatest_corner_below right_shift a b (greatest_of m s) (λ x y h j. (shr_value m s x (unsigned_abs y) (member_value m s a x values h)).below);
  lo_is = first;
  hi_is = last;
  ordered = subst (λ (z : ℤ). z ≤ℤ to_z w128 (of_z w128 hi)) (sym first) (subst (λ (z : ℤ). least_corner right_shift (written a) (written b) ≤ℤ z) (sym last) (corners_order (right_shift a.lo b.lo) (right_shift a.lo b.hi) (right_shift a.hi b.lo) (right_shift a.hi b.hi)));
}
  where
    values : AreValues m s a
    values = record { first = k.left_lo; last = k.left_hi }

    first : to_z w128 (of_z w128 lo) ≡ least_corner right_shift (written a) (written b)
    first = least_span right_shift a b p q r t lo four e

    last : to_z w128 (of_z w128 hi) ≡ greatest_corner right_shift (written a) (written b)
    last = greatest_span right_shift a b p q r t hi four f

    corners_order : (x y z w : ℤ) → int_min (int_min x y) (int_min z w) ≤ℤ int_max (int_max x y) (int_max z w)
    corners_order x y z w = omega (arith, ints, clamps)
