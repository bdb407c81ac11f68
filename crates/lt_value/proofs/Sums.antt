-- Sums and differences of members are among the row's numbers, and the rows grow with the operands.
use Rattle.std.proofs.Common.{arith, ℤ, ◌+ℤ◌, ◌-ℤ◌}
use Rattle.std.proofs.lemmas.Int.{ints}
use Rattle.std.proofs.Math.Nat.{dvd_trans}
use Rattle.lt_value.specs.Num.{Holds, IsBelow}
use Rattle.lt_value.specs.Entry.{IsIn, IsCongruent, written, rest_of, gcd_of}
use Rattle.lt_value.specs.Table.{sum_row, difference_row}
use Rattle.lt_value.specs.declared.num.Num.{Num}
use Rattle.lt_value.proofs.Members.{lo_holds, hi_holds, step_divides}
use Rattle.lt_value.proofs.Entries.{IsGcd-gcd_of, gcd_divides, member_congruent, congruent_add, congruent_sub}
use Rattle.lt_value.proofs.Settled.{IsWider, wider_by}

left_by_gcd : (a b : Num) (x : ℤ) → Holds a x → IsCongruent (gcd_of a.step b.step) (rest_of a) x
left_by_gcd a b x p = dvd_trans (gcd_of a.step b.step) (IsGcd-gcd_of a.step b.step).0 (member_congruent a x p)

right_by_gcd : (a b : Num) (y : ℤ) → Holds b y → IsCongruent (gcd_of a.step b.step) (rest_of b) y
right_by_gcd a b y q = dvd_trans (gcd_of a.step b.step) (IsGcd-gcd_of a.step b.step).1 (member_congruent b y q)

pub sum_holds : (a b : Num) (x y : ℤ) → Holds a x → Holds b y → IsIn (sum_row (written a) (written b)) (x +ℤ y)
sum_holds a b x y p q = record {
  above = omega (arith, ints, p.above, q.above);
  below = omega (arith, ints, p.below, q.below);
  congruent = congruent_add (gcd_of a.step b.step) x y (rest_of a) (rest_of b) (left_by_gcd a b x p) (right_by_gcd a b y q);
}

pub difference_holds : (a b : Num) (x y : ℤ) → Holds a x → Holds b y → IsIn (difference_row (written a) (written b)) (x -ℤ y)
difference_holds a b x y p q = record {
  above = omega (arith, ints, p.above, q.below);
  below = omega (arith, ints, p.below, q.above);
  congruent = congruent_sub (gcd_of a.step b.step) x y (rest_of a) (rest_of b) (left_by_gcd a b x p) (right_by_gcd a b y q);
}

pub sum_wider : (a b c d : Num) → IsBelow a c → IsBelow b d → IsWider (sum_row (written a) (written b)) (sum_row (written c) (written d))
sum_wider a b c d f g =
    let x = f a.lo (lo_holds a) in
    let y = g b.lo (lo_holds b) in
    let x' = f a.hi (hi_holds a) in
    let y' = g b.hi (hi_holds b) in
    wider_by (sum_row (written a) (written b)) (sum_row (written c) (written d)) (a.lo +ℤ b.lo)
    (omega (arith, ints, x.above, y.above))
    (omega (arith, ints, x'.below, y'.below))
    (gcd_divides c.step d.step a.step b.step (step_divides a c f) (step_divides b d g))
    (sum_holds a b a.lo b.lo (lo_holds a) (lo_holds b)).congruent
    (sum_holds c d a.lo b.lo x y).congruent

pub difference_wider : (a b c d : Num) → IsBelow a c → IsBelow b d → IsWider (difference_row (written a) (written b)) (difference_row (written c) (written d))
difference_wider a b c d f g =
    let x = f a.lo (lo_holds a) in
    let y = g b.lo (lo_holds b) in
    let x' = f a.hi (hi_holds a) in
    let y' = g b.hi (hi_holds b) in
    wider_by (difference_row (written a) (written b)) (difference_row (written c) (written d)) (a.lo -ℤ b.lo)
    (omega (arith, ints, x.above, y'.below))
    (omega (arith, ints, x'.below, y.above))
    (gcd_divides c.step d.step a.step b.step (step_divides a c f) (step_divides b d g))
    (difference_holds a b a.lo b.lo (lo_holds a) (lo_holds b)).congruent
    (difference_holds c d a.lo b.lo x y).congruent
