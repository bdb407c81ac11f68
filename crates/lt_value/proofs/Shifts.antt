-- Shifted members are among the rows' numbers, and the rows grow with the operands.
use Rattle.std.proofs.Common.{arith, ◌≡◌, refl, sym, subst, ℕ, ℤ, pos, negsuc, ◌*ℤ◌, ◌≤ℤ◌, ◌*◌, ◌/◌, ◌^◌, ◌<◌, ◌≤◌, inl, inr, Bool, true, false}
use Rattle.std.specs.Prelude.{unsigned_abs, ◌==◌, if◌then◌else◌}
use Rattle.std.specs.Int.{◌∣◌, int_shr}
use Rattle.std.proofs.lemmas.Int.{ints}
use Rattle.std.proofs.lemmas.Bool.{eqb-true, eqb-false}
use Rattle.std.proofs.lemmas.Nat.{le-div}
use Rattle.std.proofs.Math.Nat.{one-dvd, div-mul-le_self, mul-le-mul_left, mul-le-mul_right, mul-dvd-mul_right, one-le-pow}
use Rattle.std.proofs.Math.Pow.{pow_mono}
use Rattle.lt_value.specs.Num.{Holds, IsBelow}
use Rattle.lt_value.specs.Entry.{IsIn, IsCongruent, written, rest_of}
use Rattle.lt_value.specs.Table.{power, left_shift_row, right_shift, right_shift_row, least_corner, greatest_corner}
use Rattle.lt_value.specs.declared.num.Num.{Num}
use Rattle.lt_value.proofs.Members.{lo_holds, hi_holds, step_divides}
use Rattle.lt_value.proofs.Entries.{member_congruent, one_member, congruent_mul, one_congruent}
use Rattle.lt_value.proofs.Corners.{IsAmid, above_least, below_greatest, least_corner_above, greatest_corner_below}
use Rattle.lt_value.proofs.Products.{still_single}
use Rattle.lt_value.proofs.Settled.{IsWider, wider_by}

-- ---- quotients of natural numbers
pub div_grows : (a b n : ℕ) → 0 < n → a ≤ b → a / n ≤ b / n
div_grows a b n some le = le-div (a / n) b n some (omega (arith, div-mul-le_self a n))

pub div_falls : (a d e : ℕ) → 0 < d → d ≤ e → a / e ≤ a / d
div_falls a d e some le = le-div (a / e) a d some (omega (arith, mul-le-mul_left (a / e) le, div-mul-le_self a e))

power_some : (k : ℕ) → 0 < 2 ^ k
power_some k = one-le-pow k 2 (omega arith)

pub abs_order : (c d : ℤ) → pos 0 ≤ℤ c → c ≤ℤ d → unsigned_abs c ≤ unsigned_abs d
abs_order (pos a) (pos b) p q = omega (arith, ints)
abs_order (pos a) (negsuc b) p q = absurd (omega (arith, ints))
abs_order (negsuc a) d p q = absurd (omega (arith, ints))

-- ---- to the left
pub power_grows : (c d : ℤ) → pos 0 ≤ℤ c → c ≤ℤ d → power c ≤ power d
power_grows c d p q = pow_mono (abs_order c d p q)

pub shifted_order : (x y : ℤ) (k l : ℕ) → pos 0 ≤ℤ x → x ≤ℤ y → k ≤ l → (x *ℤ pos k) ≤ℤ (y *ℤ pos l)
shifted_order (pos a) (pos b) k l p q r =
    let less : a * k ≤ b * k = mul-le-mul_right k (omega (arith, ints)) in
    let more : b * k ≤ b * l = mul-le-mul_left b r in
    omega (arith, ints)
shifted_order (pos a) (negsuc b) k l p q r = absurd (omega (arith, ints))
shifted_order (negsuc a) y k l p q r = absurd (omega (arith, ints))

left_shift_congruent : (a b : Num) (x y : ℤ) → Holds a x → Holds b y → IsCongruent (if b.step == 0 then a.step * power b.lo else 1) (if b.step == 0 then rest_of a *ℤ pos (power b.lo) else pos 0) (x *ℤ pos (power y))
left_shift_congruent a b x y p q = by_test (b.step == 0) refl
  where
    by_test : (t : Bool) → (b.step == 0) ≡ t → IsCongruent (if t then a.step * power b.lo else 1) (if t then rest_of a *ℤ pos (power b.lo) else pos 0) (x *ℤ pos (power y))
    by_test true e = subst (λ (z : ℤ). IsCongruent (a.step * power b.lo) (rest_of a *ℤ pos (power b.lo)) (x *ℤ pos (power z))) (sym (one_member b y (eqb-true b.step 0 e) q)) (congruent_mul x (rest_of a) (pos (power b.lo)) a.step (member_congruent a x p))
    by_test false e = one_congruent (pos 0) (x *ℤ pos (power y))

pub left_shift_holds : (a b : Num) (x y : ℤ) → pos 0 ≤ℤ a.lo → pos 0 ≤ℤ b.lo → Holds a x → Holds b y → IsIn (left_shift_row (written a) (written b)) (x *ℤ pos (power y))
left_shift_holds a b x y s t p q = record {
  above = shifted_order a.lo x (power b.lo) (power y) s p.above (power_grows b.lo y t q.above);
  below = shifted_order x a.hi (power y) (power b.hi) (omega (arith, ints, p.above)) p.below (power_grows y b.hi (omega (arith, ints, q.above)) q.below);
  congruent = left_shift_congruent a b x y p q;
}

left_step_grows : (a b c d : Num) → IsBelow a c → IsBelow b d → (if d.step == 0 then c.step * power d.lo else 1) ∣ (if b.step == 0 then a.step * power b.lo else 1)
left_step_grows a b c d f g = by_tests (d.step == 0) (b.step == 0) refl refl
  where
    by_tests : (t u : Bool) → (d.step == 0) ≡ t → (b.step == 0) ≡ u → (if t then c.step * power d.lo else 1) ∣ (if u then a.step * power b.lo else 1)
    by_tests true true p q = subst (λ (k : ℤ). c.step * power d.lo ∣ a.step * power k) (sym (still_single b d g (eqb-true d.step 0 p)).1) (mul-dvd-mul_right c.step (step_divides a c f) (power d.lo))
    by_tests true false p q = absurd (eqb-false b.step 0 q (still_single b d g (eqb-true d.step 0 p)).0)
    by_tests false u p q = one-dvd (if u then a.step * power b.lo else 1)

pub left_shift_wider : (a b c d : Num) → pos 0 ≤ℤ c.lo → pos 0 ≤ℤ d.lo → IsBelow a c → IsBelow b d → IsWider (left_shift_row (written a) (written b)) (left_shift_row (written c) (written d))
left_shift_wider a b c d s t f g =
    let x = f a.lo (lo_holds a) in
    let y = g b.lo (lo_holds b) in
    let x' = f a.hi (hi_holds a) in
    let y' = g b.hi (hi_holds b) in
    let s' : pos 0 ≤ℤ a.lo = omega (arith, ints, x.above) in
    let t' : pos 0 ≤ℤ b.lo = omega (arith, ints, y.above) in
    wider_by (left_shift_row (written a) (written b)) (left_shift_row (written c) (written d)) (a.lo *ℤ pos (power b.lo))
    (left_shift_holds c d a.lo b.lo s t x y).above
    (left_shift_holds c d a.hi b.hi s t x' y').below
    (left_step_grows a b c d f g)
    (left_shift_holds a b a.lo b.lo s' t' (lo_holds a) (lo_holds b)).congruent
    (left_shift_holds c d a.lo b.lo s t x y).congruent

-- ---- to the right
pub shr_grows : (x y : ℤ) (k : ℕ) → x ≤ℤ y → int_shr x k ≤ℤ int_shr y k
shr_grows (pos a) (pos b) k h = let le = div_grows a b (2 ^ k) (power_some k) (omega (arith, ints)) in omega (arith, ints)
shr_grows (pos a) (negsuc b) k h = absurd (omega (arith, ints))
shr_grows (negsuc a) (pos b) k h = omega (arith, ints)
shr_grows (negsuc a) (negsuc b) k h = let le = div_grows b a (2 ^ k) (power_some k) (omega (arith, ints)) in omega (arith, ints)

amid_count : (x : ℤ) (k l j : ℕ) → k ≤ l → l ≤ j → IsAmid (int_shr x k) (int_shr x l) (int_shr x j)
amid_count (pos a) k l j p q =
    let u = div_falls a (2 ^ k) (2 ^ l) (power_some k) (pow_mono p) in
    let v = div_falls a (2 ^ l) (2 ^ j) (power_some l) (pow_mono q) in
    inr (omega (arith, ints), omega (arith, ints))
amid_count (negsuc a) k l j p q =
    let u = div_falls a (2 ^ k) (2 ^ l) (power_some k) (pow_mono p) in
    let v = div_falls a (2 ^ l) (2 ^ j) (power_some l) (pow_mono q) in
    inl (omega (arith, ints), omega (arith, ints))

pub right_shift_holds : (a b : Num) (x y : ℤ) → pos 0 ≤ℤ b.lo → Holds a x → Holds b y → IsIn (right_shift_row (written a) (written b)) (right_shift x y)
right_shift_holds a b x y t p q =
    let k : ℕ = unsigned_abs y in
    let low : unsigned_abs b.lo ≤ k = abs_order b.lo y t q.above in
    let high : k ≤ unsigned_abs b.hi = abs_order y b.hi (omega (arith, ints, q.above)) q.below in
    let across : IsAmid (right_shift a.lo y) (right_shift x y) (right_shift a.hi y) = inl (shr_grows a.lo x k p.above, shr_grows x a.hi k p.below) in
    let first = amid_count a.lo (unsigned_abs b.lo) k (unsigned_abs b.hi) low high in
    let last = amid_count a.hi (unsigned_abs b.lo) k (unsigned_abs b.hi) low high in
    record {
      above = above_least right_shift (written a) (written b) x y across first last;
      below = below_greatest right_shift (written a) (written b) x y across first last;
      congruent = one_congruent (pos 0) (right_shift x y);
    }

pub right_shift_wider : (a b c d : Num) → pos 0 ≤ℤ d.lo → IsBelow a c → IsBelow b d → IsWider (right_shift_row (written a) (written b)) (right_shift_row (written c) (written d))
right_shift_wider a b c d t f g =
    wider_by (right_shift_row (written a) (written b)) (right_shift_row (written c) (written d)) (pos 0)
    (least_corner_above right_shift a b (least_corner right_shift (written c) (written d)) (λ x y p q. (right_shift_holds c d x y t (f x p) (g y q)).above))
    (greatest_corner_below right_shift a b (greatest_corner right_shift (written c) (written d)) (λ x y p q. (right_shift_holds c d x y t (f x p) (g y q)).below))
    (one-dvd 1)
    (one_congruent (pos 0) (pos 0))
    (one_congruent (pos 0) (pos 0))
