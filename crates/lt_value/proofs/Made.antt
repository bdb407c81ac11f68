-- The entries that the code makes are the table's rows.
use Rattle.std.proofs.Common.{arith, ◌≡◌, refl, sym, ◌∙◌, ap, ap₂, subst, ℕ, ℤ, pos, negsuc, ◌+ℤ◌, ◌-ℤ◌, ◌*ℤ◌, ◌≤ℤ◌, ◌-◌, ◌*◌, ◌<◌, ◌≤◌, inl, inr, ◌^◌, ◌↔◌, Bool, true, false, ◌||◌, to_z, of_z}
use Rattle.std.specs.Prelude.{unsigned_abs, Option, IfSome, IfNone, if◌then◌else◌, ◌==◌}
use Rattle.std.specs.Int.{◌∣◌, int_min, int_max, IsGcd, w128}
use mir.Val.{SFits}
use Rattle.std.proofs.lemmas.Int.{ints, clamps, to_z-of_z, unsigned_abs-mul}
use Rattle.std.proofs.Math.Nat.{dvd-zero, dvd_refl, le_of_dvd, eq-zero-or-pos, eq-zero_of_zero-dvd, mul-le-mul_left, mul-le-mul_right}
use Rattle.lt_model.specs.declared.scalar.DataModel.{DataModel}
use Rattle.lt_model.specs.declared.scalar.Scalar.{Scalar}
use Rattle.lt_model.specs.Scalar.{is_signed, least_of, greatest_of, IsValue}
use Rattle.lt_model.proofs.Ranges.{Bounds, bounds_of, signed_abs}
use Rattle.lt_value.specs.Num.{Holds, IsExactly, IsEmpty}
use Rattle.lt_value.specs.Entry.{Entry, entry_of, IsIn, IsCongruent, IsSettled, is_within, gcd_of, written, rest_of}
use Rattle.lt_value.specs.Table.{product, sum_row, difference_row, product_row, product_step, least_corner, greatest_corner}
use Rattle.lt_value.specs.declared.num.Num.{Num}
use Rattle.lt_value.proofs.Members.{gap_is, lo_holds, hi_holds, apart_by_step, lo_fits, hi_fits}
use Rattle.lt_model.proofs.Whole.{abs_up}
use Rattle.lt_value.proofs.Entries.{gcd_is, one_congruent, IsCongruent-sym}
use Rattle.lt_value.proofs.Sums.{sum_holds, difference_holds}
use Rattle.lt_value.proofs.Products.{product_holds}
use Rattle.lt_value.proofs.Corners.{at_least_corner, four_least, four_greatest}
use Rattle.lt_value.proofs.Settled.{settled_wider, test_from_within}
use Rattle.lt_value.proofs.Settling.{some_as, none_as, settled_kept}
use Rattle.lt_value.proofs.MadeSettled.{unsigned_least}

-- a row, written with its least number in place of the rest
pub record IsMade (row : Entry) (lo hi : ℤ) (step : ℕ) : Type 0 where
  pub lo_is : lo ≡ row.lo
  pub hi_is : hi ≡ row.hi
  pub step_is : step ≡ row.step
  pub rest : IsCongruent row.step row.rest lo

made_settled : (m : DataModel) (s : Scalar) (row : Entry) (lo hi : ℤ) (step : ℕ) → IsMade row lo hi step → (z : ℤ) → IsSettled m s row z ↔ IsSettled m s (entry_of lo hi step lo) z
made_settled m s row lo hi step k z = (
  settled_wider m s row (entry_of lo hi step lo) z (record {
    low = omega (arith, ints, k.lo_is);
    high = omega (arith, ints, k.hi_is);
    step = subst (λ (n : ℕ). step ∣ n) k.step_is (dvd_refl step);
    rest = subst (λ (n : ℕ). IsCongruent n lo row.rest) (sym k.step_is) (IsCongruent-sym row.step row.rest lo k.rest);
  }),
  settled_wider m s (entry_of lo hi step lo) row z (record {
    low = omega (arith, ints, k.lo_is);
    high = omega (arith, ints, k.hi_is);
    step = subst (λ (n : ℕ). row.step ∣ n) (sym k.step_is) (dvd_refl row.step);
    rest = k.rest;
  }),
)

pub made_some : (m : DataModel) (s : Scalar) (row : Entry) (lo hi : ℤ) (step : ℕ) (o : Option Num) → IsMade row lo hi step → IfSome o (IsExactly (IsSettled m s (entry_of lo hi step lo))) → IfSome o (IsExactly (IsSettled m s row))
made_some m s row lo hi step o k = some_as (IsSettled m s (entry_of lo hi step lo)) (IsSettled m s row) o (made_settled m s row lo hi step k)

pub made_none : (m : DataModel) (s : Scalar) (row : Entry) (lo hi : ℤ) (step : ℕ) (o : Option Num) → IsMade row lo hi step → IfNone o (IsEmpty (IsSettled m s (entry_of lo hi step lo))) → IfNone o (IsEmpty (IsSettled m s row))
made_none m s row lo hi step o k = none_as (IsSettled m s (entry_of lo hi step lo)) (IsSettled m s row) o (made_settled m s row lo hi step k)

-- ---- sizes
pub gcd_below : (a b g n : ℕ) → IsGcd a b g → a < n → b < n → g < n
gcd_below a b g n d p q = elim (eq-zero-or-pos a) [
  | inl none ↦ elim (eq-zero-or-pos b) [
    | inl nothing ↦
        let zero_divides : 0 ∣ g = d.2 0 (subst (λ (k : ℕ). 0 ∣ k) (sym none) (dvd-zero 0)) (subst (λ (k : ℕ). 0 ∣ k) (sym nothing) (dvd-zero 0)) in
        omega (arith, eq-zero_of_zero-dvd zero_divides)
    | inr some ↦ omega (arith, le_of_dvd some d.1)
  ]
  | inr some ↦ omega (arith, le_of_dvd some d.0)
]

pub step_narrow : (m : DataModel) (s : Scalar) (n : Num) → IsValue m s n.lo → IsValue m s n.hi → n.step < 2 ^ 64
step_narrow m s n p q = elim (eq-zero-or-pos n.step) [
  | inl none ↦ omega arith
  | inr some ↦
      let (g, e) = gap_is n.lo n.hi n.canonical.ordered in
      let d : n.step ∣ g = apart_by_step n n.lo n.hi g (lo_holds n) (hi_holds n) e in
      let wide : n.step ≤ g = le_of_dvd (omega (arith, ints, n.canonical.several some)) d in
      let b : Bounds m s = bounds_of m s in
      omega (arith, ints, p.above, q.below, b.span, b.power)
]

pub value_size : (m : DataModel) (s : Scalar) (z : ℤ) → IsValue m s z → unsigned_abs z < 2 ^ 64
value_size m s z v =
    let b : Bounds m s = bounds_of m s in
    near z (omega (arith, ints, v.above, b.low)) (omega (arith, ints, v.below, b.high))
  where
    near : (z : ℤ) → negsuc (2 ^ 63 - 1) ≤ℤ z → z ≤ℤ pos (2 ^ 64 - 1) → unsigned_abs z < 2 ^ 64
    near (pos n) p q = omega (arith, ints)
    near (negsuc n) p q = omega (arith, ints)

pub product_small : (a b m n : ℕ) → a ≤ m → b ≤ n → a * b ≤ m * n
product_small a b m n p q =
    let first : a * b ≤ m * b = mul-le-mul_right b p in
    let second : m * b ≤ m * n = mul-le-mul_left m q in
    omega arith

-- ---- sums and differences
pub sum_made : (a b : Num) (lo hi : ℤ) (step : ℕ) → lo ≡ a.lo +ℤ b.lo → hi ≡ a.hi +ℤ b.hi → IsGcd a.step b.step step → IsMade (sum_row (written a) (written b)) lo hi step
sum_made a b lo hi step p q d = record {
  lo_is = p;
  hi_is = q;
  step_is = gcd_is a.step b.step step d;
  rest = subst (IsCongruent (gcd_of a.step b.step) (rest_of a +ℤ rest_of b)) (sym p) (sum_holds a b a.lo b.lo (lo_holds a) (lo_holds b)).congruent;
}

pub difference_made : (a b : Num) (lo hi : ℤ) (step : ℕ) → lo ≡ a.lo -ℤ b.hi → hi ≡ a.hi -ℤ b.lo → IsGcd a.step b.step step → IsMade (difference_row (written a) (written b)) lo hi step
difference_made a b lo hi step p q d = record {
  lo_is = p;
  hi_is = q;
  step_is = gcd_is a.step b.step step d;
  rest = subst (IsCongruent (gcd_of a.step b.step) (rest_of a -ℤ rest_of b)) (sym p) (difference_holds a b a.lo b.hi (lo_holds a) (hi_holds b)).congruent;
}

pub sum_code : (x y : ℤ) → negsuc (2 ^ 63 - 1) ≤ℤ x → x ≤ℤ pos (2 ^ 64 - 1) → negsuc (2 ^ 63 - 1) ≤ℤ y → y ≤ℤ pos (2 ^ 64 - 1) → to_z w128 (of_z w128 (to_z w128 (of_z w128 x) +ℤ to_z w128 (of_z w128 y))) ≡ x +ℤ y
sum_code x y p q r s = omega (arith, ints)

pub difference_code : (x y : ℤ) → negsuc (2 ^ 63 - 1) ≤ℤ x → x ≤ℤ pos (2 ^ 64 - 1) → negsuc (2 ^ 63 - 1) ≤ℤ y → y ≤ℤ pos (2 ^ 64 - 1) → to_z w128 (of_z w128 (to_z w128 (of_z w128 x) -ℤ to_z w128 (of_z w128 y))) ≡ x -ℤ y
difference_code x y p q r s = omega (arith, ints)

pub lo_most : (n : Num) → n.lo ≤ℤ pos (2 ^ 64 - 1)
lo_most n = omega (arith, ints, n.canonical.ordered, n.canonical.greatest)

pub hi_least : (n : Num) → negsuc (2 ^ 63 - 1) ≤ℤ n.hi
hi_least n = omega (arith, ints, n.canonical.ordered, n.canonical.least)

-- ---- products
pub product_made : (a b : Num) (lo hi : ℤ) (step : ℕ) → lo ≡ least_corner product (written a) (written b) → hi ≡ greatest_corner product (written a) (written b) → step ≡ product_step (written a) (written b) → IsMade (product_row (written a) (written b)) lo hi step
product_made a b lo hi step p q r = record {
  lo_is = p;
  hi_is = q;
  step_is = r;
  rest = subst (IsCongruent row.step row.rest) (sym p) (at_least_corner product a b (IsCongruent row.step row.rest) (λ x y h k. (product_holds a b x y h k).congruent));
}
  where
    row : Entry
    row = product_row (written a) (written b)

step_below : (t u : Bool) (a b m n : ℕ) → a < 2 ^ 64 → b < 2 ^ 64 → m ≤ 2 ^ 63 → n ≤ 2 ^ 63 → (if t then a * n else (if u then b * m else 1)) < 2 ^ 127
step_below true u a b m n p q r s = omega (arith, product_small a n (2 ^ 64 - 1) (2 ^ 63) (omega arith) s)
step_below false true a b m n p q r s = omega (arith, product_small b m (2 ^ 64 - 1) (2 ^ 63) (omega arith) r)
step_below false false a b m n p q r s = omega arith

pub product_step_small : (a b : Num) (step : ℕ) → step ≡ product_step (written a) (written b) → a.step < 2 ^ 64 → b.step < 2 ^ 64 → unsigned_abs a.lo ≤ 2 ^ 63 → unsigned_abs b.lo ≤ 2 ^ 63 → step < 2 ^ 127
product_step_small a b step e p q r s = subst (λ (k : ℕ). k < 2 ^ 127) (sym e) (step_below (b.step == 0) (a.step == 0) a.step b.step (unsigned_abs a.lo) (unsigned_abs b.lo) p q r s)

pub small_fits : (z : ℤ) → unsigned_abs z ≤ 2 ^ 126 → SFits w128 z
small_fits (pos n) h = omega (arith, ints)
small_fits (negsuc n) h = omega (arith, ints)

-- four products as the code computes them, and their span
pub record AreFour (f : ℤ → ℤ → ℤ) (a b : Num) (p q r t : ℤ) : Type 0 where
  pub first : p ≡ f (to_z w128 (of_z w128 a.lo)) (to_z w128 (of_z w128 b.lo))
  pub second : q ≡ f (to_z w128 (of_z w128 a.lo)) (to_z w128 (of_z w128 b.hi))
  pub third : r ≡ f (to_z w128 (of_z w128 a.hi)) (to_z w128 (of_z w128 b.lo))
  pub fourth : t ≡ f (to_z w128 (of_z w128 a.hi)) (to_z w128 (of_z w128 b.hi))
  pub first_fits : SFits w128 p
  pub second_fits : SFits w128 q
  pub third_fits : SFits w128 r
  pub fourth_fits : SFits w128 t

ends_code : (f : ℤ → ℤ → ℤ) (x y : ℤ) (p : ℤ) → SFits w128 x → SFits w128 y → p ≡ f (to_z w128 (of_z w128 x)) (to_z w128 (of_z w128 y)) → p ≡ f x y
ends_code f x y p g h e = e ∙ ap₂ f (to_z-of_z w128 x g) (to_z-of_z w128 y h)

pub least_is : (f : ℤ → ℤ → ℤ) (a b : Num) (p q r t lo : ℤ) → AreFour f a b p q r t → lo ≡ int_min (int_min (to_z w128 (of_z w128 p)) (to_z w128 (of_z w128 q))) (int_min (to_z w128 (of_z w128 r)) (to_z w128 (of_z w128 t))) → lo ≡ least_corner f (written a) (written b)
least_is f a b p q r t lo k e =
    let e1 : to_z w128 (of_z w128 p) ≡ f a.lo b.lo = to_z-of_z w128 p k.first_fits ∙ ends_code f a.lo b.lo p (lo_fits a) (lo_fits b) k.first in
    let e2 : to_z w128 (of_z w128 q) ≡ f a.lo b.hi = to_z-of_z w128 q k.second_fits ∙ ends_code f a.lo b.hi q (lo_fits a) (hi_fits b) k.second in
    let e3 : to_z w128 (of_z w128 r) ≡ f a.hi b.lo = to_z-of_z w128 r k.third_fits ∙ ends_code f a.hi b.lo r (hi_fits a) (lo_fits b) k.third in
    let e4 : to_z w128 (of_z w128 t) ≡ f a.hi b.hi = to_z-of_z w128 t k.fourth_fits ∙ ends_code f a.hi b.hi t (hi_fits a) (hi_fits b) k.fourth in
    e ∙ ap₂ int_min (ap₂ int_min e1 e2) (ap₂ int_min e3 e4)

pub greatest_is : (f : ℤ → ℤ → ℤ) (a b : Num) (p q r t hi : ℤ) → AreFour f a b p q r t → hi ≡ int_max (int_max (to_z w128 (of_z w128 p)) (to_z w128 (of_z w128 q))) (int_max (to_z w128 (of_z w128 r)) (to_z w128 (of_z w128 t))) → hi ≡ greatest_corner f (written a) (written b)
greatest_is f a b p q r t hi k e =
    let e1 : to_z w128 (of_z w128 p) ≡ f a.lo b.lo = to_z-of_z w128 p k.first_fits ∙ ends_code f a.lo b.lo p (lo_fits a) (lo_fits b) k.first in
    let e2 : to_z w128 (of_z w128 q) ≡ f a.lo b.hi = to_z-of_z w128 q k.second_fits ∙ ends_code f a.lo b.hi q (lo_fits a) (hi_fits b) k.second in
    let e3 : to_z w128 (of_z w128 r) ≡ f a.hi b.lo = to_z-of_z w128 r k.third_fits ∙ ends_code f a.hi b.lo r (hi_fits a) (lo_fits b) k.third in
    let e4 : to_z w128 (of_z w128 t) ≡ f a.hi b.hi = to_z-of_z w128 t k.fourth_fits ∙ ends_code f a.hi b.hi t (hi_fits a) (hi_fits b) k.fourth in
    e ∙ ap₂ int_max (ap₂ int_max e1 e2) (ap₂ int_max e3 e4)

-- a small one of four numbers
pub least_small : (p q r t lo : ℤ) → lo ≡ int_min (int_min (to_z w128 (of_z w128 p)) (to_z w128 (of_z w128 q))) (int_min (to_z w128 (of_z w128 r)) (to_z w128 (of_z w128 t))) → unsigned_abs p ≤ 2 ^ 126 → unsigned_abs q ≤ 2 ^ 126 → unsigned_abs r ≤ 2 ^ 126 → unsigned_abs t ≤ 2 ^ 126 → unsigned_abs lo ≤ 2 ^ 126
least_small p q r t lo e a b c d =
    let is : lo ≡ int_min (int_min p q) (int_min r t) = e ∙ ap₂ int_min (ap₂ int_min (to_z-of_z w128 p (small_fits p a)) (to_z-of_z w128 q (small_fits q b))) (ap₂ int_min (to_z-of_z w128 r (small_fits r c)) (to_z-of_z w128 t (small_fits t d))) in
    subst (λ (z : ℤ). unsigned_abs z ≤ 2 ^ 126) (sym is) (four_least (λ (z : ℤ). unsigned_abs z ≤ 2 ^ 126) p q r t a b c d)

-- products of numbers that aren't negative go from the least to the greatest
pub natural_corners : (a b : Num) → pos 0 ≤ℤ a.lo → pos 0 ≤ℤ b.lo → (pos (unsigned_abs a.lo * unsigned_abs b.lo) ≡ least_corner product (written a) (written b)) × (pos (unsigned_abs a.hi * unsigned_abs b.hi) ≡ greatest_corner product (written a) (written b))
natural_corners a b p q = corners (unsigned_abs a.lo) (unsigned_abs a.hi) (unsigned_abs b.lo) (unsigned_abs b.hi) a.lo a.hi b.lo b.hi
    (sym (abs_up a.lo p)) (sym (abs_up a.hi (omega (arith, ints, a.canonical.ordered)))) (sym (abs_up b.lo q)) (sym (abs_up b.hi (omega (arith, ints, b.canonical.ordered))))
    (omega (arith, ints, a.canonical.ordered, abs_up a.lo p, abs_up a.hi (omega (arith, ints, a.canonical.ordered)))) (omega (arith, ints, b.canonical.ordered, abs_up b.lo q, abs_up b.hi (omega (arith, ints, b.canonical.ordered))))
  where
    four : (x y z w : ℕ) → x ≤ y → x ≤ z → y ≤ w → z ≤ w → (pos x ≡ int_min (int_min (pos x) (pos y)) (int_min (pos z) (pos w))) × (pos w ≡ int_max (int_max (pos x) (pos y)) (int_max (pos z) (pos w)))
    four x y z w p q r s = (omega (arith, ints, clamps), omega (arith, ints, clamps))

    corners : (al ah bl bh : ℕ) (x y z w : ℤ) → x ≡ pos al → y ≡ pos ah → z ≡ pos bl → w ≡ pos bh → al ≤ ah → bl ≤ bh
        → (pos (al * bl) ≡ int_min (int_min (x *ℤ z) (x *ℤ w)) (int_min (y *ℤ z) (y *ℤ w))) × (pos (ah * bh) ≡ int_max (int_max (x *ℤ z) (x *ℤ w)) (int_max (y *ℤ z) (y *ℤ w)))
    corners al ah bl bh x y z w e f g h le more =
        rw (e, f, g, h) (four (al * bl) (al * bh) (ah * bl) (ah * bh) (mul-le-mul_left al more) (mul-le-mul_right bl le) (mul-le-mul_right bh le) (mul-le-mul_left ah more))

-- ---- rows that fit
pub within_settled : (m : DataModel) (s : Scalar) (row : Entry) → least_of m s ≤ℤ row.lo → row.hi ≤ℤ greatest_of m s → (z : ℤ) → IsSettled m s row z ↔ IsIn row z
within_settled m s row p q z =
    let k = settled_kept m s row (is_signed m s || is_within m s row) refl (either_true (is_signed m s) (is_within m s row) (test_from_within m s row p q)) z in (
      λ h. (k.0 h).0,
      λ h. k.1 (h, record { above = omega (arith, ints, h.above); below = omega (arith, ints, h.below) }),
    )
  where
    either_true : (a b : Bool) → b ≡ true → (a || b) ≡ true
    either_true true b e = refl
    either_true false b e = e

pub ones_settled : (m : DataModel) (s : Scalar) (lo hi : ℤ) → least_of m s ≤ℤ lo → hi ≤ℤ greatest_of m s → (z : ℤ) → IsSettled m s (entry_of lo hi 1 (pos 0)) z ↔ ((lo ≤ℤ z) × (z ≤ℤ hi))
ones_settled m s lo hi p q z =
    let k = within_settled m s (entry_of lo hi 1 (pos 0)) p q z in (
      λ h. ((k.0 h).above, (k.0 h).below),
      λ h. k.1 (record { above = h.0; below = h.1; congruent = one_congruent (pos 0) z }),
    )

-- the numbers between the ends that the code makes
pub ones_made : (m : DataModel) (s : Scalar) (n : Num) (lo hi lo' hi' : ℤ) → least_of m s ≤ℤ lo → hi ≤ℤ greatest_of m s → lo' ≡ lo → hi' ≡ hi → ((z : ℤ) → Holds n z ↔ ((lo' ≤ℤ z) × (z ≤ℤ hi'))) → IsExactly (IsSettled m s (entry_of lo hi 1 (pos 0))) n
ones_made m s n lo hi lo' hi' p q e f is z =
    let k = ones_settled m s lo hi p q z in (
      λ h. let r = (is z).0 h in k.1 (omega (arith, ints, r.0), omega (arith, ints, r.1)),
      λ h. let r = k.0 h in (is z).1 (omega (arith, ints, r.0), omega (arith, ints, r.1)),
    )

pub product_size : (x y z : ℤ) → z ≡ x *ℤ y → unsigned_abs x ≤ 2 ^ 63 → unsigned_abs y ≤ 2 ^ 63 → unsigned_abs z ≤ 2 ^ 126
product_size x y z e p q =
    let is : unsigned_abs z ≡ unsigned_abs x * unsigned_abs y = ap unsigned_abs e ∙ unsigned_abs-mul x y in
    omega (arith, product_small (unsigned_abs x) (unsigned_abs y) (2 ^ 63) (2 ^ 63) p q)

pub natural_order : (a b : Num) → pos 0 ≤ℤ a.lo → pos 0 ≤ℤ b.lo → unsigned_abs a.lo * unsigned_abs b.lo ≤ unsigned_abs a.hi * unsigned_abs b.hi
natural_order a b p q =
    product_small (unsigned_abs a.lo) (unsigned_abs b.lo) (unsigned_abs a.hi) (unsigned_abs b.hi)
    (omega (arith, ints, a.canonical.ordered, abs_up a.lo p, abs_up a.hi (omega (arith, ints, a.canonical.ordered)))) (omega (arith, ints, b.canonical.ordered, abs_up b.lo q, abs_up b.hi (omega (arith, ints, b.canonical.ordered))))

-- ---- as the code computes them
pub min_fits : (a b : ℤ) → SFits w128 a → SFits w128 b → SFits w128 (int_min a b)
min_fits a b p q = omega (arith, ints, clamps)

pub max_fits : (a b : ℤ) → SFits w128 a → SFits w128 b → SFits w128 (int_max a b)
max_fits a b p q = omega (arith, ints, clamps)

pub min_code : (a b c d x y z : ℤ) → SFits w128 a → SFits w128 b → SFits w128 c → SFits w128 d → x ≡ int_min (to_z w128 (of_z w128 a)) (to_z w128 (of_z w128 b)) → y ≡ int_min (to_z w128 (of_z w128 c)) (to_z w128 (of_z w128 d)) → z ≡ int_min (to_z w128 (of_z w128 x)) (to_z w128 (of_z w128 y)) → to_z w128 (of_z w128 z) ≡ int_min (int_min a b) (int_min c d)
min_code a b c d x y z p q r s e f g =
    let e' : x ≡ int_min a b = e ∙ ap₂ int_min (to_z-of_z w128 a p) (to_z-of_z w128 b q) in
    let f' : y ≡ int_min c d = f ∙ ap₂ int_min (to_z-of_z w128 c r) (to_z-of_z w128 d s) in
    let x_fits : SFits w128 x = subst (SFits w128) (sym e') (min_fits a b p q) in
    let y_fits : SFits w128 y = subst (SFits w128) (sym f') (min_fits c d r s) in
    let is : z ≡ int_min (int_min a b) (int_min c d) = g ∙ ap₂ int_min (to_z-of_z w128 x x_fits ∙ e') (to_z-of_z w128 y y_fits ∙ f') in
    to_z-of_z w128 z (subst (SFits w128) (sym is) (min_fits (int_min a b) (int_min c d) (min_fits a b p q) (min_fits c d r s))) ∙ is

pub max_code : (a b c d x y z : ℤ) → SFits w128 a → SFits w128 b → SFits w128 c → SFits w128 d → x ≡ int_max (to_z w128 (of_z w128 a)) (to_z w128 (of_z w128 b)) → y ≡ int_max (to_z w128 (of_z w128 c)) (to_z w128 (of_z w128 d)) → z ≡ int_max (to_z w128 (of_z w128 x)) (to_z w128 (of_z w128 y)) → to_z w128 (of_z w128 z) ≡ int_max (int_max a b) (int_max c d)
max_code a b c d x y z p q r s e f g =
    let e' : x ≡ int_max a b = e ∙ ap₂ int_max (to_z-of_z w128 a p) (to_z-of_z w128 b q) in
    let f' : y ≡ int_max c d = f ∙ ap₂ int_max (to_z-of_z w128 c r) (to_z-of_z w128 d s) in
    let x_fits : SFits w128 x = subst (SFits w128) (sym e') (max_fits a b p q) in
    let y_fits : SFits w128 y = subst (SFits w128) (sym f') (max_fits c d r s) in
    let is : z ≡ int_max (int_max a b) (int_max c d) = g ∙ ap₂ int_max (to_z-of_z w128 x x_fits ∙ e') (to_z-of_z w128 y y_fits ∙ f') in
    to_z-of_z w128 z (subst (SFits w128) (sym is) (max_fits (int_max a b) (int_max c d) (max_fits a b p q) (max_fits c d r s))) ∙ is

corner_fits : (f : ℤ → ℤ → ℤ) (a b : Num) (p q r t : ℤ) → AreFour f a b p q r t → (SFits w128 (f a.lo b.lo) × SFits w128 (f a.lo b.hi)) × (SFits w128 (f a.hi b.lo) × SFits w128 (f a.hi b.hi))
corner_fits f a b p q r t k = (
  (subst (SFits w128) (ends_code f a.lo b.lo p (lo_fits a) (lo_fits b) k.first) k.first_fits, subst (SFits w128) (ends_code f a.lo b.hi q (lo_fits a) (hi_fits b) k.second) k.second_fits),
  (subst (SFits w128) (ends_code f a.hi b.lo r (hi_fits a) (lo_fits b) k.third) k.third_fits, subst (SFits w128) (ends_code f a.hi b.hi t (hi_fits a) (hi_fits b) k.fourth) k.fourth_fits),
)

pub least_span : (f : ℤ → ℤ → ℤ) (a b : Num) (p q r t lo : ℤ) → AreFour f a b p q r t → lo ≡ int_min (int_min (to_z w128 (of_z w128 p)) (to_z w128 (of_z w128 q))) (int_min (to_z w128 (of_z w128 r)) (to_z w128 (of_z w128 t))) → to_z w128 (of_z w128 lo) ≡ least_corner f (written a) (written b)
least_span f a b p q r t lo k e =
    let is : lo ≡ least_corner f (written a) (written b) = least_is f a b p q r t lo k e in
    let h = corner_fits f a b p q r t k in
    let fits : SFits w128 lo = subst (SFits w128) (sym is) (four_least (SFits w128) (f a.lo b.lo) (f a.lo b.hi) (f a.hi b.lo) (f a.hi b.hi) h.0.0 h.0.1 h.1.0 h.1.1) in
    to_z-of_z w128 lo fits ∙ is

pub greatest_span : (f : ℤ → ℤ → ℤ) (a b : Num) (p q r t hi : ℤ) → AreFour f a b p q r t → hi ≡ int_max (int_max (to_z w128 (of_z w128 p)) (to_z w128 (of_z w128 q))) (int_max (to_z w128 (of_z w128 r)) (to_z w128 (of_z w128 t))) → to_z w128 (of_z w128 hi) ≡ greatest_corner f (written a) (written b)
greatest_span f a b p q r t hi k e =
    let is : hi ≡ greatest_corner f (written a) (written b) = greatest_is f a b p q r t hi k e in
    let h = corner_fits f a b p q r t k in
    let fits : SFits w128 hi = subst (SFits w128) (sym is) (four_greatest (SFits w128) (f a.lo b.lo) (f a.lo b.hi) (f a.hi b.lo) (f a.hi b.hi) h.0.0 h.0.1 h.1.0 h.1.1) in
    to_z-of_z w128 hi fits ∙ is

pub same_size : (z : ℤ) → unsigned_abs z ≤ 2 ^ 126 → unsigned_abs (to_z w128 (of_z w128 z)) ≤ 2 ^ 126
same_size z h = subst (λ (k : ℤ). unsigned_abs k ≤ 2 ^ 126) (sym (to_z-of_z w128 z (small_fits z h))) h

-- ---- numbers of an unsigned type
pub natural : (m : DataModel) (s : Scalar) (z : ℤ) → is_signed m s ≡ false → IsValue m s z → pos 0 ≤ℤ z
natural m s z e v = subst (λ (l : ℤ). l ≤ℤ z) (unsigned_least m s e) v.above

pub lo_size : (n : Num) (k : ℕ) → k ≡ unsigned_abs (to_z w128 (of_z w128 n.lo)) → k ≡ unsigned_abs n.lo
lo_size n k e = e ∙ ap unsigned_abs (to_z-of_z w128 n.lo (lo_fits n))

pub hi_size : (n : Num) (k : ℕ) → k ≡ unsigned_abs (to_z w128 (of_z w128 n.hi)) → k ≡ unsigned_abs n.hi
hi_size n k e = e ∙ ap unsigned_abs (to_z-of_z w128 n.hi (hi_fits n))

pub sizes_order : (a b : Num) (k l m n : ℕ) → pos 0 ≤ℤ a.lo → pos 0 ≤ℤ b.lo → k ≡ unsigned_abs a.lo → l ≡ unsigned_abs b.lo → m ≡ unsigned_abs a.hi → n ≡ unsigned_abs b.hi → k * l ≤ m * n
sizes_order a b k l m n p q e f g h = rw (e, f, g, h) (natural_order a b p q)

abbrev mul : ℕ → ℕ → ℕ
mul x y = x * y

pub natural_made : (a b : Num) (k l m n step : ℕ) → pos 0 ≤ℤ a.lo → pos 0 ≤ℤ b.lo → k ≡ unsigned_abs a.lo → l ≡ unsigned_abs b.lo → m ≡ unsigned_abs a.hi → n ≡ unsigned_abs b.hi → step ≡ product_step (written a) (written b) → IsMade (product_row (written a) (written b)) (pos (k * l)) (pos (m * n)) step
natural_made a b k l m n step p q e f g h s =
    let c = natural_corners a b p q in
    product_made a b (pos (k * l)) (pos (m * n)) step (ap pos (ap₂ mul e f) ∙ c.0) (ap pos (ap₂ mul g h) ∙ c.1) s

-- a value of a signed type as the code reads it is at most 2 ^ 63 from zero
pub signed_size : (m : DataModel) (s : Scalar) (z : ℤ) → is_signed m s ≡ true → IsValue m s z → unsigned_abs (to_z w128 (of_z w128 z)) ≤ 2 ^ 63
signed_size m s z signed v =
    let h : unsigned_abs z ≤ 2 ^ 63 = signed_abs m s z signed v in
    subst (λ (k : ℤ). unsigned_abs k ≤ 2 ^ 63) (sym (to_z-of_z w128 z (small_fits z (omega arith)))) h
