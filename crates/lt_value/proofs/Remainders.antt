-- Remainders of members are among the row's numbers, and the row grows with the operands.
use Rattle.std.proofs.Common.{arith, ◌≡◌, refl, sym, ◌∙◌, ap, subst, ℕ, ℤ, pos, negsuc, suc, zero, ◌+ℤ◌, ◌-ℤ◌, ◌*ℤ◌, ◌≤ℤ◌, ◌-◌, ◌<◌, ◌≤◌, Bool, true, false}
use Rattle.std.specs.Prelude.{unsigned_abs, neg_ℤ, max, ◌==◌, if◌then◌else◌, int_lt, int_div, int_rem}
use Rattle.std.specs.Int.{◌∣◌, int_min, int_max}
use Rattle.std.proofs.lemmas.Int.{ints, clamps, by_lt_z, quot-rem, rem_below, unsigned_abs-mul}
use Rattle.std.proofs.lemmas.Bool.{eqb-true, eqb-false}
use Rattle.std.proofs.Math.Nat.{mod-le, one-dvd, dvd_trans, dvd_refl, dvd-mul_left}
use Rattle.lt_value.specs.Num.{Holds, IsBelow}
use Rattle.lt_value.specs.Entry.{IsIn, IsCongruent, written, rest_of, gcd_of}
use Rattle.lt_value.specs.Table.{remainder_row}
use Rattle.lt_value.specs.declared.num.Num.{Num}
use Rattle.lt_value.proofs.Orders.{lt_test, lt_fails}
use Rattle.lt_value.proofs.Members.{lo_holds, hi_holds, step_divides}
use Rattle.lt_value.proofs.Entries.{IsGcd-gcd_of, gcd_divides, member_congruent, one_member, one_congruent, IsCongruent-trans, IsCongruent-sym}
use Rattle.lt_value.proofs.Products.{still_single}
use Rattle.lt_value.proofs.Settled.{IsWider, wider_by}

-- the size of what lies between two numbers is at most the greater of theirs
size_between : (l y h : ℤ) → l ≤ℤ y → y ≤ℤ h → unsigned_abs y ≤ max (unsigned_abs l) (unsigned_abs h)
size_between l (pos n) (pos h) p q = omega (arith, ints)
size_between l (pos n) (negsuc h) p q = absurd (omega (arith, ints))
size_between (pos l) (negsuc n) h p q = absurd (omega (arith, ints))
size_between (negsuc l) (negsuc n) h p q = omega (arith, ints)

some_size : (y : ℤ) → (y ≡ pos 0 → ⊥) → 0 < unsigned_abs y
some_size (pos zero) ne = absurd (ne refl)
some_size (pos (suc n)) ne = omega arith
some_size (negsuc n) ne = omega arith

-- a remainder has the sign of the dividend, no greater size, and less than the divisor
record IsRemainder (x r : ℤ) (m : ℕ) : Type 0 where
  up_from : pos 0 ≤ℤ x → pos 0 ≤ℤ r
  up_to : pos 0 ≤ℤ x → r ≤ℤ x
  down_from : x ≤ℤ pos 0 → x ≤ℤ r
  down_to : x ≤ℤ pos 0 → r ≤ℤ pos 0
  low : neg_ℤ (pos m) ≤ℤ r
  high : r ≤ℤ pos m

negated_size : (r : ℕ) → unsigned_abs (neg_ℤ (pos r)) ≡ r
negated_size zero = refl
negated_size (suc r) = refl

of_size : (r : ℤ) (m : ℕ) → unsigned_abs r ≤ m → (neg_ℤ (pos m) ≤ℤ r) × (r ≤ℤ pos m)
of_size (pos n) m h = (omega (arith, ints), omega (arith, ints))
of_size (negsuc n) m h = (omega (arith, ints), omega (arith, ints))

remainder_is : (x y : ℤ) (m : ℕ) → (y ≡ pos 0 → ⊥) → unsigned_abs y - 1 ≤ m → IsRemainder x (int_rem x y) m
remainder_is (pos a) y m ne le =
    let small = rem_below (pos a) y (some_size y ne) in
    let near = mod-le a (unsigned_abs y) in
    let h = of_size (int_rem (pos a) y) m (omega arith) in
    record {
      up_from = λ p. omega (arith, ints);
      up_to = λ p. omega (arith, ints);
      down_from = λ p. omega (arith, ints);
      down_to = λ p. omega (arith, ints);
      low = h.0;
      high = h.1;
    }
remainder_is (negsuc a) y m ne le =
    let small = rem_below (negsuc a) y (some_size y ne) in
    let near = mod-le (suc a) (unsigned_abs y) in
    let h = of_size (int_rem (negsuc a) y) m (omega arith) in
    record {
      up_from = λ p. absurd (omega (arith, ints));
      up_to = λ p. absurd (omega (arith, ints));
      down_from = λ p. omega (arith, ints);
      down_to = λ p. omega (arith, ints);
      low = h.0;
      high = h.1;
    }

abbrev low_end : ℤ → ℤ → ℤ
low_end lo m = if int_lt lo (pos 0) then int_max lo (neg_ℤ m) else pos 0

abbrev high_end : ℤ → ℤ → ℤ
high_end hi m = if int_lt (pos 0) hi then int_min hi m else pos 0

low_end_is : (lo x r : ℤ) (m : ℕ) → lo ≤ℤ x → IsRemainder x r m → low_end lo (pos m) ≤ℤ r
low_end_is lo x r m p h =
    by_lt_z lo (pos 0)
    (λ less. rw (lt_test less) (by_lt_z x (pos 0)
    (λ down. omega (arith, ints, clamps, h.low, h.down_from (omega (arith, ints))))
    (λ up. omega (arith, ints, clamps, h.low, h.up_from up))))
    (λ more. rw (lt_fails more) (h.up_from (omega (arith, ints))))

high_end_is : (hi x r : ℤ) (m : ℕ) → x ≤ℤ hi → IsRemainder x r m → r ≤ℤ high_end hi (pos m)
high_end_is hi x r m p h =
    by_lt_z (pos 0) hi
    (λ less. rw (lt_test less) (by_lt_z x (pos 0)
    (λ down. omega (arith, ints, clamps, h.high, h.down_to (omega (arith, ints))))
    (λ up. omega (arith, ints, clamps, h.high, h.up_to up))))
    (λ more. rw (lt_fails more) (h.down_to (omega (arith, ints))))

low_end_falls : (l lo : ℤ) (m k : ℕ) → l ≤ℤ lo → m ≤ k → low_end l (pos k) ≤ℤ low_end lo (pos m)
low_end_falls l lo m k p q =
    by_lt_z lo (pos 0)
    (λ less. rw (lt_test less, lt_test {a = l} {b = pos 0} (omega (arith, ints))) (omega (arith, ints, clamps)))
    (λ more. by_lt_z l (pos 0)
    (λ less. rw (lt_fails more, lt_test less) (omega (arith, ints, clamps)))
    (λ all. rw (lt_fails more, lt_fails all) (omega (arith, ints))))

high_end_grows : (hi h : ℤ) (m k : ℕ) → hi ≤ℤ h → m ≤ k → high_end hi (pos m) ≤ℤ high_end h (pos k)
high_end_grows hi h m k p q =
    by_lt_z (pos 0) hi
    (λ less. rw (lt_test less, lt_test {a = pos 0} {b = h} (omega (arith, ints))) (omega (arith, ints, clamps)))
    (λ more. by_lt_z (pos 0) h
    (λ less. rw (lt_fails more, lt_test less) (omega (arith, ints, clamps)))
    (λ all. rw (lt_fails more, lt_fails all) (omega (arith, ints))))

-- a remainder is congruent to the dividend modulo the size of the divisor
remainder_congruent : (x y : ℤ) → IsCongruent (unsigned_abs y) (int_rem x y) x
remainder_congruent x y =
    let is : int_div x y *ℤ y ≡ x -ℤ int_rem x y = apart (int_div x y *ℤ y) (int_rem x y) x (quot-rem x y) in
    subst (λ (n : ℕ). unsigned_abs y ∣ n) (sym (unsigned_abs-mul (int_div x y) y) ∙ ap unsigned_abs is) (dvd-mul_left (unsigned_abs y) (unsigned_abs (int_div x y)))
  where
    apart : (a r x : ℤ) → a +ℤ r ≡ x → a ≡ x -ℤ r
    apart a r x e = omega (arith, ints)

row_congruent : (a b : Num) (x y : ℤ) → Holds a x → Holds b y → IsCongruent (if b.step == 0 then gcd_of a.step (unsigned_abs b.lo) else 1) (if b.step == 0 then rest_of a else pos 0) (int_rem x y)
row_congruent a b x y p q = by_test (b.step == 0) refl
  where
    by_test : (t : Bool) → (b.step == 0) ≡ t → IsCongruent (if t then gcd_of a.step (unsigned_abs b.lo) else 1) (if t then rest_of a else pos 0) (int_rem x y)
    by_test true e =
        let g : ℕ = gcd_of a.step (unsigned_abs b.lo) in
        let is : y ≡ b.lo = one_member b y (eqb-true b.step 0 e) q in
        let both = IsGcd-gcd_of a.step (unsigned_abs b.lo) in
        let near : IsCongruent g (int_rem x y) x = dvd_trans g both.1 (subst (λ (k : ℤ). IsCongruent (unsigned_abs k) (int_rem x y) x) is (remainder_congruent x y)) in
        IsCongruent-trans g (rest_of a) x (int_rem x y) (dvd_trans g both.0 (member_congruent a x p)) (IsCongruent-sym g (int_rem x y) x near)
    by_test false e = one_congruent (pos 0) (int_rem x y)

pub remainder_holds : (a b : Num) (x y : ℤ) → (y ≡ pos 0 → ⊥) → Holds a x → Holds b y → IsIn (remainder_row (written a) (written b)) (int_rem x y)
remainder_holds a b x y ne p q =
    let m : ℕ = max (unsigned_abs b.lo) (unsigned_abs b.hi) - 1 in
    let size = size_between b.lo y b.hi q.above q.below in
    let h : IsRemainder x (int_rem x y) m = remainder_is x y m ne (omega arith) in
    record {
      above = low_end_is a.lo x (int_rem x y) m p.above h;
      below = high_end_is a.hi x (int_rem x y) m p.below h;
      congruent = row_congruent a b x y p q;
    }

step_grows : (a b c d : Num) → IsBelow a c → IsBelow b d → (if d.step == 0 then gcd_of c.step (unsigned_abs d.lo) else 1) ∣ (if b.step == 0 then gcd_of a.step (unsigned_abs b.lo) else 1)
step_grows a b c d f g = by_tests (d.step == 0) (b.step == 0) refl refl
  where
    by_tests : (t u : Bool) → (d.step == 0) ≡ t → (b.step == 0) ≡ u → (if t then gcd_of c.step (unsigned_abs d.lo) else 1) ∣ (if u then gcd_of a.step (unsigned_abs b.lo) else 1)
    by_tests true true p q = subst (λ (k : ℤ). gcd_of c.step (unsigned_abs d.lo) ∣ gcd_of a.step (unsigned_abs k)) (sym (still_single b d g (eqb-true d.step 0 p)).1) (gcd_divides c.step (unsigned_abs d.lo) a.step (unsigned_abs d.lo) (step_divides a c f) (dvd_refl (unsigned_abs d.lo)))
    by_tests true false p q = absurd (eqb-false b.step 0 q (still_single b d g (eqb-true d.step 0 p)).0)
    by_tests false u p q = one-dvd (if u then gcd_of a.step (unsigned_abs b.lo) else 1)

pub remainder_wider : (a b c d : Num) (y : ℤ) → Holds b y → (y ≡ pos 0 → ⊥) → IsBelow a c → IsBelow b d → IsWider (remainder_row (written a) (written b)) (remainder_row (written c) (written d))
remainder_wider a b c d y q ne f g =
    let x = f a.lo (lo_holds a) in
    let x' = f a.hi (hi_holds a) in
    let l = g b.lo (lo_holds b) in
    let h = g b.hi (hi_holds b) in
    let low = size_between d.lo b.lo d.hi l.above l.below in
    let high = size_between d.lo b.hi d.hi h.above h.below in
    wider_by (remainder_row (written a) (written b)) (remainder_row (written c) (written d)) (int_rem a.lo y)
    (low_end_falls c.lo a.lo (max (unsigned_abs b.lo) (unsigned_abs b.hi) - 1) (max (unsigned_abs d.lo) (unsigned_abs d.hi) - 1) x.above (omega arith))
    (high_end_grows a.hi c.hi (max (unsigned_abs b.lo) (unsigned_abs b.hi) - 1) (max (unsigned_abs d.lo) (unsigned_abs d.hi) - 1) x'.below (omega arith))
    (step_grows a b c d f g)
    (remainder_holds a b a.lo y ne (lo_holds a) q).congruent
    (remainder_holds c d a.lo y ne x (g y q)).congruent
