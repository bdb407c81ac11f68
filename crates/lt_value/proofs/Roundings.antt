-- Rounded sets: the ends move to one place each, what is rounded stays, greater sets give greater ones, and chains of them end.
use Rattle.std.proofs.Common.{arith, ◌≡◌, sym, subst, ℕ, ℤ, pos, negsuc, ◌+ℤ◌, ◌-ℤ◌, ◌≤ℤ◌, ◌-◌, ◌^◌, inl, inr, List}
use Rattle.std.specs.Prelude.{unsigned_abs}
use Rattle.std.specs.Int.{◌∣◌, w128}
use mir.Val.{SFits}
use Rattle.std.proofs.lemmas.Int.{ints, by_lt_z}
use Rattle.std.proofs.Math.Nat.{dvd-zero, dvd_trans, eq-zero-or-pos}
use Rattle.lt_value.specs.declared.num.Num.{Num}
use Rattle.lt_value.specs.Num.{Holds, IsBelow, IsExactly}
use Rattle.lt_value.specs.Entry.{entry_of, rest_of, IsCongruent, IsIn}
use Rattle.lt_value.specs.Rounding.{IsLowEnd, IsHighEnd, IsRounded}
use Rattle.lt_value.proofs.Members.{lo_holds, hi_holds, second_holds, step_divides}
use Rattle.lt_value.proofs.Entries.{member_congruent, IsCongruent-trans, IsCongruent-sym, congruent_by}
use Rattle.lt_value.proofs.Conversions.{rests_agree}

-- ---- the ends
pub low_under : (ts : List ℤ) (lo low : ℤ) → negsuc (2 ^ 63 - 1) ≤ℤ lo → IsLowEnd ts lo low → (low ≤ℤ lo) × (negsuc (2 ^ 63 - 1) ≤ℤ low)
low_under ts lo low least (inl h) = (h.0.1, h.0.0.1)
low_under ts lo low least (inr h) = (omega (arith, ints, h.0), omega (arith, ints, h.0))

pub high_over : (ts : List ℤ) (hi high : ℤ) → hi ≤ℤ pos (2 ^ 64 - 1) → IsHighEnd ts hi high → (hi ≤ℤ high) × (high ≤ℤ pos (2 ^ 64 - 1))
high_over ts hi high greatest (inl h) = (h.0.1, h.0.0.2)
high_over ts hi high greatest (inr h) = (omega (arith, ints, h.0), omega (arith, ints, h.0))

pub low_fits : (ts : List ℤ) (n : Num) (low : ℤ) → IsLowEnd ts n.lo low → SFits w128 low
low_fits ts n low h = let k = low_under ts n.lo low n.canonical.least h in omega (arith, ints, k.0, k.1, n.canonical.ordered, n.canonical.greatest)

pub high_fits : (ts : List ℤ) (n : Num) (high : ℤ) → IsHighEnd ts n.hi high → SFits w128 high
high_fits ts n high h = let k = high_over ts n.hi high n.canonical.greatest h in omega (arith, ints, k.0, k.1, n.canonical.ordered, n.canonical.least)

-- a lower number goes no higher
low_along : (ts : List ℤ) (x y low_x low_y : ℤ) → y ≤ℤ x → IsLowEnd ts x low_x → IsLowEnd ts y low_y → low_y ≤ℤ low_x
low_along ts x y low_x low_y le (inl p) (inl q) = p.1 low_y (q.0.0, omega (arith, ints, q.0.1))
low_along ts x y low_x low_y le (inl p) (inr q) = by_lt_z low_x y (λ less. absurd (q.1 low_x (p.0.0, omega (arith, ints)))) (λ more. omega (arith, ints, q.0))
low_along ts x y low_x low_y le (inr p) (inl q) = absurd (p.1 low_y (q.0.0, omega (arith, ints, q.0.1)))
low_along ts x y low_x low_y le (inr p) (inr q) = omega (arith, ints, p.0, q.0)

high_along : (ts : List ℤ) (x y high_x high_y : ℤ) → x ≤ℤ y → IsHighEnd ts x high_x → IsHighEnd ts y high_y → high_x ≤ℤ high_y
high_along ts x y high_x high_y le (inl p) (inl q) = p.1 high_y (q.0.0, omega (arith, ints, q.0.1))
high_along ts x y high_x high_y le (inl p) (inr q) = by_lt_z y high_x (λ less. absurd (q.1 high_x (p.0.0, omega (arith, ints)))) (λ more. omega (arith, ints, q.0))
high_along ts x y high_x high_y le (inr p) (inl q) = absurd (p.1 high_y (q.0.0, omega (arith, ints, q.0.1)))
high_along ts x y high_x high_y le (inr p) (inr q) = omega (arith, ints, p.0, q.0)

pub one_low : (ts : List ℤ) (lo x y : ℤ) → IsLowEnd ts lo x → IsLowEnd ts lo y → x ≡ y
one_low ts lo x y p q = omega (arith, ints, low_along ts lo lo x y (omega (arith, ints)) p q, low_along ts lo lo y x (omega (arith, ints)) q p)

pub one_high : (ts : List ℤ) (hi x y : ℤ) → IsHighEnd ts hi x → IsHighEnd ts hi y → x ≡ y
one_high ts hi x y p q = omega (arith, ints, high_along ts hi hi x y (omega (arith, ints)) p q, high_along ts hi hi y x (omega (arith, ints)) q p)

-- a number between an end and where it moves goes to the same place
low_again : (ts : List ℤ) (lo low x : ℤ) → low ≤ℤ x → x ≤ℤ lo → IsLowEnd ts lo low → IsLowEnd ts x low
low_again ts lo low x p q (inl h) = inl ((h.0.0, p), λ t k. h.1 t (k.0, omega (arith, ints, k.1)))
low_again ts lo low x p q (inr h) = inr (omega (arith, ints, h.0), λ t k. h.1 t (k.0, omega (arith, ints, k.1)))

high_again : (ts : List ℤ) (hi high x : ℤ) → hi ≤ℤ x → x ≤ℤ high → IsHighEnd ts hi high → IsHighEnd ts x high
high_again ts hi high x p q (inl h) = inl ((h.0.0, q), λ t k. h.1 t (k.0, omega (arith, ints, k.1)))
high_again ts hi high x p q (inr h) = inr (omega (arith, ints, h.0), λ t k. h.1 t (k.0, omega (arith, ints, k.1)))

-- ---- a rounded set is above
pub member_rounded : (ts : List ℤ) (n : Num) (low high z : ℤ) → IsLowEnd ts n.lo low → IsHighEnd ts n.hi high → Holds n z → IsRounded ts n z
member_rounded ts n low high z p q h = record {
  low = low;
  high = high;
  low_is = p;
  high_is = q;
  among = record {
    above = omega (arith, ints, h.above, (low_under ts n.lo low n.canonical.least p).0);
    below = omega (arith, ints, h.below, (high_over ts n.hi high n.canonical.greatest q).0);
    congruent = member_congruent n z h;
  };
}

-- the ends as the code has them, and the least member for the rest
pub rounded_as : (ts : List ℤ) (n r : Num) (low high low' high' lo : ℤ) → low' ≡ low → high' ≡ high → lo ≡ n.lo → IsLowEnd ts n.lo low → IsHighEnd ts n.hi high → IsExactly (IsIn (entry_of low' high' n.step lo)) r → IsExactly (IsRounded ts n) r
rounded_as ts n r low high low' high' lo e f g p q is z = (
  λ h.
      let k = (is z).0 h in
      record {
        low = low;
        high = high;
        low_is = p;
        high_is = q;
        among = record { above = omega (arith, ints, k.above); below = omega (arith, ints, k.below); congruent = IsCongruent-trans n.step (rest_of n) lo z here k.congruent };
      },
  λ h.
      (is z).1 (record {
        above = omega (arith, ints, h.among.above, one_low ts n.lo low h.low p h.low_is);
        below = omega (arith, ints, h.among.below, one_high ts n.hi high h.high q h.high_is);
        congruent = IsCongruent-trans n.step lo (rest_of n) z (IsCongruent-sym n.step (rest_of n) lo here) h.among.congruent;
      }),
)
  where
    here : IsCongruent n.step (rest_of n) lo
    here = subst (IsCongruent n.step (rest_of n)) (sym g) (member_congruent n n.lo (lo_holds n))

-- the least member is among what the code makes
pub some_rounded : (ts : List ℤ) (n : Num) (low high low' high' lo : ℤ) → low' ≡ low → high' ≡ high → lo ≡ n.lo → IsLowEnd ts n.lo low → IsHighEnd ts n.hi high → IsIn (entry_of low' high' n.step lo) n.lo
some_rounded ts n low high low' high' lo e f g p q = record {
  above = omega (arith, ints, (low_under ts n.lo low n.canonical.least p).0);
  below = omega (arith, ints, (high_over ts n.hi high n.canonical.greatest q).0, n.canonical.ordered);
  congruent = IsCongruent-trans n.step lo (rest_of n) n.lo (IsCongruent-sym n.step (rest_of n) lo (subst (IsCongruent n.step (rest_of n)) (sym g) (member_congruent n n.lo (lo_holds n)))) (member_congruent n n.lo (lo_holds n));
}

-- ---- greater sets give greater ones
pub rounded_monotone : (ts : List ℤ) (a b : Num) (low high z : ℤ) → IsBelow a b → IsLowEnd ts b.lo low → IsHighEnd ts b.hi high → IsRounded ts a z → IsRounded ts b z
rounded_monotone ts a b low high z below p q h = record {
  low = low;
  high = high;
  low_is = p;
  high_is = q;
  among = record {
    above = omega (arith, ints, h.among.above, low_along ts a.lo b.lo h.low low (below a.lo (lo_holds a)).above h.low_is p);
    below = omega (arith, ints, h.among.below, high_along ts a.hi b.hi h.high high (below a.hi (hi_holds a)).below h.high_is q);
    congruent = congruent_by a.step b.step (rest_of a) (rest_of b) z (step_divides a b below) (rests_agree a b below) h.among.congruent;
  };
}

-- ---- what is rounded stays
-- the members of r are congruent by the step of n, so that this divides the step of r
rounded_step : (ts : List ℤ) (n r : Num) → IsExactly (IsRounded ts n) r → n.step ∣ r.step
rounded_step ts n r is = elim (eq-zero-or-pos r.step) [
  | inl none ↦ subst (λ (k : ℕ). n.step ∣ k) (sym none) (dvd-zero n.step)
  | inr some ↦
      let p : IsCongruent n.step (rest_of n) r.lo = ((is r.lo).0 (lo_holds r)).among.congruent in
      let q : IsCongruent n.step (rest_of n) (r.lo +ℤ pos r.step) = ((is (r.lo +ℤ pos r.step)).0 (second_holds r some)).among.congruent in
      subst (λ (z : ℤ). n.step ∣ unsigned_abs z) (apart r.lo (pos r.step)) (IsCongruent-trans n.step r.lo (rest_of n) (r.lo +ℤ pos r.step) (IsCongruent-sym n.step (rest_of n) r.lo p) q)
]
  where
    apart : (x y : ℤ) → (x +ℤ y) -ℤ x ≡ y
    apart x y = omega (arith, ints)

pub rounded_again : (ts : List ℤ) (n r : Num) → IsExactly (IsRounded ts n) r → IsExactly (IsRounded ts r) r
rounded_again ts n r is z = (member_rounded ts r first.low first.high z low_is high_is, back)
  where
    first : IsRounded ts n r.lo
    first = (is r.lo).0 (lo_holds r)

    last : IsRounded ts n r.hi
    last = (is r.hi).0 (hi_holds r)

    here : IsBelow n r
    here y h = (is y).1 (member_rounded ts n first.low first.high y first.low_is first.high_is h)

    low_is : IsLowEnd ts r.lo first.low
    low_is = low_again ts n.lo first.low r.lo first.among.above (here n.lo (lo_holds n)).above first.low_is

    high_is : IsHighEnd ts r.hi first.high
    high_is =
        high_again ts n.hi first.high r.hi (here n.hi (hi_holds n)).below
        (omega (arith, ints, last.among.below, one_high ts n.hi first.high last.high first.high_is last.high_is)) first.high_is

    back : IsRounded ts r z → Holds r z
    back h =
        (is z).1 (record {
          low = first.low;
          high = first.high;
          low_is = first.low_is;
          high_is = first.high_is;
          among = record {
            above = omega (arith, ints, h.among.above, one_low ts r.lo first.low h.low low_is h.low_is);
            below = omega (arith, ints, h.among.below, one_high ts r.hi first.high h.high high_is h.high_is);
            congruent =
                congruent_by r.step n.step (rest_of r) (rest_of n) z (rounded_step ts n r is)
                (IsCongruent-trans n.step (rest_of n) r.lo (rest_of r) first.among.congruent
                (IsCongruent-sym n.step (rest_of r) r.lo (dvd_trans n.step (rounded_step ts n r is) (member_congruent r r.lo (lo_holds r)))))
                h.among.congruent;
          };
        })
