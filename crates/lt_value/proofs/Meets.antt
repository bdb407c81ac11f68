-- The meet of two `Num`s.
use Rattle.std.proofs.Common.{arith, ◌≡◌, sym, ◌∙◌, subst, ℕ, ℤ, pos, negsuc, ◌+ℤ◌, ◌-ℤ◌, ◌≤ℤ◌, ◌<ℤ◌, ◌+◌, ◌-◌, ◌^◌, ◌≤◌, ◌⊎◌, inl, inr, ◌↔◌, true}
use Rattle.std.specs.Prelude.{int_lt as lt_z}
use Rattle.std.specs.Int.{◌∣◌, int_min}
use Rattle.std.proofs.lemmas.Int.{ints, clamps}
use Rattle.std.proofs.Math.Nat.{dvd-zero, one-dvd, dvd_refl, dvd_trans, dvd-add, dvd-sub, eq-zero-or-pos, eq-zero_of_zero-dvd}
use Rattle.std.specs.Int.{w128}
use Rattle.std.proofs.Common.{to_z, of_z}
use mir.Val.{SFits}
use Rattle.std.proofs.lemmas.Int.{to_z-of_z}
use Rattle.lt_value.specs.Offsets.{IsGreatestMultiple}
use Rattle.lt_value.proofs.Members.{lo_fits, hi_fits}
use Rattle.lt_value.specs.Progression.{AreEnds}
use Rattle.lt_value.specs.Num.{Holds, IsMeet, AreApart, IsAlong, IsRun}
use Rattle.lt_value.specs.Offsets.{IsCommon, IsFirstCommon, IsCommonStep}
use Rattle.lt_value.specs.declared.num.Num.{Num}
use Rattle.lt_value.proofs.Members.{gap_is, apart_by_step, holds_by_step, lo_holds}

-- a member of both, as an offset from the least of a
common_from_both : (a b : Num) (hi z : ℤ) (gap room y : ℕ) → hi ≡ int_min a.hi b.hi → pos gap ≡ a.lo -ℤ b.lo → pos room ≡ hi -ℤ a.lo → pos y ≡ z -ℤ a.lo → Holds a z → Holds b z → IsCommon a.step b.step gap room y
common_from_both a b hi z gap room y h g r e p q = record {
  within = omega (arith, ints, clamps, h, p.below, q.below);
  by_first = apart_by_step a a.lo z y (lo_holds a) p e;
  by_second = apart_by_step b b.lo z (gap + y) (lo_holds b) q (omega (arith, ints));
}

both_from_common : (a b : Num) (hi z : ℤ) (gap room y : ℕ) → hi ≡ int_min a.hi b.hi → pos gap ≡ a.lo -ℤ b.lo → pos room ≡ hi -ℤ a.lo → pos y ≡ z -ℤ a.lo → IsCommon a.step b.step gap room y → Holds a z × Holds b z
both_from_common a b hi z gap room y h g r e c =
    let within : y ≤ room = c.within in (
      holds_by_step a a.lo z y (lo_holds a) e (omega (arith, ints, clamps, h)) c.by_first,
      holds_by_step b b.lo z (gap + y) (lo_holds b) (omega (arith, ints)) (omega (arith, ints, clamps, h)) c.by_second,
    )

-- a common offset is the first and a multiple of the common step
along_from_common : (s t gap room first left step y : ℕ) → IsFirstCommon s t gap room first → left ≡ room - first → IsCommonStep s t left step → IsCommon s t gap room y → (k : ℕ) × (y ≡ first + k) × (k ≤ left) × (step ∣ k)
along_from_common s t gap room first left step y f l r c =
    let above : first ≤ y = f.least y c in
    let split : y ≡ first + (y - first) = omega arith in
    let within : y - first ≤ left = omega (arith, c.within, f.common.within) in
    let over : (gap + y) - (gap + first) ≡ y - first = omega arith in
    (y - first, split, within, r.least (y - first) within (dvd-sub s c.by_first f.common.by_first) (subst (λ (n : ℕ). t ∣ n) over (dvd-sub t c.by_second f.common.by_second)))

common_from_along : (s t gap room first left step k : ℕ) → IsFirstCommon s t gap room first → left ≡ room - first → IsCommonStep s t left step → k ≤ left → step ∣ k → IsCommon s t gap room (first + k)
common_from_along s t gap room first left step k f l r within d = record {
  within = omega (arith, f.common.within);
  by_first = dvd-add s f.common.by_first (dvd_trans s r.by_first d);
  by_second = subst (λ (n : ℕ). t ∣ n) (regroup gap first k) (dvd-add t f.common.by_second (dvd_trans t r.by_second d));
}
  where
    regroup : (g f k : ℕ) → g + f + k ≡ g + (f + k)
    regroup g f k = omega arith

pub meet_is_run : (a b n : Num) (hi lo : ℤ) (gap room first left step : ℕ) → hi ≡ int_min a.hi b.hi → pos gap ≡ a.lo -ℤ b.lo → pos room ≡ hi -ℤ a.lo → IsFirstCommon a.step b.step gap room first → left ≡ room - first → IsCommonStep a.step b.step left step → lo ≡ a.lo +ℤ pos first → IsRun lo step left n → IsMeet a b n
meet_is_run a b n hi lo gap room first left step h g r f l s is run z = (forth, back)
  where
    forth : Holds n z → Holds a z × Holds b z
    forth m =
        let (k, e, within, d) = (run z).0 m in
        both_from_common a b hi z gap room (first + k) h g r (omega (arith, ints)) (common_from_along a.step b.step gap room first left step k f l s within d)

    back : Holds a z × Holds b z → Holds n z
    back (p, q) =
        let (y, e) = gap_is a.lo z p.above in
        let (k, split, within, d) = along_from_common a.step b.step gap room first left step y f l s (common_from_both a b hi z gap room y h g r e p q) in
        (run z).1 (k, omega (arith, ints), within, d)

pub apart_from_none : (a b : Num) (hi : ℤ) (gap room : ℕ) → hi ≡ int_min a.hi b.hi → pos gap ≡ a.lo -ℤ b.lo → pos room ≡ hi -ℤ a.lo → ((y : ℕ) → IsCommon a.step b.step gap room y → ⊥) → AreApart a b
apart_from_none a b hi gap room h g r none z p q =
    let (y, e) = gap_is a.lo z p.above in
    none y (common_from_both a b hi z gap room y h g r e p q)

pub apart_from_ends : (a b : Num) (hi : ℤ) → hi ≡ int_min a.hi b.hi → hi <ℤ a.lo → AreApart a b
apart_from_ends a b hi h less z p q = omega (arith, ints, clamps, h, p.above, p.below, q.below)

-- the run that the code makes
pub run_is : (n : Num) (lo : ℤ) (step room reach : ℕ) → n.lo ≡ lo → n.hi ≡ lo +ℤ pos reach → n.step ≡ step → reach ≤ room → ((y : ℕ) → y ≤ room → step ∣ y → y ≤ reach) → IsRun lo step room n
run_is n lo step room reach p q e within most z = (forth, back)
  where
    forth : Holds n z → IsAlong lo step room z
    forth m =
        let (y, is) = gap_is n.lo z m.above in
        (y, omega (arith, ints), omega (arith, ints, m.below), subst (λ (s : ℕ). s ∣ y) e (apart_by_step n n.lo z y (lo_holds n) m is))

    back : IsAlong lo step room z → Holds n z
    back (y, is, le, d) =
        let below : y ≤ reach = most y le d in
        holds_by_step n n.lo z y (lo_holds n) (omega (arith, ints)) (omega (arith, ints)) (subst (λ (s : ℕ). s ∣ y) (sym e) d)

-- ---- as the code computes them
pub run_ends : (lo lo' hi' : ℤ) (step room reach : ℕ) → negsuc (2 ^ 63 - 1) ≤ℤ lo → (lo +ℤ pos room) ≤ℤ pos (2 ^ 64 - 1) → step ≤ room → IsGreatestMultiple step room reach → lo' ≡ lo → hi' ≡ lo +ℤ pos reach → AreEnds lo' hi' step
run_ends lo lo' hi' step room reach low high le m p q =
    let within : reach ≤ room = m.within in
    record {
      least = omega (arith, ints);
      greatest = omega (arith, ints);
      reaches = (reach, omega (arith, ints), m.by_step);
      several = λ up. elim (eq-zero-or-pos step) [
        | inl none ↦
            let zero_reach : reach ≡ 0 = eq-zero_of_zero-dvd (subst (λ (k : ℕ). k ∣ reach) none m.by_step) in
            absurd (omega (arith, ints))
        | inr some ↦ some
      ];
      ordered = omega (arith, ints);
      stepped = λ some.
          let far : step ≤ reach = m.greatest step le (dvd_refl step) in
          omega (arith, ints);
    }

pub sum_code : (lo : ℤ) (k room : ℕ) → negsuc (2 ^ 63 - 1) ≤ℤ lo → (lo +ℤ pos room) ≤ℤ pos (2 ^ 64 - 1) → k ≤ room → to_z w128 (of_z w128 (to_z w128 (of_z w128 lo) +ℤ to_z w128 k)) ≡ lo +ℤ pos k
sum_code lo k room low high le = omega (arith, ints)

pub lo_code : (lo : ℤ) (room : ℕ) → negsuc (2 ^ 63 - 1) ≤ℤ lo → (lo +ℤ pos room) ≤ℤ pos (2 ^ 64 - 1) → to_z w128 (of_z w128 lo) ≡ lo
lo_code lo room low high = omega (arith, ints)

pub hi_from_code : (a b : Num) (hi : ℤ) → hi ≡ int_min (to_z w128 (of_z w128 a.hi)) (to_z w128 (of_z w128 b.hi)) → hi ≡ int_min a.hi b.hi
hi_from_code a b hi e =
    let f = hi_fits a in
    let g = hi_fits b in
    e ∙ simp to_z-of_z

min_fits : (a b : Num) (hi : ℤ) → hi ≡ int_min a.hi b.hi → SFits w128 hi
min_fits a b hi e =
    let f = hi_fits a in
    let g = hi_fits b in
    omega (arith, ints, clamps, e)

pub below_from_code : (a b : Num) (hi : ℤ) → hi ≡ int_min a.hi b.hi → lt_z (to_z w128 (of_z w128 hi)) (to_z w128 (of_z w128 a.lo)) ≡ true → hi <ℤ a.lo
below_from_code a b hi h e =
    let f : SFits w128 hi = min_fits a b hi h in
    let g = lo_fits a in
    let same = simp to_z-of_z at e in
    omega (arith, ints)

pub gap_from_code : (a b : Num) (gap : ℕ) → pos gap ≡ to_z w128 (of_z w128 a.lo) -ℤ to_z w128 (of_z w128 b.lo) → pos gap ≡ a.lo -ℤ b.lo
gap_from_code a b gap e =
    let f = lo_fits a in
    let g = lo_fits b in
    e ∙ simp to_z-of_z

pub room_from_code : (a b : Num) (hi : ℤ) (room : ℕ) → hi ≡ int_min a.hi b.hi → pos room ≡ to_z w128 (of_z w128 hi) -ℤ to_z w128 (of_z w128 a.lo) → pos room ≡ hi -ℤ a.lo
room_from_code a b hi room h e =
    let f : SFits w128 hi = min_fits a b hi h in
    let g = lo_fits a in
    e ∙ simp to_z-of_z

pub start_from_code : (a b : Num) (hi : ℤ) (room first : ℕ) → hi ≡ int_min a.hi b.hi → pos room ≡ hi -ℤ a.lo → first ≤ room → to_z w128 (of_z w128 (to_z w128 (of_z w128 a.lo) +ℤ to_z w128 first)) ≡ a.lo +ℤ pos first
start_from_code a b hi room first h r le = sum_code a.lo first room a.canonical.least (omega (arith, ints, clamps, h, a.canonical.greatest)) le

pub start_fits : (a b : Num) (hi lo : ℤ) (room first : ℕ) → hi ≡ int_min a.hi b.hi → pos room ≡ hi -ℤ a.lo → first ≤ room → lo ≡ a.lo +ℤ pos first → (lo +ℤ pos (room - first)) ≤ℤ pos (2 ^ 64 - 1)
start_fits a b hi lo room first h r le s = omega (arith, ints, clamps, h, a.canonical.greatest)

-- a run by 1, or of one number
pub run_is_between : (n : Num) (lo hi lo' hi' : ℤ) (step room : ℕ) → lo' ≡ lo → hi' ≡ hi → pos room ≡ hi' -ℤ lo' → (step ≡ 1) ⊎ (room ≡ 0) → IsRun lo' step room n → (z : ℤ) → Holds n z ↔ ((lo ≤ℤ z) × (z ≤ℤ hi))
run_is_between n lo hi lo' hi' step room same_lo same_hi far h run z = (forth, back)
  where
    forth : Holds n z → (lo ≤ℤ z) × (z ≤ℤ hi)
    forth m =
        let (y, is, within, d) = (run z).0 m in
        (omega (arith, ints), omega (arith, ints))

    divides : (y : ℕ) → y ≤ room → step ∣ y
    divides y le = elim h [
      | inl e ↦ subst (λ (k : ℕ). k ∣ y) (sym e) (one-dvd y)
      | inr e ↦
          let none : 0 ≡ y = omega arith in
          subst (λ (k : ℕ). step ∣ k) none (dvd-zero step)
    ]

    back : (lo ≤ℤ z) × (z ≤ℤ hi) → Holds n z
    back (p, q) =
        let (y, e) = gap_is lo' z (omega (arith, ints)) in
        let within : y ≤ room = omega (arith, ints) in
        (run z).1 (y, e, within, divides y within)
