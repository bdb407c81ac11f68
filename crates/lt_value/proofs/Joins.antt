-- The join of two `Num`s.
use Rattle.std.proofs.Common.{arith, ◌≡◌, sym, ◌∙◌, ap, subst, ℕ, ℤ, pos, ◌-ℤ◌, ◌≤ℤ◌, ◌<ℤ◌, ◌+◌, ◌-◌, ◌<◌, inl, inr}
use Rattle.std.specs.Int.{w128}
use Rattle.std.proofs.Common.{to_z, of_z}
use Rattle.std.proofs.lemmas.Int.{to_z-of_z}
use mir.Val.{SFits}
use Rattle.lt_value.proofs.Members.{lo_fits, hi_fits}
use Rattle.std.specs.Prelude.{unsigned_abs}
use Rattle.std.specs.Int.{◌∣◌, int_min, int_max, IsGcd}
use Rattle.std.proofs.lemmas.Int.{ints, clamps, by_lt_z}
use Rattle.std.proofs.Math.Nat.{dvd-zero, dvd_trans, dvd-add, dvd-sub, eq-zero-or-pos, eq-zero_of_zero-dvd}
use Rattle.lt_model.proofs.Whole.{abs_up, abs_down}
use Rattle.lt_value.specs.Progression.{AreEnds}
use Rattle.lt_value.specs.Num.{Holds, IsBelow}
use Rattle.lt_value.specs.declared.num.Num.{Num}
use Rattle.lt_value.proofs.Members.{gap_is, apart_by_step, holds_by_step, lo_holds, hi_holds, step_divides}

-- the ends and the step of a join
pub record IsJoined (a b : Num) (apart : ℕ) (lo hi : ℤ) (step : ℕ) : Type 0 where
  pub lo_is : lo ≡ int_min a.lo b.lo
  pub hi_is : hi ≡ int_max a.hi b.hi
  pub apart_is : apart ≡ unsigned_abs (a.lo -ℤ b.lo)
  pub divides_a : step ∣ a.step
  pub divides_b : step ∣ b.step
  pub divides_apart : step ∣ apart
  pub greatest : (d : ℕ) → d ∣ a.step → d ∣ b.step → d ∣ apart → d ∣ step

-- how far the least of a, and that of b, is above the least of the join
low_apart : (a b : Num) (apart : ℕ) (lo hi : ℤ) (step : ℕ) → IsJoined a b apart lo hi step → (x y : ℕ) × (pos x ≡ a.lo -ℤ lo) × (pos y ≡ b.lo -ℤ lo) × (step ∣ x) × (step ∣ y)
low_apart a b apart lo hi step j = by_lt_z a.lo b.lo
    (λ less. (0, apart, omega (arith, ints, clamps, j.lo_is), omega (arith, ints, clamps, j.lo_is, ap pos j.apart_is ∙ abs_down (a.lo -ℤ b.lo) (omega (arith, ints))), dvd-zero step, j.divides_apart))
    (λ more. (apart, 0, omega (arith, ints, clamps, j.lo_is, ap pos j.apart_is ∙ abs_up (a.lo -ℤ b.lo) (omega (arith, ints))), omega (arith, ints, clamps, j.lo_is), j.divides_apart, dvd-zero step))

-- a multiple of the step reaches from the least of the join to each member of a
reaches : (a : Num) (lo z : ℤ) (step x g : ℕ) → step ∣ a.step → step ∣ x → pos x ≡ a.lo -ℤ lo → Holds a z → pos g ≡ z -ℤ lo → step ∣ g
reaches a lo z step x g d e is h f =
    let (k, same) = gap_is a.lo z h.above in
    let p : step ∣ k = dvd_trans step d (apart_by_step a a.lo z k (lo_holds a) h same) in
    let sum : x + k ≡ g = omega (arith, ints) in
    subst (λ (n : ℕ). step ∣ n) sum (dvd-add step e p)

reaches_end : (a b : Num) (apart : ℕ) (lo hi : ℤ) (step : ℕ) → IsJoined a b apart lo hi step → (g : ℕ) × (pos g ≡ hi -ℤ lo) × (step ∣ g)
reaches_end a b apart lo hi step j =
    let (x, y, p, q, d, e) = low_apart a b apart lo hi step j in
    let (g, is) = gap_is lo hi (omega (arith, ints, clamps, j.lo_is, j.hi_is, a.canonical.ordered)) in
    by_lt_z b.hi a.hi
    (λ less. (g, is, reaches a lo a.hi step x g j.divides_a d p (hi_holds a) (omega (arith, ints, clamps, j.hi_is, is))))
    (λ more. (g, is, reaches b lo b.hi step y g j.divides_b e q (hi_holds b) (omega (arith, ints, clamps, j.hi_is, is))))

none_from_one : (a : Num) → a.hi ≤ℤ a.lo → a.step ≡ 0
none_from_one a h = elim (eq-zero-or-pos a.step) [
  | inl none ↦ none
  | inr some ↦ absurd (omega (arith, ints, a.canonical.several some))
]

none_from_ends : (a b : Num) (apart : ℕ) (lo hi : ℤ) (step : ℕ) → IsJoined a b apart lo hi step → hi ≤ℤ lo → step ≡ 0
none_from_ends a b apart lo hi step j h =
    let ea : a.step ≡ 0 = none_from_one a (omega (arith, ints, clamps, j.lo_is, j.hi_is)) in
    let eb : b.step ≡ 0 = none_from_one b (omega (arith, ints, clamps, j.lo_is, j.hi_is)) in
    let ec : apart ≡ 0 = omega (arith, ints, clamps, j.lo_is, j.hi_is, a.canonical.ordered, b.canonical.ordered, ap pos j.apart_is ∙ abs_up (a.lo -ℤ b.lo) (omega (arith, ints, clamps, j.lo_is, j.hi_is, a.canonical.ordered, b.canonical.ordered))) in
    let all : (k : ℕ) → k ≡ 0 → 0 ∣ k = λ k e. subst (λ (m : ℕ). 0 ∣ m) (sym e) (dvd-zero 0) in
    eq-zero_of_zero-dvd (j.greatest 0 (all a.step ea) (all b.step eb) (all apart ec))

some_from_ends : (lo hi : ℤ) (step g : ℕ) → pos g ≡ hi -ℤ lo → step ∣ g → lo <ℤ hi → 0 < step
some_from_ends lo hi step g is d h = elim (eq-zero-or-pos step) [
  | inl none ↦
      let zero_g : g ≡ 0 = eq-zero_of_zero-dvd (subst (λ (k : ℕ). k ∣ g) none d) in
      absurd (omega (arith, ints))
  | inr some ↦ some
]

pub ends_of_join : (a b : Num) (apart : ℕ) (lo hi : ℤ) (step : ℕ) → IsJoined a b apart lo hi step → AreEnds lo hi step
ends_of_join a b apart lo hi step j = record {
  least = omega (arith, ints, clamps, j.lo_is, a.canonical.least, b.canonical.least);
  greatest = omega (arith, ints, clamps, j.hi_is, a.canonical.greatest, b.canonical.greatest);
  reaches = reaches_end a b apart lo hi step j;
  several = let (g, is, d) = reaches_end a b apart lo hi step j in some_from_ends lo hi step g is d;
  ordered = omega (arith, ints, clamps, j.lo_is, j.hi_is, a.canonical.ordered);
  stepped = λ some. by_lt_z lo hi (λ h. h) (λ h. absurd (omega (arith, none_from_ends a b apart lo hi step j h)));
}

pub join_holds_left : (a b r : Num) (apart : ℕ) → IsJoined a b apart r.lo r.hi r.step → IsBelow a r
join_holds_left a b r apart j z h =
    let (x, y, p, q, d, e) = low_apart a b apart r.lo r.hi r.step j in
    let (g, is) = gap_is r.lo z (omega (arith, ints, clamps, j.lo_is, h.above)) in
    holds_by_step r r.lo z g (lo_holds r) is (omega (arith, ints, clamps, j.hi_is, h.below)) (reaches a r.lo z r.step x g j.divides_a d p h is)

pub join_holds_right : (a b r : Num) (apart : ℕ) → IsJoined a b apart r.lo r.hi r.step → IsBelow b r
join_holds_right a b r apart j z h =
    let (x, y, p, q, d, e) = low_apart a b apart r.lo r.hi r.step j in
    let (g, is) = gap_is r.lo z (omega (arith, ints, clamps, j.lo_is, h.above)) in
    holds_by_step r r.lo z g (lo_holds r) is (omega (arith, ints, clamps, j.hi_is, h.below)) (reaches b r.lo z r.step y g j.divides_b e q h is)

pub join_is_least : (a b r : Num) (apart : ℕ) → IsJoined a b apart r.lo r.hi r.step → (n : Num) → IsBelow a n → IsBelow b n → IsBelow r n
join_is_least a b r apart j n left right z h =
    let (x, y, p, q, d, e) = low_apart a b apart r.lo r.hi r.step j in
    let la : Holds n a.lo = left a.lo (lo_holds a) in
    let lb : Holds n b.lo = right b.lo (lo_holds b) in
    let ha : Holds n a.hi = left a.hi (hi_holds a) in
    let hb : Holds n b.hi = right b.hi (hi_holds b) in
    let apart_in : n.step ∣ apart = by_lt_z a.lo b.lo
    (λ less. apart_by_step n a.lo b.lo apart la lb (omega (arith, ints, ap pos j.apart_is ∙ abs_down (a.lo -ℤ b.lo) (omega (arith, ints)))))
    (λ more. apart_by_step n b.lo a.lo apart lb la (omega (arith, ints, ap pos j.apart_is ∙ abs_up (a.lo -ℤ b.lo) (omega (arith, ints))))) in
    let finer : n.step ∣ r.step = j.greatest n.step (step_divides a n left) (step_divides b n right) apart_in in
    let (k, kis) = gap_is r.lo z h.above in
    let kd : n.step ∣ k = dvd_trans n.step finer (apart_by_step r r.lo z k (lo_holds r) h kis) in
    let (l, lis) = gap_is n.lo a.lo la.above in
    let ld : n.step ∣ l = apart_by_step n n.lo a.lo l (lo_holds n) la lis in
    let (g, gis) = gap_is n.lo z (omega (arith, ints, clamps, j.lo_is, la.above, lb.above, h.above)) in
    let sum : (k + l) - x ≡ g = omega (arith, ints, p) in
    let gd : n.step ∣ g = subst (λ (m : ℕ). n.step ∣ m) sum (dvd-sub n.step (dvd-add n.step kd ld) (dvd_trans n.step finer d)) in
    holds_by_step n n.lo z g (lo_holds n) gis (omega (arith, ints, clamps, j.hi_is, ha.below, hb.below, h.below)) gd

-- the code's values of a join
pub joined_as_code : (a b : Num) (apart g step : ℕ) (lo hi : ℤ) → lo ≡ int_min (to_z w128 (of_z w128 a.lo)) (to_z w128 (of_z w128 b.lo)) → hi ≡ int_max (to_z w128 (of_z w128 a.hi)) (to_z w128 (of_z w128 b.hi)) → apart ≡ unsigned_abs (to_z w128 (of_z w128 a.lo) -ℤ to_z w128 (of_z w128 b.lo)) → IsGcd a.step b.step g → IsGcd g apart step → IsJoined a b apart lo hi step
joined_as_code a b apart g step lo hi p q r first second =
    let al = lo_fits a in
    let bl = lo_fits b in
    let ah = hi_fits a in
    let bh = hi_fits b in
    record {
      lo_is = p ∙ simp to_z-of_z;
      hi_is = q ∙ simp to_z-of_z;
      apart_is = r ∙ simp to_z-of_z;
      divides_a = dvd_trans step second.0 first.0;
      divides_b = dvd_trans step second.0 first.1;
      divides_apart = second.1;
      greatest = λ d u v w. second.2 d (first.2 d u v) w;
    }

pub ends_as_code : (a b : Num) (apart step : ℕ) (lo hi : ℤ) → IsJoined a b apart lo hi step → AreEnds (to_z w128 (of_z w128 lo)) (to_z w128 (of_z w128 hi)) step
ends_as_code a b apart step lo hi j =
    let ends : AreEnds lo hi step = ends_of_join a b apart lo hi step j in
    let f : SFits w128 lo = omega (arith, ints, ends.least, ends.ordered, ends.greatest) in
    let g : SFits w128 hi = omega (arith, ints, ends.least, ends.ordered, ends.greatest) in
    rw (to_z-of_z w128 lo f, to_z-of_z w128 hi g) ends

-- the `Num` that the code makes of a join's numbers
pub joined_by_code : (a b r : Num) (apart step : ℕ) (lo hi : ℤ) → IsJoined a b apart lo hi step → r.lo ≡ to_z w128 (of_z w128 lo) → r.hi ≡ to_z w128 (of_z w128 hi) → r.step ≡ step → IsJoined a b apart r.lo r.hi r.step
joined_by_code a b r apart step lo hi j p q e =
    let ends : AreEnds lo hi step = ends_of_join a b apart lo hi step j in
    let f : SFits w128 lo = omega (arith, ints, ends.least, ends.ordered, ends.greatest) in
    let g : SFits w128 hi = omega (arith, ints, ends.least, ends.ordered, ends.greatest) in
    rw (p ∙ to_z-of_z w128 lo f, q ∙ to_z-of_z w128 hi g, e) j
