-- The members of a `Num`, as the steps up from its least.
use Rattle.std.proofs.Common.{arith, ◌≡◌, sym, ◌∙◌, subst, ℕ, ℤ, pos, ◌+ℤ◌, ◌-ℤ◌, ◌≤ℤ◌, ◌<ℤ◌, ◌+◌, ◌-◌, ◌^◌, ◌<◌, ◌≤◌, inl, inr}
use Rattle.std.specs.Int.{◌∣◌}
use Rattle.std.proofs.lemmas.Int.{ints, by_lt_z}
use Rattle.std.proofs.Math.Nat.{dvd-zero, dvd_refl, le_of_dvd, eq-zero-or-pos}
use Rattle.std.specs.Int.{w128}
use mir.Val.{SFits}
use borrow.Author.Differences.{up, down}
use Rattle.lt_value.specs.Progression.{IsCanonical, Leaves, AreEnds}
use Rattle.lt_value.specs.Num.{Holds, IsBelow}
use Rattle.lt_value.specs.declared.num.Num.{Num}
use Rattle.lt_value.proofs.Congruent.{dvd_from_rests, rests_from_dvd}

-- how far y is above x
gap_of : ℤ → ℤ → ℕ
gap_of x y = up y + down x - (up x + down y)

pub gap_is : (x y : ℤ) → x ≤ℤ y → (g : ℕ) × (pos g ≡ y -ℤ x)
gap_is x y h = (up y + down x - (up x + down y), omega (arith, ints))

-- two members are apart by a multiple of the step
pub apart_by_step : (n : Num) (x y : ℤ) (g : ℕ) → Holds n x → Holds n y → pos g ≡ y -ℤ x → n.step ∣ g
apart_by_step n x y g p q e = elim (eq-zero-or-pos n.step) [
  | inl none ↦
      let low : n.hi ≤ℤ n.lo = n.canonical.one_low none in
      let is : g ≡ 0 = omega (arith, ints, p.above, p.below, q.above, q.below) in
      subst (λ (k : ℕ). n.step ∣ k) (sym is) (dvd-zero n.step)
  | inr some ↦ dvd_from_rests n.step g x y some e (p.leaves some ∙ sym (q.leaves some))
]

-- what is above the least by a multiple of the step is a member
pub holds_by_step : (n : Num) (x y : ℤ) (g : ℕ) → Holds n x → pos g ≡ y -ℤ x → y ≤ℤ n.hi → n.step ∣ g → Holds n y
holds_by_step n x y g p e top d = record {
  above = omega (arith, ints, p.above);
  below = top;
  leaves = λ some. sym (rests_from_dvd n.step g x y some e d) ∙ p.leaves some;
}

pub lo_holds : (n : Num) → Holds n n.lo
lo_holds n = record { above = omega (arith, ints); below = n.canonical.ordered; leaves = n.canonical.first }

pub hi_holds : (n : Num) → Holds n n.hi
hi_holds n = record { above = n.canonical.ordered; below = omega (arith, ints); leaves = n.canonical.last }

-- the second member, where there is one
pub second_holds : (n : Num) → 0 < n.step → Holds n (n.lo +ℤ pos n.step)
second_holds n some =
    let (g, e) = gap_is n.lo n.hi n.canonical.ordered in
    let d : n.step ∣ g = apart_by_step n n.lo n.hi g (lo_holds n) (hi_holds n) e in
    let up : n.lo <ℤ n.hi = n.canonical.several some in
    let wide : n.step ≤ g = le_of_dvd (omega (arith, ints)) d in
    holds_by_step n n.lo (n.lo +ℤ pos n.step) n.step (lo_holds n) (omega (arith, ints)) (omega (arith, ints)) (dvd_refl n.step)

-- what is above has a step that divides
pub step_divides : (m n : Num) → IsBelow m n → n.step ∣ m.step
step_divides m n below = elim (eq-zero-or-pos m.step) [
  | inl none ↦ subst (λ (k : ℕ). n.step ∣ k) (sym none) (dvd-zero n.step)
  | inr some ↦ apart_by_step n m.lo (m.lo +ℤ pos m.step) m.step (below m.lo (lo_holds m)) (below (m.lo +ℤ pos m.step) (second_holds m some)) (omega (arith, ints))
]

pub step_small : (lo hi : ℤ) (step : ℕ) → AreEnds lo hi step → step < 2 ^ 66
step_small lo hi step ends = elim (eq-zero-or-pos step) [
  | inl none ↦ omega arith
  | inr some ↦
      let up : lo <ℤ hi = ends.stepped some in
      let wide : step ≤ ends.reaches.0 = le_of_dvd (omega (arith, ints, ends.reaches.1)) ends.reaches.2 in
      omega (arith, ints, ends.reaches.1)
]

pub canonical_from_ends : (lo hi lo' : ℤ) (step rest : ℕ) → AreEnds lo hi step → lo' ≡ lo → Leaves step rest lo' → (step ≡ 0 → rest ≡ 0) → (0 < step → rest < step) → IsCanonical lo hi step rest
canonical_from_ends lo hi lo' step rest ends same leaves' none below =
    let leaves : Leaves step rest lo = subst (Leaves step rest) same leaves' in record {
      least = ends.least;
      greatest = ends.greatest;
      ordered = ends.ordered;
      first = leaves;
      last = λ some. sym (rests_from_dvd step ends.reaches.0 lo hi some ends.reaches.1 ends.reaches.2) ∙ leaves some;
      one_low = λ zero. by_lt_z lo hi (λ up. absurd (omega (arith, ends.several up))) (λ h. h);
      one_rest = none;
      several = ends.stepped;
      rest_below = below;
    }

pub lo_fits : (n : Num) → SFits w128 n.lo
lo_fits n = omega (arith, ints, n.canonical.least, n.canonical.greatest, n.canonical.ordered)

pub hi_fits : (n : Num) → SFits w128 n.hi
hi_fits n = omega (arith, ints, n.canonical.least, n.canonical.greatest, n.canonical.ordered)

pub canonical_as_code : (lo hi lo' hi' : ℤ) (step rest : ℕ) → lo' ≡ lo → hi' ≡ hi → IsCanonical lo hi step rest → IsCanonical lo' hi' step rest
canonical_as_code lo hi lo' hi' step rest p q h = rw (p, q) h

pub step_fits : (n : Num) → n.step < 2 ^ 66
step_fits n = elim (eq-zero-or-pos n.step) [
  | inl none ↦ omega arith
  | inr some ↦
      let (g, e) = gap_is n.lo n.hi n.canonical.ordered in
      let d : n.step ∣ g = apart_by_step n n.lo n.hi g (lo_holds n) (hi_holds n) e in
      let up : n.lo <ℤ n.hi = n.canonical.several some in
      let wide : n.step ≤ g = le_of_dvd (omega (arith, ints)) d in
      omega (arith, ints, n.canonical.least, n.canonical.greatest)
]
