-- What lies in a `Num`, by its four numbers.
use Rattle.std.proofs.Common.{arith, ℕ, ℤ, pos, ◌≡◌, refl, zero, suc, Bool, true, false, ◌∙◌, sym, ap, subst, ◌≤ℤ◌, ◌<ℤ◌, ◌<◌, ◌↔◌}
use Rattle.std.specs.Prelude.{IsTrue, ◌==◌, unsigned_abs}
use Rattle.std.proofs.lemmas.Bool.{eqb-true, eq-eqb}
use Rattle.std.specs.Int.{◌∣◌, int_rem_euclid}
use Rattle.std.proofs.lemmas.Int.{ints}
use Rattle.std.proofs.Math.Nat.{dvd_trans}
use Rattle.lt_value.specs.Num.{Holds, IsBelow}
use Rattle.lt_value.specs.declared.num.Num.{Num}
use Rattle.lt_value.proofs.Members.{gap_is, apart_by_step, holds_by_step, lo_holds, hi_holds, step_divides}

pub below_by_ends : (a b : Num) → Holds b a.lo → a.hi ≤ℤ b.hi → b.step ∣ a.step → IsBelow a b
below_by_ends a b at top d z h =
    let (g, is) = gap_is a.lo z h.above in
    holds_by_step b a.lo z g at is (omega (arith, ints, h.below)) (dvd_trans b.step d (apart_by_step a a.lo z g (lo_holds a) h is))

-- z is a member exactly where it leaves the rest; the numbers as the code has them
pub member_by_rest : (n : Num) (z z' lo hi : ℤ) (rest : ℕ) → z' ≡ z → lo ≡ n.lo → hi ≡ n.hi → (0 < n.step → int_rem_euclid z' (pos n.step) ≡ pos rest) → (n.step ≡ 0 → ⊥) → lo ≤ℤ z' → z' ≤ℤ hi → IsTrue (rest == n.rest) ↔ Holds n z
member_by_rest n z z' lo hi rest e f g at some low high = (
  λ t. record { above = omega (arith, ints); below = omega (arith, ints); leaves = λ more. here more ∙ ap pos (eqb-true rest n.rest t) },
  λ h. eq-eqb rest n.rest (ap unsigned_abs (sym (here positive) ∙ h.leaves positive)),
)
  where
    here : 0 < n.step → int_rem_euclid z (pos n.step) ≡ pos rest
    here more = subst (λ (x : ℤ). int_rem_euclid x (pos n.step) ≡ pos rest) e (at more)

    above_zero : (k : ℕ) → (k ≡ 0 → ⊥) → 0 < k
    above_zero zero h = absurd (h refl)
    above_zero (suc k) h = omega arith

    positive : 0 < n.step
    positive = above_zero n.step some

-- a single number between the ends, and numbers outside
pub member_between : (n : Num) (z z' lo hi : ℤ) → z' ≡ z → lo ≡ n.lo → hi ≡ n.hi → n.step ≡ 0 → lo ≤ℤ z' → z' ≤ℤ hi → IsTrue true ↔ Holds n z
member_between n z z' lo hi e f g none low high = (λ t. record { above = omega (arith, ints); below = omega (arith, ints); leaves = λ more. absurd (omega arith) }, λ h. refl)

pub below_by_test : (a b : Num) (lo hi hi' : ℤ) (t : Bool) → lo ≡ a.lo → hi ≡ a.hi → hi' ≡ b.hi → Holds b lo → hi ≤ℤ hi' → (t ≡ true → b.step ∣ a.step) → (b.step ∣ a.step → t ≡ true) → IsTrue t ↔ IsBelow a b
below_by_test a b lo hi hi' t e f g at top p q = (
  λ h. below_by_ends a b (subst (Holds b) e at) (omega (arith, ints)) (p h),
  λ h. q (step_divides a b h),
)

-- where the greatest passes, or the least is no member
pub not_below_by_hi : (a b : Num) (hi hi' : ℤ) (t : Bool) → hi ≡ a.hi → hi' ≡ b.hi → t ≡ false → hi' <ℤ hi → IsTrue t ↔ IsBelow a b
not_below_by_hi a b hi hi' t e f none less = (λ h. cc, λ h. absurd (omega (arith, ints, (h a.hi (hi_holds a)).below)))

pub not_below_by_lo : (a b : Num) (lo : ℤ) (t u : Bool) → lo ≡ a.lo → t ≡ false → u ≡ false → (Holds b lo → u ≡ true) → IsTrue t ↔ IsBelow a b
not_below_by_lo a b lo t u e none no' is = (λ h. cc, λ h. let there : u ≡ true = is (subst (Holds b) (sym e) (h a.lo (lo_holds a))) in cc)
