-- Two `Num`s with the same members are the same.
use Rattle.std.proofs.Common.{arith, ◌≡◌, sym, ◌∙◌, ap, ℕ, ℤ, pos, inl, inr}
use Rattle.std.specs.Int.{int_rem_euclid}
use Rattle.std.proofs.lemmas.Int.{ints}
use Rattle.std.proofs.Math.Nat.{eq-zero-or-pos}
use Rattle.std.proofs.lemmas.Nat.Gcd.{dvd_antisymm}
use borrow.Author.Differences.{up}
use Rattle.lt_value.specs.Num.{IsBelow}
use Rattle.lt_value.specs.declared.num.Num.{Num}
use Rattle.lt_value.proofs.Members.{lo_holds, hi_holds, step_divides}

pub same_lo : (a b : Num) → IsBelow a b → IsBelow b a → a.lo ≡ b.lo
same_lo a b p q = omega (arith, ints, (p a.lo (lo_holds a)).above, (q b.lo (lo_holds b)).above)

pub same_hi : (a b : Num) → IsBelow a b → IsBelow b a → a.hi ≡ b.hi
same_hi a b p q = omega (arith, ints, (p a.hi (hi_holds a)).below, (q b.hi (hi_holds b)).below)

pub same_step : (a b : Num) → IsBelow a b → IsBelow b a → a.step ≡ b.step
same_step a b p q = dvd_antisymm (step_divides b a q) (step_divides a b p)

rest_from : (x y : ℤ) (s t r u : ℕ) → x ≡ y → s ≡ t → int_rem_euclid x (pos s) ≡ pos r → int_rem_euclid y (pos t) ≡ pos u → r ≡ u
rest_from x y s t r u e f p q = ap up (sym p ∙ ap (λ (z : ℤ). int_rem_euclid z (pos s)) e ∙ ap (λ (k : ℕ). int_rem_euclid y (pos k)) f ∙ q)

pub same_rest : (a b : Num) → IsBelow a b → IsBelow b a → a.rest ≡ b.rest
same_rest a b p q =
    let e : a.step ≡ b.step = same_step a b p q in
    elim (eq-zero-or-pos a.step) [
      | inl none ↦ a.canonical.one_rest none ∙ sym (b.canonical.one_rest (sym e ∙ none))
      | inr some ↦ rest_from a.lo b.lo a.step b.step a.rest b.rest (same_lo a b p q) e (a.canonical.first some) (b.canonical.first (omega arith))
    ]
