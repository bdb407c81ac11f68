-- Whole numbers of 128 signed bits, and the tests of equal numbers.
use Rattle.std.proofs.Common.{arith, ◌≡◌, refl, sym, ◌∙◌, ap, subst, ℕ, ℤ, pos, negsuc, ◌≤ℤ◌, ◌<ℤ◌, ◌^◌, ◌-◌, Bool, true, false, to_z, of_z}
use Rattle.std.specs.Prelude.{int_le, ◌&&◌}
use Rattle.std.specs.Int.{w128}
use Rattle.std.specs.Ordering.{int_eq}
use mir.Val.{SFits}
use Rattle.std.proofs.lemmas.Int.{ints, to_z-of_z}
use Rattle.std.proofs.lemmas.Bool.Decides.{Decides-int_eq}
use Rattle.lt_model.specs.Whole.{fits, fitting}
use Rattle.std.specs.Option.{SomeIff}
use Rattle.std.proofs.Common.{Option, Some, None}

pub fits_true : (z : ℤ) → SFits w128 z → fits z ≡ true
fits_true z f = both (int_le (negsuc (2 ^ 127 - 1)) z) (int_le z (pos (2 ^ 127 - 1))) (sym (omega (arith, ints))) (sym (omega (arith, ints)))
  where
    both : (a b : Bool) → a ≡ true → b ≡ true → (a && b) ≡ true
    both a b p q = rw (p, q) refl

pub fits_false : (z : ℤ) → (SFits w128 z → ⊥) → fits z ≡ false
fits_false z f = by_test (int_le (negsuc (2 ^ 127 - 1)) z) (int_le z (pos (2 ^ 127 - 1))) (λ p q. f (omega (arith, ints)))
  where
    by_test : (a b : Bool) → (a ≡ true → b ≡ true → ⊥) → (a && b) ≡ false
    by_test true true h = absurd (h refl refl)
    by_test true false h = refl
    by_test false b h = refl

pub eq_true : (z w : ℤ) → z ≡ w → int_eq z w ≡ true
eq_true z w e = (Decides-int_eq z w).1 e

pub eq_false : (z w : ℤ) → (z ≡ w → ⊥) → int_eq z w ≡ false
eq_false z w h = by_test (int_eq z w) (λ t. h ((Decides-int_eq z w).0 t))
  where
    by_test : (a : Bool) → (a ≡ true → ⊥) → a ≡ false
    by_test true h = absurd (h refl)
    by_test false h = refl

-- what a checked operation gives
pub fitting_from_checked : (o : Option ℤ) (z : ℤ) → SomeIff o (SFits w128 z) z → o ≡ fitting z
fitting_from_checked None z h = rw (fits_false z h) refl
fitting_from_checked (Some x) z h = rw (fits_true z h.0) (ap Some h.1)
