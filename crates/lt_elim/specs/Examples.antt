-- Systems that are decided by computing.
use Rattle.std.specs.Prelude.{◌≡◌, ℤ, pos, neg_ℤ, ◌^◌, ◌+◌, ◌-◌, List, [], ◌∷◌}
use Rattle.std.proofs.Common.{refl}
use Rattle.lt_lin.specs.declared.row.Row.{Row}
use Rattle.lt_lin.specs.Terms.{Term}
use Rattle.lt_elim.specs.Divisor.{gcd_of}
use Rattle.lt_elim.specs.Combination.{combination, is_wide}
use Rattle.lt_elim.specs.Elimination.{refuted, coeff, eliminated}
use Rattle.lt_elim.specs.Fraction.{fraction, whole}
use Rattle.lt_elim.specs.Decision.{verdict, stops, point, value_of}

abbrev pub row : List Term → ℤ → Row
row terms constant = record { terms = terms; constant = constant }

-- no rows and no variables
pub nothing_is_decided : verdict [] ≡ point []
unfolding verdict
nothing_is_decided = refl

-- 3x - 1 and -3x + 2 are at least 0: between 1/3 and 2/3 there is no whole number.
pub thirds_are_refuted : verdict (row ((0, pos 3) ∷ []) (neg_ℤ (pos 1)) ∷ row ((0, neg_ℤ (pos 3)) ∷ []) (pos 2) ∷ []) ≡ stops refuted
unfolding verdict eliminated combination is_wide gcd_of
thirds_are_refuted = refl

-- x is 0 or 1, and 2y is x.
pub halves_have_a_point : verdict (row ((0, pos 1) ∷ []) (pos 0) ∷ row ((0, neg_ℤ (pos 1)) ∷ []) (pos 1) ∷ row ((0, neg_ℤ (pos 1)) ∷ (1, pos 2) ∷ []) (pos 0) ∷ row ((0, pos 1) ∷ (1, neg_ℤ (pos 2)) ∷ []) (pos 0) ∷ []) ≡ point (whole (pos 0) ∷ whole (pos 0) ∷ [])
unfolding verdict eliminated combination is_wide gcd_of value_of
halves_have_a_point = refl

-- (2^99 + 1)x + 2^100 y and x - (2^100 - 1)y are at least 0: a multiple of the first has a factor above 2^120.
pub wide_factors_end : verdict (row ((0, pos (2 ^ 99 + 1)) ∷ (1, pos (2 ^ 100)) ∷ []) (pos 0) ∷ row ((0, pos 1) ∷ (1, neg_ℤ (pos (2 ^ 100 - 1))) ∷ []) (pos 0) ∷ []) ≡ stops (coeff 1)
unfolding verdict eliminated combination is_wide gcd_of
wide_factors_end = refl

-- x < y, y < z and z < x
pub circle_is_refuted : verdict (row ((0, neg_ℤ (pos 1)) ∷ (1, pos 1) ∷ []) (neg_ℤ (pos 1)) ∷ row ((1, neg_ℤ (pos 1)) ∷ (2, pos 1) ∷ []) (neg_ℤ (pos 1)) ∷ row ((0, pos 1) ∷ (2, neg_ℤ (pos 1)) ∷ []) (neg_ℤ (pos 1)) ∷ []) ≡ stops refuted
unfolding verdict eliminated combination is_wide gcd_of
circle_is_refuted = refl

-- 3x + 5y is 7, and x and y are from 0 to 1.
pub fifths_have_a_point : verdict (row ((0, pos 1) ∷ []) (pos 0) ∷ row ((0, neg_ℤ (pos 1)) ∷ []) (pos 1) ∷ row ((1, pos 1) ∷ []) (pos 0) ∷ row ((1, neg_ℤ (pos 1)) ∷ []) (pos 1) ∷ row ((0, pos 3) ∷ (1, pos 5) ∷ []) (neg_ℤ (pos 7)) ∷ row ((0, neg_ℤ (pos 3)) ∷ (1, neg_ℤ (pos 5)) ∷ []) (pos 7) ∷ []) ≡ point (whole (pos 1) ∷ fraction (pos 4) 5 ∷ [])
unfolding verdict eliminated combination is_wide gcd_of value_of
fifths_have_a_point = refl

-- x is at least 2, y at least 3 more, and at most 10: each takes the least value that it may.
pub differences_have_a_point : verdict (row ((0, pos 1) ∷ []) (neg_ℤ (pos 2)) ∷ row ((0, neg_ℤ (pos 1)) ∷ (1, pos 1) ∷ []) (neg_ℤ (pos 3)) ∷ row ((1, neg_ℤ (pos 1)) ∷ []) (pos 10) ∷ []) ≡ point (whole (pos 2) ∷ whole (pos 5) ∷ [])
unfolding verdict eliminated combination is_wide gcd_of value_of
differences_have_a_point = refl

-- The first variable is at most 4, the second stands nowhere, the third is at least 1.
pub greatest_else_nothing : verdict (row ((0, neg_ℤ (pos 1)) ∷ []) (pos 4) ∷ row ((2, pos 1) ∷ []) (neg_ℤ (pos 1)) ∷ []) ≡ point (whole (pos 4) ∷ whole (pos 0) ∷ whole (pos 1) ∷ [])
unfolding verdict eliminated combination is_wide gcd_of value_of
greatest_else_nothing = refl
