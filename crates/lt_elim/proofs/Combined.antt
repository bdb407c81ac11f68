-- A combination of known rows is what one line gives.
use Rattle.std.proofs.Common.{arith, ◌≡◌, refl, sym, ◌∙◌, ap, subst, ℕ, ℤ, pos, ◌<◌, List, [], ◌∷◌, ◌⊎◌, inl, inr, Bool, false, ◌&&◌, Some, None}
use Rattle.std.proofs.lemmas.Int.{ints}
use Rattle.std.proofs.lemmas.Bool.{cases_order}
use Rattle.lt_lin.specs.declared.row.Row.{Row}
use Rattle.lt_lin.specs.Terms.{Term, factor}
use Rattle.lt_lin.specs.Refutation.{SumsTo, IsCombination}
use Rattle.lt_elim.specs.Combination.{Multipliers, terms_below, multipliers, sum_of, combination, is_wide}
use Rattle.lt_elim.specs.Summing.{PartsFit, CanCombine}
use Rattle.lt_elim.specs.Tracing.{IsKnownAs}
use Rattle.lt_elim.proofs.Edges.{below_ordered, below_factor, above_factor}
use Rattle.lt_elim.proofs.Refuting.{PartFits, sums_two, sum_nothing, sum_at_own}
use Rattle.lt_elim.proofs.Combining.{all_go}

part_fits : (m : Multipliers) (a b : ℤ) → PartsFit m a b → PartFits m a b
part_fits m a b h = record { raising = h.raising; lowering = h.lowering; sum = h.sum }

pub line_is : (limited : Bool) (known : List Row) (v : ℕ) (p n : Row) (i j : ℕ) → CanCombine limited v p n → (limited && is_wide v p n) ≡ false → IsKnownAs known i p → IsKnownAs known j n → IsCombination known ((i, (multipliers v p n).of_raising) ∷ (j, (multipliers v p n).of_lowering) ∷ []) (combination v p n)
unfolding combination
line_is limited known v p n i j c w gp gn = record {
  ordered = below_ordered v (λ x. sum_of (multipliers v p n) (factor x p.terms) (factor x n.terms));
  factors = λ x. by_place x (cases_order x v);
  constant = sums_two (λ q. q.constant) known p n i j (multipliers v p n) (sum_of (multipliers v p n) p.constant n.constant) gp gn (omega (arith, ints)) (omega (arith, ints)) (part_fits (multipliers v p n) p.constant n.constant (all_go limited v p n c w None).fits) refl;
}
  where
    terms : List Term
    terms = terms_below v (λ x. sum_of (multipliers v p n) (factor x p.terms) (factor x n.terms))

    sums : (x : ℕ) → sum_of (multipliers v p n) (factor x p.terms) (factor x n.terms) ≡ factor x terms → SumsTo (λ q. factor x q.terms) known (pos 0) ((i, (multipliers v p n).of_raising) ∷ (j, (multipliers v p n).of_lowering) ∷ []) (factor x terms)
    sums x e = sums_two (λ q. factor x q.terms) known p n i j (multipliers v p n) (factor x terms) gp gn (omega (arith, ints)) (omega (arith, ints)) (part_fits (multipliers v p n) (factor x p.terms) (factor x n.terms) (all_go limited v p n c w (Some x)).fits) e

    by_place : (x : ℕ) → (x ≡ v) ⊎ ((x < v) ⊎ (v < x)) → SumsTo (λ q. factor x q.terms) known (pos 0) ((i, (multipliers v p n).of_raising) ∷ (j, (multipliers v p n).of_lowering) ∷ []) (factor x terms)
    by_place x (inl e) = sums x (ap (λ (y : ℕ). sum_of (multipliers v p n) (factor y p.terms) (factor y n.terms)) e ∙ sum_at_own v p n c.raises c.lowers ∙ sym (above_factor v (λ x. sum_of (multipliers v p n) (factor x p.terms) (factor x n.terms)) x (omega arith)))
    by_place x (inr (inl l)) = sums x (sym (below_factor v (λ x. sum_of (multipliers v p n) (factor x p.terms) (factor x n.terms)) x l))
    by_place x (inr (inr l)) = sums x (sum_nothing (multipliers v p n) (factor x p.terms) (factor x n.terms) (c.raising_above x l) (c.lowering_above x l) ∙ sym (above_factor v (λ x. sum_of (multipliers v p n) (factor x p.terms) (factor x n.terms)) x (omega arith)))

-- the pairs of a line, by their parts
pub same_pairs : (known : List Row) (v : ℕ) (p n r : Row) (i j a b : ℕ) (x y : ℤ) → i ≡ a → j ≡ b → (let m : Multipliers = record { of_raising = x; of_lowering = y } in m) ≡ multipliers v p n → IsCombination known ((a, (multipliers v p n).of_raising) ∷ (b, (multipliers v p n).of_lowering) ∷ []) r → IsCombination known ((i, x) ∷ (j, y) ∷ []) r
same_pairs known v p n r i j a b x y e f m c =
    subst (λ (k : ℕ). IsCombination known ((k, x) ∷ (j, y) ∷ []) r) (sym e)
    (subst (λ (k : ℕ). IsCombination known ((a, x) ∷ (k, y) ∷ []) r) (sym f)
    (subst (λ (k : Multipliers). IsCombination known ((a, k.of_raising) ∷ (b, k.of_lowering) ∷ []) r) (sym m) c))
