-- Loops over rows that are combined.
use Rattle.std.proofs.Common.{◌≡◌, sym, ◌∙◌, ap, ℕ, List, ◌∷◌, Bool, true, false, ◌&&◌, Option}
use Rattle.std.specs.Prelude.{if◌then◌else◌}
use Rattle.lt_lin.specs.declared.row.Row.{Row}
use Rattle.lt_elim.specs.declared.event.Event as code
use Rattle.lt_elim.specs.Combination.{combination, is_wide}
use Rattle.lt_elim.specs.Elimination.{Kept, ends, coeff, and_next, keep, keep_combination, combine_with, combine_all}
use Rattle.lt_elim.specs.Progress.{outcome}

-- a combination is kept
pub combination_wide : (b : Bool) (v : ℕ) (p : Row) (kept : List Row) (n : Row) → (b && is_wide v p n) ≡ true → keep_combination b v p kept n ≡ ends (coeff v)
combination_wide b v p kept n e = ap (λ (c : Bool). if c then ends (coeff v) else keep b v kept (combination v p n)) e

pub combination_kept : (b : Bool) (v : ℕ) (p : Row) (kept : List Row) (n r : Row) (k : Kept) → (b && is_wide v p n) ≡ false → r ≡ combination v p n → keep b v kept r ≡ k → keep_combination b v p kept n ≡ k
combination_kept b v p kept n r k e f g = ap (λ (c : Bool). if c then ends (coeff v) else keep b v kept (combination v p n)) e ∙ ap (keep b v kept) (sym f) ∙ g

-- one row further
pub with_next : (b : Bool) (v : ℕ) (p : Row) (kept : List Row) (all rest : List Row) (n : Row) (o : Option code.Event) (next : List Row) (k : Kept) → k ≡ combine_with b v p kept rest → rest ≡ n ∷ all → keep_combination b v p kept n ≡ outcome o next → k ≡ and_next (outcome o next) (λ more. combine_with b v p more all)
with_next b v p kept all rest n o next k e f g = e ∙ ap (combine_with b v p kept) f ∙ ap (λ (z : Kept). and_next z (λ more. combine_with b v p more all)) g

pub all_next : (b : Bool) (v : ℕ) (kept : List Row) (all rest ns : List Row) (p : Row) (o : Option code.Event) (next : List Row) (k : Kept) → k ≡ combine_all b v kept rest ns → rest ≡ p ∷ all → combine_with b v p kept ns ≡ outcome o next → k ≡ and_next (outcome o next) (λ more. combine_all b v more all ns)
all_next b v kept all rest ns p o next k e f g = e ∙ ap (λ (ps : List Row). combine_all b v kept ps ns) f ∙ ap (λ (z : Kept). and_next z (λ more. combine_all b v more all ns)) g
