-- The places of numbers, as a map has them.
use Rattle.std.proofs.Common.{◌≡◌, ◌==◌, ℕ, suc, ◌≤◌, cond, List, length, drop, get_or, Some, sym, ap, ◌∙◌, arith, drop-cons}
use Rattle.std.specs.Ordering.{nat_cmp}
use Rattle.std.specs.BTreeMap as tree
use Rattle.std.specs.BTreeMap.{BTreeMap, is_at}
use Rattle.std.proofs.lemmas.Grind.{common_steps}
use Rattle.lt_meaning.specs.Runs.{place_among}

at_same : (k n : ℕ) → is_at (nat_cmp k) n ≡ (k == n)
at_same k n = grind (arith, common_steps)

-- one number more, before the others
pub number_more : (numbers : List ℕ) (left k at : ℕ) (m n : BTreeMap ℕ ℕ) → at ≡ k → suc k ≡ left → left ≤ length numbers
    → tree.Updates nat_cmp m n (get_or numbers k 0) (Some at) → ((w : ℕ) → tree.get nat_cmp m w ≡ place_among left w (drop left numbers))
    → (w : ℕ) → tree.get nat_cmp n w ≡ place_among k w (drop k numbers)
number_more numbers left k at m n same one within updates before w =
    updates.0 w
    ∙ ap (λ p. cond (is_at (nat_cmp (get_or numbers k 0)) w) (Some p) (tree.get nat_cmp m w)) same
    ∙ ap (cond (is_at (nat_cmp (get_or numbers k 0)) w) (Some k)) (before w ∙ ap (λ l. place_among l w (drop l numbers)) (sym one))
    ∙ ap (λ b. cond b (Some k) (place_among (suc k) w (drop (suc k) numbers))) (at_same (get_or numbers k 0) w)
    ∙ sym (ap (place_among k w) (drop-cons numbers k 0 (omega (arith, one, within))))
