-- Where offsets ascend, one cell alone can stand at an offset.
use Rattle.std.proofs.Common.{arith, ◌≡◌, ◌≢◌, ◌↔◌, refl, sym, ◌∙◌, ap, ℕ, zero, suc, ◌+◌, ◌-◌, ◌<◌, ◌≤◌, Bool, true, false, IsTrue, List, length, get_or, Some, None, Result, Ok, Err}
use Rattle.std.specs.Prelude.{nat_lt}
use Rattle.std.specs.List.{AllAdjacentBelow, IsAllAdjacentAnswer, position_or_len}
use Rattle.std.specs.List.Sorted.{IsSearchInRange, IsBinarySearchResult, IsNonDecreasingBy}
use Rattle.std.specs.Ordering.{nat_cmp, ordering_index}
use Rattle.std.specs.Result.{result_ok}
use Rattle.std.proofs.lemmas.Cmp.{ranked}
use Rattle.std.proofs.lemmas.Bool.Decides.{nat_tests}
use Rattle.std.proofs.lemmas.List.Sums.{position_or_len_is}
use Rattle.std.proofs.lemmas.List.{get_or_default}
use Rattle.lt_model.specs.declared.cell.CellType.{CellType}
use Rattle.lt_model.specs.declared.cell.CellType.TheVariants.{Pointer}
use Rattle.lt_model.specs.declared.cell.Content.TheVariants.{Unset}
use Rattle.lt_model.specs.declared.cell.StoredCell.{StoredCell}
use Rattle.lt_model.specs.Memory.{corresponds}
use Rattle.lt_mem.specs.Cells.{meets, place_of, IsAscending, IsAt}

-- offsets that ascend from each cell to the next ascend
far : (cells : List StoredCell) → AllAdjacentBelow (λ x y. true ≡ nat_lt x.offset y.offset) cells (length cells) → (i g : ℕ) (d : StoredCell) → i + 1 + g < length cells → (get_or cells i d).offset < (get_or cells (i + 1 + g) d).offset
far cells next i zero d h = grind (arith, nat_tests, next i d (omega arith))
far cells next i (suc g) d h =
    let before : (get_or cells i d).offset < (get_or cells (i + 1 + g) d).offset = far cells next i g d (omega arith) in
    let step : (get_or cells (i + 1 + g) d).offset < (get_or cells (i + 1 + g + 1) d).offset = grind (arith, nat_tests, next (i + 1 + g) d (omega arith)) in
    let same : i + 1 + suc g ≡ i + 1 + g + 1 = omega arith in
    rw same (omega arith)

-- some cell
pub no_cell : StoredCell
no_cell = record { offset = 0; ty = Pointer 0; holds = Unset }

-- what the test of all neighbours answers
pub ascending_answer : (cells : List StoredCell) (r : Bool) → IsAllAdjacentAnswer (λ x y b. b ≡ nat_lt x.offset y.offset) cells r → IsTrue r ↔ IsAscending cells
ascending_answer cells true next = (
  λ _. λ i j d less within.
      let g : ℕ = j - (i + 1) in
      let e : j ≡ i + 1 + g = omega arith in
      rw e (far cells next i g d (omega arith)),
  λ _. refl,
)
ascending_answer cells false (k, within, falls) = (λ h. absurd (cc), λ up. absurd (clash (up k (k + 1) no_cell (omega arith) within) (falls no_cell)))
  where
    clash : {a b : ℕ} → a < b → false ≡ nat_lt a b → ⊥
    clash h e = grind (arith, nat_tests)

module _ (cells : List StoredCell) (up : IsAscending cells) (offset : ℕ) where
  rises : IsNonDecreasingBy (λ cell. ordering_index (nat_cmp cell.offset offset)) cells
  rises i j d le within = grind (arith, nat_tests, up i j d, λ (same : i ≡ j). ap (λ k. (get_or cells k d).offset) same)

  -- a search by halves ends at the cell of the offset, or there is none
  pub searched : (r : Result ℕ ℕ) → IsSearchInRange r (length cells) → IsBinarySearchResult (λ cell. nat_cmp cell.offset offset) cells r → IsAt cells offset (result_ok r)
  searched (Ok k) within equal = (within, λ d. ranked _ offset _ (sym (equal d)))
  searched (Err k) within parted = λ j d below same.
      grind (arith, same, λ (h : j < k). ranked _ offset _ (sym ((parted rises).0 j d (omega arith) h)), λ (h : k ≤ j). ranked _ offset _ (sym ((parted rises).1 j d h below)))

  -- no access meets a cell where none is at the offset
  pub none_met : (ty : CellType) → IsAt cells offset None → None ≡ place_of cells offset ty
  none_met ty none =
      let e : position_or_len (meets offset ty) cells ≡ length cells = position_or_len_is (meets offset ty) cells (length cells) no_cell (omega arith) (λ k h. missed k h) (λ h. absurd (omega arith)) in
      rw e (grind (arith, nat_tests))
    where
      missed : (k : ℕ) → k < length cells → meets offset ty (get_or cells k no_cell) ≡ false
      missed k h = grind (arith, nat_tests, none k no_cell h)

  module _ (k : ℕ) (here : IsAt cells offset (Some k)) where
    -- cells before and behind one at the offset are elsewhere
    elsewhere : (j : ℕ) → j < length cells → j ≢ k → (get_or cells j no_cell).offset ≢ offset
    elsewhere j within apart = grind (arith, here.1 no_cell, up j k no_cell, up k j no_cell, here.0)

    -- an access meets the one cell at the offset
    pub met : (ty : CellType) (d : StoredCell) → corresponds ty (get_or cells k d).ty ≡ true → Some k ≡ place_of cells offset ty
    met ty d given =
        let same : corresponds ty (get_or cells k no_cell).ty ≡ true = ap (λ cell. corresponds ty cell.ty) (get_or_default cells k no_cell d here.0) ∙ given in
        let e : position_or_len (meets offset ty) cells ≡ k = position_or_len_is (meets offset ty) cells k no_cell (omega (arith, here.0)) (λ j h. grind (arith, nat_tests, elsewhere j (omega (arith, here.0)) (omega arith))) (λ h. grind (arith, nat_tests, here.1 no_cell)) in
        rw e (grind (arith, nat_tests, here.0))

    -- or none, if its type doesn't correspond
    pub unmet : (ty : CellType) (d : StoredCell) → corresponds ty (get_or cells k d).ty ≡ false → None ≡ place_of cells offset ty
    unmet ty d given =
        let e : position_or_len (meets offset ty) cells ≡ length cells = position_or_len_is (meets offset ty) cells (length cells) no_cell (omega arith) (λ j h. missed j h) (λ h. absurd (omega arith)) in
        rw e (grind (arith, nat_tests))
      where
        other : corresponds ty (get_or cells k no_cell).ty ≡ false
        other = ap (λ cell. corresponds ty cell.ty) (get_or_default cells k no_cell d here.0) ∙ given

        missed : (j : ℕ) → j < length cells → meets offset ty (get_or cells j no_cell) ≡ false
        missed j h = grind (arith, nat_tests, elsewhere j h, other, λ (e : j ≡ k). ap (λ i. corresponds ty (get_or cells i no_cell).ty) e)
