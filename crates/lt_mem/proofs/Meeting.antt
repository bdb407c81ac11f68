-- What an access finds and writes, by the place of the cell that it meets.
use Rattle.std.proofs.Common.{arith, ◌≡◌, refl, sym, ap, ℕ, zero, suc, ◌<◌, true, false, List, [], ◌∷◌, length, get_or, Some, None, Ok, Err}
use Rattle.std.proofs.lemmas.Bool.Decides.{nat_tests}
use Rattle.std.proofs.lemmas.List.Quantifiers.{position-Some}
use Rattle.std.proofs.lemmas.List.Sums.{fails_before_first}
use Rattle.lt_model.specs.declared.scalar.DataModel.{DataModel}
use Rattle.lt_model.specs.declared.operator.Ub.TheVariants as U
use Rattle.lt_model.specs.declared.cell.CellType.{CellType}
use Rattle.lt_model.specs.declared.cell.Content.{Content}
use Rattle.lt_model.specs.declared.cell.StoredCell.{StoredCell}
use Rattle.lt_model.specs.Memory.{held_at, with_held, before_cells}
use Rattle.lt_mem.specs.Cells.{meets, place_of, cells_with}
use Rattle.lt_mem.proofs.Finding.{no_cell}

module _ (offset : ℕ) (ty : CellType) where
  none_passes : (cells : List StoredCell) → None ≡ place_of cells offset ty → (k : ℕ) → k < length cells → meets offset ty (get_or cells k no_cell) ≡ false
  none_passes cells none k h = fails_before_first (meets offset ty) cells k no_cell (grind (arith, nat_tests, none))

  held_none_by : (cells : List StoredCell) → ((k : ℕ) → k < length cells → meets offset ty (get_or cells k no_cell) ≡ false) → held_at cells offset ty ≡ Err U.NoCell
  held_none_by [] fails = refl
  held_none_by (cell ∷ cells) fails = rw (fails 0 (omega arith)) (held_none_by cells (λ k h. fails (suc k) (omega arith)))

  -- where no cell is met there is nothing to load
  pub held_none : (cells : List StoredCell) → None ≡ place_of cells offset ty → held_at cells offset ty ≡ Err U.NoCell
  held_none cells none = held_none_by cells (none_passes cells none)

  held_some_by : (cells : List StoredCell) (k : ℕ) → k < length cells → meets offset ty (get_or cells k no_cell) ≡ true → ((j : ℕ) → j < k → meets offset ty (get_or cells j no_cell) ≡ false) → held_at cells offset ty ≡ Ok (get_or cells k no_cell).holds
  held_some_by [] k h passes fails = absurd (omega arith)
  held_some_by (cell ∷ cells) zero h passes fails = rw passes refl
  held_some_by (cell ∷ cells) (suc k) h passes fails = rw (fails 0 (omega arith)) (held_some_by cells k (omega arith) passes (λ j l. fails (suc j) (omega arith)))

  -- the cell that is met is the first that passes
  pub held_some : (cells : List StoredCell) (k : ℕ) → Some k ≡ place_of cells offset ty → held_at cells offset ty ≡ Ok (get_or cells k no_cell).holds
  held_some cells k some =
      let first = position-Some (meets offset ty) cells k no_cell (sym some) in
      held_some_by cells k first.0 first.1 first.2

  pub within_some : (cells : List StoredCell) (k : ℕ) → Some k ≡ place_of cells offset ty → k < length cells
  within_some cells k some = (position-Some (meets offset ty) cells k no_cell (sym some)).0

  module _ (model : DataModel) (value : Content) where
    with_none_by : (cells : List StoredCell) → ((k : ℕ) → k < length cells → meets offset ty (get_or cells k no_cell) ≡ false) → with_held model cells offset ty value ≡ Err U.NoCell
    with_none_by [] fails = refl
    with_none_by (cell ∷ cells) fails = rw (fails 0 (omega arith)) (ap (before_cells cell) (with_none_by cells (λ k h. fails (suc k) (omega arith))))

    -- where no cell is met none can be written
    pub with_none : (cells : List StoredCell) → None ≡ place_of cells offset ty → with_held model cells offset ty value ≡ Err U.NoCell
    with_none cells none = with_none_by cells (none_passes cells none)

    with_some_by : (cells : List StoredCell) (k : ℕ) → k < length cells → meets offset ty (get_or cells k no_cell) ≡ true → ((j : ℕ) → j < k → meets offset ty (get_or cells j no_cell) ≡ false) → with_held model cells offset ty value ≡ Ok (cells_with model cells k value)
    with_some_by [] k h passes fails = absurd (omega arith)
    with_some_by (cell ∷ cells) zero h passes fails = rw passes refl
    with_some_by (cell ∷ cells) (suc k) h passes fails = rw (fails 0 (omega arith)) (ap (before_cells cell) (with_some_by cells k (omega arith) passes (λ j l. fails (suc j) (omega arith))))

    -- the cell that is met takes the content
    pub with_some : (cells : List StoredCell) (k : ℕ) → Some k ≡ place_of cells offset ty → with_held model cells offset ty value ≡ Ok (cells_with model cells k value)
    with_some cells k some =
        let first = position-Some (meets offset ty) cells k no_cell (sym some) in
        with_some_by cells k first.0 first.1 first.2
