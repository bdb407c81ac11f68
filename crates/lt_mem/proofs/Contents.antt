-- One cell of an object takes a content: where cells are found stays.
use Rattle.std.proofs.Common.{arith, ◌≡◌, refl, sym, ◌∙◌, ap, subst, ℕ, zero, suc, ◌<◌, Bool, true, false, List, [], ◌∷◌, length, get_or, set, map}
use Rattle.std.proofs.lemmas.Int.{ints}
use Rattle.std.proofs.lemmas.List.Elements.{All-map, All-set}
use Rattle.lt_model.specs.declared.scalar.DataModel.{DataModel}
use Rattle.lt_model.specs.declared.cell.CellType.{CellType}
use Rattle.lt_model.specs.declared.cell.CellType.TheVariants.{Num, Pointer}
use Rattle.lt_model.specs.declared.cell.Content.{Content}
use Rattle.lt_model.specs.declared.cell.StoredCell.{StoredCell}
use Rattle.lt_model.specs.declared.cell.ShapeCell.{ShapeCell}
use Rattle.lt_model.specs.Memory.{as_type, first_content, new_cell}
use Rattle.lt_mem.specs.Image.{Body}
use Rattle.lt_mem.specs.Cells.{cells_with, IsAscending, IsFit, AllFit}

-- a cell with another content
abbrev pub cell_with : DataModel → StoredCell → Content → StoredCell
cell_with model cell held = record { offset = cell.offset; ty = cell.ty; holds = as_type model cell.ty held }

module _ (model : DataModel) (held : Content) where
  pub with_is : (cells : List StoredCell) (place : ℕ) (cell : StoredCell) → place < length cells → cell ≡ get_or cells place cell → set cells place (cell_with model cell held) ≡ cells_with model cells place held
  with_is [] place cell h read = refl
  with_is (first ∷ cells) zero cell h read = ap (λ c. cell_with model c held ∷ cells) read
  with_is (first ∷ cells) (suc place) cell h read = ap (λ cs. first ∷ cs) (with_is cells place cell (omega arith) read)

  pub length-cells_with : (cells : List StoredCell) (place : ℕ) → length (cells_with model cells place held) ≡ length cells
  length-cells_with [] place = refl
  length-cells_with (first ∷ cells) zero = refl
  length-cells_with (first ∷ cells) (suc place) = ap suc (length-cells_with cells place)

  offset_with : (cells : List StoredCell) (place i : ℕ) (d : StoredCell) → (get_or (cells_with model cells place held) i d).offset ≡ (get_or cells i d).offset
  offset_with [] place i d = refl
  offset_with (first ∷ cells) zero zero d = refl
  offset_with (first ∷ cells) zero (suc i) d = refl
  offset_with (first ∷ cells) (suc place) zero d = refl
  offset_with (first ∷ cells) (suc place) (suc i) d = offset_with cells place i d

  pub ascending_with : (cells : List StoredCell) (place : ℕ) → IsAscending cells → IsAscending (cells_with model cells place held)
  ascending_with cells place up i j d less within =
      let n : length (cells_with model cells place held) ≡ length cells = length-cells_with cells place in
      rw (offset_with cells place i d, offset_with cells place j d) (up i j d less (omega arith))

  -- an object keeps what always holds of its cells
  pub put_keeps : (ascending : Bool) (cells : List StoredCell) (place : ℕ) (cell : StoredCell) (holds : Content) → (ascending ≡ true → IsAscending cells) × AllFit cells → place < length cells → cell ≡ get_or cells place cell → holds ≡ as_type model cell.ty held → IsFit holds → (ascending ≡ true → IsAscending (set cells place (record { offset = cell.offset; ty = cell.ty; holds = holds }))) × AllFit (set cells place (record { offset = cell.offset; ty = cell.ty; holds = holds }))
  put_keeps ascending cells place cell holds (up, all) within read is fit =
      let same : set cells place (record { offset = cell.offset; ty = cell.ty; holds = holds }) ≡ cells_with model cells place held = ap (λ h. set cells place (record { offset = cell.offset; ty = cell.ty; holds = h })) is ∙ with_is cells place cell within read in
      (λ on. subst IsAscending (sym same) (ascending_with cells place (up on)), All-set (λ c. IsFit c.holds) cells place (record { offset = cell.offset; ty = cell.ty; holds = holds }) fit all)

  pub put_is : (cells after : List StoredCell) (place : ℕ) (cell : StoredCell) (holds : Content) → place < length cells → cell ≡ get_or cells place cell → holds ≡ as_type model cell.ty held → after ≡ set cells place (record { offset = cell.offset; ty = cell.ty; holds = holds }) → after ≡ cells_with model cells place held
  put_is cells after place cell holds within read is e = e ∙ ap (λ h. set cells place (record { offset = cell.offset; ty = cell.ty; holds = h })) is ∙ with_is cells place cell within read

fit_at_first : (zeroed : Bool) (ty : CellType) → IsFit (first_content zeroed ty)
fit_at_first false ty = tt
fit_at_first true (Num s) = record { above = omega (arith, ints); below = omega (arith, ints) }
fit_at_first true (Pointer p) = tt

-- a new object's cells are fit
pub new_fit : (zeroed : Bool) (shape : List ShapeCell) → AllFit (map (new_cell zeroed) shape)
new_fit zeroed shape = All-map (λ c. IsFit c.holds) (new_cell zeroed) shape (λ k d h. fit_at_first zeroed (get_or shape k d).ty)

-- a body that differs from another in its cells alone, changed in its cells
pub same_but_cells : (first before after : Body) (cells : List StoredCell) → before ≡ record first { cells = before.cells } → after ≡ record before { cells = cells } → after ≡ record first { cells = after.cells }
same_but_cells first before after cells e f =
    let w : after.writable ≡ first.writable = ap (λ (b : Body). b.writable) f ∙ ap (λ (b : Body). b.writable) e in
    let s : after.size ≡ first.size = ap (λ (b : Body). b.size) f ∙ ap (λ (b : Body). b.size) e in
    ap (λ b. record { writable = b; size = after.size; cells = after.cells }) w ∙ ap (λ n. record { writable = first.writable; size = n; cells = after.cells }) s
