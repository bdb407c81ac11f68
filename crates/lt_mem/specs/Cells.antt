-- The cells of an object: which one an access meets, and what each may hold.
use Rattle.std.specs.Prelude.{◌≡◌, ◌≢◌, ◌<◌, ◌≤ℤ◌, ℕ, zero, suc, ℤ, pos, negsuc, ◌^◌, ◌-◌, ◌==◌, ◌&&◌, List, [], ◌∷◌, Bool, Option, MatchOption, All, length, get_or, position}
use Rattle.lt_model.specs.declared.scalar.DataModel.{DataModel}
use Rattle.lt_model.specs.declared.cell.CellType.{CellType}
use Rattle.lt_model.specs.declared.cell.Content.{Content}
use Rattle.lt_model.specs.declared.cell.Content.TheVariants as content
use Rattle.lt_model.specs.declared.cell.StoredCell.{StoredCell}
use Rattle.lt_model.specs.Memory.{corresponds, as_type}

-- whether an access of this type at this offset meets a cell
abbrev pub meets : ℕ → CellType → StoredCell → Bool
meets offset ty cell = cell.offset == offset && corresponds ty cell.ty

-- the place of the first cell that an access meets
abbrev pub place_of : List StoredCell → ℕ → CellType → Option ℕ
place_of cells offset ty = position (meets offset ty) cells

-- each offset is greater than the one before
abbrev pub IsAscending : List StoredCell → Type 0
IsAscending cells = (i j : ℕ) (d : StoredCell) → i < j → j < length cells → (get_or cells i d).offset < (get_or cells j d).offset

-- a cell stands at the offset, or none does
abbrev pub IsAt : List StoredCell → ℕ → Option ℕ → Type 0
IsAt cells offset place =
    MatchOption place ((k : ℕ) (d : StoredCell) → k < length cells → (get_or cells k d).offset ≢ offset)
    (λ k. (k < length cells) × ((d : StoredCell) → (get_or cells k d).offset ≡ offset))

-- a number that an integer type has
pub record IsInteger (z : ℤ) : Type 0 where
  pub above : negsuc (2 ^ 63 - 1) ≤ℤ z
  pub below : z ≤ℤ pos (2 ^ 64 - 1)

-- a content whose number, if it is one, an integer type has
abbrev pub IsFit : Content → Type 0
IsFit content.Unset = Unit {0}
IsFit (content.Number z) = IsInteger z
IsFit (content.Address at) = Unit {0}

abbrev pub AllFit : List StoredCell → Type 0
AllFit cells = All (λ cell. IsFit cell.holds) cells

-- the cells, with this content in the cell at a place, as a content of that cell's type
abbrev pub cells_with : DataModel → List StoredCell → ℕ → Content → List StoredCell
cells_with model [] place held = []
cells_with model (cell ∷ cells) zero held = record cell { holds = as_type model cell.ty held } ∷ cells
cells_with model (cell ∷ cells) (suc place) held = cell ∷ cells_with model cells place held
