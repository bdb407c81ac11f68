-- The steps of calls, on one object or on none.
use Rattle.std.specs.Prelude.{◌==◌, ◌&&◌, ◌+◌, ℕ, ℤ, pos, List, [], ◌∷◌, get_or, slice_set, Option, Some, None, Result, Ok, Err, if◌then◌else◌, int_le, unsigned_abs}
use Rattle.lt_model.specs.declared.scalar.DataModel.{DataModel}
use Rattle.lt_model.specs.declared.operator.Ub.{Ub}
use Rattle.lt_model.specs.declared.operator.Ub.TheVariants as U
use Rattle.lt_model.specs.declared.cell.Address.{Address}
use Rattle.lt_model.specs.declared.cell.CellType.{CellType}
use Rattle.lt_model.specs.declared.cell.Content.{Content}
use Rattle.lt_model.specs.declared.cell.Content.TheVariants as content
use Rattle.lt_model.specs.declared.cell.ShapeCell.{ShapeCell}
use Rattle.lt_model.specs.declared.cell.StoredCell.{StoredCell}
use Rattle.lt_model.specs.Memory.{then_result, held_at, with_held, gathered, scattered}
use Rattle.lt_mem.specs.Cells.{place_of, cells_with}
use Rattle.lt_mem.specs.Image.{Body}

-- an object with this content in the cell that an access meets
abbrev pub stored_in : DataModel → Body → ℕ → CellType → Content → Result Body Ub
stored_in model body offset ty value =
    then_result (with_held model body.cells offset ty value) (λ cells. if body.writable then Ok (record body { cells = cells }) else Err U.Sealed)

-- ---- steps of the copy of a struct

-- a place that there is
abbrev pub placed : Option ℕ → Result ℕ Ub
placed None = Err U.NoCell
placed (Some place) = Ok place

-- Each content that a shape's cells are to be copied waits at the place of the cell that it goes to: the source's cells and where the
-- shape begins in them, the target's likewise, and what waits already.
abbrev pub waiting : List StoredCell → ℕ → List StoredCell → ℕ → List Content → List ShapeCell → Result (List Content) Ub
waiting source from target to waits [] = Ok waits
waiting source from target to waits (cell ∷ rest) =
    then_result (held_at source (from + cell.offset) cell.ty) (λ held. then_result (placed (place_of target (to + cell.offset) cell.ty)) (λ place.
    waiting source from target to (slice_set waits place held) rest))

-- the cells, with what waits for the one at a place
abbrev pub delivered_at : DataModel → List StoredCell → List Content → Option ℕ → List StoredCell
delivered_at model cells waits None = cells
delivered_at model cells waits (Some place) = cells_with model cells place (get_or waits place content.Unset)

-- the cells, with what waits for those of a shape that begins at this offset
abbrev pub delivered : DataModel → List StoredCell → ℕ → List Content → List ShapeCell → List StoredCell
delivered model cells to waits [] = cells
delivered model cells to waits (cell ∷ rest) =
    delivered model (delivered_at model cells waits (place_of cells (to + cell.offset) cell.ty)) to waits rest

-- an object after a struct of this shape was copied into it from these cells
abbrev pub copied_in : DataModel → List StoredCell → ℕ → Body → ℕ → List ShapeCell → Result Body Ub
copied_in model source from target to shape =
    then_result (gathered source from shape) (λ contents. then_result (scattered model target.cells to shape contents) (λ cells.
    if target.writable then Ok (record target { cells = cells }) else Err U.Sealed))

-- ---- steps of the calls on addresses

-- a number of bytes from the start of an object of this size, or of the place one past its end
abbrev pub moved_offset : ℕ → ℤ → Option ℕ
moved_offset size z = if int_le (pos 0) z && int_le z (pos size) then Some (unsigned_abs z) else None

-- the offsets of two addresses of one object
abbrev pub offsets_in_one : Option Address → Option Address → Result (ℕ × ℕ) Ub
offsets_in_one (Some a) (Some b) = if a.block == b.block then Ok (a.offset, b.offset) else Err U.Unrelated
offsets_in_one a b = Err U.Unrelated
