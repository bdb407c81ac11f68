-- The cells of objects that are taken apart step by step.
use Rattle.std.specs.Prelude.{ℕ, zero, suc, ◌+◌, List, [], ◌∷◌, ◌++◌}
use Rattle.std.specs.List.{flat_map}
use Rattle.lt_model.specs.declared.cell.ShapeCell.{ShapeCell}
use Rattle.lt_tree.specs.Typing.Types.{CType}
use Rattle.lt_tree.specs.Typing.TypeRows.{type_in}
use Rattle.lt_tree.specs.Typing.Extents.{size_of}
use Rattle.lt_tree.specs.Typing.Shapes.{cells_at, struct_cells_at, repeated}
use Rattle.lt_tree.specs.Typing.Programs.{Program}
use Rattle.lt_tables.specs.declared.tables.shapes.Stretch.{Stretch}

-- the cells of an object of a type at an offset, where structs nest no deeper than this
abbrev pub cells_in : Program → (depth : ℕ) → CType → ℕ → List ShapeCell
cells_in program depth t offset =
    cells_at program.model program.structs program.types (struct_cells_at program.model program.structs program.types depth) t offset

-- those of members by their types and offsets, of a struct at an offset
abbrev pub members_cells : Program → (depth : ℕ) → List (CType × ℕ) → ℕ → List ShapeCell
members_cells program zero members offset = []
members_cells program (suc depth) members offset = flat_map (λ member. cells_in program depth member.0 (offset + member.1)) members

-- those of objects of a type, one behind the other
abbrev pub stretch_cells : Program → List CType → Stretch → List ShapeCell
stretch_cells program types it =
    repeated it.count (size_of program.model program.structs (type_in types it.ty)) (cells_in program it.depth (type_in types it.ty)) it.offset

-- those of all that is left, of which the last comes first
abbrev pub cells_left : Program → List CType → List Stretch → List ShapeCell
cells_left program types [] = []
cells_left program types (it ∷ its) = cells_left program types its ++ stretch_cells program types it
