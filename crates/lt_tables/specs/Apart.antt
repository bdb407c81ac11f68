-- What tables say of stretches that are taken apart.
use Rattle.std.specs.Prelude.{◌≡◌, ◌+◌, ◌-◌, ℕ, List, ◌++◌, length}
use Rattle.lt_model.specs.declared.cell.ShapeCell.{ShapeCell}
use Rattle.lt_tree.specs.Typing.TypeRows.{type_in}
use Rattle.lt_tree.specs.Typing.Extents.{size_of}
use Rattle.lt_table.specs.declared.structs.PlacedMember.{PlacedMember}
use Rattle.lt_tables.specs.Layouts.{pairs_of}
use Rattle.lt_tables.specs.declared.tables.Tables.{Tables}
use Rattle.lt_tables.specs.declared.tables.shapes.Stretch.{Stretch}
use Rattle.lt_tables.specs.Stretches.{cells_in, members_cells, stretch_cells, cells_left}
use Rattle.lt_tables.specs.Views.{types_at, program_at}

-- the cells of a stretch, and those of its first object
abbrev pub all_cells : Tables → Stretch → List ShapeCell
all_cells tables it = stretch_cells (program_at tables) (types_at tables) it

abbrev pub first_cells : Tables → Stretch → List ShapeCell
first_cells tables it = cells_in (program_at tables) it.depth (type_in (types_at tables) it.ty) it.offset

-- those of a struct with these members at an offset
abbrev pub struct_cells : Tables → List PlacedMember → ℕ → List ShapeCell
struct_cells tables members offset = members_cells (program_at tables) (length tables.program.now.structs.items) (pairs_of (types_at tables) members) offset

-- what is behind the first object of a stretch
abbrev pub behind_first : Tables → Stretch → Stretch
behind_first tables it = record {
  ty = it.ty;
  offset = it.offset + size_of (program_at tables).model (program_at tables).structs (type_in (types_at tables) it.ty);
  count = it.count - 1;
  depth = it.depth;
}

-- Cells were there and stretches left, and then these are: with them came the cells of what was taken apart.
abbrev pub Came : Tables → List ShapeCell → List Stretch → List ShapeCell → List Stretch → List ShapeCell → Type 0
Came tables old left cells rest taken =
    cells ++ cells_left (program_at tables) (types_at tables) rest ≡ old ++ (taken ++ cells_left (program_at tables) (types_at tables) left)
