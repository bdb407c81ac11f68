-- The cells of objects, with their offsets and types, C11 6.2.6: what memory has of an object of a type.
use Rattle.std.specs.Prelude.{ℕ, zero, suc, ◌+◌, if◌then◌else◌, List, [], ◌∷◌, ◌++◌, length}
use Rattle.std.specs.List.{flat_map}
use Rattle.lt_model.specs.declared.scalar.DataModel.{DataModel}
use Rattle.lt_model.specs.declared.cell.Shape.{Shape}
use Rattle.lt_model.specs.declared.cell.ShapeCell.{ShapeCell}
use Rattle.lt_model.specs.declared.cell.CellType.{CellType}
use Rattle.lt_model.specs.declared.cell.CellType.TheVariants as cell
use Rattle.lt_tree.specs.Typing.Types.{CType, Void, Num, Pointer, Array, Struct, Function, Floating, Qualified, bare, same}
use Rattle.lt_tree.specs.Typing.Extents.{Structs, placed_members, size_of}

-- the place of a type without qualifiers among the types of a program
abbrev pub place_among : ℕ → CType → List CType → ℕ
place_among at t [] = at
place_among at t (u ∷ us) = if same t u then at else place_among (suc at) t us

-- the number of a pointer's type is its place among the types of the program
abbrev pub pointer_type : List CType → CType → CellType
pointer_type types t = cell.Pointer (place_among 0 (bare t) types)

-- so many times the same cells, one behind the other
abbrev pub repeated : ℕ → ℕ → (ℕ → List ShapeCell) → ℕ → List ShapeCell
repeated zero size part offset = []
repeated (suc n) size part offset = part offset ++ repeated n size part (offset + size)

-- the cells of an object of a type at an offset, where those of structs are known
abbrev pub cells_at : DataModel → Structs → List CType → (ℕ → ℕ → List ShapeCell) → CType → ℕ → List ShapeCell
cells_at m structs types known (Num s) offset = record { offset = offset; ty = cell.Num s } ∷ []
cells_at m structs types known (Pointer t) offset = record { offset = offset; ty = pointer_type types (Pointer t) } ∷ []
cells_at m structs types known (Array t n) offset = repeated n (size_of m structs t) (cells_at m structs types known t) offset
cells_at m structs types known (Struct k) offset = known k offset
cells_at m structs types known (Qualified q t) offset = cells_at m structs types known t offset
cells_at m structs types known Void offset = []
cells_at m structs types known (Function t ts dots) offset = []
cells_at m structs types known Floating offset = []

-- the cells of a struct; the first number is how deep structs may nest
unfoldable pub struct_cells_at : DataModel → Structs → List CType → ℕ → ℕ → ℕ → List ShapeCell
struct_cells_at m structs types zero k offset = []
struct_cells_at m structs types (suc depth) k offset =
    flat_map (λ member. cells_at m structs types (struct_cells_at m structs types depth) member.type (offset + member.offset)) (placed_members m structs k)

-- what memory has of an object of this type: its cells and its size
abbrev pub shape_of : DataModel → Structs → List CType → CType → Shape
shape_of m structs types t = record { cells = cells_at m structs types (struct_cells_at m structs types (length structs)) t 0; size = size_of m structs t }
