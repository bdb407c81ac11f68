-- The first object of a stretch, by the row of its type.
use Rattle.std.proofs.Common.{◌≡◌, ℕ, true, List, [], ◌∷◌, ◌++◌, slice_get, Some, None, refl, sym, ap, ◌∙◌, append-nil, Result, Ok, Err}
use Rattle.std.specs.Result.{OnOk}
use Rattle.lt_model.specs.declared.scalar.Scalar.{Scalar}
use Rattle.lt_model.specs.declared.ctype.Quals.{Quals}
use Rattle.lt_model.specs.declared.cell.ShapeCell.{ShapeCell}
use Rattle.lt_tree.specs.declared.typed.types.TypeId.{TypeId}
use Rattle.lt_tree.specs.declared.typed.types.FunctionType.{FunctionType}
use Rattle.lt_tree.specs.declared.typed.types.TypeRow.{TypeRow}
use Rattle.lt_tree.specs.declared.typed.types.TypeRow.TheVariants as row
use Rattle.lt_tree.specs.Typing.Types.{CType}
use Rattle.lt_tree.specs.Typing.TypeRows.{type_in, type_of_row, types_of_rows}
use Rattle.lt_tree.specs.Typing.TypeIds.{AreMadeOfRowsBefore}
use Rattle.lt_tree.specs.Typing.Extents.{placed_members}
use Rattle.lt_tree.specs.Typing.Programs.{Program}
use Rattle.lt_meaning.specs.Expressions.{cell_type}
use Rattle.lt_table.specs.declared.structs.PlacedMember.{PlacedMember}
use Rattle.lt_table.specs.StructTables.{pairs_in}
use Rattle.lt_tables.specs.declared.tables.shapes.Stretch.{Stretch}
use Rattle.lt_tables.specs.Layouts.{pairs_of, same_pairs}
use Rattle.lt_tables.specs.Stretches.{cells_in, members_cells, cells_left}
use Rattle.lt_tables.proofs.RowTypes.{row_type, no_row_type}
use Rattle.lt_tables.proofs.PlacedRows.{same_pairs_exact}
use Rattle.lt_tables.proofs.StretchCells.{scalar_opened, stretch_left, none_left, struct_cells}

module _ (program : Program) (rows : List TypeRow) (made : AreMadeOfRowsBefore rows) (it : Stretch) (left : List Stretch) (old : List ShapeCell) where
  abbrev types : List CType
  types = types_of_rows rows

  abbrev opened : CType → List ShapeCell
  opened t = cells_in program it.depth t it.offset

  -- these cells are there, and these stretches left, when the first object is taken apart
  abbrev pub IsOpened : List ShapeCell → List Stretch → Type 0
  IsOpened cells new = cells ++ cells_left program types new ≡ old ++ (opened (type_in types it.ty) ++ cells_left program types left)

  at_row : (r s : TypeRow) → slice_get rows it.ty.place ≡ Some r → r ≡ s → type_in types it.ty ≡ type_of_row types s
  at_row r s at is = row_type rows it.ty s made (at ∙ ap Some is)

  abbrev cell_at : CType → ShapeCell
  cell_at t = record { offset = it.offset; ty = cell_type program t }

  scalar_row : (t : CType) (cells : List ShapeCell) (c : ShapeCell) → type_in types it.ty ≡ t → opened t ≡ cell_at t ∷ [] → c ≡ cell_at (type_in types it.ty) → cells ≡ old ++ c ∷ [] → IsOpened cells left
  scalar_row t cells c is one made last =
      scalar_opened program types left old cells (opened (type_in types it.ty)) c last (ap opened is ∙ one ∙ ap (λ u. cell_at u ∷ []) (sym is) ∙ ap (λ x. x ∷ []) (sym made))

  pub num_opened : (r : TypeRow) (s : Scalar) (cells : List ShapeCell) (c : ShapeCell) → slice_get rows it.ty.place ≡ Some r → r ≡ row.Num s
      → c ≡ record { offset = it.offset; ty = cell_type program (type_in types it.ty) } → cells ≡ old ++ c ∷ [] → IsOpened cells left
  num_opened r s cells c at is made last = scalar_row (type_of_row types (row.Num s)) cells c (at_row r (row.Num s) at is) refl made last

  pub pointer_opened : (r : TypeRow) (t : TypeId) (cells : List ShapeCell) (c : ShapeCell) → slice_get rows it.ty.place ≡ Some r → r ≡ row.Pointer t
      → c ≡ record { offset = it.offset; ty = cell_type program (type_in types it.ty) } → cells ≡ old ++ c ∷ [] → IsOpened cells left
  pointer_opened r t cells c at is made last = scalar_row (type_of_row types (row.Pointer t)) cells c (at_row r (row.Pointer t) at is) refl made last

  pub array_opened : (r : TypeRow) (t : TypeId) (n : ℕ) (new : List Stretch) → slice_get rows it.ty.place ≡ Some r → r ≡ row.Array t n
      → new ≡ left ++ record { ty = t; offset = it.offset; count = n; depth = it.depth } ∷ [] → IsOpened old new
  array_opened r t n new at is last =
      stretch_left program types left new old (opened (type_in types it.ty)) (record { ty = t; offset = it.offset; count = n; depth = it.depth }) last (ap opened (sym (at_row r (row.Array t n) at is)))

  pub qualified_opened : (r : TypeRow) (q : Quals) (t : TypeId) (new : List Stretch) → slice_get rows it.ty.place ≡ Some r → r ≡ row.Qualified q t
      → new ≡ left ++ record { ty = t; offset = it.offset; count = 1; depth = it.depth } ∷ [] → IsOpened old new
  qualified_opened r q t new at is last =
      stretch_left program types left new old (opened (type_in types it.ty)) (record { ty = t; offset = it.offset; count = 1; depth = it.depth }) last
      (append-nil (opened (type_in types t)) ∙ ap opened (sym (at_row r (row.Qualified q t) at is)))

  pub struct_opened : (r : TypeRow) (k : ℕ) (members : List PlacedMember) (new : List Stretch) → slice_get rows it.ty.place ≡ Some r → r ≡ row.Struct k
      → same_pairs (pairs_of types members) (pairs_in (placed_members program.model program.structs k)) ≡ true
      → cells_left program types new ≡ members_cells program it.depth (pairs_of types members) it.offset ++ cells_left program types left → IsOpened old new
  struct_opened r k members new at is same left_is =
      ap (λ l. old ++ l) left_is
      ∙ ap (λ l. old ++ (l ++ cells_left program types left))
      (struct_cells program it.depth k it.offset (pairs_of types members) (same_pairs_exact (pairs_of types members) (pairs_in (placed_members program.model program.structs k)) same)
      ∙ ap opened (sym (at_row r (row.Struct k) at is)))

  pub void_opened : (r : TypeRow) → slice_get rows it.ty.place ≡ Some r → r ≡ row.Void → IsOpened old left
  void_opened r at is = none_left program types left old (opened (type_in types it.ty)) (ap opened (at_row r row.Void at is))

  pub floating_opened : (r : TypeRow) → slice_get rows it.ty.place ≡ Some r → r ≡ row.Floating → IsOpened old left
  floating_opened r at is = none_left program types left old (opened (type_in types it.ty)) (ap opened (at_row r row.Floating at is))

  pub function_opened : (r : TypeRow) (f : FunctionType) → slice_get rows it.ty.place ≡ Some r → r ≡ row.Function f → IsOpened old left
  function_opened r f at is = none_left program types left old (opened (type_in types it.ty)) (ap opened (at_row r (row.Function f) at is))

  pub none_opened : slice_get rows it.ty.place ≡ None → IsOpened old left
  none_opened none = none_left program types left old (opened (type_in types it.ty)) (ap opened (no_row_type rows it.ty none))

  pub struct_left : {E : Type 0} (r : TypeRow) (k : ℕ) (members : List PlacedMember) (new : List Stretch) (result : Result (Unit {0}) E) → slice_get rows it.ty.place ≡ Some r → r ≡ row.Struct k
      → same_pairs (pairs_of types members) (pairs_in (placed_members program.model program.structs k)) ≡ true
      → OnOk result ((program : Program) (types : List CType) → cells_left program types new ≡ members_cells program it.depth (pairs_of types members) it.offset ++ cells_left program types left) → OnOk result (IsOpened old new)
  struct_left r k members new (Ok u) at is same h = struct_opened r k members new at is same (h program types)
  struct_left r k members new (Err e) at is same h = tt
