-- The cells and the size of an array, and those of structs one after the other.
use Rattle.std.proofs.Common.{◌≡◌, ℕ, ◌+◌, ◌*◌, true, List, ◌++◌, length, slice_index_or, sym, ap, subst, ◌∙◌}
use Rattle.std.proofs.lemmas.List.{length-map}
use Rattle.lt_model.specs.declared.cell.ShapeCell.{ShapeCell}
use Rattle.lt_tree.specs.Typing.Types.{CType, Array, Struct}
use Rattle.lt_tree.specs.Typing.EntityView.{struct_of}
use Rattle.lt_tree.specs.Typing.Extents.{placed_members, size_of}
use Rattle.lt_tree.specs.Typing.Shapes.{repeated}
use Rattle.lt_tree.specs.Typing.Programs.{Program}
use Rattle.lt_meaning.specs.Expressions.{shape}
use Rattle.lt_table.specs.declared.structs.PlacedMember.{PlacedMember}
use Rattle.lt_table.specs.StructTables.{pairs_in}
use Rattle.lt_tables.specs.declared.tables.Tables.{Tables}
use Rattle.lt_tables.specs.Apart as apart
use Rattle.lt_tables.specs.Layouts.{members_among, pairs_of, same_pairs}
use Rattle.lt_tables.specs.Stretches.{cells_in}
use Rattle.lt_tables.specs.Views.{types_at, program_at}
use Rattle.lt_tables.proofs.ArraySizes.{repeated_more}
use Rattle.lt_tables.proofs.PlacedRows.{same_pairs_exact}
use Rattle.lt_tables.proofs.StretchCells.{struct_cells}

pub array_made : (program : Program) (t : CType) (n size : ℕ) (cells : List ShapeCell)
    → cells ≡ repeated n (size_of program.model program.structs t) (cells_in program (length program.structs) t) 0 → size ≡ size_of program.model program.structs (Array t n)
    → record { cells = cells; size = size } ≡ shape program (Array t n)
array_made program t n size cells are is =
    ap (λ l. record { cells = l; size = size }) are ∙ ap (λ s. record { cells = repeated n (size_of program.model program.structs t) (cells_in program (length program.structs) t) 0; size = s }) is

module _ (tables : Tables) where
  abbrev program : Program
  program = program_at tables

  pub deep : length tables.program.now.structs.items ≡ length (program_at tables).structs
  deep = sym (length-map tables.program.now.structs.items (struct_of (types_at tables)))

  struct_part : (k offset : ℕ) (members : List PlacedMember) → members ≡ members_among tables.layouts.members.items k
      → apart.struct_cells tables members offset ≡ cells_in program (length program.structs) (Struct k) offset
  struct_part k offset members is =
      let pairs = pairs_of (types_at tables) members in
      let same = subst (λ l. same_pairs (pairs_of (types_at tables) l) (pairs_in (placed_members program.model program.structs k)) ≡ true) (sym is) (tables.layouts_hold.members k) in
      struct_cells program (length tables.program.now.structs.items) k offset pairs (same_pairs_exact pairs (pairs_in (placed_members program.model program.structs k)) same)
      ∙ ap (λ d. cells_in program d (Struct k) offset) deep

  pub struct_more : (k n size at : ℕ) (members : List PlacedMember) (old new : List ShapeCell) → members ≡ members_among tables.layouts.members.items k → size ≡ slice_index_or tables.layouts.struct_sizes.items k 0
      → at ≡ size * n → old ≡ repeated n (size_of (program_at tables).model (program_at tables).structs (Struct k)) (cells_in (program_at tables) (length (program_at tables).structs) (Struct k)) 0
      → new ≡ old ++ apart.struct_cells tables members at
      → new ≡ repeated (n + 1) (size_of (program_at tables).model (program_at tables).structs (Struct k)) (cells_in (program_at tables) (length (program_at tables).structs) (Struct k)) 0
  struct_more k n size at members old new is size_is place before after =
      repeated_more n (size_of program.model program.structs (Struct k)) at (cells_in program (length program.structs) (Struct k)) old new (apart.struct_cells tables members at) before after (struct_part k at members is)
      (place ∙ ap (λ s. s * n) (size_is ∙ tables.layouts_hold.struct_sizes k))
