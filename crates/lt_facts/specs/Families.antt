-- Families of types: integers of signed and of unsigned types, and pointers.
use Rattle.std.specs.Prelude.{◌≡◌, Bool, true, false, if◌then◌else◌, List, [], ◌∷◌, ◌++◌, slice_index_or, map}
use Rattle.lt_model.specs.declared.scalar.DataModel.{DataModel}
use Rattle.lt_model.specs.Scalar.{is_signed}
use Rattle.lt_tree.specs.declared.typed.types.TypeRow.{TypeRow}
use Rattle.lt_tree.specs.declared.typed.types.TypeRow.TheVariants as row
use Rattle.lt_tree.specs.declared.typed.program.Program.{Program}
use Rattle.lt_tree.specs.Typing.Types.{CType, Num, Pointer, Qualified, is_integer, is_pointer}
use Rattle.lt_tree.specs.Typing.TypeRows.{types_of_rows}
use Rattle.lt_objectives.specs.Mutants.{is_signed_integer}
use Rattle.lt_facts.specs.declared.types.Family.{Family}
use Rattle.lt_facts.specs.declared.types.Family.TheVariants as F

-- qualifiers aside
abbrev pub family : DataModel → CType → Family
family m (Num s) = if is_signed m s then F.Signed else F.Unsigned
family m (Pointer t) = F.Pointer
family m (Qualified q t) = family m t
family m _ = F.Other

-- of the types of a program's table, by their places
abbrev pub type_families : Program → List Family
type_families program = map (family program.model) (types_of_rows program.table.items)

-- ---- what a family says

abbrev pub is_integer_family : Family → Bool
is_integer_family F.Signed = true
is_integer_family F.Unsigned = true
is_integer_family _ = false

abbrev pub is_pointer_family : Family → Bool
is_pointer_family F.Pointer = true
is_pointer_family _ = false

abbrev pub is_signed_family : Family → Bool
is_signed_family F.Signed = true
is_signed_family _ = false

pub record IsFamilyOf (m : DataModel) (t : CType) (family : Family) : Type 0 where
  pub integer : is_integer t ≡ is_integer_family family
  pub pointer : is_pointer t ≡ is_pointer_family family
  pub signed : is_signed_integer m t ≡ is_signed_family family

-- A type is an integer type, a signed one or a pointer where its family says so.
abbrev pub FamiliesAreKinds : Type 0
FamiliesAreKinds = (m : DataModel) (t : CType) → IsFamilyOf m t (family m t)

-- ---- of rows, where these are the families of those before

abbrev pub family_of_row : DataModel → List Family → TypeRow → Family
family_of_row m families (row.Num s) = if is_signed m s then F.Signed else F.Unsigned
family_of_row m families (row.Pointer t) = F.Pointer
family_of_row m families (row.Qualified q t) = slice_index_or families t.place F.Other
family_of_row m families _ = F.Other

abbrev pub families_behind : DataModel → List Family → List TypeRow → List Family
families_behind m families [] = families
families_behind m families (row ∷ rows) = families_behind m (families ++ family_of_row m families row ∷ []) rows
