-- What a type is made of: of an array its elements, and theirs; of no array the type itself.
use Rattle.std.specs.Prelude.{◌≡◌, ℕ, ◌*◌, Bool, true, false, not, ◌&&◌, ◌||◌, nat_lt, Option, Some, None, is_some}
use Rattle.lt_model.specs.declared.scalar.DataModel.{DataModel}
use Rattle.lt_model.specs.declared.sizes.Extent.{Extent}
use Rattle.lt_model.specs.Layout.{scalar_extent, pointer_extent}
use Rattle.lt_tree.specs.Typing.Types.{CType, element, is_floating}
use Rattle.lt_tree.specs.Typing.Extents.{Structs, members_of, is_complete, elements, type_cells, single_extent, part_is_constant}
use Rattle.lt_tree.specs.Typing.Declarators.{is_incomplete}
use Rattle.lt_table.specs.declared.table.kind.Kind.{Kind}
use Rattle.lt_table.specs.declared.table.kind.Kind.TheVariants as kind
use Rattle.lt_table.specs.TableKinds.{kind_is_floating}

abbrev pub kind_is_complete : Structs → Kind → Bool
kind_is_complete structs (kind.Num s) = true
kind_is_complete structs (kind.Pointer t) = true
kind_is_complete structs (kind.Struct k) = is_some (members_of structs k)
kind_is_complete structs kind.Floating = true
kind_is_complete structs _ = false

abbrev pub kind_is_incomplete : Structs → Kind → Bool
kind_is_incomplete structs kind.Void = true
kind_is_incomplete structs (kind.Struct k) = not (is_some (members_of structs k))
kind_is_incomplete structs _ = false

abbrev pub kind_cells : (ℕ → ℕ) → Kind → ℕ
kind_cells known (kind.Num s) = 1
kind_cells known (kind.Pointer t) = 1
kind_cells known (kind.Struct k) = known k
kind_cells known kind.Floating = 1
kind_cells known _ = 0

abbrev pub kind_extent : DataModel → (ℕ → Option Extent) → Kind → Option Extent
kind_extent m known (kind.Num s) = Some (scalar_extent m s)
kind_extent m known (kind.Pointer t) = Some (pointer_extent m)
kind_extent m known (kind.Struct k) = known k
kind_extent m known _ = None

abbrev pub kind_is_constant : (ℕ → Bool) → Kind → Bool
kind_is_constant known (kind.Struct k) = known k
kind_is_constant known _ = false

-- a type is made of this kind, which is `const` or not
pub record IsMadeOf (k : Kind) (constant : Bool) (t : CType) : Type 0 where
  pub complete : (structs : Structs) → is_complete structs t ≡ (nat_lt 0 (elements t) && kind_is_complete structs k)
  pub incomplete : (structs : Structs) → is_incomplete structs t ≡ kind_is_incomplete structs k
  pub floating : is_floating (element t) ≡ kind_is_floating k
  pub cells : (known : ℕ → ℕ) → type_cells known t ≡ elements t * kind_cells known k
  pub extent : (m : DataModel) (known : ℕ → Option Extent) → single_extent m known (element t) ≡ kind_extent m known k
  pub parts : (known : ℕ → Bool) → part_is_constant known t ≡ (constant || kind_is_constant known k)
