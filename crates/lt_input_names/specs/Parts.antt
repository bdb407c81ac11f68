-- The parts of objects in memory.
use Rattle.std.specs.Prelude.{◌≡◌, ℕ, ℤ, pos, negsuc, ◌+◌, ◌*◌, ◌==◌, Bool, false, List, [], map, Option, None, Some}
use Rattle.std.specs.List.{range_with_len, position}
use Rattle.std.specs.Str.{bytes_eq}
use Rattle.std.specs.Global.{Vec}
use Rattle.lt_model.specs.declared.input.Place.{Place}
use Rattle.lt_model.specs.declared.scalar.Scalar.{Scalar}
use Rattle.lt_tree.specs.declared.typed.types.TypeId.{TypeId}
use Rattle.lt_tree.specs.declared.typed.entity.Member.{Member}
use Rattle.lt_tree.specs.Typing.Types.{CType, same_scalar}
use Rattle.lt_tree.specs.Typing.TypeRows.{type_in}
use Rattle.lt_tree.specs.Typing.Extents.{Placed}
use Rattle.lt_table.specs.declared.structs.PlacedMember.{PlacedMember}
use Rattle.lt_entry.specs.Naming as naming
use Rattle.lt_entry.specs.Naming.{stepped, element_at}
use Rattle.lt_entry.specs.declared.place.Step.{Step}
use Rattle.lt_entry.specs.Views.{step_view}
use Rattle.lt_input_names.specs.declared.block.Base.{Base}
use Rattle.lt_input_names.specs.declared.block.Base.TheVariants as base
use Rattle.lt_input_names.specs.declared.block.ElementType.{ElementType}
use Rattle.lt_input_names.specs.declared.names.Names.{Names}
use Rattle.lt_input_names.specs.declared.part.ArrayType.{ArrayType}
use Rattle.lt_input_names.specs.declared.part.Part.{Part}
use Rattle.lt_input_names.specs.declared.part.PartType.{PartType}
use Rattle.lt_input_names.specs.declared.part.Pieces.{Pieces}
use Rattle.lt_input_names.specs.declared.part.Stride.{Stride}
use Rattle.lt_input_names.specs.Blocks.{element_of}
use Rattle.lt_input_names.specs.Roots.{row_part}
use Rattle.lt_input_names.specs.Views.{program_at, types_at, type_at}

-- the type of the elements of an array, and how many there are
abbrev pub array_at : List CType → ArrayType → CType × ℕ
array_at types it = (element_of types it.element, it.count)

-- the type of a row, as that of elements
abbrev pub row_element : TypeId → ElementType
row_element t = record { base = base.Row t; pointers = 0 }

-- the type of elements, as that of a part
abbrev pub element_part : ElementType → PartType
element_part element = record { element = element; count = None }

-- a part of this type that begins at this byte
abbrev pub part_at : CType → (offset : ℕ) → naming.Part
part_at t offset = record { type = t; offset = offset }

abbrev pub pieces_at : Names → Pieces → List naming.Part
pieces_at names pieces = map (part_at (type_at names pieces.ty)) pieces.offsets.items

-- a number that isn't below 0
abbrev pub natural : ℤ → Option ℕ
natural (pos n) = Some n
natural (negsuc n) = None

-- where so many parts begin, the first at this byte, so many bytes apart
abbrev pub run : (first apart count : ℕ) → List ℕ
run first apart count = map (λ k. first + k * apart) (range_with_len 0 count)

-- the bytes at which parts begin to which a step leads, from a part that begins at this one
abbrev pub strided : Stride → (offset : ℕ) → List ℕ
strided stride offset = run (offset + stride.start) stride.apart stride.count

abbrev pub parts_of_stride : Names → Option Stride → (offset : ℕ) → List naming.Part
parts_of_stride names None offset = []
parts_of_stride names (Some stride) offset = map (part_at (type_at names stride.ty)) (strided stride offset)

-- A step leads from each part of this type to these.
abbrev pub LeadsTo : Names → Step → PartType → Option Stride → Type 0
LeadsTo names step t stride = (offset : ℕ) → stepped (program_at names) (step_view step) (part_at (type_at names t) offset) ≡ parts_of_stride names stride offset

-- The element of this number of an array, if it has that.
abbrev pub IsElement : Names → ArrayType → (number : ℕ) → Option Stride → Type 0
IsElement names array number stride =
    (offset : ℕ) → element_at (program_at names) (element_of (types_at names) array.element) array.count offset (pos number) ≡ parts_of_stride names stride offset

-- a part of the object of this name
abbrev pub place_in : (name : List ℕ) → (offset : ℕ) → Place
place_in name offset = record { root = name; offset = offset }

abbrev pub address_in : (name : List ℕ) → (offset : ℕ) → Option Place
address_in name offset = Some (place_in name offset)

abbrev pub part_in : (name : List ℕ) → PartType → (offset : ℕ) → Part
part_in name t offset = record { place = place_in name offset; ty = t }

-- ---- members

-- the place of the first member of this name
abbrev pub first_named : (name : List ℕ) → List Member → Option ℕ
first_named name members = position (λ member. bytes_eq member.name name) members

abbrev pub pair_at : List CType → PlacedMember → CType × ℕ
pair_at types member = (type_in types member.ty, member.offset)

abbrev pub placed_pair : Placed → CType × ℕ
placed_pair member = (member.type, member.offset)

abbrev pub stride_of : PlacedMember → Stride
stride_of member = record { ty = row_part member.ty; start = member.offset; apart = 0; count = 1 }

abbrev pub members_within : Option (Vec Member) → List Member
members_within None = []
members_within (Some members) = members.items

-- ---- types

-- a type, as that of a part
abbrev pub base_part : Base → PartType
base_part base = element_part (record { base = base; pointers = 0 })

abbrev pub has_scalar : Scalar → Option Scalar → Bool
has_scalar s None = false
has_scalar s (Some r) = same_scalar r s

abbrev pub has_number : ℕ → Option ℕ → Bool
has_number k None = false
has_number k (Some j) = j == k
