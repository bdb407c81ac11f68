-- What places and targets name: parts of objects of a program and of blocks of a file.
use Rattle.std.specs.Prelude.{ℕ, zero, suc, ℤ, pos, negsuc, ◌+◌, ◌*◌, ◌==◌, ◌&&◌, nat_lt, Bool, true, false, if◌then◌else◌, List, [], ◌∷◌, ◌++◌, map, flat_map, filter_map, slice_get, Option, Some, None, option_map}
use Rattle.std.specs.List.{list_all}
use Rattle.std.specs.Str.{bytes_eq}
use Rattle.lt_model.specs.declared.input.Place.{Place}
use Rattle.lt_tree.specs.Typing.Types.{CType, Array, bare, same, struct_of, target_of}
use Rattle.lt_tree.specs.Typing.Extents.{size_of, has_size, member_of}
use Rattle.lt_tree.specs.Typing.Entities.{Object, is_linked}
use Rattle.lt_tree.specs.Typing.Programs.{Program}
use Rattle.lt_entry.specs.Written.{Numeral, value_of, default_name, Step, at_index, at_each, at_member, PlaceWord, TargetWord, to_null, to_place}

-- ---- objects that files name

-- an object with its name and type
pub record Root : Type 0 where
  pub name : List ℕ
  pub type : CType
  -- whether it is a block, one past the end of which may be named
  pub is_block : Bool

-- a block: an array of so many elements
pub record Block : Type 0 where
  pub name : List ℕ
  pub element : CType
  pub count : ℕ

abbrev pub block_root : Block → Root
block_root block = record { name = block.name; type = Array block.element block.count; is_block = true }

abbrev pub object_root : Object → Root
object_root object = record { name = object.name; type = object.type; is_block = false }

-- the parameters of the function of this number among those with bodies
abbrev pub parameters_of : Program → ℕ → List Root
parameters_of program k = elim (slice_get program.functions k) [
  | None ↦ []
  | Some f ↦ filter_map (λ n. option_map object_root (slice_get program.objects n)) f.parameters
]

-- the objects with linkage: those of file scope, and those that blocks declare as `extern`
abbrev pub file_objects : Program → List Root
file_objects program = filter_map (λ object. if is_linked object.life then Some (object_root object) else None) program.objects

-- what names stand for on a line: parameters, then blocks, then objects of the program
pub record Scope : Type 0 where
  pub program : Program
  pub parameters : List Root
  pub blocks : List Block

abbrev pub roots : Scope → List Root
roots scope = scope.parameters ++ map block_root scope.blocks ++ file_objects scope.program

-- the first of this name
abbrev pub root_among : List Root → List ℕ → Option Root
root_among [] name = None
root_among (root ∷ roots) name = if bytes_eq root.name name then Some root else root_among roots name

-- ---- default blocks

-- A pointer to a type that has a size points to a block of one element, unless the file says otherwise.
abbrev pub default_block : Program → Root → Option Block
default_block program parameter = elim (target_of parameter.type) [
  | None ↦ None
  | Some t ↦ if has_size program.structs t then Some (record { name = default_name parameter.name; element = t; count = 1 }) else None
]

-- ---- parts of objects, C11 6.5.2.1 and 6.5.2.3

-- a part of an object: its type, and the byte at which it begins
pub record Part : Type 0 where
  pub type : CType
  pub offset : ℕ

abbrev pub whole : Root → Part
whole root = record { type = root.type; offset = 0 }

-- the elements of an array of this type, from the given number on
abbrev pub elements_from : Program → CType → (index count offset : ℕ) → List Part
elements_from program t index zero offset = []
elements_from program t index (suc count) offset =
    record { type = t; offset = offset + index * size_of program.model program.structs t } ∷ elements_from program t (suc index) count offset

abbrev pub element_at : Program → CType → (count offset : ℕ) → ℤ → List Part
element_at program t count offset (pos i) =
    if nat_lt i count then record { type = t; offset = offset + i * size_of program.model program.structs t } ∷ [] else []
element_at program t count offset (negsuc i) = []

abbrev pub indexed : Program → Numeral → (offset : ℕ) → CType → List Part
indexed program index offset (Array t count) = element_at program t count offset (value_of index)
indexed program index offset _ = []

abbrev pub all_elements : Program → (offset : ℕ) → CType → List Part
all_elements program offset (Array t count) = elements_from program t 0 count offset
all_elements program offset _ = []

abbrev pub member_part : Program → List ℕ → (offset : ℕ) → Option ℕ → List Part
member_part program name offset None = []
member_part program name offset (Some k) = elim (member_of program.model program.structs k name) [
  | None ↦ []
  | Some member ↦ record { type = member.type; offset = offset + member.offset } ∷ []
]

-- the parts to which a step leads
abbrev pub stepped : Program → Step → Part → List Part
stepped program (at_index index) part = indexed program index part.offset part.type
stepped program at_each part = all_elements program part.offset part.type
stepped program (at_member name) part = member_part program name part.offset (struct_of part.type)

-- the parts that steps name, in the order in which they lie in the object; none where a step leads nowhere
abbrev pub parts_at : Program → List Step → Part → List Part
parts_at program [] part = part ∷ []
parts_at program (step ∷ steps) part = flat_map (parts_at program steps) (stepped program step part)

-- ---- places

-- a part of an object that files name
pub record Named : Type 0 where
  pub place : Place
  pub type : CType

abbrev pub named_part : List ℕ → Part → Named
named_part name part = record { place = record { root = name; offset = part.offset }; type = part.type }

abbrev pub named_in : Program → List Step → Option Root → List Named
named_in program steps None = []
named_in program steps (Some root) = map (named_part root.name) (parts_at program steps (whole root))

-- the parts that a place names
abbrev pub named_by : Scope → PlaceWord → List Named
named_by scope place = named_in scope.program place.steps (root_among (roots scope) place.name)

-- ---- targets

-- a type is that to which a pointer points; qualifiers aside
abbrev pub is_pointed : CType → CType → Bool
is_pointed pointed t = same (bare pointed) (bare t)

abbrev pub if_all_pointed : CType → List Named → List (Option Place)
if_all_pointed pointed its = if list_all (λ it. is_pointed pointed it.type) its then map (λ it. Some it.place) its else []

-- the number behind the last element, alone behind the name of a block
abbrev pub is_past_end : (count : ℕ) → ℤ → Bool
is_past_end count (pos i) = i == count
is_past_end count (negsuc i) = false

abbrev pub past_elements : Program → (pointed : CType) → List ℕ → Numeral → CType → List (Option Place)
past_elements program pointed name index (Array t count) =
    if is_past_end count (value_of index) && is_pointed pointed t then Some (record { root = name; offset = count * size_of program.model program.structs t }) ∷ [] else []
past_elements program pointed name index _ = []

abbrev pub past_root : Program → (pointed : CType) → Root → List Step → List (Option Place)
past_root program pointed root (at_index index ∷ []) = if root.is_block then past_elements program pointed root.name index root.type else []
past_root program pointed root steps = []

-- one past the end of a block, where the steps say so
abbrev pub past_end : Program → (pointed : CType) → List Step → Option Root → List (Option Place)
past_end program pointed steps None = []
past_end program pointed steps (Some root) = past_root program pointed root steps

abbrev pub place_targets : Scope → (pointed : CType) → PlaceWord → List (Option Place)
place_targets scope pointed place =
    if_all_pointed pointed (named_by scope place) ++ past_end scope.program pointed place.steps (root_among (roots scope) place.name)

-- The addresses that a target names for a pointer to this type: null, objects of the type, or one past the end of a block. None where it names
-- something else.
abbrev pub targets_of : Scope → (pointed : CType) → TargetWord → List (Option Place)
targets_of scope pointed to_null = None ∷ []
targets_of scope pointed (to_place place) = place_targets scope pointed place
