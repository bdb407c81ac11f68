-- What is left to be filled of an object, and the part that an initialiser is for.
use Rattle.std.specs.Prelude.{◌≡◌, ℕ, ◌+◌, Bool, true, false, List, [], ◌∷◌, ◌++◌, map, drop, Option, Some, None}
use Rattle.lt_tree.specs.declared.typed.types.TypeId.{TypeId}
use Rattle.lt_tree.specs.Typing.Types.{CType, Qualified}
use Rattle.lt_tree.specs.Typing.TypeRows.{type_in}
use Rattle.lt_tree.specs.Typing.Entities.{Known}
use Rattle.lt_tree.specs.Typing.Filling.{Run, one_object, behind_first, first_within, is_character_array, is_struct_of}
use Rattle.lt_table.specs.TypesValue.{TypesValue, structs_at}
use Rattle.lt_table.specs.declared.structs.PlacedMember.{PlacedMember}
use Rattle.lt_unit.specs.declared.initialiser.left.Part.{Part}
use Rattle.lt_unit.specs.declared.initialiser.left.Behind.{Behind}
use Rattle.lt_unit.specs.declared.initialiser.left.Behind.TheVariants as behind
use Rattle.lt_unit.specs.declared.initialiser.left.Left.{Left}
use Rattle.lt_unit.specs.declared.initialiser.opening.Taken.{Taken}
use Rattle.lt_unit.specs.declared.initialiser.opening.Taken.TheVariants as taken

-- what is known has this data model and these structs, where rows stand for these types
pub record Knows (known : Known) (types : List CType) (value : TypesValue) : Type 0 where
  pub model : known.model ≡ value.model
  pub structs : known.structs ≡ structs_at types value

-- without qualifiers
abbrev pub plain : CType → CType
plain (Qualified q t) = plain t
plain t = t

-- ---- what is left

-- so many objects like this part
abbrev pub run_of : List CType → Part → Option ℕ → Run
run_of types part count = record { offset = part.offset; type = type_in types part.ty; left = count }

-- a member of a struct that begins at this offset
abbrev pub member_run : List CType → ℕ → PlacedMember → Run
member_run types offset member = one_object (offset + member.offset) (type_in types member.ty)

abbrev pub count_of : Behind → Option ℕ
count_of (behind.Alike count) = count
count_of (behind.Members offset members next) = Some 1

abbrev pub runs_behind : List CType → Behind → List Run
runs_behind types (behind.Alike count) = []
runs_behind types (behind.Members offset members next) = map (member_run types offset) (drop next members.value.items)

abbrev pub runs_in : List CType → Left → List Run
runs_in types l = run_of types l.first (count_of l.behind) ∷ runs_behind types l.behind

abbrev pub runs_if : List CType → Option Left → List Run
runs_if types None = []
runs_if types (Some l) = runs_in types l

-- the first object, if the objects like it have no end
abbrev pub endless : Left → Option Part
endless l = elim (count_of l.behind) [ None ↦ Some l.first | Some count ↦ None ]

-- all that is left: what is filled first stands last
abbrev pub runs_of : List CType → List Left → List Run
runs_of types [] = []
runs_of types (l ∷ ls) = runs_of types ls ++ runs_in types l

-- ---- the part in front

-- what is behind the first object of all
abbrev pub behind_all : Known → List Run → List Run
behind_all known [] = []
behind_all known (run ∷ runs) = behind_first known run ++ runs

-- the runs begin with one of this part, if there is one, and end with these
abbrev pub BeginWith : List CType → List Run → Option Part → List Run → Type 0
BeginWith types runs None rest = (runs ≡ []) × (rest ≡ [])
BeginWith types runs (Some part) rest = (count : Option ℕ) × (runs ≡ run_of types part count ∷ rest)

-- their first object is this part, if there is one, and these are behind it
abbrev pub FirstIs : Known → List CType → List Run → Option Part → List Run → Type 0
FirstIs known types runs None rest = (runs ≡ []) × (rest ≡ [])
FirstIs known types runs (Some part) rest = (count : Option ℕ) × (others : List Run) × (runs ≡ run_of types part count ∷ others) × (rest ≡ behind_first known (run_of types part count) ++ others)

-- ---- what an initialiser is taken for

-- whether it is taken for a whole object of this type
abbrev pub is_taken_for : Taken → CType → Bool
is_taken_for taken.CharacterArray t = is_character_array t
is_taken_for (taken.StructOf number) t = is_struct_of number t

-- what is left once a part that may be there has given way to its first part that is taken whole
abbrev pub within_if : Known → (CType → Bool) → (ℕ → ℕ → List Run → List Run) → List CType → Option Part → List Run → List Run
within_if known whole in_struct types None rest = rest
within_if known whole in_struct types (Some part) rest = first_within known whole in_struct part.offset (type_in types part.ty) rest

-- an array of characters stands in front
abbrev pub begins_with_characters : List Run → Bool
begins_with_characters [] = false
begins_with_characters (run ∷ runs) = is_character_array run.type

-- Of what is left, opened, the first part is this one, if there is one, and these are left behind it; else all stays.
abbrev pub PartIs : List CType → List Run → List Run → Option Part → List Run → Type 0
PartIs types opened before None after = (opened ≡ []) × (after ≡ before)
PartIs types opened before (Some part) after = (count : Option ℕ) × (opened ≡ run_of types part count ∷ after)

-- the same of an array of characters
abbrev pub CharactersAre : List CType → List Run → List Run → Option Part → List Run → Type 0
CharactersAre types opened before None after = (begins_with_characters opened ≡ false) × (after ≡ before)
CharactersAre types opened before (Some part) after = (count : Option ℕ) × (opened ≡ run_of types part count ∷ after) × (is_character_array (type_in types part.ty) ≡ true)
