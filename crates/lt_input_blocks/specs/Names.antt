-- What names and tags of file scope stand for, as they lie in memory, and the types that specifiers name by them.
use Rattle.std.specs.Prelude.{◌≡◌, ℕ, true, if◌then◌else◌, List, [], ◌∷◌, codes, Option, Some, None}
use Rattle.std.specs.Str.{bytes_eq}
use Rattle.lt_model.specs.declared.scalar.Scalar.TheVariants as S
use Rattle.lt_token.specs.Words.{is_among, keywords}
use Rattle.lt_tree.specs.declared.specifier.BasicType.{BasicType}
use Rattle.lt_tree.specs.declared.specifier.BasicType.TheVariants as basic
use Rattle.lt_tree.specs.declared.typed.entity.Bound.{Bound}
use Rattle.lt_tree.specs.declared.typed.entity.Entity.{Entity}
use Rattle.lt_tree.specs.declared.typed.entity.Entity.TheVariants as entity
use Rattle.lt_tree.specs.declared.typed.entity.Tag.{Tag}
use Rattle.lt_tree.specs.declared.typed.entity.Tagged.{Tagged}
use Rattle.lt_tree.specs.declared.typed.entity.Tagged.TheVariants as tagged
use Rattle.lt_tree.specs.Typing.Types.{CType}
use Rattle.lt_tree.specs.Typing.Entities.{Frame, bound_among}
use Rattle.lt_tree.specs.Typing.ProgramView.{program_of}
use Rattle.lt_entry.specs.TypeNames.{tag_type, struct_named, enum_named, typedef_named, arithmetic_type, if_qualifiers}
use Rattle.lt_input_names.specs.declared.block.Base.{Base}
use Rattle.lt_input_names.specs.declared.block.Base.TheVariants as base
use Rattle.lt_input_names.specs.Blocks.{program_types}
use Rattle.lt_input_names.specs.Found.{found_in}
use Rattle.lt_input_blocks.specs.declared.names.FileNames.{FileNames}

abbrev pub types_at : FileNames → List CType
types_at names = program_types names.program.now

-- the names and tags of file scope
abbrev pub file_at : FileNames → Frame
file_at names = (program_of names.program.now).file

-- what the first of this name has
abbrev pub first_among : {A V : Type 0} → (A → List ℕ) → (A → V) → List ℕ → List A → Option V
first_among name value w [] = None
first_among name value w (x ∷ xs) = if bytes_eq (name x) w then Some (value x) else first_among name value w xs

abbrev pub entity_among : List ℕ → List Bound → Option Entity
entity_among name bounds = first_among (λ b. b.name) (λ b. b.entity) name bounds

abbrev pub tag_among : List ℕ → List Tag → Option Tagged
tag_among name tags = first_among (λ tag. tag.name) (λ tag. tag.tagged) name tags

-- The maps have what the names and the tags stand for.
pub record AreFileNames (it : FileNames) : Type 0 where
  pub names : (name : List ℕ) → found_in it.names name ≡ entity_among name it.program.now.file.names.items
  pub tags : (name : List ℕ) → found_in it.tags name ≡ tag_among name it.program.now.file.tags.items

-- ---- the types that they name

abbrev pub typedef_base : Option Entity → Option Base
typedef_base (Some (entity.Typedef t)) = Some (base.Row t)
typedef_base _ = None

abbrev pub struct_base : Option Tagged → Option Base
struct_base (Some (tagged.Struct k)) = Some (base.Struct k)
struct_base _ = None

abbrev pub enum_base : Option Tagged → Option Base
enum_base (Some (tagged.Enum true)) = Some (base.Num S.Int)
enum_base _ = None

abbrev pub basic_base : BasicType → Base
basic_base basic.Void = base.Void
basic_base basic.Char = base.Num S.Char
basic_base basic.SignedChar = base.Num S.SChar
basic_base basic.UnsignedChar = base.Num S.UChar
basic_base basic.Short = base.Num S.Short
basic_base basic.UnsignedShort = base.Num S.UShort
basic_base basic.Int = base.Num S.Int
basic_base basic.Unsigned = base.Num S.UInt
basic_base basic.Long = base.Num S.Long
basic_base basic.UnsignedLong = base.Num S.ULong
basic_base basic.LongLong = base.Num S.LLong
basic_base basic.UnsignedLongLong = base.Num S.ULLong
basic_base basic.Bool = base.Num S.Bool
basic_base basic.Float = base.Floating
basic_base basic.Double = base.Floating
basic_base basic.LongDouble = base.Floating

-- the type that specifiers name, the first of which is no qualifier
abbrev pub first_named : Frame → List (List ℕ) → Option CType
first_named file [] = None
first_named file (token ∷ tokens) =
    if bytes_eq token (codes "struct") then tag_type file struct_named tokens
    else if bytes_eq token (codes "enum") then tag_type file enum_named tokens
    else if is_among token keywords then arithmetic_type (token ∷ tokens)
    else if_qualifiers tokens (typedef_named (bound_among token file.names))
