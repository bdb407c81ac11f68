-- What specifiers name, with structs, enums and enumerators, and which rules they break: C11 6.7.1 to 6.7.3.
use Rattle.std.specs.Prelude.{ℕ, ℤ, nat_le, Bool, true, false, not, ◌&&◌, ◌||◌, ◌==◌, if◌then◌else◌, List, [], ◌∷◌, ◌++◌, length, slice_set, Option, Some, None, is_some, unwrap_or}
use Rattle.lt_model.specs.declared.scalar.Scalar.TheVariants as S
use Rattle.lt_model.specs.Operators.{is_value}
use denote.Enum.Bare.{sameb}
use Rattle.lt_tree.specs.contracts.specifier.Storage.{the_type}
use Rattle.lt_tree.specs.declared.specifier.Storage.{Storage}
use Rattle.lt_tree.specs.declared.specifier.Storage.TheVariants as storage
use Rattle.lt_tree.specs.declared.specifier.BasicType.{BasicType}
use Rattle.lt_tree.specs.declared.specifier.BasicType.TheVariants as basic
use Rattle.lt_tree.specs.Tree as c
use Rattle.lt_tree.specs.Typing.Types.{CType, Void, Num, Struct, Floating, qualified, is_integer}
use Rattle.lt_tree.specs.Typing.Extents.{Structs, Member, members_of, has_too_many_cells}
use Rattle.lt_tree.specs.Typing.Constants.{number}
use Rattle.lt_tree.specs.Typing.Rules.{Rule, broken_if, unless, declared_twice, no_type, incomplete_type, bad_length, no_size, bad_case}
use Rattle.lt_tree.specs.Typing.Entities.{Known, Entity, a_typedef, Tagged, a_struct, an_enum, tagged_in, tag_here, declared_here}
use Rattle.lt_tree.specs.Typing.Steps.{Walk, ◌>>=◌, ◌>>◌, gives, here, changes, tags}
use Rattle.lt_tree.specs.Typing.Operands.{holds}
use Rattle.lt_tree.specs.Typing.Expressions.{Typed, own_type}

-- ---- specifiers, C11 6.7.1 and 6.7.2

-- what one type specifier names, and the rules that it breaks; these count at the next node that ends around it
pub record Naming : Type 0 where
  pub type : Option CType
  pub faults : List Rule

abbrev pub names : CType → Naming
names t = record { type = Some t; faults = [] }

abbrev pub basic_type : BasicType → CType
basic_type basic.Void = Void
basic_type basic.Char = Num S.Char
basic_type basic.SignedChar = Num S.SChar
basic_type basic.UnsignedChar = Num S.UChar
basic_type basic.Short = Num S.Short
basic_type basic.UnsignedShort = Num S.UShort
basic_type basic.Int = Num S.Int
basic_type basic.Unsigned = Num S.UInt
basic_type basic.Long = Num S.Long
basic_type basic.UnsignedLong = Num S.ULong
basic_type basic.LongLong = Num S.LLong
basic_type basic.UnsignedLongLong = Num S.ULLong
basic_type basic.Bool = Num S.Bool
basic_type basic.Float = Floating
basic_type basic.Double = Floating
basic_type basic.LongDouble = Floating

-- enumerated types are `int`
abbrev pub enum_type : CType
enum_type = Num S.Int

abbrev pub no_naming : Naming
no_naming = record { type = None; faults = [] }

abbrev pub typedef_named : Option Entity → Naming
typedef_named (Some (a_typedef t)) = names t
typedef_named _ = no_naming

-- a declaration's specifiers: their type, with qualifiers, the storage class, and the rules that they break
pub record Specified : Type 0 where
  pub type : CType
  pub storage : Option Storage
  pub faults : List Rule

abbrev pub is_class : Storage → Option Storage → Bool
is_class class given = holds (sameb the_type class) given

abbrev pub is_register : Specified → Bool
is_register it = is_class storage.Register it.storage

-- Exactly one specifier names the type.
abbrev pub only_type : List Naming → Option CType
only_type (naming ∷ []) = naming.type
only_type _ = None

abbrev pub faults_among : List Naming → List Rule
faults_among [] = []
faults_among (naming ∷ namings) = naming.faults ++ faults_among namings

abbrev pub first_class : List Storage → Option Storage
first_class [] = None
first_class (class ∷ classes) = Some class

abbrev pub specified : c.Words → List Naming → Specified
specified words namings = record {
  type = qualified words.qualifiers (unwrap_or (only_type namings) (Num S.Int));
  storage = first_class words.storage;
  faults = unless (is_some (only_type namings) && nat_le (length words.storage) 1) no_type ++ faults_among namings;
}

-- ---- structs and enums by their tags, C11 6.7.2.3

-- one more struct, which is incomplete
abbrev pub add_struct : Walk ℕ
add_struct = do
  known ← here
  changes (λ it. record it { structs = it.structs ++ record { members = None } ∷ [] })
  gives (length known.structs)

-- a new struct that a tag names from here on
abbrev pub new_struct : List ℕ → Walk Naming
new_struct tag = do
  k ← add_struct
  tags tag (a_struct k)
  gives (names (Struct k))

-- what a tag of a struct stands for, if anything: a tag of an enum is declared otherwise
abbrev pub struct_tagged : List ℕ → Option Tagged → Walk Naming
struct_tagged tag None = new_struct tag
struct_tagged tag (Some (a_struct k)) = gives (names (Struct k))
struct_tagged tag (Some (an_enum is_complete)) = gives (record { type = Some (Num S.Int); faults = declared_twice ∷ [] })

-- Where type specifiers stand: in a declaration of nothing else, as the whole operand of `sizeof`, or elsewhere.
pub data Setting : Type 0 where
  alone : Setting
  in_sizeof : Setting
  elsewhere : Setting

abbrev pub is_alone : Setting → Bool
is_alone alone = true
is_alone _ = false

-- storage classes, qualifiers or words of functions stand beside the type
abbrev pub has_words : c.Words → Bool
has_words words = not (length words.storage == 0) || words.inline || words.noreturn || words.qualifiers.constant || words.qualifiers.volatile

-- Only `struct s;` alone declares a tag anew, C11 6.7.2.3p7; beside other words it is as elsewhere.
abbrev pub beside_words : c.Words → Setting → Setting
beside_words words setting = if is_alone setting && has_words words then elsewhere else setting

-- `struct s`: the struct that is visible, or a new one. A declaration of nothing else declares the tag in its own scope.
abbrev pub struct_by_tag : Setting → List ℕ → Walk Naming
struct_by_tag setting tag = do
  known ← here
  struct_tagged tag (if is_alone setting then tag_here tag known else tagged_in tag known.frames)

-- In its own list an enum is incomplete, C11 6.7.2.2p4: it has no size, and elsewhere it names no type.
abbrev pub incomplete_enum : Setting → Rule
incomplete_enum in_sizeof = no_size
incomplete_enum _ = no_type

-- `enum e` names an enum that is visible and complete
abbrev pub enum_tagged : Setting → Option Tagged → Naming
enum_tagged setting (Some (an_enum true)) = names enum_type
enum_tagged setting (Some (an_enum false)) = record { type = Some enum_type; faults = incomplete_enum setting ∷ [] }
enum_tagged setting _ = no_naming

-- a struct whose members are being declared: its number, and the rules that its tag breaks
pub record OpenStruct : Type 0 where
  pub number : ℕ
  pub faults : List Rule

abbrev pub open_new : Option (List ℕ) → List Rule → Walk OpenStruct
open_new None faults = add_struct >>= (λ k. gives (record { number = k; faults = faults }))
open_new (Some tag) faults = do
  k ← add_struct
  tags tag (a_struct k)
  gives (record { number = k; faults = faults })

abbrev pub open_tagged : List ℕ → Option Tagged → Walk OpenStruct
open_tagged tag None = open_new (Some tag) []
open_tagged tag (Some (a_struct k)) = gives (record { number = k; faults = [] })
open_tagged tag (Some (an_enum is_complete)) = open_new None (declared_twice ∷ [])

-- `struct s {`: an incomplete struct of this tag in this scope, or a new one
abbrev pub open_struct : Option (List ℕ) → Walk OpenStruct
open_struct None = open_new None []
open_struct (Some tag) = here >>= (λ known. open_tagged tag (tag_here tag known))

abbrev pub is_complete_struct : Structs → ℕ → Bool
is_complete_struct structs k = is_some (members_of structs k)

abbrev pub struct_faults : Known → OpenStruct → List Member → List Rule
struct_faults known opened members =
    opened.faults
    ++ broken_if declared_twice (is_complete_struct known.structs opened.number)
    ++ broken_if incomplete_type (length members == 0)

abbrev pub with_members : ℕ → List Member → Known → Known
with_members k members known = record known { structs = slice_set known.structs k (record { members = Some members }) }

-- `}`: the struct is complete, unless it was before
abbrev pub close_struct : OpenStruct → List Member → Walk Naming
close_struct opened members = do
  before ← here
  changes (if is_complete_struct before.structs opened.number then (λ known. known) else with_members opened.number members)
  after ← here
  gives (record {
    type = Some (Struct opened.number);
    faults = struct_faults before opened members ++ broken_if bad_length (has_too_many_cells after.structs (Struct opened.number));
  })

-- `enum e {`: an enum is declared once in a scope
abbrev pub open_enum : Option (List ℕ) → Walk (List Rule)
open_enum None = gives []
open_enum (Some tag) = do
  known ← here
  tags tag (an_enum false)
  gives (broken_if declared_twice (is_some (tag_here tag known)))

-- `}`: the enum is complete
abbrev pub close_enum : Option (List ℕ) → List Rule → Walk Naming
close_enum None faults = gives (record { type = Some enum_type; faults = faults })
close_enum (Some tag) faults = do
  tags tag (an_enum true)
  gives (record { type = Some enum_type; faults = faults })

-- ---- enumerators, C11 6.7.2.2

-- the value of an enumerator that has none of its own is one more than that before
abbrev pub value_given : ℤ → Option Typed → Option ℤ
value_given counted None = Some counted
value_given counted (Some x) = elim (x.constancy) [ number z ↦ (if is_integer (own_type x) then Some z else None) | _ ↦ None ]

abbrev pub is_good_value : Known → Option ℤ → Bool
is_good_value known z = holds (is_value known.model S.Int) z

abbrev pub enumerator_faults : Known → List ℕ → Option ℤ → List Rule
enumerator_faults known name z = broken_if declared_twice (is_some (declared_here name known)) ++ unless (is_good_value known z) bad_case
