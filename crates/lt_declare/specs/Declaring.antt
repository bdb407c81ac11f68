-- Parts of what specifiers and declarators make, each by a name.
use Rattle.std.specs.Prelude.{ℕ, ℤ, pos, ◌+ℤ◌, Bool, true, false, ◌&&◌, List, [], ◌∷◌, ◌++◌, Option, Some, None, is_some, unwrap_or, if◌then◌else◌}
use Rattle.lt_tree.specs.Typing.Types.{CType, CTypes, no_types, a_type, Struct, adjusted, unqualified, is_integer, is_function, is_floating, is_pointer_to_function}
use Rattle.lt_tree.specs.Typing.Extents.{Structs, Member, has_too_many_cells}
use Rattle.lt_tree.specs.Typing.Constants.{number}
use Rattle.lt_tree.specs.Typing.Rules.{Rule, broken_if, unless, declared_twice, incomplete_type, floating_type, bad_length, function_as_value}
use Rattle.lt_tree.specs.Typing.Entities.{Known, Object, Entity, a_function, type_of_object, tag_here, an_enumerator, an_object}
use Rattle.lt_tree.specs.Typing.Steps.{Walk, ◌>>=◌, ◌>>◌, gives, changes, settle, binds, add_object}
use Rattle.lt_tree.specs.Typing.Expressions.{Typed, own_type}
use Rattle.lt_tree.specs.Typing.Declarators.{Parameters, Declares, is_incomplete}
use Rattle.lt_tree.specs.Typing.Declaring.{is_compatible}
use Rattle.lt_tree.specs.Typing.Specifying.{Naming, no_naming, names, enum_type, Setting, incomplete_enum, is_complete_struct, with_members}
use Rattle.lt_declare.specs.declared.made.Naming as held

-- what type specifiers break
abbrev pub all_faults : List held.Naming → List Rule
all_faults [] = []
all_faults (naming ∷ namings) = naming.faults ++ all_faults namings

-- the value of an integer constant expression, if it is one
abbrev pub integer_in : Typed → Option ℤ
integer_in x = elim (x.constancy) [ number z ↦ (if is_integer (own_type x) then Some z else None) | _ ↦ None ]

-- what a tag names, which is an enum's that is complete or not, or none
abbrev pub enum_by : Setting → Option Bool → Naming
enum_by setting None = no_naming
enum_by setting (Some true) = names enum_type
enum_by setting (Some false) = record { type = Some enum_type; faults = incomplete_enum setting ∷ [] }

-- what the tag of an enum breaks
abbrev pub tag_faults : List ℕ → Known → List Rule
tag_faults tag known = broken_if declared_twice (is_some (tag_here tag known))

-- a struct that isn't complete has these members
abbrev pub completing : ℕ → List Member → Walk (Unit {0})
completing k members = λ known. changes (if is_complete_struct known.structs k then (λ it. it) else with_members k members) known

-- what names a struct whose members are there, where these rules are broken before
abbrev pub closed : ℕ → List Rule → Known → Naming
closed k faults known = record { type = Some (Struct k); faults = faults ++ broken_if bad_length (has_too_many_cells known.structs (Struct k)) }

-- what an array with such elements breaks
abbrev pub array_breaks : Structs → Bool → CType → CType → List Rule
array_breaks structs has_length element whole =
    unless has_length bad_length
    ++ broken_if incomplete_type (is_incomplete structs element)
    ++ broken_if function_as_value (is_function element)
    ++ broken_if bad_length (has_too_many_cells structs whole)

-- what a parameter of this adjusted type breaks
abbrev pub parameter_breaks : Structs → Bool → Bool → CType → List Rule
parameter_breaks structs is_definition is_declared t =
    broken_if declared_twice is_declared
    ++ broken_if incomplete_type (is_incomplete structs t)
    ++ broken_if floating_type (is_definition && is_floating t)
    ++ broken_if function_as_value (is_definition && is_pointer_to_function t)

-- a function, where its type agrees
abbrev pub is_function_that : Bool → Entity → Bool
is_function_that agrees a_function = agrees
is_function_that agrees _ = false

-- the linked object, if there is one, has a compatible type
abbrev pub agrees_with : Known → Option ℕ → CType → Bool
agrees_with known linked t = elim linked [ None ↦ true | Some n ↦ is_compatible t (type_of_object known n) ]

-- an object and its name
abbrev pub binding_object : List ℕ → Bool → Object → Walk (List ℕ)
binding_object name is_register object = do
  n ← add_object object
  binds name (an_object n is_register)
  gives (n ∷ [])

-- a type behind others
abbrev pub type_behind : CTypes → CType → CTypes
type_behind no_types t = a_type t no_types
type_behind (a_type first rest) t = a_type first (type_behind rest t)

-- a parameter of this type behind others
abbrev pub behind : Parameters → CType → Bool → List ℕ → List Rule → Parameters
behind others t is_named objects faults = record {
  types = type_behind others.types t;
  dots = others.dots;
  objects = others.objects ++ objects;
  are_named = others.are_named && is_named;
  frame = others.frame;
  faults = others.faults ++ faults;
}

-- one more parameter behind others
abbrev pub parameter_behind : Parameters → Declares → List ℕ → Parameters
parameter_behind others it objects = behind others (unqualified (adjusted it.type)) (is_some it.name) objects it.faults

-- the end of an enumerator with this value, where these rules are broken
abbrev pub enumerator_end_at : ℕ → List ℕ → ℤ → List Rule → Walk ℤ
enumerator_end_at node name z faults = do
  settle node faults
  binds name (an_enumerator z)
  gives (z +ℤ pos 1)

abbrev pub enumerator_end : ℕ → List ℕ → Option ℤ → List Rule → Walk ℤ
enumerator_end node name z faults = enumerator_end_at node name (unwrap_or z (pos 0)) faults
