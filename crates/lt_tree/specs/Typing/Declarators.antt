-- What the parts of declarators make, with parameters and members, and which rules they break: C11 6.7.2.1, 6.7.6 and 6.7.7.
use Rattle.std.specs.Prelude.{ℕ, suc, ℤ, pos, negsuc, nat_le, Bool, true, false, not, ◌&&◌, ◌||◌, ◌==◌, if◌then◌else◌, List, [], ◌∷◌, ◌++◌, Option, Some, None, is_some, unwrap_or}
use Rattle.std.specs.List.{list_any}
use Rattle.std.specs.Str.{bytes_eq}
use Rattle.lt_tree.specs.Tree as c
use Rattle.lt_tree.specs.Typing.Types.{CType, CTypes, no_types, a_type, Void, Pointer, Array, Struct, Function, Qualified, qualified, unqualified, adjusted, is_integer, is_array, is_function, is_floating, is_pointer_to_function}
use Rattle.lt_tree.specs.Typing.Extents.{Structs, Member, has_too_many_cells, most_cells}
use Rattle.lt_tree.specs.Typing.Constants.{number}
use Rattle.lt_tree.specs.Typing.Rules.{Rule, broken_if, unless, declared_twice, incomplete_type, floating_type, bad_length, bit_field, function_as_value}
use Rattle.lt_tree.specs.Typing.Entities.{Known, an_object, Frame, parameter, unmade, declared_here}
use Rattle.lt_tree.specs.Typing.Steps.{Walk, ◌>>=◌, ◌>>◌, gives, binds, add_object}
use Rattle.lt_tree.specs.Typing.Operands.{holds}
use Rattle.lt_tree.specs.Typing.Expressions.{Typed, own_type, has_floating, has_pointer_to_function}
use Rattle.lt_tree.specs.Typing.Specifying.{Specified, Setting, in_sizeof, elsewhere, is_complete_struct}

-- ---- array parts, C11 6.7.6.2

-- A number of elements: from 1 to 1,048,576. Any other constant counts as one more than that, which no array has.
abbrev pub length_from : ℤ → ℕ
length_from (pos n) = if nat_le 1 n && nat_le n most_cells then n else suc most_cells
length_from (negsuc n) = suc most_cells

-- the length that is written, if it is a constant
abbrev pub length_in : Typed → Option ℕ
length_in x = elim (x.constancy) [ number z ↦ (if is_integer (own_type x) then Some (length_from z) else None) | _ ↦ None ]

-- An array's length may be left out where it stands at the name itself: then its initialiser gives it, or a parameter needs none.
abbrev pub length_or_none : Bool → Option Typed → Option ℕ
length_or_none is_outermost None = if is_outermost then Some 0 else None
length_or_none is_outermost (Some x) = length_in x

-- void, or a struct without its members; an array counts by its elements
abbrev pub is_incomplete : Structs → CType → Bool
is_incomplete structs Void = true
is_incomplete structs (Struct k) = not (is_complete_struct structs k)
is_incomplete structs (Qualified q t) = is_incomplete structs t
is_incomplete structs (Array t n) = is_incomplete structs t
is_incomplete structs _ = false

-- what stands in the parentheses of a function's declarator
pub record Parameters : Type 0 where
  pub types : CTypes
  pub dots : Bool
  -- their objects
  pub objects : List ℕ
  pub are_named : Bool
  -- the names that they declare
  pub frame : Frame
  -- what parameters without a declarator break
  pub faults : List Rule

-- the type that parts of a declarator make, with the rules that they break, and the parameters of the part at the name
pub record Built : Type 0 where
  pub type : CType
  pub faults : List Rule
  pub parameters : Option Parameters

abbrev pub built : CType → List Rule → Built
built t faults = record { type = t; faults = faults; parameters = None }

abbrev pub is_length : Option ℕ → Bool
is_length n = holds (λ k. nat_le k most_cells) n

abbrev pub array_faults : Structs → Option ℕ → CType → List Rule
array_faults structs n t =
    unless (is_length n) bad_length
    ++ broken_if incomplete_type (is_incomplete structs t)
    ++ broken_if function_as_value (is_function t)
    ++ broken_if bad_length (has_too_many_cells structs (Array t (unwrap_or n 0)))

-- A length that isn't known, since it is left out or no constant, is that of any array of such elements, C11 6.7.6.2p6.
abbrev pub array_of : Known → Option ℕ → Built → Built
array_of known n inner = built (Array inner.type (unwrap_or n 0)) (array_faults known.structs n inner.type ++ inner.faults)

-- ---- function parts, C11 6.7.6.3

-- A function gives no function and no array.
abbrev pub function_of : Parameters → Built → Built
function_of parameters inner = record {
  type = Function inner.type parameters.types parameters.dots;
  faults = broken_if function_as_value (is_function inner.type || is_array inner.type) ++ parameters.faults ++ inner.faults;
  parameters = Some parameters;
}

abbrev pub pointer_to : c.Qualifiers → Built → Built
pointer_to qualifiers inner = built (qualified qualifiers (Pointer inner.type)) inner.faults

-- what a declarator declares: a name, if it has one, and its type; and the rules that are still to be judged, where it is no node
pub record Declares : Type 0 where
  pub node : ℕ
  pub name : Option (List ℕ)
  pub type : CType
  pub parameters : Option Parameters
  pub faults : List Rule

abbrev pub declares : ℕ → Option (List ℕ) → Built → List Rule → Declares
declares node name it faults = record { node = node; name = name; type = it.type; parameters = it.parameters; faults = faults }

-- what its specifiers break, its parts, and what it declares; where specifiers name no type, this is judged as if it were `int`
abbrev pub all_faults : Specified → Built → List Rule → List Rule
all_faults specified it judged = specified.faults ++ it.faults ++ judged

-- a declarator is a node where it has a name or parts
abbrev pub is_written : Option (List ℕ) → c.Parts → Bool
is_written None c.no_parts = false
is_written name parts = true

-- Where the type specifiers of a type name in `sizeof` stand: without a declarator they are its whole operand.
abbrev pub setting_in_sizeof : c.Declarator → Setting
setting_in_sizeof (c.declarator name ps) = if is_written name ps then elsewhere else in_sizeof

-- an array whose length only an initialiser could give
abbrev pub lacks_length : CType → Bool
lacks_length (Array t n) = n == 0
lacks_length _ = false

-- ---- type names, C11 6.7.7

abbrev pub type_name_faults : Built → List Rule
type_name_faults it = broken_if bad_length (lacks_length it.type)

-- ---- parameters

abbrev pub is_declared_here : Known → Option (List ℕ) → Bool
is_declared_here known name = holds (λ w. is_some (declared_here w known)) name

-- a parameter of this type, of a definition or of another declaration
abbrev pub parameter_faults : Bool → Option (List ℕ) → Known → Built → List Rule
parameter_faults is_definition name known it =
    broken_if declared_twice (is_declared_here known name)
    ++ broken_if incomplete_type (is_incomplete known.structs (adjusted it.type))
    ++ broken_if floating_type (is_definition && is_floating (adjusted it.type))
    ++ broken_if function_as_value (is_definition && is_pointer_to_function (adjusted it.type))

abbrev pub no_parameters_yet : Frame → Parameters
no_parameters_yet frame = record { types = no_types; dots = false; objects = []; are_named = true; frame = frame; faults = [] }

-- a parameter has an object, and a name if it is written
abbrev pub binds_parameter : (is_definition is_register : Bool) → ℕ → Option (List ℕ) → CType → Walk (List ℕ)
binds_parameter is_definition is_register node None t = gives []
binds_parameter is_definition is_register node (Some name) t = do
  n ← add_object (record { node = node; name = name; type = t; life = if is_definition then parameter else unmade; start = None })
  binds name (an_object n is_register)
  gives (n ∷ [])

-- one more parameter before others
abbrev pub parameter_before : Declares → List ℕ → Parameters → Parameters
parameter_before it objects rest = record {
  types = a_type (unqualified (adjusted it.type)) rest.types;
  dots = rest.dots;
  objects = objects ++ rest.objects;
  are_named = is_some it.name && rest.are_named;
  frame = rest.frame;
  faults = it.faults ++ rest.faults;
}

-- ---- members, C11 6.7.2.1

abbrev pub has_member : List ℕ → List Member → Bool
has_member name members = list_any (λ member. bytes_eq member.name name) members

abbrev pub is_member_already : List Member → Option (List ℕ) → Bool
is_member_already members name = holds (λ w. has_member w members) name

-- a member behind others
abbrev pub member_faults : List Member → Bool → Option (List ℕ) → Known → Built → List Rule
member_faults members has_width name known it =
    broken_if declared_twice (is_member_already members name)
    ++ broken_if incomplete_type (is_incomplete known.structs it.type)
    ++ broken_if floating_type (has_floating it.type)
    ++ broken_if bad_length (lacks_length it.type)
    ++ broken_if bit_field has_width
    ++ broken_if function_as_value (is_function it.type || has_pointer_to_function it.type)

abbrev pub with_member : List Member → Declares → List Member
with_member members it = elim (it.name) [ None ↦ members | Some name ↦ members ++ record { name = name; type = it.type } ∷ [] ]

-- members so far, and what a declarator that is no node breaks
pub record Membered : Type 0 where
  pub members : List Member
  pub faults : List Rule

abbrev pub has_width : c.Maybe → Bool
has_width c.absent = false
has_width (c.present e) = true
