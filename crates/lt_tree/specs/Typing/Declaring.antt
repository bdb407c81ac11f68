-- What declarations declare, and which rules they break: C11 6.2.2, 6.7, 6.7.9 and 6.9.
use Rattle.std.specs.Prelude.{ℕ, ◌==◌, Bool, true, false, not, ◌&&◌, ◌||◌, if◌then◌else◌, List, [], ◌∷◌, ◌++◌, slice_get, slice_set, Option, Some, None, is_some}
use Rattle.std.specs.List.{list_any}
use Rattle.std.specs.Str.{bytes_eq}
use Rattle.lt_tree.specs.declared.specifier.Storage.{Storage}
use Rattle.lt_tree.specs.declared.specifier.Storage.TheVariants as storage
use Rattle.lt_tree.specs.Typing.Types.{CType, CTypes, no_types, a_type, Array, Function, same, is_void, is_integer, is_pointer, is_function}
use Rattle.lt_tree.specs.Typing.Extents.{has_too_many_cells}
use Rattle.lt_tree.specs.Typing.Rules.{Rule, broken_if, declared_twice, incomplete_type, floating_type, bad_length, function_as_value, bad_definition, function_disagrees}
use Rattle.lt_tree.specs.Typing.TypedTree.{Start}
use Rattle.lt_tree.specs.Typing.Entities.{Known, Entity, an_object, a_function, a_typedef, Life, linked, local_static, automatic, is_linked, declared_among, declared_here, is_file_scope, linked_object, type_of_object}
use Rattle.lt_tree.specs.Typing.Steps.{Walk, ◌>>=◌, ◌>>◌, gives, here, changes, binds, add_object}
use Rattle.lt_tree.specs.Typing.Operands.{holds}
use Rattle.lt_tree.specs.Typing.Expressions.{has_floating, has_pointer_to_function}
use Rattle.lt_tree.specs.Typing.Specifying.{is_class}
use Rattle.lt_tree.specs.Typing.Declarators.{Parameters, Built, is_incomplete, lacks_length}

-- ---- what a declarator declares

pub data Kind : Type 0 where
  a_type_name : Kind
  a_function_name : Kind
  an_object_of : (life : Life) (is_register : Bool) → Kind

-- Objects of file scope, and those that are declared `extern` in a block, are linked; there no other class has an effect.
abbrev pub life_of : Known → Option Storage → Life
life_of known class =
    if is_file_scope known || is_class storage.Extern class then linked else (if is_class storage.Static class then local_static else automatic)

abbrev pub kind_of : Known → Option Storage → CType → Kind
kind_of known class t =
    if is_class storage.Typedef class then a_type_name
    else (if is_function t then a_function_name
    else an_object_of (life_of known class) (not (is_file_scope known) && is_class storage.Register class))

-- ---- two declarations of one name, C11 6.7p3 and p4

-- a typedef name may be declared again as the same type
abbrev pub is_same_typedef : CType → Entity → Bool
is_same_typedef t (a_typedef u) = same t u
is_same_typedef t _ = false

-- the type with which a function is declared agrees
abbrev pub agrees_with_function : Known → List ℕ → CType → Bool
agrees_with_function known name t = holds (same t) (declared_among name known.declared)

abbrev pub is_same_function : Known → List ℕ → CType → Entity → Bool
is_same_function known name t a_function = agrees_with_function known name t
is_same_function known name t _ = false

-- A name with linkage is a function's or an object's, in whatever scopes it is declared, C11 6.2.2p2.
abbrev pub is_function_elsewhere : Known → List ℕ → Bool
is_function_elsewhere known name = is_some (declared_among name known.declared)

abbrev pub is_object_elsewhere : Known → List ℕ → Bool
is_object_elsewhere known name = is_some (linked_object name known)

abbrev pub is_function_declared_twice : Known → List ℕ → CType → Bool
is_function_declared_twice known name t =
    holds (λ entity. not (is_same_function known name t entity)) (declared_here name known) || is_object_elsewhere known name

-- An array whose length its initialiser is to give is compatible with any of its elements, and then has the other's length.
abbrev pub is_compatible : CType → CType → Bool
is_compatible (Array t n) (Array u k) = same t u && ((n == 0) || (n == k))
is_compatible t u = same t u

-- the linked object of this name, if there is one, has a compatible type
abbrev pub agrees_with_object : Known → List ℕ → CType → Bool
agrees_with_object known name t = elim (linked_object name known) [ None ↦ true | Some n ↦ is_compatible t (type_of_object known n) ]

abbrev pub is_linked_object : Known → Entity → Bool
is_linked_object known (an_object n is_register) = holds (λ object. is_linked object.life) (slice_get known.objects n)
is_linked_object known _ = false

abbrev pub is_initialised : Known → List ℕ → Bool
is_initialised known name = holds (λ n. holds (λ object. is_some object.start) (slice_get known.objects n)) (linked_object name known)

-- A linked object may be declared again with a compatible type, and has at most one initialiser; any other object is declared once.
abbrev pub is_object_declared_twice : Known → Life → List ℕ → CType → Bool → Bool
is_object_declared_twice known life name t has_initialiser =
    if is_linked life then
    not (agrees_with_object known name t)
    || holds (λ entity. not (is_linked_object known entity)) (declared_here name known)
    || is_function_elsewhere known name
    || (has_initialiser && is_initialised known name)
    else is_some (declared_here name known)

abbrev pub is_declared_twice : Known → Kind → List ℕ → CType → Bool → Bool
is_declared_twice known a_type_name name t has_initialiser = holds (λ entity. not (is_same_typedef t entity)) (declared_here name known)
is_declared_twice known a_function_name name t has_initialiser = is_function_declared_twice known name t
is_declared_twice known (an_object_of life is_register) name t has_initialiser = is_object_declared_twice known life name t has_initialiser

-- a function that is declared in another scope with another type
abbrev pub disagrees_elsewhere : Known → List ℕ → CType → Bool
disagrees_elsewhere known name t =
    not (is_some (declared_here name known)) && holds (λ u. not (same t u)) (declared_among name known.declared)

-- ---- the rules of a declarator

abbrev pub object_faults : Known → CType → Bool → List Rule
object_faults known t has_initialiser =
    broken_if incomplete_type (is_incomplete known.structs t)
    ++ broken_if floating_type (has_floating t)
    ++ broken_if bad_length (lacks_length t && not has_initialiser)
    ++ broken_if function_as_value (has_pointer_to_function t)

abbrev pub kind_faults : Known → Kind → List ℕ → CType → Bool → List Rule
kind_faults known a_type_name name t has_initialiser = broken_if bad_length (lacks_length t)
kind_faults known a_function_name name t has_initialiser = broken_if function_disagrees (disagrees_elsewhere known name t)
kind_faults known (an_object_of life is_register) name t has_initialiser = object_faults known t has_initialiser

abbrev pub named_faults : Known → Option (List ℕ) → Kind → CType → Bool → List Rule
named_faults known None kind t has_initialiser = kind_faults known kind [] t has_initialiser
named_faults known (Some name) kind t has_initialiser =
    broken_if declared_twice (is_declared_twice known kind name t has_initialiser) ++ kind_faults known kind name t has_initialiser

-- what a declarator of a declaration breaks
abbrev pub declaration_faults : Option Storage → Bool → Option (List ℕ) → Known → Built → List Rule
declaration_faults class has_initialiser name known it = named_faults known name (kind_of known class it.type) it.type has_initialiser

-- ---- what is declared

-- a function is in the list of those that are declared, once
abbrev pub with_declared : List ℕ → CType → Known → Known
with_declared name t known = elim (declared_among name known.declared) [
  | None ↦ record known { declared = known.declared ++ record { name = name; type = t } ∷ [] }
  | Some u ↦ known
]

abbrev pub declare_function : List ℕ → CType → Walk (Unit {0})
declare_function name t = changes (with_declared name t) >> binds name a_function

abbrev pub new_object : Life → ℕ → List ℕ → CType → Walk ℕ
new_object life node name t = add_object (record { node = node; name = name; type = t; life = life; start = None })

-- a linked object is the one that is there already
abbrev pub object_for : Life → ℕ → List ℕ → CType → Option ℕ → Walk ℕ
object_for life node name t None = new_object life node name t
object_for life node name t (Some n) = if is_linked life then gives n else new_object life node name t

abbrev pub declare_object : Life → Bool → ℕ → List ℕ → CType → Walk ℕ
declare_object life is_register node name t = do
  known ← here
  n ← object_for life node name t (linked_object name known)
  binds name (an_object n is_register)
  gives n

-- an object, where it is known how it starts and how long it is
abbrev pub with_start : ℕ → Option Start → CType → Known → Known
with_start n start t known = elim (slice_get known.objects n) [
  | None ↦ known
  | Some object ↦ record known { objects = slice_set known.objects n (record object { type = t; start = start }) }
]

-- the type to which an initialiser gave the length still has few enough cells
abbrev pub length_faults : Known → CType → List Rule
length_faults known t = broken_if bad_length (has_too_many_cells known.structs t)

-- ---- definitions of functions, C11 6.9.1

-- a parameter or a result that a definition may have
abbrev pub is_passable : CType → Bool
is_passable t = is_integer t || is_pointer t

abbrev pub are_passable : CTypes → Bool
are_passable no_types = true
are_passable (a_type t ts) = (is_passable t || is_void t) && are_passable ts

-- its parameters have names, and no dots follow; it takes and gives integers and pointers
abbrev pub is_good_definition : Parameters → CType → Bool
is_good_definition them (Function result ts dots) = them.are_named && not dots && are_passable ts && (is_passable result || is_void result)
is_good_definition them t = true

abbrev pub definition_shape_faults : Built → List Rule
definition_shape_faults it =
    elim (it.parameters) [ None ↦ function_disagrees ∷ [] | Some them ↦ broken_if bad_definition (not (is_good_definition them it.type)) ]

abbrev pub has_body_already : Known → Option (List ℕ) → Bool
has_body_already known name = holds (λ w. list_any (λ f. bytes_eq f.name w) known.functions) name

-- What the declarator of a function with a body breaks, before the body. A body stands behind a declarator that has parameters itself, and
-- behind no `typedef`.
abbrev pub definition_faults : Option Storage → Option (List ℕ) → Known → Built → List Rule
definition_faults class name known it =
    declaration_faults class false name known it
    ++ definition_shape_faults it
    ++ broken_if function_disagrees (is_class storage.Typedef class || has_body_already known name)
