-- What is declared, as contracts see it.
use Rattle.std.specs.Prelude.{ℕ, Bool, ◌&&◌, not, is_some, map, if◌then◌else◌, List, [], ◌∷◌, ◌++◌, slice_get, slice_set, Option, Some, None}
use Rattle.std.specs.Str.{bytes_eq}
use Rattle.lt_tree.specs.declared.typed.types.TypeId.{TypeId}
use Rattle.lt_tree.specs.declared.typed.entity.Object.{Object}
use Rattle.lt_tree.specs.declared.typed.entity.Declared.{Declared}
use Rattle.lt_tree.specs.declared.typed.statement.Start.{Start}
use Rattle.lt_tree.specs.Typing.Types.{CType}
use Rattle.lt_tree.specs.Typing.EntityView.{object_of, life_of, declared_of}
use Rattle.lt_tree.specs.Typing.Entities as k

-- the objects, where that of this number has this type and starts so
abbrev pub with_start : ℕ → TypeId → Option Start → List Object → List Object
with_start number ty start objects = elim (slice_get objects number) [
  | None ↦ objects
  | Some object ↦ slice_set objects number (record object { ty = ty; start = start })
]

-- whether an object is linked, and the first of its name behind these
abbrev pub is_first : List Object → Object → Bool
is_first objects object = k.is_linked (life_of object.life) && not (is_some (k.linked_from 0 object.name (map (object_of []) objects)))

-- the functions that are declared, where rows stand for these types
abbrev pub declared_at : List CType → List Declared → List k.Declared
declared_at types list = map (declared_of types) list

-- one more, unless there is one of its name
abbrev pub with_declared : List ℕ → TypeId → List Declared → List Declared
with_declared name ty list = elim (k.declared_among name (declared_at [] list)) [ None ↦ list ++ record { name = name; ty = ty } ∷ [] | Some t ↦ list ]

-- the type with which the function of this name is declared
abbrev pub declared_as : List ℕ → List Declared → Option TypeId
declared_as name [] = None
declared_as name (d ∷ ds) = if bytes_eq d.name name then Some d.ty else declared_as name ds
