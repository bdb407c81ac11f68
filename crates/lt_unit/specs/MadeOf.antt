-- Lists of types in which each stands behind those of which it is made.
use Rattle.std.specs.Prelude.{◌≡◌, true, List, [], ◌++◌}
use Rattle.std.specs.List.{list_any}
use Rattle.lt_tree.specs.Typing.Types.{CType, Pointer, Array, Function, Qualified, same}
use Rattle.lt_tree.specs.Typing.Programs.{made_of, all_made_of}

abbrev pub IsIn : CType → List CType → Type 0
IsIn t list = list_any (same t) list ≡ true

-- with each type it has those of which it is made
abbrev pub IsClosed : List CType → Type 0
IsClosed list = (t u : CType) → IsIn t list → IsIn u (made_of t) → IsIn u list

-- the types of which a type is made, without itself
abbrev pub parts_of : CType → List CType
parts_of (Pointer t) = made_of t
parts_of (Array t n) = made_of t
parts_of (Function t ts dots) = made_of t ++ all_made_of ts
parts_of (Qualified q t) = made_of t
parts_of _ = []
