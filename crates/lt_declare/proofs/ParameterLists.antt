-- Lists of parameters.
use Rattle.std.proofs.Common.{◌≡◌, List, [], ◌∷◌, ◌++◌, refl, ap}
use Rattle.lt_tree.specs.declared.typed.types.TypeId.{TypeId}
use Rattle.lt_tree.specs.Typing.Types.{CType, CTypes, a_type}
use Rattle.lt_tree.specs.Typing.TypeRows.{type_in, all_in}
use Rattle.lt_declare.specs.Declaring.{type_behind}

-- one more type behind others
pub types_more : (types : List CType) (ids : List TypeId) (id : TypeId) → all_in types (ids ++ id ∷ []) ≡ type_behind (all_in types ids) (type_in types id)
types_more types [] id = refl
types_more types (first ∷ ids) id = ap (a_type (type_in types first)) (types_more types ids id)
