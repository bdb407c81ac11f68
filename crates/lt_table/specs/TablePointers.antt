-- What two pointers point to.
use Rattle.std.specs.Prelude.{◌≡◌, ◌<◌, Bool, false, List, length, Option, Some, None}
use Rattle.lt_tree.specs.declared.typed.types.TypeId.{TypeId}
use Rattle.lt_tree.specs.declared.typed.types.TypeRow.{TypeRow}
use Rattle.lt_tree.specs.Typing.Types.{CType}
use Rattle.lt_tree.specs.Typing.TypeRows.{type_in}
use Rattle.lt_tree.specs.Typing.Operands.{points_to}
use Rattle.lt_table.specs.TableRows.{Stays}

-- both types are pointers to types that stand in this relation
abbrev pub both_point_to : (CType → CType → Bool) → CType → CType → Bool
both_point_to test t u = points_to (λ a. points_to (test a) u) t

-- they are pointers to these types, or one is no pointer
abbrev pub BothPointTo : List TypeRow → TypeId → TypeId → Option (TypeId × TypeId) → Type 0
BothPointTo rows t u None = (test : CType → CType → Bool) → Stays rows (λ types. both_point_to test (type_in types t) (type_in types u) ≡ false)
BothPointTo rows t u (Some (a, b)) = (a.place < length rows) × (b.place < length rows)
    × ((test : CType → CType → Bool) → Stays rows (λ types. both_point_to test (type_in types t) (type_in types u) ≡ test (type_in types a) (type_in types b)))
