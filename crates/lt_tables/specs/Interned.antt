-- Types without qualifiers, each once, in a table of their own, by their ids there.
use Rattle.std.specs.Prelude.{◌≡◌}
use Rattle.lt_tree.specs.declared.typed.types.TypeId.{TypeId}
use Rattle.lt_tree.specs.Typing.Types.{CType, bare}
use Rattle.lt_tree.specs.Typing.TypeRows.{type_in}
use Rattle.lt_table.specs.TableRows.{Stays}
pub use Rattle.lt_tables.specs.TypeNumbers.{number_among}
use Rattle.lt_tables.specs.declared.bare_types.BareTypes.{BareTypes}

-- the id of a type without its qualifiers, whatever types are added
abbrev pub IsIdOf : BareTypes → CType → TypeId → Type 0
IsIdOf it t id = Stays it.rows (λ longer. type_in longer id ≡ bare t)

-- Types were added at most: the ids of the others stay.
pub record Keeps (old new : BareTypes) : Type 0 where
  pub program : new.program ≡ old.program
  pub ids : (t : CType) (id : TypeId) → IsIdOf old t id → IsIdOf new t id
