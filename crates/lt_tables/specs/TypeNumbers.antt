-- The numbers of types as those of pointers, and what is known of the types of rows.
use Rattle.std.specs.Prelude.{◌≡◌, ℕ, List, [], ◌∷◌, map, unwrap_or}
use Rattle.std.specs.Ordering.{nat_cmp}
use Rattle.std.specs.BTreeMap.{BTreeMap, get}
use Rattle.lt_tree.specs.declared.typed.types.TypeId.{TypeId}
use Rattle.lt_tree.specs.declared.typed.types.TypeRow.{TypeRow}
use Rattle.lt_tree.specs.Typing.Types.{CType, bare}
use Rattle.lt_tree.specs.Typing.TypeRows.{type_in, types_of_rows}
use Rattle.lt_tree.specs.Typing.Programs.{Program}
use Rattle.lt_tree.specs.Typing.Shapes.{place_among}
use Rattle.lt_table.specs.TableRows.{Grows, Stays}
use Rattle.lt_tables.specs.SimpleRows.{CanBeFound}
use Rattle.lt_tables.specs.declared.facts.TypeFacts.{TypeFacts}
use Rattle.lt_tables.specs.Lookups.{AreFactsOf}

-- the place of a type without its qualifiers among types
abbrev pub number_among : List CType → CType → ℕ
number_among types t = place_among 0 (bare t) types

-- Of any table that goes on from these rows, an id of a type has the place that it has here among types, or else this one.
abbrev pub AreNumbersOf : List CType → BTreeMap ℕ ℕ → ℕ → List TypeRow → Type 0
AreNumbersOf types places other rows =
    (longer : List TypeRow) → Grows rows longer → CanBeFound longer → (t : CType) (id : TypeId) → Stays longer (λ all. type_in all id ≡ bare t)
    → unwrap_or (get nat_cmp places id.place) other ≡ number_among types t

-- the types of a program, of which its table has the rows
abbrev pub types_named : List TypeRow → List TypeId → List CType
types_named rows ids = map (type_in (types_of_rows rows)) ids

-- what is known of each of these types
abbrev pub AreAllFacts : Program → List CType → List TypeFacts → Type 0
AreAllFacts program [] [] = Unit {0}
AreAllFacts program (t ∷ ts) (facts ∷ known) = AreFactsOf program t facts × AreAllFacts program ts known
AreAllFacts program _ _ = ⊥
