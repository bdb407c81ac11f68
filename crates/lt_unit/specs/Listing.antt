-- Types that are listed, each once, without qualifiers and behind those of which they are made.
use Rattle.std.specs.Prelude.{◌≡◌, Bool, List, length, map, slice_get, Some}
use Rattle.std.specs.List.{list_any}
use Rattle.lt_tree.specs.declared.typed.types.TypeId.{TypeId}
use Rattle.lt_tree.specs.Typing.Types.{CType, same}
use Rattle.lt_tree.specs.Typing.TypeRows.{type_in, types_of_rows}
use Rattle.lt_tree.specs.Typing.TypeIds.{AreBelow}
use Rattle.lt_tree.specs.Typing.Programs.{with_new}
use Rattle.lt_table.specs.TableBare.{AreBare}
use Rattle.lt_unit.specs.MadeOf.{IsClosed}
use Rattle.lt_table.specs.RowsOnce.{AreOnce}
use Rattle.lt_unit.specs.declared.listing.Listed.{Listed}
use Rattle.lt_unit.specs.declared.listing.TypesByPlace.{TypesByPlace}

-- each type stands once, and beside it is that without qualifiers
pub record AreByPlace (types : TypesByPlace) : Type 0 where
  pub once : AreOnce types.rows.items
  pub bare : AreBare types.rows.items types.bare.items

abbrev pub types_at : TypesByPlace → List CType
types_at types = types_of_rows types.rows.items

abbrev pub listed_in : List CType → Listed → List CType
listed_in types it = map (type_in types) it.ids.items

-- What is listed has rows, and the flag of a place says whether its type is listed.
pub record AreMarked (types : TypesByPlace) (it : Listed) : Type 0 where
  pub rows : AreBelow (length types.rows.items) it.ids.items
  pub within : length it.is_listed.items ≡ length types.rows.items
  pub marks : (t : TypeId) (b : Bool) → slice_get it.is_listed.items t.place ≡ Some b → b ≡ list_any (same (type_in (types_at types) t)) (listed_in (types_at types) it)

-- what is listed is marked, and with each type those of which it is made
pub record IsListing (types : TypesByPlace) (it : Listed) : Type 0 where
  pub marked : AreMarked types it
  pub closed : IsClosed (listed_in (types_at types) it)

-- these types were listed, as far as they weren't
pub record ListsMore (types : TypesByPlace) (old new : Listed) (more : List CType) : Type 0 where
  pub listing : IsListing types new
  pub listed : listed_in (types_at types) new ≡ with_new (listed_in (types_at types) old) more
