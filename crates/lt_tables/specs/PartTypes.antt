-- The types whose parts are known, and structs with members of these types.
use Rattle.std.specs.Prelude.{List, Option, map}
use Rattle.lt_model.specs.declared.sizes.Extent as model
use Rattle.lt_tree.specs.declared.typed.entity.Member as typed
use Rattle.lt_tree.specs.declared.typed.entity.StructType.{StructType}
use Rattle.lt_tree.specs.Typing.Types.{CType}
use Rattle.lt_tree.specs.Typing.TypeRows.{types_of_rows}
use Rattle.lt_tree.specs.Typing.EntityView.{member_of, struct_of, structs_of}
use Rattle.lt_tree.specs.Typing.Extents.{Member, Structs, Placed, type_extent}
use Rattle.lt_table.specs.declared.structs.extent.Extent.{Extent}
use Rattle.lt_tables.specs.declared.parts.Parts.{Parts}
use Rattle.lt_tables.specs.TypeParts.{extent_among, whole_with, AreReached, AreSettled}
use Rattle.lt_tables.specs.Layouts.{placed_with}

abbrev pub types_of : Parts → List CType
types_of parts = types_of_rows parts.rows.now

abbrev pub structs_with : Parts → List StructType → Structs
structs_with parts structs = structs_of (types_of parts) structs

abbrev pub members_with : Parts → List typed.Member → List Member
members_with parts members = map (member_of (types_of parts)) members

-- ---- where the extents of structs are known as far as these

abbrev pub type_extent_in : Parts → List (Option Extent) → CType → Option model.Extent
type_extent_in parts known t = type_extent parts.model (extent_among known) t

abbrev pub struct_extent_in : Parts → List (Option Extent) → StructType → Option model.Extent
struct_extent_in parts known it = whole_with parts.model (extent_among known) (struct_of (types_of parts) it).members

abbrev pub placed_in : Parts → List (Option Extent) → StructType → List Placed
placed_in parts known it = placed_with parts.model (extent_among known) (struct_of (types_of parts) it)

abbrev pub AreReachedIn : Parts → List StructType → List (Option Extent) → Type 0
AreReachedIn parts structs known = AreReached parts.model (structs_with parts structs) known

abbrev pub AreSettledIn : Parts → List StructType → List (Option Extent) → Type 0
AreSettledIn parts structs known = AreSettled parts.model (structs_with parts structs) known
