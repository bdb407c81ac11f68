use Rattle.std.proofs.Common.{◌≡◌, map, drop}
use Rattle.lt_model.specs.Layout.{no_members}
use Rattle.lt_tree.specs.Typing.EntityView.{member_of}
use Rattle.lt_tree.specs.Typing.Extents.{type_extent, members_extent}
use Rattle.lt_table.specs.StructTables.{extent_value}
use Rattle.lt_tables.specs.TypeParts.{extent_among}
use Rattle.lt_tables.specs.PartTypes.{types_of}
use Rattle.lt_tables.proofs.parts.Parts.end_of.Given as goal

abbrev pub invariant-loop-member : goal.invariant-loop-member
invariant-loop-member l =
    members_extent (type_extent l.self.model (extent_among l.known)) (extent_value l.before) (map (member_of (types_of l.self)) (drop l.member-index l.members))
    ≡ members_extent (type_extent l.self.model (extent_among l.known)) no_members (map (member_of (types_of l.self)) l.members)
