use Rattle.std.proofs.Common.{◌≡◌, ◌+◌, ◌*◌, drop, map}
use Rattle.lt_model.specs.TypeView.{member_of, structs_of}
use Rattle.lt_model.specs.Layout.{members_extent, type_extent, struct_extent, no_members}
use Rattle.lt_model.proofs.sizes.+extent.Given as goal

abbrev pub decreases-struct_extent : goal.decreases-struct_extent
decreases-struct_extent l = 4 * l.depth

abbrev pub decreases-single_extent : goal.decreases-single_extent
decreases-single_extent l = 4 * l.depth + 1

abbrev pub decreases-type_extent : goal.decreases-type_extent
decreases-type_extent l = 4 * l.depth + 2

abbrev pub decreases-members_extent : goal.decreases-members_extent
decreases-members_extent l = 4 * l.depth + 3

abbrev pub invariant-members_extent-loop-member : goal.invariant-members_extent-loop-member
invariant-members_extent-loop-member l =
    members_extent (type_extent l.model (struct_extent l.model (structs_of l.structs) l.depth)) l.before (map member_of (drop l.member-index l.members))
    ≡ members_extent (type_extent l.model (struct_extent l.model (structs_of l.structs) l.depth)) no_members (map member_of l.members)
