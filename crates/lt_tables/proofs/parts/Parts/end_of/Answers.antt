use Rattle.std.proofs.Common.{ap, sym, ◌∙◌, option_map}
use Rattle.lt_model.specs.Layout.{no_members}
use Rattle.lt_tree.specs.Typing.EntityView.{member_of}
use Rattle.lt_tree.specs.Typing.Extents.{type_extent, members_extent}
use Rattle.std.proofs.Common.{map}
use Rattle.lt_table.specs.StructTables.{extent_value}
use Rattle.lt_tables.specs.TypeParts.{extent_among}
use Rattle.lt_tables.specs.PartTypes.{types_of}
use Rattle.lt_tables.proofs.PlacedRows.{end_missing}
use Rattle.lt_tables.proofs.parts.Parts.end_of.Goals as goal

pub returns-in_err-extent : goal.returns-in_err-extent
returns-in_err-extent c =
    let known = extent_among c.args.known.now in
    let types = types_of c.args.self.now in
    let m = c.args.self.now.model in
    let whole = members_extent (type_extent m known) no_members (map (member_of types) c.args.members.now) in
    ap (option_map extent_value) c.from_residual.ensures
    ∙ end_missing m known types c.args.members.now c.loop-member.member-index c.member-item.result (extent_value c.loop-member.before) whole c.loop-member-test.true c.member-item.is
    (sym c.extent.ensures ∙ ap (option_map extent_value) c.in_err-extent.was) c.loop-member.invariant
