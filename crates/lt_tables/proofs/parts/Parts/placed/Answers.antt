use Rattle.std.proofs.Common.{ap, sym, ◌∙◌, option_map, map}
use Rattle.lt_model.specs.Layout.{no_members}
use Rattle.lt_tree.specs.Typing.EntityView.{member_of}
use Rattle.lt_tree.specs.Typing.Extents.{type_extent, placed_behind}
use Rattle.lt_table.specs.StructTables.{extent_value, pairs_in}
use Rattle.lt_tables.specs.TypeParts.{extent_among}
use Rattle.lt_tables.specs.PartTypes.{types_of}
use Rattle.lt_tables.specs.Layouts.{step_value}
use Rattle.lt_tables.proofs.PlacedRows.{placed_stop, placed_more}
use Rattle.lt_tables.proofs.parts.Parts.placed.Goals as goal

pub returns-in_default : goal.returns-in_default
returns-in_default c =
    let known = extent_among c.args.known.now in
    let types = types_of c.args.self.now in
    let m = c.args.self.now.model in
    let whole = pairs_in (placed_behind (type_extent m known) no_members (map (member_of types) c.args.members.now)) in
    placed_stop m known types c.args.members.now c.loop-member.member-index c.member-item.result c.loop-member.all.items (extent_value c.loop-member.before) whole c.loop-member-test.true c.member-item.is
    (sym c.step.ensures ∙ ap (option_map step_value) c.in_default.is) c.loop-member.invariant

pub loop-member-preserved : goal.loop-member-preserved
loop-member-preserved c =
    let known = extent_among c.args.known.now in
    let types = types_of c.args.self.now in
    let m = c.args.self.now.model in
    let whole = pairs_in (placed_behind (type_extent m known) no_members (map (member_of types) c.args.members.now)) in
    placed_more m known types c.args.members.now c.loop-member.member-index c.member-item.result c.loop-member.all.items c.push.new.self.items (extent_value c.loop-member.before) c.in-Some.step.offset
    (extent_value c.in-Some.step.after) whole c.loop-member-test.true c.member-item.is (sym c.step.ensures ∙ ap (option_map step_value) c.in-Some.is) c.in_ok-push.ensures.items c.loop-member.invariant
