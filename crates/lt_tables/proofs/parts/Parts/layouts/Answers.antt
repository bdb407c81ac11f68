use Rattle.std.proofs.Common.{ap, map, option_map, ◌∙◌}
use Rattle.lt_tree.specs.Typing.EntityView.{struct_of}
use Rattle.lt_table.specs.StructTables.{extent_value, pairs_in}
use Rattle.lt_tables.specs.TypeParts.{extent_among}
use Rattle.lt_tables.specs.PartTypes.{types_of}
use Rattle.lt_tables.specs.Layouts.{size_with, object_size, placed_with}
use Rattle.lt_tables.proofs.PlacedRows.{layouts_hold}
use Rattle.lt_tables.proofs.parts.Parts.layouts.Goals as goal

pub returns : goal.returns
returns c =
    let m = c.args.self.now.model in
    let types = types_of c.args.self.now in
    let structs = c.args.structs.now in
    layouts_hold m types structs c.in_ok-known.known.items (record { sizes = c.in_ok-sizes.sizes; members = c.in_ok-members.members; struct_sizes = c.in_ok-struct_sizes.struct_sizes }) c.in_ok-known.ensures
    (c.in_ok-sizes.ensures ∙ ap (λ l. map (size_with m (extent_among l)) types) c.deref.ensures.value)
    (c.in_ok-members.ensures ∙ ap (λ l. map (λ it. pairs_in (placed_with m (extent_among l) (struct_of types it))) structs) c.deref-2.ensures.value)
    (c.in_ok-struct_sizes.ensures ∙ ap (map (λ extent. object_size (option_map extent_value extent))) c.deref-3.ensures.value)
