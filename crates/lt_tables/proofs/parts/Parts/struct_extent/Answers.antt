use Rattle.std.proofs.Common.{◌∙◌, ap, sym, map, option_map}
use Rattle.lt_model.specs.Layout.{then_some, rounded, resized, no_members}
use Rattle.lt_tree.specs.Typing.EntityView.{member_of}
use Rattle.lt_tree.specs.Typing.Extents.{members_extent}
use Rattle.lt_tables.specs.TypeParts.{extent_among, whole_with}
use Rattle.lt_tables.specs.PartTypes.{types_of, members_with, type_extent_in}
use Rattle.lt_tables.proofs.parts.Parts.struct_extent.Goals as goal

pub returns-in_ok-end_of-in-Some : goal.returns-in_ok-end_of-in-Some
returns-in_ok-end_of-in-Some c =
    let it = c.args.self.now in
    let known = c.args.known.now in
    c.whole.ensures
    ∙ ap (λ o. then_some o (λ all. resized all (rounded all.size all.alignment)))
    (c.in_ok-end_of-in-Some.ensures ∙ ap (λ l. members_extent (type_extent_in it known) no_members (members_with it l)) c.deref.ensures.value)
    ∙ ap (λ o. whole_with it.model (extent_among known) (option_map (λ l. map (member_of (types_of it)) l.items) o)) (sym c.in-Some.is)
