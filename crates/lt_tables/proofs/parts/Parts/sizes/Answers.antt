use Rattle.std.proofs.Common.{ap, map, ◌∙◌}
use Rattle.std.proofs.lemmas.List.{take_all}
use Rattle.lt_tables.specs.TypeParts.{extent_among, parts_extent}
use Rattle.lt_tables.specs.PartTypes.{types_of}
use Rattle.lt_tables.specs.Layouts.{size_of_extent}
use Rattle.lt_tables.proofs.PartRows.{sizes_are}
use Rattle.lt_tables.proofs.parts.Parts.sizes.Goals as goal

pub returns : goal.returns
returns c =
    let known = extent_among c.args.known.now in
    let it = c.args.self.now in
    c.loop-parts.invariant ∙ ap (map (λ x. size_of_extent (parts_extent known x))) (take_all c.loop-parts.parts-index c.deref-parts-items.result.now c.loop-parts-test.false ∙ c.deref-parts-items.ensures.value)
    ∙ sizes_are it.model known (types_of it) it.list.items it.hold
