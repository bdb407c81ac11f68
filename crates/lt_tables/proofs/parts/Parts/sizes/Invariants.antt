use Rattle.std.proofs.Common.{◌≡◌, map, take}
use Rattle.lt_tables.specs.TypeParts.{extent_among, parts_extent}
use Rattle.lt_tables.specs.Layouts.{size_of_extent}
use Rattle.lt_tables.proofs.parts.Parts.sizes.Given as goal

abbrev pub invariant-loop-parts : goal.invariant-loop-parts
invariant-loop-parts l = l.sizes.items ≡ map (λ it. size_of_extent (parts_extent (extent_among l.known) it)) (take l.parts-index l.parts-items)
