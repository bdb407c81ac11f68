use Rattle.std.proofs.Common.{◌≡◌, map, take}
use Rattle.lt_tree.specs.Typing.EntityView.{struct_of}
use Rattle.lt_table.specs.StructTables.{pairs_in}
use Rattle.lt_tables.specs.TypeParts.{extent_among}
use Rattle.lt_tables.specs.PartTypes.{types_of}
use Rattle.lt_tables.specs.Layouts.{pairs_of, placed_with}
use Rattle.lt_tables.proofs.parts.Parts.members.Given as goal

abbrev pub invariant-loop-it : goal.invariant-loop-it
invariant-loop-it l =
    map (λ x. pairs_of (types_of l.self) x.items) l.all.items ≡ map (λ x. pairs_in (placed_with l.self.model (extent_among l.known) (struct_of (types_of l.self) x))) (take l.it-index l.structs)
