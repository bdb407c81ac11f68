use Rattle.std.proofs.Common.{◌≡◌, drop}
use Rattle.lt_tree.specs.Records.{types_in}
use Rattle.lt_objectives.specs.Tags.{are_known_types}
use Rattle.lt_copies.specs.Blocks.{tags_of}
use Rattle.lt_copies.proofs.blocks.Blocks.are_known.Given as goal

abbrev pub invariant-types : goal.invariant-types
invariant-types l =
    are_known_types (tags_of l.self.frames) (types_in (drop l.kind-index l.specifiers.types.items)) ≡ are_known_types (tags_of l.self.frames) (types_in l.specifiers.types.items)
