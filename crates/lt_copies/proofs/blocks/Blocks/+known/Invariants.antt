use Rattle.std.proofs.Common.{◌≡◌, drop}
use Rattle.lt_tree.specs.Records.{parts_in, parameter_list_in}
use Rattle.lt_objectives.specs.Tags.{are_known_parts, is_known_list}
use Rattle.lt_copies.specs.Blocks.{tags_of}
use Rattle.lt_copies.proofs.blocks.Blocks.+known.Given as goal

abbrev pub invariant-are_known_parts-parts : goal.invariant-are_known_parts-parts
invariant-are_known_parts-parts l = are_known_parts (tags_of l.self.frames) (parts_in (drop l.part-index l.list)) ≡ are_known_parts (tags_of l.self.frames) (parts_in l.list)

abbrev pub invariant-is_known_list-parameters : goal.invariant-is_known_list-parameters
invariant-is_known_list-parameters l =
    is_known_list (tags_of l.self.frames) (parameter_list_in (drop l.parameter-index l.list)) ≡ is_known_list (tags_of l.self.frames) (parameter_list_in l.list)
