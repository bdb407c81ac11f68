use Rattle.std.proofs.Common.{◌≡◌, map, take}
use Rattle.lt_input_names.specs.Parts.{part_in}
use Rattle.lt_input_names.proofs.names.parts.parts_in.Given as goal

abbrev pub invariant-loop-offset : goal.invariant-loop-offset
invariant-loop-offset l = l.parts.items ≡ map (part_in l.name l.ty) (take l.offset-index l.offsets)
