use Rattle.std.proofs.Common.{◌≡◌, map, take}
use Rattle.lt_input_names.specs.Parts.{address_in}
use Rattle.lt_input_names.proofs.names.targets.addresses.Given as goal

abbrev pub invariant-loop-offset : goal.invariant-loop-offset
invariant-loop-offset l = l.targets.items ≡ map (address_in l.name) (take l.offset-index l.offsets)
