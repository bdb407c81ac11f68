use Rattle.std.proofs.Common.{◌≡◌, take}
use Rattle.std.specs.List.{flat_map}
use Rattle.lt_input_names.specs.Parts.{strided}
use Rattle.lt_input_names.proofs.names.steps.strided.Given as goal

abbrev pub invariant-loop-offset : goal.invariant-loop-offset
invariant-loop-offset l = l.them.items ≡ flat_map (strided l.stride) (take l.offset-index l.offsets)
