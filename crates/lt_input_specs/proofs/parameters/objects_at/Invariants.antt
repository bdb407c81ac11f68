use Rattle.std.proofs.Common.{◌≡◌, map, take}
use Rattle.lt_input_specs.specs.Defaults.{root_of, roots_at}
use Rattle.lt_input_specs.proofs.parameters.objects_at.Given as goal

abbrev pub invariant-loop-number : goal.invariant-loop-number
invariant-loop-number l = map (λ object. root_of l.kinds.program.now object.now) l.objects.items ≡ roots_at l.kinds.program.now (take l.number-index l.numbers)
