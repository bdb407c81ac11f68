use Rattle.std.proofs.Common.{◌≡◌, take}
use Rattle.std.specs.List.{list_all}
use Rattle.lt_tree.specs.Typing.Types.{is_scalar}
use Rattle.lt_input_specs.specs.Defaults.{roots_at}
use Rattle.lt_input_specs.proofs.entry.are_scalars.Given as goal

abbrev pub invariant-loop-number : goal.invariant-loop-number
invariant-loop-number l = l.are ≡ list_all (λ parameter. is_scalar parameter.type) (roots_at l.kinds.program.now (take l.number-index l.numbers))
