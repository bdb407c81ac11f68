use Rattle.std.proofs.Common.{◌≡◌, take}
use Rattle.std.specs.List.{flat_map}
use Rattle.lt_tree.specs.Typing.ProgramView.{program_of}
use Rattle.lt_input_specs.specs.Defaults.{root_of, parameter_cells}
use Rattle.lt_input_specs.proofs.default.parameter_cells.Given as goal

abbrev pub invariant-loop-object : goal.invariant-loop-object
invariant-loop-object l = l.cells.items ≡ flat_map (λ object. parameter_cells (program_of l.kinds.program.now) (root_of l.kinds.program.now object.now)) (take l.object-index l.parameters)
