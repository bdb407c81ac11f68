use Rattle.std.proofs.Common.{◌≡◌, List, take}
use Rattle.std.specs.List.{flat_map}
use Rattle.lt_tree.specs.Typing.ProgramView.{program_of}
use Rattle.lt_entry.specs.Naming.{Scope}
use Rattle.lt_entry.specs.SpecificationLines.{Line}
use Rattle.lt_entry.specs.Meaning.{free_cells, null_or_default}
use Rattle.lt_input_specs.specs.Defaults.{root_of}
use Rattle.lt_spec_reader.specs.Said.{HasSaid}
use Rattle.lt_spec_reader.proofs.cells.parameter_cells.Given as goal

abbrev pub invariant-loop-object : goal.invariant-loop-object
invariant-loop-object l =
    (scope : Scope) (lines : List Line) → scope.program ≡ program_of l.kinds.program.now → HasSaid scope lines l.wants
    → l.cells.items ≡ flat_map (λ object. free_cells scope lines (null_or_default scope.program (root_of l.kinds.program.now object.now)) (root_of l.kinds.program.now object.now)) (take l.object-index l.parameters)
