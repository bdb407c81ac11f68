use Rattle.std.proofs.Common.{◌≤◌, [], length, arith}
use Rattle.std.specs.Borrow.{Bor}
use Rattle.lt_tree.specs.declared.typed.entity.Object as memory
use Rattle.lt_entry.specs.Meaning.{free_cells, null_or_default}
use Rattle.lt_input_specs.specs.Defaults.{root_of}
use Rattle.lt_spec_reader.proofs.CellLaws.{flat_more, flat_done}
use Rattle.lt_spec_reader.proofs.cells.parameter_cells.Goals as goal

pub loop-object-preserved : goal.loop-object-preserved
loop-object-preserved c = λ scope lines is said.
    let program = c.args.kinds.now.program.now in
    flat_more (λ (object : Bor memory.Object). free_cells scope lines (null_or_default scope.program (root_of program object.now)) (root_of program object.now)) c.args.parameters.now c.loop-object.object-index c.object-item.result [] _ _ c.loop-object-test.true c.object-item.is
    (c.loop-object.invariant scope lines is said) (c.in_ok-put_parameter.ensures scope lines is said)

pub returns : goal.returns
returns c = λ scope lines is said.
    let program = c.args.kinds.now.program.now in
    let all : length c.args.parameters.now ≤ c.loop-object.object-index = omega arith in
    flat_done (λ (object : Bor memory.Object). free_cells scope lines (null_or_default scope.program (root_of program object.now)) (root_of program object.now)) c.args.parameters.now c.loop-object.object-index [] c.loop-object.cells.items all (c.loop-object.invariant scope lines is said)
