use Rattle.std.proofs.Common.{◌≡◌, Err, false, rules}
use Rattle.lt_ir.specs.Evaluation.{store_parameters}
use Rattle.lt_ir.specs.Graph.{shapes_in}
use Rattle.lt_mach.specs.Parameters.{begin_all}
use Rattle.lt_mach.proofs.Passing.{both_done, first_stops}
use Rattle.lt_mach.proofs.parameters.take_arguments.Goals as goal

pub returns-in_err-begin_parameters-clause-takes : goal.returns-in_err-begin_parameters-clause-takes
returns-in_err-begin_parameters-clause-takes c =
    let shapes = shapes_in c.args.params.now in
    let e : c.from_residual.result ≡ Err c.in_err-begin_parameters.field-0.0 = search rules in
    rw e
    (first_stops (begin_all false 0 shapes) (store_parameters c.args.memory.now.model 0 shapes c.args.contents.now) c.args.scope.now c.begin_parameters.new.scope c.args.memory.now.blocks c.begin_parameters.new.memory.blocks
    c.in_err-begin_parameters.field-0.0 c.in_err-begin_parameters.ensures.begins)

pub returns-clause-takes : goal.returns-clause-takes
returns-clause-takes c =
    let shapes = shapes_in c.args.params.now in
    let h = rw c.begin_parameters.ensures.model at c.pass.ensures.passes in
    both_done (begin_all false 0 shapes) (store_parameters c.args.memory.now.model 0 shapes c.args.contents.now) c.args.scope.now c.begin_parameters.new.scope c.begin_parameters.new.scope c.args.memory.now.blocks c.begin_parameters.new.memory.blocks
    c.pass.new.memory.blocks c.pass.result c.in_ok-begin_parameters.ensures.begins h
