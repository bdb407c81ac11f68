use Rattle.std.proofs.Common.{◌≡◌, ◌∙◌, Err, rules}
use Rattle.lt_ir.specs.Starting.{sets, seal_statics}
use Rattle.lt_ir.specs.Graph.{names_in, shapes_in}
use Rattle.lt_mach.specs.Blocks.{roots_from}
use Rattle.lt_mach.proofs.Passing.{both_done, first_stops}
use Rattle.lt_mach.proofs.Beginning.{rest_stops_first, rest_done}
use Rattle.lt_mach.proofs.launching.start_rest.Goals as goal

pub returns-in_err-begin_parameters-clause-starts : goal.returns-in_err-begin_parameters-clause-starts
returns-in_err-begin_parameters-clause-starts c model same =
    let e : c.from_residual.result ≡ Err c.in_err-begin_parameters.field-0.0 = search rules in
    let h = rw c.as_slice.ensures at c.in_err-begin_parameters.ensures.begins in
    rw e
    (rest_stops_first model c.args.graph.now c.args.code.now c.args.input.now (roots_from c.args.first c.args.input.now.blocks) c.args.scope.now c.begin_parameters.new.scope c.args.memory.now.blocks c.begin_parameters.new.memory.blocks c.in_err-begin_parameters.field-0.0 h)

pub returns-in_err-set_cells-clause-starts : goal.returns-in_err-set_cells-clause-starts
returns-in_err-set_cells-clause-starts c model same =
    let g = c.args.graph.now in
    let code = c.args.code.now in
    let input = c.args.input.now in
    let roots = roots_from c.args.first input.blocks in
    let scope = c.begin_parameters.new.scope in
    let stop = c.in_err-set_cells.field-0.0 in
    let e : c.from_residual-in_err-set_cells.result ≡ Err stop = search rules in
    let h = rw c.as_slice.ensures at c.in_ok-begin_parameters.ensures.begins in
    let d = rw (c.begin_parameters.ensures.model ∙ same) at c.in_err-set_cells.ensures.sets in
    rw e
    (rest_done model g code input roots c.args.scope.now scope c.args.memory.now.blocks c.begin_parameters.new.memory.blocks scope c.set_cells.new.memory.blocks (Err stop) h
    (first_stops (sets model g.statics (names_in code.params) (shapes_in code.params) input.cells roots) (seal_statics 0 g.statics) scope scope c.begin_parameters.new.memory.blocks c.set_cells.new.memory.blocks stop d))

pub returns-clause-starts : goal.returns-clause-starts
returns-clause-starts c model same =
    let g = c.args.graph.now in
    let code = c.args.code.now in
    let input = c.args.input.now in
    let roots = roots_from c.args.first input.blocks in
    let scope = c.begin_parameters.new.scope in
    let h = rw c.as_slice.ensures at c.in_ok-begin_parameters.ensures.begins in
    let d = rw (c.begin_parameters.ensures.model ∙ same) at c.in_ok-set_cells.ensures.sets in
    let s = rw c.as_slice-2.ensures at c.seal_statics.ensures.seals in
    rest_done model g code input roots c.args.scope.now scope c.args.memory.now.blocks c.begin_parameters.new.memory.blocks scope c.seal_statics.new.memory.blocks c.seal_statics.result h
    (both_done (sets model g.statics (names_in code.params) (shapes_in code.params) input.cells roots) (seal_statics 0 g.statics) scope scope scope c.begin_parameters.new.memory.blocks c.set_cells.new.memory.blocks c.seal_statics.new.memory.blocks c.seal_statics.result d s)
