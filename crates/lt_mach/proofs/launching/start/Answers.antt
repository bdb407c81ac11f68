use Rattle.std.proofs.Common.{◌≡◌, ◌∙◌, [], Err, rules}
use Rattle.lt_ir.specs.Running.{◌>>=◌}
use Rattle.lt_ir.specs.Starting.{start_statics, start_blocks}
use Rattle.lt_mach.specs.Launching.{rest_started}
use Rattle.lt_mach.proofs.Passing.{both_done}
use Rattle.lt_mach.proofs.Beginning.{blocks_done, blocks_over}
use Rattle.lt_mach.proofs.launching.start.Goals as goal

pub returns-in_err-first-clause-starts : goal.returns-in_err-first-clause-starts
returns-in_err-first-clause-starts c =
    let m = c.args.memory.now in
    let g = c.args.graph.now in
    let input = c.args.input.now in
    let rest = rest_started m.model g c.args.code.now input in
    let scope = c.begin_statics.new.scope in
    let stop = c.in_err-first.field-0.0 in
    let e : c.from_residual-in_err-first.result ≡ Err stop = search rules in
    let h = rw c.as_slice.ensures at c.in_ok-begin_statics.ensures.starts in
    let d = rw c.as_slice-2.ensures at c.in_err-first.ensures.starts in
    rw e
    (both_done (start_statics m.model 0 g.statics) (start_blocks input.blocks >>= rest) [] scope scope m.blocks c.begin_statics.new.memory.blocks c.start_blocks.new.memory.blocks (Err stop) h
    (blocks_over input.blocks rest scope c.begin_statics.new.memory.blocks c.start_blocks.new.memory.blocks stop d))

pub returns-clause-starts : goal.returns-clause-starts
returns-clause-starts c =
    let m = c.args.memory.now in
    let g = c.args.graph.now in
    let input = c.args.input.now in
    let rest = rest_started m.model g c.args.code.now input in
    let scope = c.begin_statics.new.scope in
    let h = rw c.as_slice.ensures at c.in_ok-begin_statics.ensures.starts in
    let d = rw c.as_slice-2.ensures at c.in_ok-first.ensures.starts in
    let n = rw c.as_slice-2.ensures at c.in_ok-first.ensures.first in
    both_done (start_statics m.model 0 g.statics) (start_blocks input.blocks >>= rest) [] scope c.start_rest.new.scope m.blocks c.begin_statics.new.memory.blocks c.start_rest.new.memory.blocks c.start_rest.result h
    (blocks_done input.blocks c.in_ok-first.first rest scope c.start_rest.new.scope c.begin_statics.new.memory.blocks c.start_blocks.new.memory.blocks c.start_rest.new.memory.blocks c.start_rest.result d n
    (c.start_rest.ensures.starts m.model (c.start_blocks.ensures.model ∙ c.begin_statics.ensures.model)))
