use Rattle.lt_mach.proofs.SetCells.{all_set}
use Rattle.lt_mach.proofs.launching.set_cells.Goals as goal

pub returns-clause-sets : goal.returns-clause-sets
returns-clause-sets c =
    all_set c.args.memory.now.model c.args.scope.now c.as_slice.result.now c.args.code.now.params c.args.first c.as_slice-2.result.now c.args.input.now.blocks c.as_slice-3.result.now c.args.graph.now.statics c.as_slice-4.result.now c.args.input.now.cells c.args.memory.now.blocks
    c.set_all.new.memory.blocks c.set_all.result c.in_ok-roots.roots c.as_slice.ensures c.as_slice-2.ensures c.as_slice-3.ensures c.as_slice-4.ensures c.in_ok-roots.ensures c.set_all.ensures.sets
