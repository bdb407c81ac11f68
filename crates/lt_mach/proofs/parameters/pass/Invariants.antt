use Rattle.std.proofs.Common.{◌≡◌, drop}
use Rattle.lt_ir.specs.Graph.{shapes_in}
use Rattle.lt_ir.specs.Evaluation.{store_parameters}
use Rattle.lt_mach.proofs.Passing.{Leads}
use Rattle.lt_mach.proofs.parameters.pass.Given as goal

abbrev pub invariant-loop-k : goal.invariant-loop-k
invariant-loop-k l = record {
  leads : Leads (store_parameters l.initial.memory.model 0 (shapes_in l.params) l.contents) l.scope l.initial.memory.blocks (store_parameters l.initial.memory.model l.k (shapes_in (drop l.k l.params)) (drop l.k l.contents)) l.scope l.memory.blocks;
  model : l.memory.model ≡ l.initial.memory.model;
}
