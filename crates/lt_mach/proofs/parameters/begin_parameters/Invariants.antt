use Rattle.std.proofs.Common.{◌≡◌, drop}
use Rattle.lt_ir.specs.Graph.{shapes_in}
use Rattle.lt_mach.specs.Parameters.{begin_all}
use Rattle.lt_mach.proofs.Passing.{Leads}
use Rattle.lt_mach.proofs.parameters.begin_parameters.Given as goal

abbrev pub invariant-loop-k : goal.invariant-loop-k
invariant-loop-k l = record {
  leads : Leads (begin_all l.is_zeroed 0 (shapes_in l.params)) l.initial.scope l.initial.memory.blocks (begin_all l.is_zeroed l.k (shapes_in (drop l.k l.params))) l.scope l.memory.blocks;
  model : l.memory.model ≡ l.initial.memory.model;
}
