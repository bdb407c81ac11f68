use Rattle.std.proofs.Common.{◌≡◌, true, drop}
use Rattle.lt_ir.specs.Graph.{are_static}
use Rattle.lt_ir.specs.Starting.{start_statics}
use Rattle.lt_mach.proofs.Passing.{Leads}
use Rattle.lt_mach.proofs.statics.start_statics.Given as goal

abbrev pub invariant-loop-k : goal.invariant-loop-k
invariant-loop-k l = record {
  leads : Leads (start_statics l.initial.memory.model 0 l.list) l.initial.statics l.initial.memory.blocks (start_statics l.initial.memory.model l.k (drop l.k l.list)) l.statics l.memory.blocks;
  model : l.memory.model ≡ l.initial.memory.model;
  remain : are_static l.statics ≡ true;
}
