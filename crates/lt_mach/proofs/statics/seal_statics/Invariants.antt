use Rattle.std.proofs.Common.{◌≡◌, drop}
use Rattle.lt_ir.specs.Starting.{seal_statics}
use Rattle.lt_mach.proofs.Passing.{Leads}
use Rattle.lt_mach.proofs.statics.seal_statics.Given as goal

abbrev pub invariant-loop-k : goal.invariant-loop-k
invariant-loop-k l = record {
  leads : Leads (seal_statics 0 l.list) l.scope l.initial.memory.blocks (seal_statics l.k (drop l.k l.list)) l.scope l.memory.blocks;
  model : l.memory.model ≡ l.initial.memory.model;
}
