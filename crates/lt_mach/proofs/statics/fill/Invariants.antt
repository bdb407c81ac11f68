use Rattle.std.proofs.Common.{◌≡◌, drop}
use Rattle.lt_ir.specs.Running.{At}
use Rattle.lt_ir.specs.Starting.{fill}
use Rattle.lt_acts.specs.Acts.{on}
use Rattle.lt_mach.proofs.statics.fill.Given as goal

abbrev pub invariant-loop-k : goal.invariant-loop-k
invariant-loop-k l = record {
  leads : (at : At) → fill l.initial.memory.model l.block l.cells l.contents (on l.initial.memory.blocks at) ≡ fill l.initial.memory.model l.block (drop l.k l.cells) (drop l.k l.contents) (on l.memory.blocks at);
  model : l.memory.model ≡ l.initial.memory.model;
}
