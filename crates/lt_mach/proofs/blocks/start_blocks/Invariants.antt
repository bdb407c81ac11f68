use Rattle.std.proofs.Common.{◌≡◌, ℕ, ◌<◌, length, drop, Result}
use Rattle.lt_model.specs.Memory.{Memory}
use Rattle.lt_ir.specs.Running.{At}
use Rattle.lt_ir.specs.Starting.{start_blocks}
use Rattle.lt_acts.specs.Acts.{on}
use Rattle.lt_acts.specs.declared.flow.Stop.{Stop}
use Rattle.lt_mach.specs.Blocks.{Made}
use Rattle.lt_mach.proofs.blocks.start_blocks.Given as goal

abbrev pub invariant-loop-k : goal.invariant-loop-k
invariant-loop-k l = record {
  completes : (result : Result ℕ Stop) (m : Memory) (at : At) → Made (drop l.k l.blocks) result (length l.memory.blocks) (on m at) (start_blocks (drop l.k l.blocks) (on l.memory.blocks at)) → Made l.blocks result (length l.initial.memory.blocks) (on m at) (start_blocks l.blocks (on l.initial.memory.blocks at));
  unmade : l.k ≡ 0 → l.memory.blocks ≡ l.initial.memory.blocks;
  first : 0 < l.k → l.first ≡ length l.initial.memory.blocks;
  model : l.memory.model ≡ l.initial.memory.model;
}
