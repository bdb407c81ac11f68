use Rattle.std.proofs.Common.{◌≡◌, List, drop}
use Rattle.lt_ir.specs.Running.{At}
use Rattle.lt_ir.specs.Starting.{Root, set_all}
use Rattle.lt_acts.specs.Acts.{on}
use Rattle.lt_mach.specs.Roots.{AreFound}
use Rattle.lt_mach.proofs.setting.set_all.Given as goal

abbrev pub invariant-loop-it : goal.invariant-loop-it
invariant-loop-it l = record {
  leads : (list : List Root) → AreFound list l.roots → (at : At) → set_all l.initial.memory.model list l.cells (on l.initial.memory.blocks at) ≡ set_all l.initial.memory.model list (drop l.it-index l.cells) (on l.memory.blocks at);
  model : l.memory.model ≡ l.initial.memory.model;
}
