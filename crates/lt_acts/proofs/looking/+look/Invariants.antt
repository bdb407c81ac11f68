use Rattle.std.proofs.Common.{◌≡◌, drop}
use Rattle.lt_model.specs.declared.cell.Content.TheVariants.{Unset}
use Rattle.lt_ir.specs.Running.{At}
use Rattle.lt_acts.proofs.Looks.{rest_gives}
use Rattle.lt_acts.proofs.looking.+look.Given as goal

abbrev pub invariant-look_all-loop-part : goal.invariant-look_all-loop-part
invariant-look_all-loop-part l =
    (at : At) → rest_gives l.memory.model l.scope l.memory.blocks l.content (drop l.part-index l.parts) at ≡ rest_gives l.memory.model l.scope l.memory.blocks Unset l.parts at
