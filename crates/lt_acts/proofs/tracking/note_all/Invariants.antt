use Rattle.std.proofs.Common.{◌≡◌, drop}
use Rattle.lt_acts.proofs.Noted.{to_come}
use Rattle.lt_acts.proofs.tracking.note_all.Given as goal

abbrev pub invariant-loop-cell : goal.invariant-loop-cell
invariant-loop-cell l =
    to_come l.side l.registers l.r l.at (drop l.cell-index l.cells) l.memory.blocks ≡ to_come l.side l.fn.registers l.r l.at l.cells l.memory.blocks
