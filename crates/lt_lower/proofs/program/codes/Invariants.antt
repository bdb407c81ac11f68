use Rattle.std.proofs.Common.{take}
use Rattle.lt_lower.specs.Programs.{CodesStand}
use Rattle.lt_lower.proofs.program.codes.Given as goal

abbrev pub invariant-functions : goal.invariant-functions
invariant-functions l = CodesStand l.tables (take l.function-index l.function-items) l.all.items
