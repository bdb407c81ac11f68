use Rattle.std.proofs.Common.{◌≡◌}
use Rattle.lt_ir.specs.Graph.{blanks}
use Rattle.lt_mach_parts.proofs.registers.fill.Given as goal

abbrev pub invariant-loop-turn : goal.invariant-loop-turn
invariant-loop-turn l = l.list.items ≡ blanks l.turn
