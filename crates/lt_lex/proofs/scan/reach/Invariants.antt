use Rattle.std.proofs.Common.{◌≡◌, ◌+◌, drop, None}
use Rattle.lt_lex.specs.Front.{reach}
use Rattle.lt_lex.proofs.scan.reach.Given as goal

abbrev pub invariant-loop-at : goal.invariant-loop-at
invariant-loop-at l = reach l.part (l.from + l.at) l.best (drop l.at l.text) ≡ reach l.fn.start l.from None l.text
