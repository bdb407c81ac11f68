use Rattle.std.proofs.Common.{◌≡◌, drop}
use Rattle.lt_token.specs.Lexemes.{fresh_after}
use Rattle.lt_lex.proofs.cut.fresh_after.Given as goal

abbrev pub invariant-loop-b : goal.invariant-loop-b
invariant-loop-b l = fresh_after l.fresh (drop l.b-index l.piece) ≡ fresh_after l.fn.fresh l.piece
