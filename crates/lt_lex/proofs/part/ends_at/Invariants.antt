use Rattle.std.proofs.Common.{◌≡◌, drop}
use Rattle.lt_token.specs.Parts.{ends_at}
use Rattle.lt_lex.proofs.part.ends_at.Given as goal

abbrev pub invariant-loop-b : goal.invariant-loop-b
invariant-loop-b l = ends_at l.part (drop l.b-index l.text) ≡ ends_at l.initial.part l.text
