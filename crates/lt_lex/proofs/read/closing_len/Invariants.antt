use Rattle.std.proofs.Common.{◌≡◌, ◌+◌, ◌<◌, ◌≤◌, drop, map}
use Rattle.lt_token.specs.Tokens.{after_closing}
use Rattle.lt_lex.specs.Views.{lexeme_of}
use Rattle.lt_lex.proofs.read.closing_len.Given as goal

abbrev pub invariant-loop-at : goal.invariant-loop-at
invariant-loop-at l = record {
  same : after_closing l.depth (drop l.at (map lexeme_of l.lexemes)) ≡ after_closing 1 (map lexeme_of l.lexemes);
  opened : 0 < l.depth;
  room : l.depth ≤ l.at + 1;
}
