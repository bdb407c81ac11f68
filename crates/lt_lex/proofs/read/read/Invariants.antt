use Rattle.std.proofs.Common.{◌-◌, ◌≤◌, length, drop, map}
use Rattle.lt_lex.specs.Views.{lexeme_of, token_of}
use Rattle.lt_lex.proofs.Reading.{GoesOn}
use Rattle.lt_lex.proofs.read.read.Given as goal

-- whatever the rest reads completes the whole
abbrev pub invariant-loop-at : goal.invariant-loop-at
invariant-loop-at l = record {
  within : l.at ≤ length l.lexemes;
  goes_on : GoesOn (map lexeme_of l.lexemes) (map token_of l.tokens.items) l.trails (drop l.at (map lexeme_of l.lexemes));
}

abbrev pub decreases-loop-at : goal.decreases-loop-at
decreases-loop-at l = length l.lexemes - l.at
