use Rattle.std.proofs.Common.{◌≤◌, length, map}
use Rattle.lt_lex.specs.Views.{lexeme_of}
use Rattle.lt_lex.proofs.Cutting.{GoesOn}
use Rattle.lt_lex.proofs.cut.cut.Given as goal

-- whatever the rest is cut into completes the whole
abbrev pub invariant-loop-rest : goal.invariant-loop-rest
invariant-loop-rest l = record {
  within : length l.rest ≤ length l.text;
  goes_on : GoesOn l.text (map lexeme_of l.lexemes.items) l.fresh l.rest;
}

abbrev pub decreases-loop-rest : goal.decreases-loop-rest
decreases-loop-rest l = length l.rest
