use Rattle.std.proofs.Common.{map}
use Rattle.lt_lex.specs.Views.{token_of}
use Rattle.lt_lex.specs.Levels.{levels_of, IsWeighed}
use Rattle.lt_lex.proofs.Nesting.{GoesOn}
use Rattle.lt_lex.proofs.levels.nests.Given as goal

abbrev pub invariant-loop-at : goal.invariant-loop-at
invariant-loop-at l = record {
  weighed : IsWeighed l.levels;
  so_far : GoesOn (map token_of l.tokens) l.depths.items l.levels.weight (levels_of l.levels) l.at;
}
