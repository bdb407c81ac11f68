use Rattle.std.proofs.Common.{◌≡◌, length, map}
use Rattle.lt_token.specs.Lexemes.{begins_with_any}
use Rattle.lt_lex.proofs.words.begins_with_any.Given as goal

abbrev pub invariant-loop-table : goal.invariant-loop-table
invariant-loop-table l = begins_with_any l.text (map (λ w. w.now) l.table) ≡ begins_with_any l.text (map (λ w. w.now) l.initial.table)

abbrev pub decreases-loop-table : goal.decreases-loop-table
decreases-loop-table l = length l.table
