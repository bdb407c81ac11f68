use Rattle.std.proofs.Common.{◌≡◌, length, map}
use Rattle.lt_input_blocks.specs.Tokens.{word_in}
use Rattle.lt_input_blocks.proofs.arithmetic.word_in.Given as goal

abbrev pub invariant-loop-table : goal.invariant-loop-table
invariant-loop-table l = word_in (map (λ row. (row.0.now, row.1)) l.table) l.token ≡ word_in (map (λ row. (row.0.now, row.1)) l.initial.table) l.token

abbrev pub decreases-loop-table : goal.decreases-loop-table
decreases-loop-table l = length l.table
