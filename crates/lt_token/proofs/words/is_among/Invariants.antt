use Rattle.std.proofs.Common.{◌≡◌, length, map}
use Rattle.lt_token.specs.Words.{is_among}
use Rattle.lt_token.proofs.words.is_among.Given as goal

abbrev pub invariant-loop-table : goal.invariant-loop-table
invariant-loop-table l = is_among l.word (map (λ w. w.now) l.table) ≡ is_among l.word (map (λ w. w.now) l.initial.table)

abbrev pub decreases-loop-table : goal.decreases-loop-table
decreases-loop-table l = length l.table
