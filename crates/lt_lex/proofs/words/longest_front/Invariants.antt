use Rattle.std.proofs.Common.{◌≡◌, length, map, max}
use Rattle.lt_lex.specs.Front.{longest_front}
use Rattle.lt_lex.proofs.words.longest_front.Given as goal

abbrev pub invariant-loop-table : goal.invariant-loop-table
invariant-loop-table l = max l.longest (longest_front (map (λ w. w.now) l.table) l.text) ≡ longest_front (map (λ w. w.now) l.initial.table) l.text

abbrev pub decreases-loop-table : goal.decreases-loop-table
decreases-loop-table l = length l.table
