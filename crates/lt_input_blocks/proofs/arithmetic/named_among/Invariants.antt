use Rattle.std.proofs.Common.{◌≡◌, length, map}
use Rattle.lt_tree.specs.TypeWords.{by, named_among}
use Rattle.lt_input_blocks.proofs.arithmetic.named_among.Given as goal

abbrev pub invariant-loop-table : goal.invariant-loop-table
invariant-loop-table l = named_among (map (λ row. by row.0.now row.1) l.table) l.words ≡ named_among (map (λ row. by row.0.now row.1) l.initial.table) l.words

abbrev pub decreases-loop-table : goal.decreases-loop-table
decreases-loop-table l = length l.table
