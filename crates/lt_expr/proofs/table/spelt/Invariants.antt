use Rattle.std.proofs.Common.{◌≡◌, length, map}
use Rattle.lt_tree.specs.Symbols.{spelling, spelt}
use Rattle.lt_expr.proofs.table.spelt.Given as goal

abbrev pub invariant-loop-table : goal.invariant-loop-table
invariant-loop-table l = record {
  same : spelt (map (λ row. row.1) l.table) l.word ≡ spelt (map (λ row. row.1) l.initial.table) l.word;
  written : map (λ row. row.0.now) l.table ≡ map spelling (map (λ row. row.1) l.table);
}

abbrev pub decreases-loop-table : goal.decreases-loop-table
decreases-loop-table l = length l.table
