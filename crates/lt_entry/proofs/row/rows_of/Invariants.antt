use Rattle.std.proofs.Common.{◌≡◌, take, Bor, List, ℕ}
use Rattle.std.specs.Prelude.{map}
use Rattle.lt_entry.specs.Lines.{rows_from}
use Rattle.lt_entry.specs.LineViews.{row_view}
use Rattle.lt_entry.proofs.row.rows_of.Given as goal

abbrev pub invariant-loop-i : goal.invariant-loop-i
invariant-loop-i l = map row_view l.rows.items ≡ rows_from 1 (map (λ (piece : Bor (List ℕ)). piece.now) (take l.i l.lines))
