use Rattle.std.proofs.Common.{◌≡◌, ◌≤◌, ◌++◌, drop, Bor, List, ℕ}
use Rattle.std.specs.Prelude.{map}
use Rattle.std.specs.List.{slice_range}
use Rattle.lt_entry.specs.Reading.{pieces, onto}
use Rattle.lt_entry.proofs.place.pieces_of.Given as goal

abbrev pub invariant-loop-i : goal.invariant-loop-i
invariant-loop-i l = record {
  before : l.start ≤ l.i;
  are : pieces l.word ≡ map (λ (piece : Bor (List ℕ)). piece.now) l.pieces.items ++ onto (slice_range l.word l.start l.i) (pieces (drop l.i l.word));
}
