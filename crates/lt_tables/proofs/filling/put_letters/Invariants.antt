use Rattle.std.proofs.Common.{◌≡◌, ◌+◌, drop}
use Rattle.lt_meaning.specs.Runs.{letters_in}
use Rattle.lt_tables.specs.Filling.{AreOffsets}
use Rattle.lt_tables.proofs.filling.put_letters.Given as goal

abbrev pub invariant-loop-place : goal.invariant-loop-place
invariant-loop-place l = record {
  cells : letters_in l.model (l.offset + l.place) (drop l.place l.bytes) l.cells ≡ letters_in l.model l.offset l.bytes l.initial.cells;
  places : AreOffsets l.places l.cells;
}
