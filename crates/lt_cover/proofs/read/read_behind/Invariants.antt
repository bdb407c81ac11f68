use Rattle.std.proofs.Common.{◌≡◌, ◌∷◌, ◌+◌, take}
use Rattle.lt_cover.specs.Coverage.Text.{AreRowsOf, header, row_number}
use Rattle.lt_cover.specs.Coverage.Draft.{table_of}
use Rattle.lt_cover.proofs.Fronts.{EachFront}
use Rattle.lt_cover.proofs.read.read_behind.Given as goal

abbrev pub invariant-loop-fields : goal.invariant-loop-fields
invariant-loop-fields l = record {
  version : l.draft.version ≡ l.fn.version;
  front : AreRowsOf l.fn.version (table_of l.draft) (header l.fn.version ∷ take l.fields-index l.rows);
  each : EachFront (header l.fn.version ∷ l.rows) (l.fields-index + 1);
  number : l.number ≡ row_number (l.fields-index + 1);
}
