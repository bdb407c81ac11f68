use Rattle.std.proofs.Common.{take}
use Rattle.lt_tree.specs.Typing.Types.{Void}
use Rattle.lt_tree.specs.Typing.TypeRows.{types_of_rows}
use Rattle.lt_table.specs.TableRows.{Grows}
use Rattle.lt_tables.specs.BareTypes.{IsBareOf, AreBareOf}
use Rattle.lt_tables.proofs.bare.bare_rows.Given as goal

abbrev pub invariant-loop-row : goal.invariant-loop-row
invariant-loop-row l = record {
  grows : Grows l.initial.table l.table;
  all : IsBareOf l.initial.table Void l.void → AreBareOf l.table (types_of_rows (take l.row-index l.rows)) l.bare.items;
}
