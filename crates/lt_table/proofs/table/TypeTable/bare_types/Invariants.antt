use Rattle.std.proofs.Common.{◌≡◌, length}
use Rattle.lt_table.specs.TableRows.{Grows}
use Rattle.lt_table.specs.TableBare.{AreBare}
use Rattle.lt_table.proofs.table.TypeTable.bare_types.Given as goal

abbrev pub invariant-loop-place : goal.invariant-loop-place
invariant-loop-place l = Grows l.fn.self l.self × AreBare l.self l.ids.items × (length l.ids.items ≡ l.place)
