-- The structs of a program suit its types as these are added.
use Rattle.std.proofs.Common.{List}
use Rattle.lt_tree.specs.declared.typed.types.TypeRow.{TypeRow}
use Rattle.lt_tree.specs.Typing.TypeRows.{types_of_rows}
use Rattle.lt_table.specs.declared.structs.StructTable.{StructTable}
use Rattle.lt_table.specs.TableRows.{Grows}
use Rattle.lt_table.specs.StructTables.{Suits}
use Rattle.lt_table.proofs.TableRows.{continues_through}

pub suits_grow : (old new : List TypeRow) (table : StructTable) → Grows old new → Suits old table → Suits new table
suits_grow old new table g s = λ longer more. s longer (continues_through (types_of_rows old) (types_of_rows new) longer g more)
