-- What the tables of a program, and what is known of a function, stand for.
use Rattle.std.specs.Prelude.{List}
use Rattle.lt_ir.specs.declared.code.LabelInfo.{LabelInfo}
use Rattle.lt_tree.specs.declared.typed.entity.LabelInfo as typed
use Rattle.lt_tree.specs.Typing.Types.{CType}
use Rattle.lt_tree.specs.Typing.Entities.{Function}
use Rattle.lt_tree.specs.Typing.Programs.{Program}
use Rattle.lt_tree.specs.Typing.TypeRows.{types_of_rows}
use Rattle.lt_tree.specs.Typing.EntityView.{function_of}
use Rattle.lt_tree.specs.Typing.ProgramView.{program_of}
use Rattle.lt_tables.specs.declared.tables.Tables.{Tables}
use Rattle.lt_tables.specs.declared.site.Site.{Site}

abbrev pub types_at : Tables → List CType
types_at tables = types_of_rows tables.program.now.table.items

abbrev pub program_at : Tables → Program
program_at tables = program_of tables.program.now

abbrev pub function_at : Site → Function
function_at site = function_of (types_at site.tables.now) site.function.now

-- a label, as graph code has it
abbrev pub label_in_code : typed.LabelInfo → LabelInfo
label_in_code label = record { id = label.id; tag = label.tag; bound = label.bound.items }
