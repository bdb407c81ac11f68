use Rattle.lt_tables.proofs.PartRows.{array_row, qualified_row}
use Rattle.lt_tables.proofs.type_parts.parts_of_row.Goals as goal

pub returns-in-Array : goal.returns-in-Array
returns-in-Array c = λ types all.
    array_row c.args.model types c.args.row.now c.parts_of_array.result c.args.known.now c.in-Array.t c.in-Array.length c.parts_at.result c.in-Array.is all c.parts_at.ensures c.parts_of_array.ensures

pub returns-in-Qualified : goal.returns-in-Qualified
returns-in-Qualified c = λ types all.
    qualified_row c.args.model types c.args.row.now c.parts_of_single-in-Qualified.result c.args.known.now c.in-Qualified.field-0 c.in-Qualified.t c.parts_at-in-Qualified.result c.in-Qualified.is all
    c.parts_at-in-Qualified.ensures c.parts_of_single-in-Qualified.ensures
