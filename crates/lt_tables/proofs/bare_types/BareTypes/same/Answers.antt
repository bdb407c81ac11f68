use Rattle.lt_tree.specs.Typing.TypeRows.{type_in, types_of_rows}
use Rattle.lt_tables.proofs.BareNumbers.{ids_same}
use Rattle.lt_tables.proofs.bare_types.BareTypes.same.Goals as goal

pub returns : goal.returns
returns c =
    let it = c.args.self.now in
    let types = types_of_rows it.program.now.table.items in
    ids_same it.rows c.stand_once.ensures.once (type_in types c.args.t) (type_in types c.args.u) c.of_row.result c.of_row-2.result c.of_row.ensures c.of_row-2.ensures
