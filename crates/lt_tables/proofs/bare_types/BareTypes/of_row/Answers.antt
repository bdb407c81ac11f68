use Rattle.std.proofs.Common.{ap, ◌∙◌, slice_index_or}
use Rattle.lt_tree.specs.Typing.TypeRows.{type_in, types_of_rows}
use Rattle.lt_tables.proofs.NumbersKept.{id_exact}
use Rattle.lt_tables.proofs.bare_types.BareTypes.of_row.Goals as goal

pub returns : goal.returns
returns c =
    let it = c.args.self.now in
    id_exact it.rows (type_in (types_of_rows it.program.now.table.items) c.args.t) (slice_index_or it.bare.items c.args.t.place it.void).id c.bare_of.result.id
    (ap (λ b. b.id) c.bare_of.ensures ∙ ap (λ l. (slice_index_or l c.args.t.place it.void).id) c.deref.ensures.value) (it.rows_hold c.args.t)
