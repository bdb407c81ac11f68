use Rattle.std.proofs.Common.{take, sym, subst}
use Rattle.lt_tree.specs.Typing.TypeRows.{types_of_rows}
use Rattle.lt_tables.specs.TypeParts.{AreAllParts}
use Rattle.std.proofs.lemmas.List.{take_all}
use Rattle.lt_tables.proofs.PartRows.{row_more, have_parts}
use Rattle.lt_tables.proofs.type_parts.parts_of_rows.Goals as goal

pub loop-row-preserved : goal.loop-row-preserved
loop-row-preserved c =
    let front = types_of_rows (take c.loop-row.row-index c.args.rows.now) in
    row_more c.args.model c.args.rows.now c.loop-row.row-index c.row-item.result c.loop-row.parts.items c.push.new.self.items c.parts_of_row-it.result c.loop-row-test.true c.row-item.is c.loop-row.invariant
    (c.parts_of_row-it.ensures front (subst (AreAllParts c.args.model front) (sym c.deref.ensures.value) c.loop-row.invariant)) (c.in_ok-push.ensures.items)

pub returns : goal.returns
returns c =
    have_parts c.args.model (types_of_rows c.args.rows.now) c.loop-row.parts.items
    (subst (λ rows. AreAllParts c.args.model (types_of_rows rows) c.loop-row.parts.items) (take_all c.loop-row.row-index c.args.rows.now c.loop-row-test.false) c.loop-row.invariant)
