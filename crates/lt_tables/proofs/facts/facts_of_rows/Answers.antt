use Rattle.std.proofs.Common.{take, sym, subst}
use Rattle.lt_tree.specs.Typing.TypeRows.{types_of_rows}
use Rattle.lt_tables.specs.TypeNumbers.{AreAllFacts, number_among}
use Rattle.lt_tables.proofs.FactRows.{row_more, number_at}
use Rattle.lt_tables.proofs.facts.facts_of_rows.Goals as goal

pub loop-place-preserved : goal.loop-place-preserved
loop-place-preserved c = λ program same none.
    let front = types_of_rows (take c.loop-place.place c.args.rows.now) in
    let before = c.loop-place.invariant program same none in
    row_more program c.args.rows.now c.loop-place.place c.index-rows-place.result c.loop-place.known.items c.push.new.self.items c.facts_of_row-facts.result c.loop-place-test.true c.index-rows-place.is before
    (c.facts_of_row-facts.ensures program front (subst (AreAllFacts program front) (sym c.deref.ensures.value) before) none
    (number_at c.args.rows.now c.loop-place.place c.index-rows-place.result c.args.numbers.now (number_among program.types) c.loop-place-test.true c.index-rows-place.is same))
    c.in_ok-push.ensures.items
