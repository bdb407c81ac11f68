use Rattle.std.proofs.Common.{take, sym, subst}
use Rattle.std.proofs.lemmas.List.{take_all}
use Rattle.lt_tree.specs.Typing.TypeRows.{types_of_rows}
use Rattle.lt_input_blocks.specs.Facts.{AreAllFacts}
use Rattle.lt_input_blocks.proofs.FactRows.{row_more, have_facts}
use Rattle.lt_input_blocks.proofs.facts.facts_of_rows.Goals as goal

pub loop-row-preserved : goal.loop-row-preserved
loop-row-preserved c =
    let front = types_of_rows (take c.loop-row.row-index c.args.rows.now) in
    row_more c.args.rows.now c.loop-row.row-index c.row-item.result c.loop-row.facts.items c.push.new.self.items c.facts_of_row-it.result c.loop-row-test.true c.row-item.is c.loop-row.invariant
    (c.facts_of_row-it.ensures front (subst (AreAllFacts front) (sym c.deref.ensures.value) c.loop-row.invariant)) c.in_ok-push.ensures.items

pub returns : goal.returns
returns c =
    have_facts (types_of_rows c.args.rows.now) c.loop-row.facts.items
    (subst (λ rows. AreAllFacts (types_of_rows rows) c.loop-row.facts.items) (take_all c.loop-row.row-index c.args.rows.now c.loop-row-test.false) c.loop-row.invariant)
