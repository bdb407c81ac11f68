use Rattle.lt_tables.proofs.LocalRows.{item_more, case_more, compound_adds, switch_adds, for_adds}
use Rattle.lt_tables.proofs.locals.+locals.Goals as goal

pub put_cases-loop-case-preserved : goal.put_cases-loop-case-preserved
put_cases-loop-case-preserved t c =
    λ types.
    case_more types c.args.cases.now c.loop-case.case-index c.case-item.result c.args.locals.now.items c.loop-case.locals.items c.put_statement.new.locals.items c.loop-case-test.true c.case-item.is
    (c.loop-case.invariant types) (c.in_ok-put_statement.ensures types)

pub put_items-loop-item-preserved : goal.put_items-loop-item-preserved
put_items-loop-item-preserved t c =
    λ types.
    item_more types c.args.items.now c.loop-item.item-index c.item-item.result c.args.locals.now.items c.loop-item.locals.items c.put_item.new.locals.items c.loop-item-test.true c.item-item.is
    (c.loop-item.invariant types) (c.in_ok-put_item.ensures types)

pub put_statement-returns-in-Compound : goal.put_statement-returns-in-Compound
put_statement-returns-in-Compound t c =
    compound_adds c.put_items.result c.args.locals.now.items c.put_items.new.locals.items c.args.statement.now c.in-Compound.items c.as_slice.result.now c.in-Compound.is c.as_slice.ensures.value c.put_items.ensures

pub put_statement-returns-in_ok-put_start-in-For :
    goal.put_statement-returns-in_ok-put_start-in-For
put_statement-returns-in_ok-put_start-in-For t c =
    for_adds c.put_statement-in-For.result c.args.locals.now.items c.put_start.new.locals.items c.put_statement-in-For.new.locals.items c.args.statement.now c.in-For.start c.in-For.field-1 c.in-For.field-2 c.in-For.body c.deref-in-For.result.now c.in-For.is c.deref-in-For.ensures
    c.in_ok-put_start-in-For.ensures c.put_statement-in-For.ensures

pub put_statement-returns-in-Switch : goal.put_statement-returns-in-Switch
put_statement-returns-in-Switch t c =
    switch_adds c.put_cases.result c.args.locals.now.items c.put_cases.new.locals.items c.args.statement.now c.in-Switch.field-0 c.in-Switch.cases c.as_slice-in-Switch.result.now c.in-Switch.is
    c.as_slice-in-Switch.ensures.value c.put_cases.ensures
