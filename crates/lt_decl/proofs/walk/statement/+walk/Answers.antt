use Rattle.std.proofs.Common.{◌∙◌}
use Rattle.lt_tree.specs.UnitView.{statement_of}
use Rattle.lt_expr.specs.Inside.{inside}
use Rattle.lt_decl.specs.ItemView.{item_of}
use Rattle.lt_decl.specs.Walk.{walk_statement, walk_item}
use Rattle.lt_decl.proofs.WalkRows.{ok_then, left_is, statement_node, item_node, compound_walked, evaluates_walked, switch_walked, return_walked}
use Rattle.lt_decl.proofs.walk.statement.+walk.Goals as goal

pub statement-returns : goal.statement-returns
statement-returns t c =
    let x = statement_of c.args.x.now in
    ok_then _ _ c.leave.ensures
    (left_is (inside (walk_statement x)) c.args.walker.now _ _ _ c.enter-begin.ensures.start c.enter-begin.ensures.left c.in_ok-parts.ensures ∙ statement_node x c.args.walker.now)

pub item-returns : goal.item-returns
item-returns t c =
    let i = item_of c.args.item.now in
    ok_then _ _ c.leave.ensures
    (left_is (inside (walk_item i)) c.args.walker.now _ _ _ c.enter-begin.ensures.start c.enter-begin.ensures.left c.in_ok-item_parts.ensures ∙ item_node i c.args.walker.now)

pub parts-returns-in-Compound : goal.parts-returns-in-Compound
parts-returns-in-Compound t c = ok_then _ _ c.items.ensures (compound_walked c.args.x.now c.in-Compound.list _ c.args.walker.now c.in-Compound.is c.as_slice.ensures.value)

pub parts-returns-in-Expression : goal.parts-returns-in-Expression
parts-returns-in-Expression t c = ok_then _ _ c.expression.ensures (evaluates_walked c.args.x.now c.in-Expression.e c.args.walker.now c.in-Expression.is)

pub parts-returns-in-Return : goal.parts-returns-in-Return
parts-returns-in-Return t c = ok_then _ _ c.optional-in-Return.ensures (return_walked c.args.x.now c.in-Return.value c.args.walker.now c.in-Return.is)

pub parts-returns-in_ok-cases-in-Switch : goal.parts-returns-in_ok-cases-in-Switch
parts-returns-in_ok-cases-in-Switch t c =
    ok_then _ _ c.expression-in-Switch.ensures (switch_walked c.args.x.now c.in-Switch.operand c.in-Switch.list _ c.args.walker.now _ c.in-Switch.is c.as_slice-in-Switch.ensures.value c.in_ok-cases-in-Switch.ensures)
