use Rattle.std.proofs.Common.{map, Some, refl, sym, ap, ◌∙◌, arith}
use Rattle.lt_tree.specs.View.{expression_of, mark_of}
use Rattle.lt_tree.specs.UnitView.{statement_of, label_of, declaration_of, items_in, cases_in}
use Rattle.lt_tree.specs.Symbols.{start_of}
use Rattle.lt_tree.specs.Scope.{after_expression, after_labels, after_statement}
use Rattle.lt_expr.specs.Front.{ended}
use Rattle.lt_expr.specs.Fronts.{after}
use Rattle.lt_expr.specs.Parsing.{rest_of, scope_of}
use Rattle.lt_decl.specs.Singles.{head, after_head}
use Rattle.lt_decl.specs.HeadView.{head_of}
use Rattle.lt_decl.specs.Items.{after_item}
use Rattle.lt_decl.specs.ItemView.{item_of}
use Rattle.lt_decl.specs.Reading as reading
use Rattle.lt_decl.proofs.Fronts.{items_before, cases_before}
use Rattle.lt_decl.proofs.Joins.{no_items, no_cases}
use Rattle.lt_expr.proofs.Scopes.{same_scope, on_through, read_there, within_here, within_on, within_hides, within_declares, declares, room, closed, closed_rest}
use Rattle.lt_expr.proofs.Loops.{turned, stopped}
use Rattle.lt_expr.proofs.Failures.{fails_as, gives_fail, names_on}
use Rattle.lt_decl.proofs.Turns.{cases_more, cases_end, case_read, for_read, for_no_body, items_more, items_end, item_marked, item_declared, item_stated}
use Rattle.lt_decl.proofs.statement.+statements.Goals as goal

pub under-returns : goal.under-returns
under-returns t c =
    let hides = c.in_ok-hide_expression.ensures in
    let body = c.in_ok-body.ensures in (
      read_there (λ s r. reading.statement c.args.depth s r) c.hide_expression.new.self _ _ _ hides.scope hides.rest
          (body.0 ∙ ap (λ r. Some (statement_of c.in_ok-body.body.value, r)) (sym (closed_rest c.statement.new.parser c.close_list.new.self c.open_list-around.result c.close_list.ensures))),
      closed c.args.parser.now c.statement.new.parser _ _ (within_on _ _ _ (within_hides _ _ _ _ (within_here _) hides) body.1) c.open_list-around.ensures c.close_list.ensures,
    )

pub under-close_list-requires : goal.under-close_list-requires
under-close_list-requires t c =
    let hides = c.in_ok-hide_expression.ensures in
    let body = c.in_ok-body.ensures in
    room _ _ _ (within_on _ _ _ (within_hides _ _ _ _ (within_here _) hides) body.1) c.open_list-around.ensures

-- ---- the loop with a head

pub for_loop-returns : goal.for_loop-returns
for_loop-returns t c =
    let start = c.args.start in
    let n = c.in_ok-depth.depth in
    let h = head_of c.in_ok-head.head in
    let x = statement_of c.in_ok-body.body.value in
    let opens = c.in_ok-expect.ensures in
    let first = c.in_ok-head.ensures in
    let body = c.in_ok-body.ensures in
    let end = c.in_ok-end.ensures in
    let scope = same_scope _ _ opens.1 in
    let left = closed_rest c.statement.new.parser c.close_list.new.self c.open_list-around.result c.close_list.ensures in (
      ap (λ k. reading.for_loop k (scope_of c.args.parser.now) start (rest_of c.args.parser.now)) c.in_ok-depth.ensures
          ∙ for_read n (scope_of c.args.parser.now) start _ _ _ _ h x opens.0 (ap (λ s. head n s (rest_of c.expect.new.self)) (sym scope) ∙ first.0)
          (read_there (λ s r. reading.statement n s r) c.for_head.new.parser _ _ _ (first.1.scope ∙ ap (after_head h) scope) refl body.0)
          ∙ ap (λ y. Some (y, ended start (rest_of c.statement.new.parser))) (sym (ap statement_of c.in_ok-boxed.ensures ∙ c.for_loop.ensures))
          ∙ ap (λ r. Some (statement_of c.in_ok-boxed.field-0.value, r)) (sym (end.0 ∙ ap (ended start) left)),
      on_through _ _ _ (on_through _ _ _ opens.1
          (closed c.expect.new.self c.statement.new.parser _ _ (within_on _ _ _ (within_declares _ _ _ _ (within_here _) first.1) body.1) c.open_list-around.ensures c.close_list.ensures)) end.1,
    )

pub for_loop-close_list-requires : goal.for_loop-close_list-requires
for_loop-close_list-requires t c =
    room _ _ _ (within_on _ _ _ (within_declares _ _ _ _ (within_here _) c.in_ok-head.ensures.1) c.in_ok-body.ensures.1) c.open_list-around.ensures

pub for_loop-returns-in_err-body : goal.for_loop-returns-in_err-body
for_loop-returns-in_err-body t c =
    let n = c.in_ok-depth.depth in
    let h = head_of c.in_ok-head.head in
    let opens = c.in_ok-expect.ensures in
    let first = c.in_ok-head.ensures in
    let scope = same_scope _ _ opens.1 in
    let fails = c.from_residual-in_err-body.ensures in
    gives_fail (λ x. statement_of x.value) c.args.parser.now c.statement.new.parser _ _ _ fails.0 fails.1
    (fails_as _ _ _ (λ none.
    ap (λ k. reading.for_loop k (scope_of c.args.parser.now) c.args.start (rest_of c.args.parser.now)) c.in_ok-depth.ensures
    ∙ for_no_body n (scope_of c.args.parser.now) c.args.start _ _ _ h opens.0 (ap (λ s. head n s (rest_of c.expect.new.self)) (sym scope) ∙ first.0)
    (read_there (λ s r. reading.statement n s r) c.for_head.new.parser _ _ _ (first.1.scope ∙ ap (after_head h) scope) refl none))
    c.in_err-body.ensures)

-- ---- the body of a switch

pub case-returns : goal.case-returns
case-returns t c =
    let x = statement_of c.in_ok-body.body.value in
    let ls = c.in_ok-labels.ensures in
    let list = map label_of c.in_ok-labels.labels.items in
    let body = c.in_ok-body.ensures in
    let hides = c.in_ok-hide_statement.ensures in
    let same = c.into_inner.ensures in (
      case_read c.args.depth (scope_of c.args.parser.now) _ _ _ _ x ls.0 (read_there (λ s r. reading.statement c.args.depth s r) c.labels.new.parser _ _ _ ls.1.scope refl body.0)
          ∙ ap (λ y. Some ((list, statement_of y), rest_of c.statement.new.parser)) (sym same)
          ∙ ap (λ r. Some ((list, statement_of c.into_inner.result), r)) (sym hides.rest),
      declares _ _ _ (within_hides _ _ _ _ (within_on _ _ _ (within_declares _ _ _ _ (within_here _) ls.1) body.1) hides)
          (hides.scope ∙ ap (λ y. after_statement (statement_of y) (scope_of c.statement.new.parser)) c.deref.ensures
          ∙ ap (after_statement x) (same_scope _ _ body.1 ∙ ls.1.scope)
          ∙ ap (λ y. after_statement (statement_of y) (after_labels list (scope_of c.args.parser.now))) (sym same)),
    )

pub cases-more-init : goal.cases-more-init
cases-more-init t c =
    let hides = c.in_ok-hide_expression.ensures in
    let scope = after_expression (expression_of c.args.operand.now) (scope_of c.args.parser.now) in
    record {
      read =
          ap (λ xs. after (cases_before (cases_in xs)) (reading.cases c.args.depth (scope_of c.hide_expression.new.self) (rest_of c.hide_expression.new.self))) c.new-cases.ensures.items
          ∙ no_cases _
          ∙ ap (λ s. reading.cases c.args.depth s (rest_of c.hide_expression.new.self)) hides.scope
          ∙ ap (λ r. reading.cases c.args.depth scope r) hides.rest;
      less = omega arith;
      around = c.open_list-around.ensures;
      within = within_hides _ _ _ _ (within_here _) hides;
    }

pub cases-more-preserved : goal.cases-more-preserved
cases-more-preserved t c =
    let x = c.in_ok-one.one in
    let one = c.in_ok-one.ensures in
    record {
      read =
          turned (λ xs. cases_before (cases_in xs)) reading.cases reading.cases c.more.cases.items c.push.new.self.items x _ _ _ _ _ _ _ _ _ c.in_ok-push.ensures.items one.1.scope refl c.in_ok-depth.ensures
          (cases_more c.more.cases.items x _ _ _ _ (sym c.sees.ensures ∙ c.if-sees.false) one.0) c.more.invariant.read;
      less = (let h = c.more.invariant.less in let k = c.in_ok-depth.ensures in omega arith);
      around = c.more.invariant.around;
      within = within_declares _ _ _ _ c.more.invariant.within one.1;
    }

pub cases-returns-then-sees : goal.cases-returns-then-sees
cases-returns-then-sees t c = (
  stopped (λ xs. cases_before (cases_in xs)) reading.cases cases_in c.more.cases.items _ _ _ _ _ _ _
      (closed_rest c.advance.new.self c.close_list.new.self c.open_list-around.result c.close_list.ensures ∙ c.advance.ensures.rest) c.in_ok-depth.ensures
      (cases_end c.more.cases.items _ _ _ (sym c.sees.ensures ∙ c.if-sees.true)) c.more.invariant.read
      ∙ ap (λ xs. Some (cases_in xs, rest_of c.close_list.new.self)) (sym c.shrink_to_fit.ensures.items),
  closed c.args.parser.now c.advance.new.self _ _ (within_on _ _ _ c.more.invariant.within c.advance.ensures.on) c.more.invariant.around c.close_list.ensures,
)

pub cases-close_list-requires : goal.cases-close_list-requires
cases-close_list-requires t c = room _ _ _ (within_on _ _ _ c.more.invariant.within c.advance.ensures.on) c.more.invariant.around

-- ---- blocks

pub items-more-init : goal.items-more-init
items-more-init t c = record {
  read = ap (λ xs. after (items_before (items_in xs)) (reading.items c.args.depth (scope_of c.args.parser.now) (rest_of c.args.parser.now))) c.new-items.ensures.items ∙ no_items _;
  less = omega arith;
  around = c.open_list-around.ensures;
  within = within_here _;
}

pub items-more-preserved : goal.items-more-preserved
items-more-preserved t c =
    let x = c.in_ok-one.one in
    let one = c.in_ok-one.ensures in
    record {
      read =
          turned (λ xs. items_before (items_in xs)) reading.items reading.items c.more.items.items c.push.new.self.items x _ _ _ _ _ _ _ _ _ c.in_ok-push.ensures.items one.1.scope refl c.in_ok-depth.ensures
          (items_more c.more.items.items x _ _ _ _ (sym c.sees.ensures ∙ c.if-sees.false) one.0) c.more.invariant.read;
      less = (let h = c.more.invariant.less in let k = c.in_ok-depth.ensures in omega arith);
      around = c.more.invariant.around;
      within = within_declares _ _ _ _ c.more.invariant.within one.1;
    }

pub items-returns-then-sees : goal.items-returns-then-sees
items-returns-then-sees t c = (
  stopped (λ xs. items_before (items_in xs)) reading.items items_in c.more.items.items _ _ _ _ _ _ _
      (closed_rest c.advance.new.self c.close_list.new.self c.open_list-around.result c.close_list.ensures ∙ c.advance.ensures.rest) c.in_ok-depth.ensures
      (items_end c.more.items.items _ _ _ (sym c.sees.ensures ∙ c.if-sees.true)) c.more.invariant.read
      ∙ ap (λ xs. Some (items_in xs, rest_of c.close_list.new.self)) (sym c.shrink_to_fit.ensures.items),
  closed c.args.parser.now c.advance.new.self _ _ (within_on _ _ _ c.more.invariant.within c.advance.ensures.on) c.more.invariant.around c.close_list.ensures,
)

pub items-close_list-requires : goal.items-close_list-requires
items-close_list-requires t c = room _ _ _ (within_on _ _ _ c.more.invariant.within c.advance.ensures.on) c.more.invariant.around

-- ---- one item

pub item-returns-then-begins_mark : goal.item-returns-then-begins_mark
item-returns-then-begins_mark t c =
    let m = mark_of c.in_ok-mark.mark in
    let one = c.in_ok-mark.ensures in
    let n = c.in_ok-depth.depth in
    names_on item_of after_item c.args.parser.now c.mark.new.self c.marked_item.new.parser c.marked_item.result _ _ one.1
    (ap (λ k. reading.item k (scope_of c.args.parser.now) (rest_of c.args.parser.now)) c.in_ok-depth.ensures
    ∙ item_marked n (scope_of c.args.parser.now) _ _ m (sym c.begins_mark.ensures ∙ c.if-begins_mark.true) one.0
    ∙ ap (λ s. reading.marked_item n s (start_of (rest_of c.args.parser.now).0) m (rest_of c.mark.new.self)) (sym (same_scope _ _ one.1))
    ∙ ap (λ a. reading.marked_item n (scope_of c.mark.new.self) a m (rest_of c.mark.new.self)) (sym c.start-start.ensures))
    c.marked_item.ensures

pub item-returns-then-begins_specifier : goal.item-returns-then-begins_specifier
item-returns-then-begins_specifier t c =
    let d = declaration_of c.in_ok-declaration.declaration in
    let one = c.in_ok-declaration.ensures in
    let end = c.in_ok-end.ensures in
    let made = c.declared.ensures in (
      ap (λ k. reading.item k (scope_of c.args.parser.now) (rest_of c.args.parser.now)) c.in_ok-depth.ensures
          ∙ item_declared _ (scope_of c.args.parser.now) _ _ d (sym c.begins_mark.ensures ∙ c.if-begins_mark.false) (sym c.begins_specifier.ensures ∙ c.if-begins_specifier.true) one.0
          ∙ ap (λ i. Some (i, ended (start_of (rest_of c.args.parser.now).0) (rest_of c.declaration.new.parser))) (sym made)
          ∙ ap (λ r. Some (item_of c.declared.result, r)) (sym (end.0 ∙ ap (λ a. ended a (rest_of c.declaration.new.parser)) c.start-start.ensures)),
      declares _ _ _ (within_on _ _ _ (within_declares _ _ _ _ (within_here _) one.1) end.1)
          (same_scope _ _ end.1 ∙ one.1.scope ∙ ap (λ i. after_item i (scope_of c.args.parser.now)) (sym made)),
    )

pub item-returns : goal.item-returns
item-returns t c =
    let x = statement_of c.in_ok-body.body.value in
    let body = c.in_ok-body.ensures in
    let end = c.in_ok-end-2.ensures in
    let hides = c.in_ok-hide_statement.ensures in
    let made = c.stated.ensures in (
      ap (λ k. reading.item k (scope_of c.args.parser.now) (rest_of c.args.parser.now)) c.in_ok-depth.ensures
          ∙ item_stated _ (scope_of c.args.parser.now) _ _ x (sym c.begins_mark.ensures ∙ c.if-begins_mark.false) (sym c.begins_specifier.ensures ∙ c.if-begins_specifier.false) body.0
          ∙ ap (λ i. Some (i, ended (start_of (rest_of c.args.parser.now).0) (rest_of c.statement.new.parser))) (sym made)
          ∙ ap (λ r. Some (item_of c.stated.result, r)) (sym (hides.rest ∙ end.0 ∙ ap (λ a. ended a (rest_of c.statement.new.parser)) c.start-start.ensures)),
      declares _ _ _ (within_hides _ _ _ _ (within_on _ _ _ (within_on _ _ _ (within_here _) body.1) end.1) hides)
          (hides.scope ∙ ap (λ y. after_statement (statement_of y) (scope_of c.end-2.new.self)) c.deref.ensures
          ∙ ap (after_statement x) (same_scope _ _ end.1 ∙ same_scope _ _ body.1)
          ∙ ap (λ i. after_item i (scope_of c.args.parser.now)) (sym made)),
    )
