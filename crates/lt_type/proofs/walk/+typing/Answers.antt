use Rattle.std.proofs.Common.{◌+◌, pos, true, false, Some, Err, [], ◌∷◌, ◌++◌, map, drop, length, refl, sym, ap, ◌∙◌}
use Rattle.lt_tree.specs.View.{expression_of}
use Rattle.lt_tree.specs.Records.{expressions_in, bindings_in, marks_in, specifiers_of, declarator_of, types_in, enumerators_in, maybe_in, parts_in}
use Rattle.lt_tree.specs.Typing.ValueView.{when_of}
use Rattle.lt_tree.specs.Typing.Steps.{Goes, ◌>>=◌, goes_on, gives, without_marks}
use Rattle.lt_tree.specs.Typing.Expressions.{as_value, as_truth, as_place, as_callee}
use Rattle.lt_tree.specs.Typing.ExpressionTyping as typing
use Rattle.lt_type.specs.Ends.{index_end, call_end, member_end, arrow_end, step_end, unary_end, size_end, binary_end, logical_end, conditional_end, assignment_end, comma_end, marked_end, decide_end, after_end, members_end, declarator_end, sizeof_type_end, cast_end, found_end, without_any}
use Rattle.lt_env.specs.Views.{use_of, typed_in, all_typed, bindings_with}
use Rattle.lt_declare.specs.DeclaredViews.{naming_of, setting_of, members_in, specified_of, open_struct_of, declares_of, judging_of}
use Rattle.lt_env.proofs.Goings.{longer_still, as_long}
use Rattle.lt_type.proofs.Sequences.{gives_then, gives_stops, gives_entered, gives_so, stopped, gives_itself, gives_in_block, stops_in_block}
use Rattle.lt_type.proofs.Turns.{turns_start, lacks_memory, one_more, all_alone, list_on, list_stop, list_end, before, before_more, length_more, turns_from, turns_on, turns_stop, turns_end, passes_on, passes_stop, passes_end, collected, opened, behind_both}
use Rattle.lt_type.proofs.Seen.{call_seen, comma_seen, marked_seen}
use Rattle.lt_tree.specs.Typing.MarkRules.{inside_mark, inside_after}
use Rattle.lt_tree.specs.declared.declarator.DeclaratorPart.TheViews as views
use Rattle.lt_tree.specs.declared.typed.tree.Mark.{Mark}
use Rattle.lt_tree.specs.Typing.TypedTree as e
use Rattle.lt_tree.specs.Typing.NodeEnds.{end_of_mark}
use Rattle.lt_tree.proofs.Rows.{mark_out}
use Rattle.lt_type.proofs.MarkTurns.{nothing_bound, bound_more, all_bound, mark_before, all_marks}
use Rattle.std.proofs.lemmas.List.{drop_all}
use Rattle.std.proofs.Common.{SFits, rules}
use Rattle.std.specs.Int.{w128}
use Rattle.std.proofs.lemmas.Int.{to_z-of_z}
use Rattle.lt_tree.specs.Records as tree
use Rattle.lt_tree.specs.Typing.TypeRows.{type_in}
use Rattle.lt_tree.specs.Typing.Specifying as s
use Rattle.lt_tree.specs.Typing.Declarators as d
use Rattle.lt_tree.specs.Typing.Declarators.{with_member}
use Rattle.lt_tree.specs.Typing.NodeEnds.{end_of_enumerator, is_no_declarator, with_dots}
use Rattle.lt_tree.proofs.Rows.{member_out}
use Rattle.lt_type.specs.Found as found
use Rattle.lt_type.specs.Found.{a_function, part_of, with_parts, found_of, with_all_found}
use Rattle.lt_type.specs.Membered.{membered_of}
use Rattle.lt_type.proofs.InsideTurns.{size_seen, cast_seen, struct_seen, enum_seen, member_judged, membered_more, parts_made, listed_seen, open_seen, list_made, all_rules, width_seen, enumerators_open}
use Rattle.lt_type.proofs.walk.+typing.Goals as goal

pub parts::index-returns-in_err-right : goal.parts::index-returns-in_err-right
parts::index-returns-in_err-right t c =
    gives_entered (λ types node. typing.expression (expression_of c.args.whole.now) as_value >>= (λ x. typing.expression (expression_of c.args.index.now) as_value >>= (λ y. index_end node (use_of c.args.role) x y)))
    c.in_ok-node.ensures.entered c.in_ok-node.ensures.node (
    gives_then _ c.in_ok-left.ensures (
    gives_stops _ c.in_err-right.ensures (stopped c.from_residual-in_err-right.ensures)))

pub parts::index-returns : goal.parts::index-returns
parts::index-returns t c =
    gives_entered (λ types node. typing.expression (expression_of c.args.whole.now) as_value >>= (λ x. typing.expression (expression_of c.args.index.now) as_value >>= (λ y. index_end node (use_of c.args.role) x y)))
    c.in_ok-node.ensures.entered c.in_ok-node.ensures.node (
    gives_then _ c.in_ok-left.ensures (
    gives_then _ c.in_ok-right.ensures
    c.end_index.ensures))

pub parts::call-returns-in_err-xs : goal.parts::call-returns-in_err-xs
parts::call-returns-in_err-xs t c =
    gives_entered (λ types node. typing.expression (expression_of c.args.callee.now) as_callee >>= (λ f. typing.expressions (expressions_in c.args.arguments.now) >>= (λ xs. call_end node (use_of c.args.role) f xs)))
    c.in_ok-node.ensures.entered c.in_ok-node.ensures.node (
    gives_then _ c.in_ok-f.ensures (
    gives_stops _ c.in_err-xs.ensures (stopped c.from_residual-in_err-xs.ensures)))

pub parts::call-returns : goal.parts::call-returns
parts::call-returns t c =
    gives_entered (λ types node. typing.expression (expression_of c.args.callee.now) as_callee >>= (λ f. typing.expressions (expressions_in c.args.arguments.now) >>= (λ xs. call_end node (use_of c.args.role) f xs)))
    c.in_ok-node.ensures.entered c.in_ok-node.ensures.node (
    gives_then _ c.in_ok-f.ensures (
    gives_then _ c.in_ok-xs.ensures
    c.end_call.ensures))

pub parts::member-returns : goal.parts::member-returns
parts::member-returns t c =
    gives_entered (λ types node. typing.expression (expression_of c.args.whole.now) as_place >>= (λ x. member_end node (use_of c.args.role) x c.args.name.now))
    c.in_ok-node.ensures.entered c.in_ok-node.ensures.node (
    gives_then _ c.in_ok-x.ensures
    c.end_member.ensures)

pub parts::arrow-returns : goal.parts::arrow-returns
parts::arrow-returns t c =
    gives_entered (λ types node. typing.expression (expression_of c.args.pointer.now) as_value >>= (λ x. arrow_end node (use_of c.args.role) x c.args.name.now))
    c.in_ok-node.ensures.entered c.in_ok-node.ensures.node (
    gives_then _ c.in_ok-x.ensures
    c.end_arrow.ensures)

pub operators::step-returns : goal.operators::step-returns
operators::step-returns t c =
    gives_entered (λ types node. typing.expression (expression_of c.args.target.now) as_place >>= (λ x. step_end node (use_of c.args.role) (when_of c.args.gives) c.args.op x))
    c.in_ok-node.ensures.entered c.in_ok-node.ensures.node (
    gives_then _ c.in_ok-x.ensures
    c.end_step.ensures)

pub operators::unary-returns : goal.operators::unary-returns
operators::unary-returns t c =
    gives_entered (λ types node. typing.expression (expression_of c.args.operand.now) (use_of c.args.inner) >>= (λ x. unary_end node (use_of c.args.role) c.args.op x))
    c.in_ok-node.ensures.entered c.in_ok-node.ensures.node (
    gives_then _ c.in_ok-x.ensures
    c.end_unary.ensures)

pub operators::size-returns : goal.operators::size-returns
operators::size-returns t c =
    gives_entered (λ types node. without_marks (typing.expression (expression_of c.args.operand.now) as_place) >>= (λ x. size_end node (use_of c.args.role) x))
    c.in_ok-node.ensures.entered c.in_ok-node.ensures.node (
    gives_then _ c.in_ok-x.ensures
    c.end_size.ensures)

pub operators::binary-returns-in_err-y : goal.operators::binary-returns-in_err-y
operators::binary-returns-in_err-y t c =
    gives_entered (λ types node. typing.expression (expression_of c.args.left.now) as_value >>= (λ x. typing.expression (expression_of c.args.right.now) as_value >>= (λ y. binary_end node (use_of c.args.role) c.args.op x y)))
    c.in_ok-node.ensures.entered c.in_ok-node.ensures.node (
    gives_then _ c.in_ok-x.ensures (
    gives_stops _ c.in_err-y.ensures (stopped c.from_residual-in_err-y.ensures)))

pub operators::binary-returns : goal.operators::binary-returns
operators::binary-returns t c =
    gives_entered (λ types node. typing.expression (expression_of c.args.left.now) as_value >>= (λ x. typing.expression (expression_of c.args.right.now) as_value >>= (λ y. binary_end node (use_of c.args.role) c.args.op x y)))
    c.in_ok-node.ensures.entered c.in_ok-node.ensures.node (
    gives_then _ c.in_ok-x.ensures (
    gives_then _ c.in_ok-y.ensures
    c.end_binary.ensures))

pub operators::logical-returns-in_err-y : goal.operators::logical-returns-in_err-y
operators::logical-returns-in_err-y t c =
    gives_entered (λ types node. typing.expression (expression_of c.args.left.now) as_truth >>= (λ x. typing.expression (expression_of c.args.right.now) as_truth >>= (λ y. logical_end node (use_of c.args.role) c.args.op x y)))
    c.in_ok-node.ensures.entered c.in_ok-node.ensures.node (
    gives_then _ c.in_ok-x.ensures (
    gives_stops _ c.in_err-y.ensures (stopped c.from_residual-in_err-y.ensures)))

pub operators::logical-returns : goal.operators::logical-returns
operators::logical-returns t c =
    gives_entered (λ types node. typing.expression (expression_of c.args.left.now) as_truth >>= (λ x. typing.expression (expression_of c.args.right.now) as_truth >>= (λ y. logical_end node (use_of c.args.role) c.args.op x y)))
    c.in_ok-node.ensures.entered c.in_ok-node.ensures.node (
    gives_then _ c.in_ok-x.ensures (
    gives_then _ c.in_ok-y.ensures
    c.end_logical.ensures))

pub operators::conditional-returns-in_err-x : goal.operators::conditional-returns-in_err-x
operators::conditional-returns-in_err-x t c =
    gives_entered (λ types node. typing.expression (expression_of c.args.test.now) as_truth >>= (λ p. typing.expression (expression_of c.args.left.now) as_value >>= (λ x. typing.expression (expression_of c.args.right.now) as_value >>= (λ y. conditional_end node (use_of c.args.role) p x y))))
    c.in_ok-node.ensures.entered c.in_ok-node.ensures.node (
    gives_then _ c.in_ok-p.ensures (
    gives_stops _ c.in_err-x.ensures (stopped c.from_residual-in_err-x.ensures)))

pub operators::conditional-returns-in_err-y : goal.operators::conditional-returns-in_err-y
operators::conditional-returns-in_err-y t c =
    gives_entered (λ types node. typing.expression (expression_of c.args.test.now) as_truth >>= (λ p. typing.expression (expression_of c.args.left.now) as_value >>= (λ x. typing.expression (expression_of c.args.right.now) as_value >>= (λ y. conditional_end node (use_of c.args.role) p x y))))
    c.in_ok-node.ensures.entered c.in_ok-node.ensures.node (
    gives_then _ c.in_ok-p.ensures (
    gives_then _ c.in_ok-x.ensures (
    gives_stops _ c.in_err-y.ensures (stopped c.from_residual-in_err-y.ensures))))

pub operators::conditional-returns : goal.operators::conditional-returns
operators::conditional-returns t c =
    gives_entered (λ types node. typing.expression (expression_of c.args.test.now) as_truth >>= (λ p. typing.expression (expression_of c.args.left.now) as_value >>= (λ x. typing.expression (expression_of c.args.right.now) as_value >>= (λ y. conditional_end node (use_of c.args.role) p x y))))
    c.in_ok-node.ensures.entered c.in_ok-node.ensures.node (
    gives_then _ c.in_ok-p.ensures (
    gives_then _ c.in_ok-x.ensures (
    gives_then _ c.in_ok-y.ensures
    c.end_conditional.ensures)))

pub operators::assignment-returns-in_err-y : goal.operators::assignment-returns-in_err-y
operators::assignment-returns-in_err-y t c =
    gives_entered (λ types node. typing.expression (expression_of c.args.target.now) as_place >>= (λ x. typing.expression (expression_of c.args.value.now) as_value >>= (λ y. assignment_end node (use_of c.args.role) c.args.op x y)))
    c.in_ok-node.ensures.entered c.in_ok-node.ensures.node (
    gives_then _ c.in_ok-x.ensures (
    gives_stops _ c.in_err-y.ensures (stopped c.from_residual-in_err-y.ensures)))

pub operators::assignment-returns : goal.operators::assignment-returns
operators::assignment-returns t c =
    gives_entered (λ types node. typing.expression (expression_of c.args.target.now) as_place >>= (λ x. typing.expression (expression_of c.args.value.now) as_value >>= (λ y. assignment_end node (use_of c.args.role) c.args.op x y)))
    c.in_ok-node.ensures.entered c.in_ok-node.ensures.node (
    gives_then _ c.in_ok-x.ensures (
    gives_then _ c.in_ok-y.ensures
    c.end_assignment.ensures))

pub operators::comma-returns : goal.operators::comma-returns
operators::comma-returns t c =
    gives_entered (λ types node. typing.expressions (expressions_in c.args.list.now) >>= (λ xs. comma_end node (use_of c.args.role) xs))
    c.in_ok-node.ensures.entered c.in_ok-node.ensures.node (
    gives_then _ c.in_ok-xs.ensures
    c.end_comma.ensures)

pub marks::decide-returns : goal.marks::decide-returns
marks::decide-returns t c =
    gives_entered (λ types node. typing.expression (expression_of c.args.operand.now) (inside_mark (use_of c.args.role)) >>= (λ x. decide_end node (use_of c.args.role) x c.args.when_true.now c.args.when_false.now c.args.tag.now))
    c.in_ok-node.ensures.entered c.in_ok-node.ensures.node (
    gives_then _ (rw c.use_in_mark.ensures at c.in_ok-x.ensures)
    c.end_decide.ensures)

pub marks::after-returns : goal.marks::after-returns
marks::after-returns t c =
    gives_entered (λ types node. typing.expression (expression_of c.args.operand.now) (inside_after (use_of c.args.role)) >>= (λ x. after_end node (use_of c.args.role) x c.args.id.now c.args.tag.now))
    c.in_ok-node.ensures.entered c.in_ok-node.ensures.node (
    gives_then _ (rw c.use_in_after.ensures at c.in_ok-x.ensures)
    c.end_after.ensures)

pub marks::marked-returns-in_err-x : goal.marks::marked-returns-in_err-x
marks::marked-returns-in_err-x t c =
    gives_entered (λ types node. typing.marks (marks_in c.args.list.now) >>= (λ ms. typing.expression (expression_of c.args.value.now) (inside_mark (use_of c.args.role)) >>= (λ x. marked_end node (use_of c.args.role) ms x)))
    c.in_ok-node.ensures.entered c.in_ok-node.ensures.node (
    gives_then _ c.in_ok-ms.ensures (
    gives_stops _ (rw c.use_in_mark.ensures at c.in_err-x.ensures) (stopped c.from_residual-in_err-x.ensures)))

pub marks::marked-returns : goal.marks::marked-returns
marks::marked-returns t c =
    gives_entered (λ types node. typing.marks (marks_in c.args.list.now) >>= (λ ms. typing.expression (expression_of c.args.value.now) (inside_mark (use_of c.args.role)) >>= (λ x. marked_end node (use_of c.args.role) ms x)))
    c.in_ok-node.ensures.entered c.in_ok-node.ensures.node (
    gives_then _ c.in_ok-ms.ensures (
    gives_then _ (rw c.use_in_mark.ensures at c.in_ok-x.ensures)
    c.end_marked.ensures))

pub expression-returns-in-Marked : goal.expression-returns-in-Marked
expression-returns-in-Marked t c =
    gives_so (λ types k. ap (λ x. typing.expression x (use_of c.args.role) k) (marked_seen c.args.e.now c.in-Marked.list c.in-Marked.value _ _ c.in-Marked.is c.as_slice-in-Marked.ensures.value c.deref-in-Marked.ensures)) c.marked.ensures

pub expression-returns-in-Call : goal.expression-returns-in-Call
expression-returns-in-Call t c =
    gives_so (λ types k. ap (λ x. typing.expression x (use_of c.args.role) k) (call_seen c.args.e.now c.in-Call.callee c.in-Call.list _ _ c.in-Call.is c.deref-in-Call.ensures c.as_slice-in-Call.ensures.value)) c.call.ensures

pub expression-returns-in-Comma : goal.expression-returns-in-Comma
expression-returns-in-Comma t c =
    gives_so (λ types k. ap (λ x. typing.expression x (use_of c.args.role) k) (comma_seen c.args.e.now c.in-Comma.list _ c.in-Comma.is c.as_slice-in-Comma.ensures.value)) c.comma.ensures

pub parts::expressions-list-init : goal.parts::expressions-list-init
parts::expressions-list-init t c =
    turns_start (λ types a k. ap (λ l. gives (all_typed types l ++ a) k) c.new-all.ensures.items)

pub parts::expressions-returns-in_err-expression : goal.parts::expressions-returns-in_err-expression
parts::expressions-returns-in_err-expression t c =
    list_stop (λ list. typing.expressions (expressions_in list)) ◌∷◌ (λ types xs. all_typed types c.list.all.items ++ xs) c.args.list.now c.list.e-index c.e-item.result c.list-test.true c.e-item.is
    (λ types rest k. refl) c.list.invariant c.in_err-expression.ensures (stopped c.from_residual.ensures)

pub parts::expressions-returns-in_err-push : goal.parts::expressions-returns-in_err-push
parts::expressions-returns-in_err-push t c =
    lacks_memory (longer_still _ _ _ c.list.invariant.grows c.in_ok-expression.ensures.grows) (stopped c.from_residual-in_err-push.ensures)

pub parts::expressions-list-preserved : goal.parts::expressions-list-preserved
parts::expressions-list-preserved t c =
    list_on (λ list. typing.expressions (expressions_in list)) ◌∷◌ (λ types xs. all_typed types c.list.all.items ++ xs) (λ types xs. all_typed types c.push.new.self.items ++ xs) c.args.list.now c.list.e-index c.e-item.result c.list-test.true c.e-item.is
    (λ types rest k. refl) c.list.invariant c.in_ok-expression.ensures (λ types xs. one_more (typed_in types) c.list.all.items c.push.new.self.items c.in_ok-expression.field-0 xs c.in_ok-push.ensures.items)

pub parts::expressions-returns : goal.parts::expressions-returns
parts::expressions-returns t c =
    list_end (λ list. typing.expressions (expressions_in list)) [] (λ types xs. all_typed types c.list.all.items ++ xs) c.args.list.now c.list.e-index c.list-test.false (λ k. refl) (λ types. all_alone (typed_in types) c.list.all.items) c.list.invariant

pub marks::mark-returns-in_err-x : goal.marks::mark-returns-in_err-x
marks::mark-returns-in_err-x t c =
    gives_so (λ types k. ap (λ w. typing.mark w k) (sym (mark_out c.args.m.now)))
    (gives_entered (λ types node. typing.expression (expression_of (views.out-Mark c.args.m.now).predicate) as_value >>= (λ x. typing.bindings (bindings_in (views.out-Mark c.args.m.now).bound.items) >>= (λ bs. end_of_mark node (expression_of (views.out-Mark c.args.m.now).predicate) x (views.out-Mark c.args.m.now).id (views.out-Mark c.args.m.now).tag bs))) c.in_ok-node.ensures.entered c.in_ok-node.ensures.node (gives_stops _ c.in_err-x.ensures (stopped c.from_residual-in_err-x.ensures)))

pub marks::mark-returns-in_err-xs : goal.marks::mark-returns-in_err-xs
marks::mark-returns-in_err-xs t c =
    gives_so (λ types k. ap (λ w. typing.mark w k) (sym (mark_out c.args.m.now)))
    (gives_entered (λ types node. typing.expression (expression_of (views.out-Mark c.args.m.now).predicate) as_value >>= (λ x. typing.bindings (bindings_in (views.out-Mark c.args.m.now).bound.items) >>= (λ bs. end_of_mark node (expression_of (views.out-Mark c.args.m.now).predicate) x (views.out-Mark c.args.m.now).id (views.out-Mark c.args.m.now).tag bs))) c.in_ok-node.ensures.entered c.in_ok-node.ensures.node (gives_then _ c.in_ok-x.ensures (gives_stops _ (rw c.as_slice.ensures.value at c.in_err-xs.ensures) (stopped c.from_residual-in_err-xs.ensures))))

pub marks::mark-returns : goal.marks::mark-returns
marks::mark-returns t c =
    gives_so (λ types k. ap (λ w. typing.mark w k) (sym (mark_out c.args.m.now)))
    (gives_entered (λ types node. typing.expression (expression_of (views.out-Mark c.args.m.now).predicate) as_value >>= (λ x. typing.bindings (bindings_in (views.out-Mark c.args.m.now).bound.items) >>= (λ bs. end_of_mark node (expression_of (views.out-Mark c.args.m.now).predicate) x (views.out-Mark c.args.m.now).id (views.out-Mark c.args.m.now).tag bs))) c.in_ok-node.ensures.entered c.in_ok-node.ensures.node (gives_then _ c.in_ok-x.ensures (gives_then _ (rw c.as_slice.ensures.value at c.in_ok-xs.ensures)
    (rw (c.as_slice-2.ensures, c.as_slice-3.ensures, c.as_slice-4.ensures.value) at c.end_of_mark.ensures))))

pub marks::bindings-list-init : goal.marks::bindings-list-init
marks::bindings-list-init t c =
    record {
      found = ap length c.new-all.ensures.items;
      turns = turns_start (λ types a k. ap (λ l. gives (bindings_with types c.args.list.now l ++ a) k) c.new-all.ensures.items ∙ ap (λ l. gives (l ++ a) k) (nothing_bound types c.args.list.now));
    }

pub marks::bindings-returns-in_err-expression : goal.marks::bindings-returns-in_err-expression
marks::bindings-returns-in_err-expression t c =
    list_stop (λ list. typing.bindings (bindings_in list)) (λ x bs. record { name = c.binding-item.result.name; written = expression_of c.binding-item.result.value; typed = x } ∷ bs) (λ types bs. bindings_with types c.args.list.now c.list.all.items ++ bs) c.args.list.now c.list.binding-index c.binding-item.result c.list-test.true c.binding-item.is
    (λ types rest k. refl) c.list.invariant.turns c.in_err-expression.ensures (stopped c.from_residual.ensures)

pub marks::bindings-returns-in_err-push : goal.marks::bindings-returns-in_err-push
marks::bindings-returns-in_err-push t c =
    lacks_memory (longer_still _ _ _ c.list.invariant.turns.grows c.in_ok-expression.ensures.grows) (stopped c.from_residual-in_err-push.ensures)

pub marks::bindings-list-preserved : goal.marks::bindings-list-preserved
marks::bindings-list-preserved t c =
    record {
      found = length_more c.list.all.items c.push.new.self.items c.in_ok-expression.field-0 c.list.binding-index c.in_ok-push.ensures.items c.list.invariant.found;
      turns = list_on (λ list. typing.bindings (bindings_in list)) (λ x bs. record { name = c.binding-item.result.name; written = expression_of c.binding-item.result.value; typed = x } ∷ bs) (λ types bs. bindings_with types c.args.list.now c.list.all.items ++ bs) (λ types bs. bindings_with types c.args.list.now c.push.new.self.items ++ bs) c.args.list.now c.list.binding-index c.binding-item.result c.list-test.true c.binding-item.is
          (λ types rest k. refl) c.list.invariant.turns c.in_ok-expression.ensures
          (λ types bs. bound_more types c.args.list.now c.list.all.items c.push.new.self.items c.in_ok-expression.field-0 c.list.binding-index c.binding-item.result bs c.in_ok-push.ensures.items c.list.invariant.found c.list-test.true c.binding-item.is);
    }

pub marks::bindings-returns : goal.marks::bindings-returns
marks::bindings-returns t c =
    list_end (λ list. typing.bindings (bindings_in list)) [] (λ types bs. bindings_with types c.args.list.now c.list.all.items ++ bs) c.args.list.now c.list.binding-index c.list-test.false (λ k. refl) (λ types. all_bound types c.args.list.now c.list.all.items) c.list.invariant.turns

pub marks::marks-list-init : goal.marks::marks-list-init
marks::marks-list-init t c =
    turns_start (λ types a k. ap (λ l. gives (before (mark_before types) l a) k) c.new-all.ensures.items)

pub marks::marks-returns-in_err-made : goal.marks::marks-returns-in_err-made
marks::marks-returns-in_err-made t c =
    list_stop (λ list. typing.marks (marks_in list)) e.a_mark (λ types ms. before (mark_before types) c.list.all.items ms) c.args.list.now c.list.m-index c.m-item.result c.list-test.true c.m-item.is
    (λ types rest k. refl) c.list.invariant c.in_err-made.ensures (stopped c.from_residual.ensures)

pub marks::marks-returns-in_err-push : goal.marks::marks-returns-in_err-push
marks::marks-returns-in_err-push t c =
    lacks_memory (longer_still _ _ _ c.list.invariant.grows c.in_ok-made.ensures.grows) (stopped c.from_residual-in_err-push.ensures)

pub marks::marks-list-preserved : goal.marks::marks-list-preserved
marks::marks-list-preserved t c =
    list_on (λ list. typing.marks (marks_in list)) e.a_mark (λ types ms. before (mark_before types) c.list.all.items ms) (λ types ms. before (mark_before types) c.push.new.self.items ms) c.args.list.now c.list.m-index c.m-item.result c.list-test.true c.m-item.is
    (λ types rest k. refl) c.list.invariant c.in_ok-made.ensures (λ types ms. before_more (mark_before types) c.list.all.items c.push.new.self.items c.into_inner.result ms c.in_ok-push.ensures.items ∙ ap (λ (m : Mark). before (mark_before types) c.list.all.items (mark_before types m ms)) c.into_inner.ensures)

pub marks::marks-returns : goal.marks::marks-returns
marks::marks-returns t c =
    list_end (λ list. typing.marks (marks_in list)) e.no_marks (λ types ms. before (mark_before types) c.list.all.items ms) c.args.list.now c.list.m-index c.list-test.false (λ k. refl) (λ types. all_marks types c.list.all.items) c.list.invariant

pub expression-returns-in-SizeofType : goal.expression-returns-in-SizeofType
expression-returns-in-SizeofType t c =
    gives_so (λ types k. ap (λ x. typing.expression x (use_of c.args.role) k) (size_seen c.args.e.now c.in-SizeofType.name _ c.in-SizeofType.is c.deref-in-SizeofType.ensures)) c.size_of_type.ensures

pub expression-returns-in-Cast : goal.expression-returns-in-Cast
expression-returns-in-Cast t c =
    gives_so (λ types k. ap (λ x. typing.expression x (use_of c.args.role) k) (cast_seen c.args.e.now c.in-Cast.name c.in-Cast.operand _ _ c.in-Cast.is c.deref-in-Cast.ensures c.deref-in-Cast-2.ensures)) c.cast.ensures

pub declarators::size_of_type-returns-in_err-t : goal.declarators::size_of_type-returns-in_err-t
declarators::size_of_type-returns-in_err-t t c =
    gives_entered (λ types node. typing.specifiers (specifiers_of c.args.name.now.specifiers) (d.setting_in_sizeof (declarator_of c.args.name.now.declarator)) >>= (λ it. typing.declarator (declarator_of c.args.name.now.declarator) it false (λ name known b. d.type_name_faults b) >>= (λ t. sizeof_type_end node (use_of c.args.role) t)))
    c.in_ok-node.ensures.entered c.in_ok-node.ensures.node (
    gives_then _ (rw c.setting_in_sizeof-setting.ensures at c.in_ok-it.ensures) (
    gives_stops _ c.in_err-t.ensures (stopped c.from_residual-in_err-t.ensures)))

pub declarators::size_of_type-returns : goal.declarators::size_of_type-returns
declarators::size_of_type-returns t c =
    gives_entered (λ types node. typing.specifiers (specifiers_of c.args.name.now.specifiers) (d.setting_in_sizeof (declarator_of c.args.name.now.declarator)) >>= (λ it. typing.declarator (declarator_of c.args.name.now.declarator) it false (λ name known b. d.type_name_faults b) >>= (λ t. sizeof_type_end node (use_of c.args.role) t)))
    c.in_ok-node.ensures.entered c.in_ok-node.ensures.node (
    gives_then _ (rw c.setting_in_sizeof-setting.ensures at c.in_ok-it.ensures) (
    gives_then _ c.in_ok-t.ensures
    c.end_size_of_type.ensures))

pub declarators::cast-returns-in_err-t : goal.declarators::cast-returns-in_err-t
declarators::cast-returns-in_err-t t c =
    gives_entered (λ types node. typing.specifiers (specifiers_of c.args.name.now.specifiers) s.elsewhere >>= (λ it. typing.declarator (declarator_of c.args.name.now.declarator) it false (λ name known b. d.type_name_faults b) >>= (λ t. typing.expression (expression_of c.args.operand.now) as_value >>= (λ x. cast_end node (use_of c.args.role) t x))))
    c.in_ok-node.ensures.entered c.in_ok-node.ensures.node (
    gives_then _ c.in_ok-it.ensures (
    gives_stops _ c.in_err-t.ensures (stopped c.from_residual-in_err-t.ensures)))

pub declarators::cast-returns-in_err-x : goal.declarators::cast-returns-in_err-x
declarators::cast-returns-in_err-x t c =
    gives_entered (λ types node. typing.specifiers (specifiers_of c.args.name.now.specifiers) s.elsewhere >>= (λ it. typing.declarator (declarator_of c.args.name.now.declarator) it false (λ name known b. d.type_name_faults b) >>= (λ t. typing.expression (expression_of c.args.operand.now) as_value >>= (λ x. cast_end node (use_of c.args.role) t x))))
    c.in_ok-node.ensures.entered c.in_ok-node.ensures.node (
    gives_then _ c.in_ok-it.ensures (
    gives_then _ c.in_ok-t.ensures (
    gives_stops _ c.in_err-x.ensures (stopped c.from_residual-in_err-x.ensures))))

pub declarators::cast-returns : goal.declarators::cast-returns
declarators::cast-returns t c =
    gives_entered (λ types node. typing.specifiers (specifiers_of c.args.name.now.specifiers) s.elsewhere >>= (λ it. typing.declarator (declarator_of c.args.name.now.declarator) it false (λ name known b. d.type_name_faults b) >>= (λ t. typing.expression (expression_of c.args.operand.now) as_value >>= (λ x. cast_end node (use_of c.args.role) t x))))
    c.in_ok-node.ensures.entered c.in_ok-node.ensures.node (
    gives_then _ c.in_ok-it.ensures (
    gives_then _ c.in_ok-t.ensures (
    gives_then _ c.in_ok-x.ensures
    c.end_cast.ensures)))

pub naming::specifiers-returns-in_err-namings : goal.naming::specifiers-returns-in_err-namings
naming::specifiers-returns-in_err-namings t c =
    gives_stops _ (rw (c.beside_words-beside.ensures, c.as_slice.ensures.value) at c.in_err-namings.ensures) (stopped c.from_residual.ensures)

pub naming::specifiers-returns : goal.naming::specifiers-returns
naming::specifiers-returns t c =
    gives_then _ (rw (c.beside_words-beside.ensures, c.as_slice.ensures.value) at c.in_ok-namings.ensures) c.specified.ensures

pub naming::type_specifiers-list-init : goal.naming::type_specifiers-list-init
naming::type_specifiers-list-init t c =
    turns_start (λ types a k. ap (λ l. gives (map (naming_of types) l ++ a) k) c.new-all.ensures.items)

pub naming::type_specifiers-returns-in_err-type_specifier : goal.naming::type_specifiers-returns-in_err-type_specifier
naming::type_specifiers-returns-in_err-type_specifier t c =
    list_stop (λ list. typing.type_specifiers (types_in list) (setting_of c.args.setting)) ◌∷◌ (λ types all. map (naming_of types) c.list.all.items ++ all) c.args.list.now c.list.t-index c.t-item.result c.list-test.true c.t-item.is
    (λ types rest k. refl) c.list.invariant c.in_err-type_specifier.ensures (stopped c.from_residual.ensures)

pub naming::type_specifiers-returns-in_err-push : goal.naming::type_specifiers-returns-in_err-push
naming::type_specifiers-returns-in_err-push t c =
    lacks_memory (longer_still _ _ _ c.list.invariant.grows c.in_ok-type_specifier.ensures.grows) (stopped c.from_residual-in_err-push.ensures)

pub naming::type_specifiers-list-preserved : goal.naming::type_specifiers-list-preserved
naming::type_specifiers-list-preserved t c =
    list_on (λ list. typing.type_specifiers (types_in list) (setting_of c.args.setting)) ◌∷◌ (λ types all. map (naming_of types) c.list.all.items ++ all) (λ types all. map (naming_of types) c.push.new.self.items ++ all) c.args.list.now c.list.t-index c.t-item.result c.list-test.true c.t-item.is
    (λ types rest k. refl) c.list.invariant c.in_ok-type_specifier.ensures (λ types all. one_more (naming_of types) c.list.all.items c.push.new.self.items c.in_ok-type_specifier.field-0 all c.in_ok-push.ensures.items)

pub naming::type_specifiers-returns : goal.naming::type_specifiers-returns
naming::type_specifiers-returns t c =
    list_end (λ list. typing.type_specifiers (types_in list) (setting_of c.args.setting)) [] (λ types all. map (naming_of types) c.list.all.items ++ all) c.args.list.now c.list.t-index c.list-test.false (λ k. refl) (λ types. all_alone (naming_of types) c.list.all.items) c.list.invariant

pub naming::type_specifier-returns-in-Struct : goal.naming::type_specifier-returns-in-Struct
naming::type_specifier-returns-in-Struct t c =
    gives_so (λ types k. ap (λ t. typing.type_specifier t (setting_of c.args.setting) k) (struct_seen c.args.t.now _ c.in-Struct.list _ c.in-Struct.is c.as_slice-in-Struct.ensures.value)) c.structure.ensures

pub naming::type_specifier-returns-in-Enum : goal.naming::type_specifier-returns-in-Enum
naming::type_specifier-returns-in-Enum t c =
    gives_so (λ types k. ap (λ t. typing.type_specifier t (setting_of c.args.setting) k) (enum_seen c.args.t.now _ c.in-Enum.list _ c.in-Enum.is c.as_slice-in-Enum.ensures.value)) c.enumeration.ensures

pub naming::structure-returns-in_err-found : goal.naming::structure-returns-in_err-found
naming::structure-returns-in_err-found t c =
    gives_then (λ types opened. typing.members (tree.members_in c.args.list.now) [] >>= (λ ms. s.close_struct opened ms)) c.in_ok-opened.ensures (gives_stops (λ types ms. s.close_struct (open_struct_of types c.in_ok-opened.opened) ms) c.in_err-found.ensures (stopped c.from_residual-in_err-found.ensures))

pub naming::structure-returns : goal.naming::structure-returns
naming::structure-returns t c =
    gives_then (λ types opened. typing.members (tree.members_in c.args.list.now) [] >>= (λ ms. s.close_struct opened ms)) c.in_ok-opened.ensures (gives_then (λ types ms. s.close_struct (open_struct_of types c.in_ok-opened.opened) ms) c.in_ok-found.ensures c.close_struct.ensures)

pub naming::enumeration-returns-in_err-enumerators : goal.naming::enumeration-returns-in_err-enumerators
naming::enumeration-returns-in_err-enumerators t c =
    gives_then (λ types faults. typing.enumerators (enumerators_in c.args.list.now) (pos 0) >>= (λ u. s.close_enum c.args.tag.now faults)) c.in_ok-faults.ensures (gives_stops (λ types u. s.close_enum c.args.tag.now c.in_ok-faults.faults) c.in_err-enumerators.ensures (stopped c.from_residual-in_err-enumerators.ensures))

pub naming::enumeration-returns : goal.naming::enumeration-returns
naming::enumeration-returns t c =
    gives_then (λ types faults. typing.enumerators (enumerators_in c.args.list.now) (pos 0) >>= (λ u. s.close_enum c.args.tag.now faults)) c.in_ok-faults.ensures (gives_then (λ types u. s.close_enum c.args.tag.now c.in_ok-faults.faults) c.in_ok-enumerators.ensures c.close_enum.ensures)

pub naming::enumerators-list-init : goal.naming::enumerators-list-init
naming::enumerators-list-init t c =
    turns_from (λ types k. refl)

pub naming::enumerators-list-preserved : goal.naming::enumerators-list-preserved
naming::enumerators-list-preserved t c =
    let fits : SFits w128 c.in_ok-counted.counted = search rules in
    simp to_z-of_z (passes_on (λ list counted. typing.enumerators (enumerators_in list) counted) _ c.args.list.now c.list.e-index c.e-item.result c.list-test.true c.e-item.is
    (λ types rest k. enumerators_open c.e-item.result rest _ k) c.list.invariant c.in_ok-counted.ensures)

pub naming::enumerators-returns-in_err-counted : goal.naming::enumerators-returns-in_err-counted
naming::enumerators-returns-in_err-counted t c =
    passes_stop (λ list counted. typing.enumerators (enumerators_in list) counted) _ c.args.list.now c.list.e-index c.e-item.result c.list-test.true c.e-item.is
    (λ types rest k. enumerators_open c.e-item.result rest _ k) c.list.invariant c.in_err-counted.ensures (stopped c.from_residual.ensures)

pub naming::enumerators-returns : goal.naming::enumerators-returns
naming::enumerators-returns t c =
    passes_end (λ list counted. typing.enumerators (enumerators_in list) counted) _ c.args.list.now c.list.e-index c.list-test.false (λ types k. refl) c.list.invariant

pub naming::enumerator-returns : goal.naming::enumerator-returns
naming::enumerator-returns t c =
    let fits = c.ranges.counted in
    gives_entered (λ types node. typing.maybe (maybe_in c.args.e.now.value) >>= (λ x. end_of_enumerator node c.args.e.now.name (s.value_given c.args.counted x)))
    c.in_ok-node.ensures.entered c.in_ok-node.ensures.node (gives_then (λ types x. end_of_enumerator c.in_ok-node.node c.args.e.now.name (s.value_given c.args.counted x)) c.in_ok-x.ensures (simp (to_z-of_z, c.as_slice.ensures) at c.end_enumerator.ensures))

pub members::members-list-init : goal.members::members-list-init
members::members-list-init t c =
    turns_from (λ types k. ap (λ l. typing.members (tree.members_in c.args.list.now) (members_in types l) k) (sym c.new-found.ensures))

pub members::members-list-preserved : goal.members::members-list-preserved
members::members-list-preserved t c =
    passes_on (λ list found. typing.members (tree.members_in list) found) (λ types. members_in types c.list.found) c.args.list.now c.list.m-index c.m-item.result c.list-test.true c.m-item.is
    (λ types rest k. refl) c.list.invariant c.in_ok-found.ensures

pub members::members-returns-in_err-found : goal.members::members-returns-in_err-found
members::members-returns-in_err-found t c =
    passes_stop (λ list found. typing.members (tree.members_in list) found) (λ types. members_in types c.list.found) c.args.list.now c.list.m-index c.m-item.result c.list-test.true c.m-item.is
    (λ types rest k. refl) c.list.invariant c.in_err-found.ensures (stopped c.from_residual.ensures)

pub members::members-returns : goal.members::members-returns
members::members-returns t c =
    passes_end (λ list found. typing.members (tree.members_in list) found) (λ types. members_in types c.list.found) c.args.list.now c.list.m-index c.list-test.false (λ types k. refl) c.list.invariant

pub members::member-returns-in_err-it : goal.members::member-returns-in_err-it
members::member-returns-in_err-it t c =
    gives_so (λ types k. ap (λ w. typing.struct_member w (members_in types c.args.found) k) (sym (member_out c.args.m.now)))
    (gives_entered (λ types node. typing.specifiers (specifiers_of (views.out-Member c.args.m.now).specifiers) s.elsewhere >>= (λ it. typing.member_declarators (tree.member_declarators_in (views.out-Member c.args.m.now).declarators.items) it (members_in types c.args.found) >>= (λ all. members_end node (is_no_declarator (tree.member_declarators_in (views.out-Member c.args.m.now).declarators.items)) it all)))
    c.in_ok-node.ensures.entered c.in_ok-node.ensures.node (gives_stops _ c.in_err-it.ensures (stopped c.from_residual-in_err-it.ensures)))

pub members::member-returns-in_err-all : goal.members::member-returns-in_err-all
members::member-returns-in_err-all t c =
    gives_so (λ types k. ap (λ w. typing.struct_member w (members_in types c.args.found) k) (sym (member_out c.args.m.now)))
    (gives_entered (λ types node. typing.specifiers (specifiers_of (views.out-Member c.args.m.now).specifiers) s.elsewhere >>= (λ it. typing.member_declarators (tree.member_declarators_in (views.out-Member c.args.m.now).declarators.items) it (members_in types c.args.found) >>= (λ all. members_end node (is_no_declarator (tree.member_declarators_in (views.out-Member c.args.m.now).declarators.items)) it all)))
    c.in_ok-node.ensures.entered c.in_ok-node.ensures.node (gives_then _ c.in_ok-it.ensures (gives_stops _ (rw c.as_slice.ensures.value at c.in_err-all.ensures) (stopped c.from_residual-in_err-all.ensures))))

pub members::member-returns : goal.members::member-returns
members::member-returns t c =
    gives_so (λ types k. ap (λ w. typing.struct_member w (members_in types c.args.found) k) (sym (member_out c.args.m.now)))
    (gives_entered (λ types node. typing.specifiers (specifiers_of (views.out-Member c.args.m.now).specifiers) s.elsewhere >>= (λ it. typing.member_declarators (tree.member_declarators_in (views.out-Member c.args.m.now).declarators.items) it (members_in types c.args.found) >>= (λ all. members_end node (is_no_declarator (tree.member_declarators_in (views.out-Member c.args.m.now).declarators.items)) it all)))
    c.in_ok-node.ensures.entered c.in_ok-node.ensures.node (gives_then _ c.in_ok-it.ensures (gives_then _ (rw c.as_slice.ensures.value at c.in_ok-all.ensures)
    (gives_so (λ types k. ap (λ b. members_end c.in_ok-node.node b (specified_of types c.in_ok-it.it) (membered_of types c.in_ok-all.all) k) (c.is_no_declarator.ensures ∙ ap (λ l. is_no_declarator (tree.member_declarators_in l)) c.as_slice-2.ensures.value)) c.end_member.ensures))))

pub members::member_declarators-list-init : goal.members::member_declarators-list-init
members::member_declarators-list-init t c =
    turns_start (λ types a k. ap (λ l. gives (record a { faults = l ++ a.faults }) k) c.new.ensures)

pub members::member_declarators-returns-in_err-declared : goal.members::member_declarators-returns-in_err-declared
members::member_declarators-returns-in_err-declared t c =
    turns_stop (λ types declared k. goes_on (typing.member_declarators (tree.member_declarators_in (drop (c.list.m-index + 1) c.args.list.now)) (specified_of types c.args.it.now) (with_member (members_in types c.list.all.members) declared) k) (λ f. gives (record f { faults = declared.faults ++ f.faults }))) c.list.invariant
    (λ types k. ap (λ l. typing.member_declarators (tree.member_declarators_in l) (specified_of types c.args.it.now) (members_in types c.list.all.members) k) (opened c.args.list.now c.list.m-index c.m-item.result c.list-test.true c.m-item.is)
    ∙ behind_both (typing.declarator (declarator_of c.m-item.result.declarator) (specified_of types c.args.it.now) false (d.member_faults (members_in types c.list.all.members) (d.has_width (maybe_in c.m-item.result.width))) k) (typing.maybe (maybe_in c.m-item.result.width)) (λ declared k. goes_on (typing.member_declarators (tree.member_declarators_in (drop (c.list.m-index + 1) c.args.list.now)) (specified_of types c.args.it.now) (with_member (members_in types c.list.all.members) declared) k) (λ f. gives (record f { faults = declared.faults ++ f.faults }))))
    c.in_err-declared.ensures (stopped c.from_residual.ensures)

pub members::member_declarators-returns-in_err-all : goal.members::member_declarators-returns-in_err-all
members::member_declarators-returns-in_err-all t c =
    lacks_memory (longer_still _ _ _ c.list.invariant.grows c.in_ok-declared.ensures.grows) (stopped c.from_residual-in_err-all.ensures)

pub members::member_declarators-list-preserved : goal.members::member_declarators-list-preserved
members::member_declarators-list-preserved t c =
    turns_on (λ types declared k. goes_on (typing.member_declarators (tree.member_declarators_in (drop (c.list.m-index + 1) c.args.list.now)) (specified_of types c.args.it.now) (with_member (members_in types c.list.all.members) declared) k) (λ f. gives (record f { faults = declared.faults ++ f.faults }))) c.list.invariant
    (λ types k. ap (λ l. typing.member_declarators (tree.member_declarators_in l) (specified_of types c.args.it.now) (members_in types c.list.all.members) k) (opened c.args.list.now c.list.m-index c.m-item.result c.list-test.true c.m-item.is)
    ∙ behind_both (typing.declarator (declarator_of c.m-item.result.declarator) (specified_of types c.args.it.now) false (d.member_faults (members_in types c.list.all.members) (d.has_width (maybe_in c.m-item.result.width))) k) (typing.maybe (maybe_in c.m-item.result.width)) (λ declared k. goes_on (typing.member_declarators (tree.member_declarators_in (drop (c.list.m-index + 1) c.args.list.now)) (specified_of types c.args.it.now) (with_member (members_in types c.list.all.members) declared) k) (λ f. gives (record f { faults = declared.faults ++ f.faults }))))
    c.in_ok-declared.ensures
    (λ types k. membered_more (tree.member_declarators_in (drop (c.list.m-index + 1) c.args.list.now)) (specified_of types c.args.it.now) (with_member (members_in types c.list.all.members) (declares_of types c.in_ok-declared.declared)) (members_in types c.in_ok-all.all.members)
    c.list.all.faults c.in_ok-declared.declared.faults c.in_ok-all.all.faults k (c.in_ok-all.ensures.members types) c.in_ok-all.ensures.faults)

pub members::member_declarators-returns : goal.members::member_declarators-returns
members::member_declarators-returns t c =
    turns_end c.list.invariant (λ types k.
    ap (λ l. goes_on (typing.member_declarators (tree.member_declarators_in l) (specified_of types c.args.it.now) (members_in types c.list.all.members) k) (λ f. gives (record f { faults = c.list.all.faults ++ f.faults }))) (drop_all c.list.m-index c.args.list.now c.list-test.false)
    ∙ ap (λ l. gives (record { members = members_in types c.list.all.members; faults = l }) k) (all_rules c.list.all.faults))

pub members::member_declarator-returns-in_err-declared : goal.members::member_declarator-returns-in_err-declared
members::member_declarator-returns-in_err-declared t c =
    gives_stops (λ types declared. typing.maybe (maybe_in c.args.m.now.width) >>= (λ w. gives declared)) (gives_so (λ types k. member_judged c.args.m.now.declarator (specified_of types c.args.it.now) _ _ (members_in types c.args.found.now) (maybe_in c.args.m.now.width) k (c.is_declared.ensures types) (width_seen c.args.m.now.width _ c.is_some.ensures)) c.in_err-declared.ensures) (stopped c.from_residual.ensures)

pub members::member_declarator-returns-in_err-_width : goal.members::member_declarator-returns-in_err-_width
members::member_declarator-returns-in_err-_width t c =
    gives_then (λ types declared. typing.maybe (maybe_in c.args.m.now.width) >>= (λ w. gives declared)) (gives_so (λ types k. member_judged c.args.m.now.declarator (specified_of types c.args.it.now) _ _ (members_in types c.args.found.now) (maybe_in c.args.m.now.width) k (c.is_declared.ensures types) (width_seen c.args.m.now.width _ c.is_some.ensures)) c.in_ok-declared.ensures) (gives_stops (λ types w. gives (declares_of types c.in_ok-declared.declared)) c.in_err-_width.ensures (stopped c.from_residual-in_err-_width.ensures))

pub members::member_declarator-returns : goal.members::member_declarator-returns
members::member_declarator-returns t c =
    gives_then (λ types declared. typing.maybe (maybe_in c.args.m.now.width) >>= (λ w. gives declared)) (gives_so (λ types k. member_judged c.args.m.now.declarator (specified_of types c.args.it.now) _ _ (members_in types c.args.found.now) (maybe_in c.args.m.now.width) k (c.is_declared.ensures types) (width_seen c.args.m.now.width _ c.is_some.ensures)) c.in_ok-declared.ensures) (gives_then (λ types w. gives (declares_of types c.in_ok-declared.declared)) c.in_ok-_width.ensures gives_itself)

pub declarators::declarator-returns-in_err-node : goal.declarators::declarator-returns-in_err-node
declarators::declarator-returns-in_err-node t c =
    gives_stops (λ types node. typing.parts (parts_in c.args.d.now.parts.items) (specified_of types c.args.it.now).type c.args.is_definition true >>= (λ b. declarator_end node c.args.d.now.name (specified_of types c.args.it.now) (judging_of c.args.judging) b)) (rw (c.is_written.ensures, c.as_slice.ensures.value) at c.in_err-node.ensures) (stopped c.from_residual.ensures)

pub declarators::declarator-returns-in_err-b : goal.declarators::declarator-returns-in_err-b
declarators::declarator-returns-in_err-b t c =
    gives_then (λ types node. typing.parts (parts_in c.args.d.now.parts.items) (specified_of types c.args.it.now).type c.args.is_definition true >>= (λ b. declarator_end node c.args.d.now.name (specified_of types c.args.it.now) (judging_of c.args.judging) b)) (rw (c.is_written.ensures, c.as_slice.ensures.value) at c.in_ok-node.ensures) (gives_stops (λ types b. declarator_end c.in_ok-node.node c.args.d.now.name (specified_of types c.args.it.now) (judging_of c.args.judging) b) (rw c.as_slice-2.ensures.value at c.in_err-b.ensures) (stopped c.from_residual-in_err-b.ensures))

pub declarators::declarator-returns : goal.declarators::declarator-returns
declarators::declarator-returns t c =
    gives_then (λ types node. typing.parts (parts_in c.args.d.now.parts.items) (specified_of types c.args.it.now).type c.args.is_definition true >>= (λ b. declarator_end node c.args.d.now.name (specified_of types c.args.it.now) (judging_of c.args.judging) b)) (rw (c.is_written.ensures, c.as_slice.ensures.value) at c.in_ok-node.ensures) (gives_then (λ types b. declarator_end c.in_ok-node.node c.args.d.now.name (specified_of types c.args.it.now) (judging_of c.args.judging) b) (rw c.as_slice-2.ensures.value at c.in_ok-b.ensures) c.end_declarator.ensures)

pub declarators::parts-returns-in_err-shapes : goal.declarators::parts-returns-in_err-shapes
declarators::parts-returns-in_err-shapes t c =
    gives_so (λ types k. parts_made (type_in types c.args.t) c.args.list.now c.args.is_definition true k) (gives_stops (λ types ps known. Goes (with_parts known ps (d.built (type_in types c.args.t) [])) known) c.in_err-shapes.ensures (stopped c.from_residual.ensures))

pub declarators::parts-returns : goal.declarators::parts-returns
declarators::parts-returns t c =
    gives_so (λ types k. parts_made (type_in types c.args.t) c.args.list.now c.args.is_definition true k) (gives_then (λ types ps known. Goes (with_parts known ps (d.built (type_in types c.args.t) [])) known) c.in_ok-shapes.ensures c.with_shapes.ensures)

pub declarators::shapes-list-init : goal.declarators::shapes-list-init
declarators::shapes-list-init t c =
    turns_start (λ types a k. ap (λ l. gives (map (part_of types) l ++ a) k) c.new-all.ensures.items)

pub declarators::shapes-returns-in_err-shape : goal.declarators::shapes-returns-in_err-shape
declarators::shapes-returns-in_err-shape t c =
    turns_stop (λ types p k. goes_on (found.parts (drop (c.list.part-index + 1) c.args.list.now) false false k) (λ ps. gives (p ∷ ps))) c.list.invariant (λ types k. ap (λ l. found.parts l c.list.is_defined c.list.is_outermost k) (opened c.args.list.now c.list.part-index c.part-item.result c.list-test.true c.part-item.is)) c.in_err-shape.ensures (stopped c.from_residual.ensures)

pub declarators::shapes-returns-in_err-push : goal.declarators::shapes-returns-in_err-push
declarators::shapes-returns-in_err-push t c =
    lacks_memory (longer_still _ _ _ c.list.invariant.grows c.in_ok-shape.ensures.grows) (stopped c.from_residual-in_err-push.ensures)

pub declarators::shapes-list-preserved : goal.declarators::shapes-list-preserved
declarators::shapes-list-preserved t c =
    turns_on (λ types p k. goes_on (found.parts (drop (c.list.part-index + 1) c.args.list.now) false false k) (λ ps. gives (p ∷ ps))) c.list.invariant (λ types k. ap (λ l. found.parts l c.list.is_defined c.list.is_outermost k) (opened c.args.list.now c.list.part-index c.part-item.result c.list-test.true c.part-item.is)) c.in_ok-shape.ensures
    (λ types k. collected (found.parts (drop (c.list.part-index + 1) c.args.list.now) false false k) (λ ps. part_of types c.in_ok-shape.field-0 ∷ ps) (λ ps. map (part_of types) c.list.all.items ++ ps) (λ ps. map (part_of types) c.push.new.self.items ++ ps)
    (λ ps. one_more (part_of types) c.list.all.items c.push.new.self.items c.in_ok-shape.field-0 ps c.in_ok-push.ensures.items))

pub declarators::shapes-returns : goal.declarators::shapes-returns
declarators::shapes-returns t c =
    turns_end c.list.invariant (λ types k.
    ap (λ l. goes_on (found.parts l c.list.is_defined c.list.is_outermost k) (λ ps. gives (map (part_of types) c.list.all.items ++ ps))) (drop_all c.list.part-index c.args.list.now c.list-test.false)
    ∙ ap (λ l. gives l k) (all_alone (part_of types) c.list.all.items))

pub parameters::block_of_parameters-returns-in_err-open : goal.parameters::block_of_parameters-returns-in_err-open
parameters::block_of_parameters-returns-in_err-open t c =
    lacks_memory (rw c.open.ensures.types (as_long _)) (stopped c.from_residual.ensures ∙ ap Err c.in_err-open.ensures.stops)

pub parameters::block_of_parameters-returns-in_err-them : goal.parameters::block_of_parameters-returns-in_err-them
parameters::block_of_parameters-returns-in_err-them t c =
    stops_in_block c.new.result c.new.ensures c.in_ok-open.ensures.opened c.in_err-them.ensures (stopped c.from_residual-in_err-them.ensures)

pub parameters::block_of_parameters-returns : goal.parameters::block_of_parameters-returns
parameters::block_of_parameters-returns t c =
    gives_in_block c.new.result c.new.ensures c.in_ok-open.ensures.opened c.in_ok-them.ensures c.close-frame.ensures.closed

pub parameters::parameters-returns-in-Listed : goal.parameters::parameters-returns-in-Listed
parameters::parameters-returns-in-Listed t c =
    gives_so (λ types k. ap (λ l. typing.parameters l c.args.is_definition k) (listed_seen c.args.list.now c.in-Listed.list _ c.in-Listed.is c.as_slice.ensures.value)) c.parameter_list.ensures

pub parameters::parameters-returns-in_err-them-in-Open : goal.parameters::parameters-returns-in_err-them-in-Open
parameters::parameters-returns-in_err-them-in-Open t c =
    gives_so (λ types k. ap (λ l. typing.parameters l c.args.is_definition k) (open_seen c.args.list.now c.in-Open.list _ c.in-Open.is c.as_slice-in-Open.ensures.value)) (gives_stops (λ types them. gives (with_dots them)) c.in_err-them-in-Open.ensures (stopped c.from_residual.ensures))

pub parameters::parameters-returns-in_ok-them-in-Open : goal.parameters::parameters-returns-in_ok-them-in-Open
parameters::parameters-returns-in_ok-them-in-Open t c =
    gives_so (λ types k. ap (λ l. typing.parameters l c.args.is_definition k) (open_seen c.args.list.now c.in-Open.list _ c.in-Open.is c.as_slice-in-Open.ensures.value)) (gives_then (λ types them. gives (with_dots them)) c.in_ok-them-in-Open.ensures c.with_dots.ensures)

pub parameters::parameter_list-returns-in_err-all : goal.parameters::parameter_list-returns-in_err-all
parameters::parameter_list-returns-in_err-all t c =
    gives_so (λ types k. list_made c.args.list.now c.args.is_definition k) (gives_stops (λ types ps known. Goes (with_all_found ps (without_any known)) known) c.in_err-all.ensures (stopped c.from_residual.ensures))

pub parameters::parameter_list-returns : goal.parameters::parameter_list-returns
parameters::parameter_list-returns t c =
    gives_so (λ types k. list_made c.args.list.now c.args.is_definition k) (gives_then (λ types ps known. Goes (with_all_found ps (without_any known)) known) c.in_ok-all.ensures c.with_found.ensures)

pub parameters::found_parameters-list-init : goal.parameters::found_parameters-list-init
parameters::found_parameters-list-init t c =
    turns_start (λ types a k. ap (λ l. gives (map (found_of types) l ++ a) k) c.new-all.ensures.items)

pub parameters::found_parameters-returns-in_err-parameter : goal.parameters::found_parameters-returns-in_err-parameter
parameters::found_parameters-returns-in_err-parameter t c =
    list_stop (λ list. found.parameters list c.args.is_definition) ◌∷◌ (λ types all. map (found_of types) c.list.all.items ++ all) c.args.list.now c.list.p-index c.p-item.result c.list-test.true c.p-item.is
    (λ types rest k. refl) c.list.invariant c.in_err-parameter.ensures (stopped c.from_residual.ensures)

pub parameters::found_parameters-returns-in_err-push : goal.parameters::found_parameters-returns-in_err-push
parameters::found_parameters-returns-in_err-push t c =
    lacks_memory (longer_still _ _ _ c.list.invariant.grows c.in_ok-parameter.ensures.grows) (stopped c.from_residual-in_err-push.ensures)

pub parameters::found_parameters-list-preserved : goal.parameters::found_parameters-list-preserved
parameters::found_parameters-list-preserved t c =
    list_on (λ list. found.parameters list c.args.is_definition) ◌∷◌ (λ types all. map (found_of types) c.list.all.items ++ all) (λ types all. map (found_of types) c.push.new.self.items ++ all) c.args.list.now c.list.p-index c.p-item.result c.list-test.true c.p-item.is
    (λ types rest k. refl) c.list.invariant c.in_ok-parameter.ensures (λ types all. one_more (found_of types) c.list.all.items c.push.new.self.items c.in_ok-parameter.field-0 all c.in_ok-push.ensures.items)

pub parameters::found_parameters-returns : goal.parameters::found_parameters-returns
parameters::found_parameters-returns t c =
    list_end (λ list. found.parameters list c.args.is_definition) [] (λ types all. map (found_of types) c.list.all.items ++ all) c.args.list.now c.list.p-index c.list-test.false (λ k. refl) (λ types. all_alone (found_of types) c.list.all.items) c.list.invariant

pub parameters::parameter-returns-in_err-declared : goal.parameters::parameter-returns-in_err-declared
parameters::parameter-returns-in_err-declared t c =
    gives_then (λ types it. typing.declarator (declarator_of c.args.p.now.declarator) it false (d.parameter_faults c.args.is_definition) >>= (λ declared. found_end declared c.args.is_definition (s.is_register it))) c.in_ok-it.ensures (gives_stops (λ types declared. found_end declared c.args.is_definition (s.is_register (specified_of types c.in_ok-it.it))) c.in_err-declared.ensures (stopped c.from_residual-in_err-declared.ensures))

pub parameters::parameter-returns : goal.parameters::parameter-returns
parameters::parameter-returns t c =
    gives_then (λ types it. typing.declarator (declarator_of c.args.p.now.declarator) it false (d.parameter_faults c.args.is_definition) >>= (λ declared. found_end declared c.args.is_definition (s.is_register it))) c.in_ok-it.ensures (gives_then (λ types declared. found_end declared c.args.is_definition (s.is_register (specified_of types c.in_ok-it.it))) c.in_ok-declared.ensures
    (gives_so (λ types k. ap (λ b. found_end (declares_of types c.in_ok-declared.declared) c.args.is_definition b k) (c.is_register.ensures types)) c.end_parameter.ensures))
