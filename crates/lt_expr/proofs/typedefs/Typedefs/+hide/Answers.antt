use Rattle.std.proofs.Common.{refl, sym, ap, ◌∙◌, ◌∷◌, [], ◌++◌, append_assoc, arith}
use Rattle.lt_tree.specs.View.{mark_of, type_of, member_of}
use Rattle.lt_tree.specs.Records.{expressions_in, maybe_in, marks_in, bindings_in, specifiers_of, declarator_of, types_in, members_in, member_declarators_in, enumerators_in, parts_in}
use Rattle.lt_tree.specs.Scope as scope
use Rattle.lt_tree.specs.Scope.{hiding}
use Rattle.lt_expr.proofs.HideRows.{ok_then, row_more, names, both_hidden, call_hidden, comma_hidden, marked_hidden, sizeof_hidden, cast_hidden, mark_hidden, in_member, members_first, member_hidden, struct_hidden, enum_hidden, in_part, parts_first}
use Rattle.lt_expr.proofs.typedefs.Typedefs.+hide.Goals as goal

pub hide_expressions-expressions-preserved : goal.hide_expressions-expressions-preserved
hide_expressions-expressions-preserved t c =
    row_more (λ xs. scope.enumerators_in_all (expressions_in xs)) (names c.e-item.result) c.args.list.now c.expressions.e-index c.e-item.result c.expressions.self c.hide_expression.new.self _ c.expressions-test.true c.e-item.is
    refl c.in_ok-hide_expression.ensures c.expressions.invariant

pub hide_marks-marks-preserved : goal.hide_marks-marks-preserved
hide_marks-marks-preserved t c =
    row_more (λ xs. scope.enumerators_in_marks (marks_in xs)) (scope.enumerators_in_mark (mark_of c.mark-item.result)) c.args.list.now c.marks.mark-index c.mark-item.result c.marks.self c.hide_mark.new.self _ c.marks-test.true c.mark-item.is
    refl c.in_ok-hide_mark.ensures c.marks.invariant

pub hide_bindings-bindings-preserved : goal.hide_bindings-bindings-preserved
hide_bindings-bindings-preserved t c =
    row_more (λ xs. scope.enumerators_in_bindings (bindings_in xs)) (names c.binding-item.result.value) c.args.list.now c.bindings.binding-index c.binding-item.result c.bindings.self c.hide_expression.new.self _ c.bindings-test.true c.binding-item.is
    refl c.in_ok-hide_expression.ensures c.bindings.invariant

pub hide_types-types-preserved : goal.hide_types-types-preserved
hide_types-types-preserved t c =
    row_more (λ xs. scope.enumerators_in_types (types_in xs)) (scope.enumerators_in_type (type_of c.kind-item.result)) c.args.list.now c.types.kind-index c.kind-item.result c.types.self c.hide_type.new.self _ c.types-test.true c.kind-item.is
    refl c.in_ok-hide_type.ensures c.types.invariant

pub hide_parts-parts-preserved : goal.hide_parts-parts-preserved
hide_parts-parts-preserved t c =
    row_more (λ xs. scope.enumerators_in_parts (parts_in xs)) (in_part c.part-item.result) c.args.list.now c.parts.part-index c.part-item.result c.parts.self c.hide_part.new.self _ c.parts-test.true c.part-item.is
    (parts_first c.part-item.result _) c.in_ok-hide_part.ensures c.parts.invariant

pub hide_members-members-preserved : goal.hide_members-members-preserved
hide_members-members-preserved t c =
    row_more (λ xs. scope.enumerators_in_members (members_in xs)) (in_member (member_of c.member-item.result)) c.args.list.now c.members.member-index c.member-item.result c.members.self c.hide_member_declarators.new.self _ c.members-test.true c.member-item.is
    (members_first (member_of c.member-item.result) _) (c.in_ok-hide_member_declarators.ensures ∙ member_hidden c.member-item.result _ c.members.self _ c.as_slice.ensures.value c.in_ok-hide_specifiers.ensures) c.members.invariant

pub hide_member_declarators-declarators-preserved : goal.hide_member_declarators-declarators-preserved
hide_member_declarators-declarators-preserved t c =
    let one = scope.enumerators_in_parts (parts_in c.member-item.result.declarator.parts.items) in
    let other = scope.enumerators_in_maybe (maybe_in c.member-item.result.width) in
    row_more (λ xs. scope.enumerators_in_member_declarators (member_declarators_in xs)) (one ++ other) c.args.list.now c.declarators.member-index c.member-item.result c.declarators.self c.hide_maybe.new.self _
    c.declarators-test.true c.member-item.is refl
    (both_hidden one other c.declarators.self c.hide_parts.new.self c.hide_maybe.new.self (c.in_ok-hide_parts.ensures ∙ ap (λ xs. hiding (scope.enumerators_in_parts (parts_in xs)) c.declarators.self) c.as_slice.ensures.value) c.in_ok-hide_maybe.ensures)
    c.declarators.invariant

pub hide_enumerators-enumerators-preserved : goal.hide_enumerators-enumerators-preserved
hide_enumerators-enumerators-preserved t c =
    let value = scope.enumerators_in_maybe (maybe_in c.enumerator-item.result.value) in
    row_more (λ xs. scope.enumerators_of (enumerators_in xs)) (value ++ c.enumerator-item.result.name ∷ []) c.args.list.now c.enumerators.enumerator-index c.enumerator-item.result c.enumerators.self c.declare.new.self _
    c.enumerators-test.true c.enumerator-item.is (sym (append_assoc value (c.enumerator-item.result.name ∷ []) _))
    (both_hidden value (c.enumerator-item.result.name ∷ []) c.enumerators.self c.hide_maybe.new.self c.declare.new.self c.in_ok-hide_maybe.ensures c.in_ok-declare.ensures)
    c.enumerators.invariant

pub hide_mark-returns : goal.hide_mark-returns
hide_mark-returns t c =
    ok_then _ _ c.hide_bindings.ensures (mark_hidden c.args.mark.now _ c.args.self.now _ c.as_slice.ensures.value c.in_ok-hide_expression.ensures)

pub hide_type-returns-in-Struct : goal.hide_type-returns-in-Struct
hide_type-returns-in-Struct t c =
    ok_then _ _ c.hide_members.ensures (struct_hidden c.args.kind.now _ c.in-Struct.members _ c.args.self.now c.in-Struct.is c.as_slice.ensures.value)

pub hide_type-returns-in-Enum : goal.hide_type-returns-in-Enum
hide_type-returns-in-Enum t c =
    ok_then _ _ c.hide_enumerators.ensures (enum_hidden c.args.kind.now _ c.in-Enum.enumerators _ c.args.self.now c.in-Enum.is c.as_slice-in-Enum.ensures.value)

pub hide_expression-returns-in_ok-hide_expression-in-Call : goal.hide_expression-returns-in_ok-hide_expression-in-Call
hide_expression-returns-in_ok-hide_expression-in-Call t c =
    ok_then _ _ c.hide_expressions.ensures
    (call_hidden c.args.e.now c.in-Call.callee c.in-Call.arguments _ _ c.args.self.now _ c.in-Call.is c.deref.ensures c.as_slice.ensures.value c.in_ok-hide_expression-in-Call.ensures)

pub hide_expression-returns-in-SizeofType : goal.hide_expression-returns-in-SizeofType
hide_expression-returns-in-SizeofType t c =
    ok_then _ _ c.hide_type_name.ensures (sizeof_hidden c.args.e.now c.in-SizeofType.name _ c.args.self.now c.in-SizeofType.is c.deref-in-SizeofType.ensures)

pub hide_expression-returns-in_ok-hide_type_name-in-Cast : goal.hide_expression-returns-in_ok-hide_type_name-in-Cast
hide_expression-returns-in_ok-hide_type_name-in-Cast t c =
    ok_then _ _ c.hide_expression-in-Cast.ensures
    (cast_hidden c.args.e.now c.in-Cast.name c.in-Cast.operand _ _ c.args.self.now _ c.in-Cast.is c.deref-in-Cast.ensures c.deref-in-Cast-2.ensures c.in_ok-hide_type_name-in-Cast.ensures)

pub hide_expression-returns-in-Comma : goal.hide_expression-returns-in-Comma
hide_expression-returns-in-Comma t c =
    ok_then _ _ c.hide_expressions-in-Comma.ensures (comma_hidden c.args.e.now c.in-Comma.parts _ c.args.self.now c.in-Comma.is c.as_slice-in-Comma.ensures.value)

pub hide_expression-returns-in_ok-hide_marks-in-Marked : goal.hide_expression-returns-in_ok-hide_marks-in-Marked
hide_expression-returns-in_ok-hide_marks-in-Marked t c =
    ok_then _ _ c.hide_expression-in-Marked.ensures
    (marked_hidden c.args.e.now c.in-Marked.marks c.in-Marked.value _ _ c.args.self.now _ c.in-Marked.is c.deref-in-Marked.ensures c.as_slice-in-Marked.ensures.value c.in_ok-hide_marks-in-Marked.ensures)
