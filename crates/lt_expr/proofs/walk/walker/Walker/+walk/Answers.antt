use Rattle.std.proofs.Common.{refl, ap, ◌∙◌, arith}
use Rattle.lt_tree.specs.Records.{expressions_in, marks_in, bindings_in, types_in, parts_in}
use Rattle.lt_expr.specs.Walk.{walk_all, walk_marks, walk_bindings, walk_types, walk_parts}
use Rattle.lt_expr.proofs.WalkRows.{ok_then, walked_whole, declarator_left, mark_left, member_left, one_walked, two_walked, choice_walked, call_walked, comma_walked, marked_walked, sizeof_walked, cast_walked, struct_walked, enum_walked, walked_part, parameters_walked}
use Rattle.lt_expr.proofs.walk.walker.Walker.+walk.Goals as goal

pub expressions-returns : goal.expressions-returns
expressions-returns t c =
    walked_whole (λ xs. walk_all (expressions_in xs)) c.args.list.now c.expressions.at c.args.self.now c.expressions.self c.expressions-test.false c.expressions.invariant

pub marks-returns : goal.marks-returns
marks-returns t c =
    walked_whole (λ xs. walk_marks (marks_in xs)) c.args.list.now c.marks.at c.args.self.now c.marks.self c.marks-test.false c.marks.invariant

pub bindings-returns : goal.bindings-returns
bindings-returns t c =
    walked_whole (λ xs. walk_bindings (bindings_in xs)) c.args.list.now c.bindings.at c.args.self.now c.bindings.self c.bindings-test.false c.bindings.invariant

pub types-returns : goal.types-returns
types-returns t c =
    walked_whole (λ xs. walk_types (types_in xs)) c.args.list.now c.types.at c.args.self.now c.types.self c.types-test.false c.types.invariant

pub parts-returns : goal.parts-returns
parts-returns t c =
    walked_whole (λ xs. walk_parts (parts_in xs)) c.args.list.now c.parts.at c.args.self.now c.parts.self c.parts-test.false c.parts.invariant

pub operands-returns-in_ok-expressions-in-Call : goal.operands-returns-in_ok-expressions-in-Call
operands-returns-in_ok-expressions-in-Call t c =
    ok_then _ _ c.expression.ensures
    (call_walked c.args.e.now c.in-Call.callee c.in-Call.arguments _ _ c.args.self.now _ c.in-Call.is c.deref.ensures c.as_slice.ensures.value c.in_ok-expressions-in-Call.ensures)

pub operands-returns-in_ok-expression-in-Conditional-2 : goal.operands-returns-in_ok-expression-in-Conditional-2
operands-returns-in_ok-expression-in-Conditional-2 t c =
    ok_then _ _ c.expression-in-Conditional-3.ensures
    (choice_walked c.args.e.now c.in-Conditional.test c.in-Conditional.left c.in-Conditional.right _ _ _ c.args.self.now _ _ c.in-Conditional.is
    c.deref-in-Conditional-3.ensures c.deref-in-Conditional-2.ensures c.deref-in-Conditional.ensures c.in_ok-expression-in-Conditional.ensures c.in_ok-expression-in-Conditional-2.ensures)

pub operands-returns-in-SizeofType : goal.operands-returns-in-SizeofType
operands-returns-in-SizeofType t c =
    ok_then _ _ c.type_name.ensures (sizeof_walked c.args.e.now c.in-SizeofType.name _ c.args.self.now c.in-SizeofType.is c.deref-in-SizeofType.ensures)

pub operands-returns-in_ok-expression-in-Cast : goal.operands-returns-in_ok-expression-in-Cast
operands-returns-in_ok-expression-in-Cast t c =
    ok_then _ _ c.type_name-in-Cast.ensures
    (cast_walked c.args.e.now c.in-Cast.name c.in-Cast.operand _ _ c.args.self.now _ c.in-Cast.is c.deref-in-Cast-2.ensures c.deref-in-Cast.ensures c.in_ok-expression-in-Cast.ensures)

pub operands-returns-in-Comma : goal.operands-returns-in-Comma
operands-returns-in-Comma t c =
    ok_then _ _ c.expressions-in-Comma.ensures (comma_walked c.args.e.now c.in-Comma.parts _ c.args.self.now c.in-Comma.is c.as_slice-in-Comma.ensures.value)

pub operands-returns-in_ok-expression-in-Marked : goal.operands-returns-in_ok-expression-in-Marked
operands-returns-in_ok-expression-in-Marked t c =
    ok_then _ _ c.marks.ensures
    (marked_walked c.args.e.now c.in-Marked.marks c.in-Marked.value _ _ c.args.self.now _ c.in-Marked.is c.deref-in-Marked.ensures c.as_slice-in-Marked.ensures.value c.in_ok-expression-in-Marked.ensures)

pub operands-returns-in-Member : goal.operands-returns-in-Member
operands-returns-in-Member t c =
    ok_then _ _ c.expression-in-Member.ensures (one_walked c.args.e.now _ _ _ c.args.self.now c.in-Member.is c.deref-in-Member.ensures refl)

pub operands-returns-in-Arrow : goal.operands-returns-in-Arrow
operands-returns-in-Arrow t c =
    ok_then _ _ c.expression-in-Arrow.ensures (one_walked c.args.e.now _ _ _ c.args.self.now c.in-Arrow.is c.deref-in-Arrow.ensures refl)

pub operands-returns-in-PostInc : goal.operands-returns-in-PostInc
operands-returns-in-PostInc t c =
    ok_then _ _ c.expression-in-PostInc.ensures (one_walked c.args.e.now _ _ _ c.args.self.now c.in-PostInc.is c.deref-in-PostInc.ensures refl)

pub operands-returns-in-PostDec : goal.operands-returns-in-PostDec
operands-returns-in-PostDec t c =
    ok_then _ _ c.expression-in-PostDec.ensures (one_walked c.args.e.now _ _ _ c.args.self.now c.in-PostDec.is c.deref-in-PostDec.ensures refl)

pub operands-returns-in-PreInc : goal.operands-returns-in-PreInc
operands-returns-in-PreInc t c =
    ok_then _ _ c.expression-in-PreInc.ensures (one_walked c.args.e.now _ _ _ c.args.self.now c.in-PreInc.is c.deref-in-PreInc.ensures refl)

pub operands-returns-in-PreDec : goal.operands-returns-in-PreDec
operands-returns-in-PreDec t c =
    ok_then _ _ c.expression-in-PreDec.ensures (one_walked c.args.e.now _ _ _ c.args.self.now c.in-PreDec.is c.deref-in-PreDec.ensures refl)

pub operands-returns-in-Unary : goal.operands-returns-in-Unary
operands-returns-in-Unary t c =
    ok_then _ _ c.expression-in-Unary.ensures (one_walked c.args.e.now _ _ _ c.args.self.now c.in-Unary.is c.deref-in-Unary.ensures refl)

pub operands-returns-in-SizeofExpr : goal.operands-returns-in-SizeofExpr
operands-returns-in-SizeofExpr t c =
    ok_then _ _ c.expression-in-SizeofExpr.ensures (one_walked c.args.e.now _ _ _ c.args.self.now c.in-SizeofExpr.is c.deref-in-SizeofExpr.ensures refl)

pub operands-returns-in-Decide : goal.operands-returns-in-Decide
operands-returns-in-Decide t c =
    ok_then _ _ c.expression-in-Decide.ensures (one_walked c.args.e.now _ _ _ c.args.self.now c.in-Decide.is c.deref-in-Decide.ensures refl)

pub operands-returns-in-After : goal.operands-returns-in-After
operands-returns-in-After t c =
    ok_then _ _ c.expression-in-After.ensures (one_walked c.args.e.now _ _ _ c.args.self.now c.in-After.is c.deref-in-After.ensures refl)

pub operands-returns-in_ok-expression-in-Index : goal.operands-returns-in_ok-expression-in-Index
operands-returns-in_ok-expression-in-Index t c =
    ok_then _ _ c.expression-in-Index-2.ensures
    (two_walked c.args.e.now _ _ _ _ _ c.args.self.now _ c.in-Index.is c.deref-in-Index-2.ensures c.deref-in-Index.ensures c.in_ok-expression-in-Index.ensures refl)

pub operands-returns-in_ok-expression-in-Binary : goal.operands-returns-in_ok-expression-in-Binary
operands-returns-in_ok-expression-in-Binary t c =
    ok_then _ _ c.expression-in-Binary-2.ensures
    (two_walked c.args.e.now _ _ _ _ _ c.args.self.now _ c.in-Binary.is c.deref-in-Binary-2.ensures c.deref-in-Binary.ensures c.in_ok-expression-in-Binary.ensures refl)

pub operands-returns-in_ok-expression-in-Logical : goal.operands-returns-in_ok-expression-in-Logical
operands-returns-in_ok-expression-in-Logical t c =
    ok_then _ _ c.expression-in-Logical-2.ensures
    (two_walked c.args.e.now _ _ _ _ _ c.args.self.now _ c.in-Logical.is c.deref-in-Logical-2.ensures c.deref-in-Logical.ensures c.in_ok-expression-in-Logical.ensures refl)

pub operands-returns-in_ok-expression-in-Assign : goal.operands-returns-in_ok-expression-in-Assign
operands-returns-in_ok-expression-in-Assign t c =
    ok_then _ _ c.expression-in-Assign-2.ensures
    (two_walked c.args.e.now _ _ _ _ _ c.args.self.now _ c.in-Assign.is c.deref-in-Assign-2.ensures c.deref-in-Assign.ensures c.in_ok-expression-in-Assign.ensures refl)

pub mark-returns : goal.mark-returns
mark-returns t c =
    ok_then _ _ c.leave.ensures
    (mark_left c.args.mark.now c.args.self.now c.enter-start.new.self _ _ _ _ c.enter-start.ensures.start c.enter-start.ensures.left c.as_slice.ensures.value c.in_ok-bindings.ensures c.in_ok-expression.ensures)

pub member-returns : goal.member-returns
member-returns t c =
    ok_then _ _ c.leave.ensures
    (member_left c.args.member.now c.args.self.now c.enter-start.new.self _ _ _ _ c.enter-start.ensures.start c.enter-start.ensures.left c.as_slice.ensures.value c.in_ok-member_declarators.ensures c.in_ok-specifiers.ensures)

pub declarator-returns : goal.declarator-returns
declarator-returns t c =
    ok_then _ _ c.leave.ensures
    (declarator_left c.args.declarator.now.name c.args.declarator.now.parts.items _ _ c.args.self.now c.enter-start.new.self _ _ c.if-is_missing.false c.is_missing.ensures
    c.enter-start.ensures.start c.enter-start.ensures.left c.as_slice.ensures.value c.in_ok-parts.ensures)

pub parameters-returns-in-Listed : goal.parameters-returns-in-Listed
parameters-returns-in-Listed t c =
    ok_then _ _ c.parameter_list.ensures (parameters_walked c.args.parameters.now c.in-Listed.list _ c.args.self.now c.in-Listed.is c.as_slice.ensures.value)

pub type_specifier-returns-in-Struct : goal.type_specifier-returns-in-Struct
type_specifier-returns-in-Struct t c =
    ok_then _ _ c.members.ensures (struct_walked c.args.kind.now _ c.in-Struct.members _ c.args.self.now c.in-Struct.is c.as_slice.ensures.value)

pub type_specifier-returns-in-Enum : goal.type_specifier-returns-in-Enum
type_specifier-returns-in-Enum t c =
    ok_then _ _ c.enumerators.ensures (enum_walked c.args.kind.now _ c.in-Enum.enumerators _ c.args.self.now c.in-Enum.is c.as_slice-in-Enum.ensures.value)

pub parts-parts-preserved : goal.parts-parts-preserved
parts-parts-preserved t c =
    walked_part c.args.list.now c.parts.at c.index-list-at.result c.args.self.now c.parts.self c.part.new.self (omega arith) (omega arith) c.index-list-at.is c.parts.invariant c.in_ok-part.ensures
