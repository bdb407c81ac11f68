use Rattle.std.proofs.Common.{ap, ◌∙◌, max, ◌++◌}
use Rattle.lt_tree.specs.View.{expression_of, mark_of, type_of, member_of}
use Rattle.lt_tree.specs.Records.{maybe_in, specifiers_of, declarator_of, parts_in, expressions_in, marks_in, bindings_in, types_in, members_in, member_declarators_in, enumerators_in, parameter_list_in}
use Rattle.lt_tree.specs.Ids.{greatest_id, within, ids_in, ids_in_mark, ids_in_type, ids_in_member, ids_in_maybe, ids_in_specifiers, ids_in_declarator, ids_in_parts, ids_in_expressions, ids_in_marks, ids_in_bindings, ids_in_types, ids_in_members, ids_in_member_declarators, ids_in_enumerators, ids_in_parameter_list}
use Rattle.lt_tree.specs.Constants.{value_of}
use Rattle.lt_marks.proofs.Greatest.{preserved, joined}
use Rattle.lt_marks.proofs.GreatestRows.{call_ids, marked_ids, comma_ids, sizeof_ids, cast_ids, mark_ids, member_ids, struct_ids, enum_ids, listed_ids, open_ids}
use Rattle.lt_marks.proofs.ids.expression.+ids.Goals as goal

pub in_expressions-list-preserved : goal.in_expressions-list-preserved
in_expressions-list-preserved t c =
    preserved (λ xs. ids_in_expressions (expressions_in xs)) c.args.list.now c.list.e-index c.e-item.result c.list.best c.in_expression.result _ _ c.list-test.true c.e-item.is c.max-best.ensures
    (λ rest. joined c.in_expression.result (ids_in (expression_of c.e-item.result)) (ids_in_expressions (expressions_in rest)) c.in_expression.ensures) c.list.invariant

pub in_marks-list-preserved : goal.in_marks-list-preserved
in_marks-list-preserved t c =
    preserved (λ xs. ids_in_marks (marks_in xs)) c.args.list.now c.list.mark-index c.mark-item.result c.list.best c.in_mark.result _ _ c.list-test.true c.mark-item.is c.max-best.ensures
    (λ rest. joined c.in_mark.result (ids_in_mark (mark_of c.mark-item.result)) (ids_in_marks (marks_in rest)) c.in_mark.ensures) c.list.invariant

pub in_bindings-list-preserved : goal.in_bindings-list-preserved
in_bindings-list-preserved t c =
    preserved (λ xs. ids_in_bindings (bindings_in xs)) c.args.list.now c.list.binding-index c.binding-item.result c.list.best c.in_expression.result _ _ c.list-test.true c.binding-item.is c.max-best.ensures
    (λ rest. joined c.in_expression.result (ids_in (expression_of c.binding-item.result.value)) (ids_in_bindings (bindings_in rest)) c.in_expression.ensures) c.list.invariant

pub in_types-list-preserved : goal.in_types-list-preserved
in_types-list-preserved t c =
    preserved (λ xs. ids_in_types (types_in xs)) c.args.list.now c.list.ty-index c.ty-item.result c.list.best c.in_type.result _ _ c.list-test.true c.ty-item.is c.max-best.ensures
    (λ rest. joined c.in_type.result (ids_in_type (type_of c.ty-item.result)) (ids_in_types (types_in rest)) c.in_type.ensures) c.list.invariant

pub in_members-list-preserved : goal.in_members-list-preserved
in_members-list-preserved t c =
    preserved (λ xs. ids_in_members (members_in xs)) c.args.list.now c.list.member-index c.member-item.result c.list.best c.in_member.result _ _ c.list-test.true c.member-item.is c.max-best.ensures
    (λ rest. joined c.in_member.result (ids_in_member (member_of c.member-item.result)) (ids_in_members (members_in rest)) c.in_member.ensures) c.list.invariant

pub in_member_declarators-list-preserved : goal.in_member_declarators-list-preserved
in_member_declarators-list-preserved t c =
    preserved (λ xs. ids_in_member_declarators (member_declarators_in xs)) c.args.list.now c.list.member-index c.member-item.result c.list.best c.in_member_declarator.result _ _ c.list-test.true c.member-item.is c.max-best.ensures
    (λ rest. joined c.in_member_declarator.result (ids_in_declarator (declarator_of c.member-item.result.declarator) ++ ids_in_maybe (maybe_in c.member-item.result.width)) (ids_in_member_declarators (member_declarators_in rest)) c.in_member_declarator.ensures) c.list.invariant

pub in_enumerators-list-preserved : goal.in_enumerators-list-preserved
in_enumerators-list-preserved t c =
    preserved (λ xs. ids_in_enumerators (enumerators_in xs)) c.args.list.now c.list.enumerator-index c.enumerator-item.result c.list.best c.in_maybe.result _ _ c.list-test.true c.enumerator-item.is c.max-best.ensures
    (λ rest. joined c.in_maybe.result (ids_in_maybe (maybe_in c.enumerator-item.result.value)) (ids_in_enumerators (enumerators_in rest)) c.in_maybe.ensures) c.list.invariant

pub in_parameter_list-list-preserved : goal.in_parameter_list-list-preserved
in_parameter_list-list-preserved t c =
    preserved (λ xs. ids_in_parameter_list (parameter_list_in xs)) c.args.list.now c.list.parameter-index c.parameter-item.result c.list.best c.in_parameter.result _ _ c.list-test.true c.parameter-item.is c.max-best.ensures
    (λ rest. joined c.in_parameter.result (ids_in_specifiers (specifiers_of c.parameter-item.result.specifiers) ++ ids_in_declarator (declarator_of c.parameter-item.result.declarator)) (ids_in_parameter_list (parameter_list_in rest)) c.in_parameter.ensures) c.list.invariant

pub in_parts-list-preserved : goal.in_parts-list-preserved
in_parts-list-preserved t c =
    preserved (λ xs. ids_in_parts (parts_in xs)) c.args.list.now c.list.part-index c.part-item.result c.list.best c.in_part.result _ _ c.list-test.true c.part-item.is c.max-best.ensures
    (λ rest. c.in_part.ensures (parts_in rest)) c.list.invariant

pub in_expression-returns-in-Call : goal.in_expression-returns-in-Call
in_expression-returns-in-Call t c =
    c.max-in-Call.ensures
    ∙ call_ids c.args.e.now c.in-Call.callee c.in-Call.arguments c.in_expression-in-Call.result c.in_expressions.result c.in-Call.is
    (c.in_expression-in-Call.ensures ∙ ap (λ x. greatest_id (ids_in (expression_of x))) c.deref-in-Call.ensures)
    (c.in_expressions.ensures ∙ ap (λ xs. greatest_id (ids_in_expressions (expressions_in xs))) c.as_slice.ensures.value)

pub in_expression-returns-in-Marked : goal.in_expression-returns-in-Marked
in_expression-returns-in-Marked t c =
    c.max-in-Marked.ensures
    ∙ marked_ids c.args.e.now c.in-Marked.marks c.in-Marked.value c.in_marks.result c.in_expression-in-Marked.result c.in-Marked.is
    (c.in_marks.ensures ∙ ap (λ xs. greatest_id (ids_in_marks (marks_in xs))) c.as_slice-in-Marked.ensures.value)
    (c.in_expression-in-Marked.ensures ∙ ap (λ x. greatest_id (ids_in (expression_of x))) c.deref-in-Marked.ensures)

pub in_expression-returns-in-Comma : goal.in_expression-returns-in-Comma
in_expression-returns-in-Comma t c =
    c.in_expressions-in-Comma.ensures ∙ ap (λ xs. greatest_id (ids_in_expressions (expressions_in xs))) c.as_slice-in-Comma.ensures.value
    ∙ comma_ids c.args.e.now c.in-Comma.parts c.in-Comma.is

pub in_expression-returns-in-SizeofType : goal.in_expression-returns-in-SizeofType
in_expression-returns-in-SizeofType t c =
    c.in_type_name.ensures
    ∙ ap (λ name. greatest_id (ids_in_specifiers (specifiers_of name.specifiers) ++ ids_in_declarator (declarator_of name.declarator))) c.deref-in-SizeofType.ensures
    ∙ sizeof_ids c.args.e.now c.in-SizeofType.name c.in-SizeofType.is

pub in_expression-returns-in-Cast : goal.in_expression-returns-in-Cast
in_expression-returns-in-Cast t c =
    c.max-in-Cast.ensures
    ∙ cast_ids c.args.e.now c.in-Cast.name c.in-Cast.operand c.in_type_name-in-Cast.result c.in_expression-in-Cast.result c.in-Cast.is
    (c.in_type_name-in-Cast.ensures ∙ ap (λ name. greatest_id (ids_in_specifiers (specifiers_of name.specifiers) ++ ids_in_declarator (declarator_of name.declarator))) c.deref-in-Cast.ensures)
    (c.in_expression-in-Cast.ensures ∙ ap (λ x. greatest_id (ids_in (expression_of x))) c.deref-in-Cast-2.ensures)

pub in_mark-returns : goal.in_mark-returns
in_mark-returns t c =
    c.max.ensures ∙ ap (max c.in_expression.result) c.max-own.ensures
    ∙ mark_ids c.args.mark.now c.in_expression.result c.id_number.result c.in_bindings.result c.in_expression.ensures
    (c.id_number.ensures ∙ ap (λ w. within (value_of w)) c.as_slice.ensures)
    (c.in_bindings.ensures ∙ ap (λ xs. greatest_id (ids_in_bindings (bindings_in xs))) c.as_slice-2.ensures.value)

pub in_member-returns : goal.in_member-returns
in_member-returns t c =
    c.max.ensures
    ∙ member_ids c.args.member.now c.in_specifiers.result c.in_member_declarators.result c.in_specifiers.ensures
    (c.in_member_declarators.ensures ∙ ap (λ xs. greatest_id (ids_in_member_declarators (member_declarators_in xs))) c.as_slice.ensures.value)

pub in_type-returns-in-Struct : goal.in_type-returns-in-Struct
in_type-returns-in-Struct t c =
    c.in_members.ensures ∙ ap (λ xs. greatest_id (ids_in_members (members_in xs))) c.as_slice.ensures.value ∙ struct_ids c.args.ty.now _ c.in-Struct.members c.in-Struct.is

pub in_type-returns-in-Enum : goal.in_type-returns-in-Enum
in_type-returns-in-Enum t c =
    c.in_enumerators.ensures ∙ ap (λ xs. greatest_id (ids_in_enumerators (enumerators_in xs))) c.as_slice-in-Enum.ensures.value ∙ enum_ids c.args.ty.now _ c.in-Enum.enumerators c.in-Enum.is

pub in_parameters-returns-in-Listed : goal.in_parameters-returns-in-Listed
in_parameters-returns-in-Listed t c =
    c.in_parameter_list.ensures ∙ ap (λ xs. greatest_id (ids_in_parameter_list (parameter_list_in xs))) c.as_slice.ensures.value ∙ listed_ids c.args.parameters.now c.in-Listed.list c.in-Listed.is

pub in_parameters-returns-in-Open : goal.in_parameters-returns-in-Open
in_parameters-returns-in-Open t c =
    c.in_parameter_list-in-Open.ensures ∙ ap (λ xs. greatest_id (ids_in_parameter_list (parameter_list_in xs))) c.as_slice-in-Open.ensures.value ∙ open_ids c.args.parameters.now c.in-Open.list c.in-Open.is
