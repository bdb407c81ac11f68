use Rattle.std.proofs.Common.{◌≡◌, ap, sym, ◌∙◌, refl, drop, []}
use Rattle.std.proofs.lemmas.List.{drop_all}
use Rattle.lt_tree.specs.declared.specifier.MemberDeclarator.{MemberDeclarator}
use Rattle.lt_tree.specs.declared.specifier.Enumerator.{Enumerator}
use Rattle.lt_tree.specs.declared.declarator.Parameter.{Parameter}
use Rattle.lt_tree.specs.Tree as t
use Rattle.lt_tree.specs.View.{expression_of, type_of, member_of, part_before}
use Rattle.lt_tree.specs.Records.{expressions_in, maybe_in, specifiers_of, declarator_of, types_in, members_in, member_declarators_in, enumerators_in, parts_in, parameter_list_in}
use Rattle.lt_tree.specs.Erasure.{erased_expressions, erased_types, erased_members, erased_member_declarators, erased_enumerators, erased_parts, erased_parameter_list}
use Rattle.lt_marks.proofs.Made.{before, before_end, both, made}
use Rattle.lt_marks.proofs.ErasedRows.{call_erased, comma_erased, sizeof_erased, cast_erased, struct_erased, enum_erased, member_erased, listed_erased, open_erased}
use Rattle.lt_marks.proofs.erasure.+erasure.Goals as goal

pub expression::expressions-list-preserved : goal.expression::expressions-list-preserved
expression::expressions-list-preserved t' c =
    made (λ e. t.an_expression (expression_of e)) (λ xs. erased_expressions (expressions_in xs)) c.args.list.now c.list.e-index c.e-item.result c.list.all.items _ c.in_ok-expression.field-0 _
    c.list-test.true c.e-item.is c.in_ok-push.ensures.items (λ rest. ap (λ e. t.an_expression e (erased_expressions (expressions_in rest))) (sym c.in_ok-expression.ensures)) c.list.invariant

pub expression::expressions-returns : goal.expression::expressions-returns
expression::expressions-returns t' c =
    let none : drop c.list.e-index c.args.list.now ≡ [] = drop_all c.list.e-index c.args.list.now c.list-test.false in
    sym (before_end (λ e. t.an_expression (expression_of e)) expressions_in (λ x xs. refl) c.list.all.items)
    ∙ sym (ap (λ xs. before (λ e. t.an_expression (expression_of e)) c.list.all.items (erased_expressions (expressions_in xs))) none) ∙ c.list.invariant

pub specifier::types-list-preserved : goal.specifier::types-list-preserved
specifier::types-list-preserved t' c =
    made (λ e. t.a_type (type_of e)) (λ xs. erased_types (types_in xs)) c.args.list.now c.list.each-index c.each-item.result c.list.all.items _ c.in_ok-type_specifier.field-0 _
    c.list-test.true c.each-item.is c.in_ok-push.ensures.items (λ rest. ap (λ e. t.a_type e (erased_types (types_in rest))) (sym c.in_ok-type_specifier.ensures)) c.list.invariant

pub specifier::types-returns : goal.specifier::types-returns
specifier::types-returns t' c =
    let none : drop c.list.each-index c.args.list.now ≡ [] = drop_all c.list.each-index c.args.list.now c.list-test.false in
    sym (before_end (λ e. t.a_type (type_of e)) types_in (λ x xs. refl) c.list.all.items)
    ∙ sym (ap (λ xs. before (λ e. t.a_type (type_of e)) c.list.all.items (erased_types (types_in xs))) none) ∙ c.list.invariant

pub specifier::members-list-preserved : goal.specifier::members-list-preserved
specifier::members-list-preserved t' c =
    made (λ e. t.a_member (member_of e)) (λ xs. erased_members (members_in xs)) c.args.list.now c.list.each-index c.each-item.result c.list.all.items _ c.in_ok-member.field-0 _
    c.list-test.true c.each-item.is c.in_ok-push.ensures.items (λ rest. ap (λ e. t.a_member e (erased_members (members_in rest))) (sym c.in_ok-member.ensures)) c.list.invariant

pub specifier::members-returns : goal.specifier::members-returns
specifier::members-returns t' c =
    let none : drop c.list.each-index c.args.list.now ≡ [] = drop_all c.list.each-index c.args.list.now c.list-test.false in
    sym (before_end (λ e. t.a_member (member_of e)) members_in (λ x xs. refl) c.list.all.items)
    ∙ sym (ap (λ xs. before (λ e. t.a_member (member_of e)) c.list.all.items (erased_members (members_in xs))) none) ∙ c.list.invariant

pub specifier::member_declarators-list-preserved : goal.specifier::member_declarators-list-preserved
specifier::member_declarators-list-preserved t' c =
    made (λ (e : MemberDeclarator). t.a_declarator (declarator_of e.declarator) (maybe_in e.width)) (λ xs. erased_member_declarators (member_declarators_in xs)) c.args.list.now c.list.each-index c.each-item.result c.list.all.items _ c.in_ok-member_declarator.field-0 _
    c.list-test.true c.each-item.is c.in_ok-push.ensures.items (λ rest. both (λ d w. t.a_declarator d w (erased_member_declarators (member_declarators_in rest))) _ _ _ _ (sym c.in_ok-member_declarator.ensures.declarator) (sym c.in_ok-member_declarator.ensures.width)) c.list.invariant

pub specifier::member_declarators-returns : goal.specifier::member_declarators-returns
specifier::member_declarators-returns t' c =
    let none : drop c.list.each-index c.args.list.now ≡ [] = drop_all c.list.each-index c.args.list.now c.list-test.false in
    sym (before_end (λ (e : MemberDeclarator). t.a_declarator (declarator_of e.declarator) (maybe_in e.width)) member_declarators_in (λ x xs. refl) c.list.all.items)
    ∙ sym (ap (λ xs. before (λ (e : MemberDeclarator). t.a_declarator (declarator_of e.declarator) (maybe_in e.width)) c.list.all.items (erased_member_declarators (member_declarators_in xs))) none) ∙ c.list.invariant

pub specifier::enumerators-list-preserved : goal.specifier::enumerators-list-preserved
specifier::enumerators-list-preserved t' c =
    made (λ (e : Enumerator). t.an_enumerator e.name (maybe_in e.value)) (λ xs. erased_enumerators (enumerators_in xs)) c.args.list.now c.list.each-index c.each-item.result c.list.all.items _ c.in_ok-enumerator.field-0 _
    c.list-test.true c.each-item.is c.in_ok-push.ensures.items (λ rest. both (λ n v. t.an_enumerator n v (erased_enumerators (enumerators_in rest))) _ _ _ _ (sym c.in_ok-enumerator.ensures.name) (sym c.in_ok-enumerator.ensures.value)) c.list.invariant

pub specifier::enumerators-returns : goal.specifier::enumerators-returns
specifier::enumerators-returns t' c =
    let none : drop c.list.each-index c.args.list.now ≡ [] = drop_all c.list.each-index c.args.list.now c.list-test.false in
    sym (before_end (λ (e : Enumerator). t.an_enumerator e.name (maybe_in e.value)) enumerators_in (λ x xs. refl) c.list.all.items)
    ∙ sym (ap (λ xs. before (λ (e : Enumerator). t.an_enumerator e.name (maybe_in e.value)) c.list.all.items (erased_enumerators (enumerators_in xs))) none) ∙ c.list.invariant

pub declarator::parts-list-preserved : goal.declarator::parts-list-preserved
declarator::parts-list-preserved t' c =
    made (part_before) (λ xs. erased_parts (parts_in xs)) c.args.list.now c.list.each-index c.each-item.result c.list.all.items _ c.in_ok-part.field-0 _
    c.list-test.true c.each-item.is c.in_ok-push.ensures.items (λ rest. sym (c.in_ok-part.ensures (parts_in rest))) c.list.invariant

pub declarator::parts-returns : goal.declarator::parts-returns
declarator::parts-returns t' c =
    let none : drop c.list.each-index c.args.list.now ≡ [] = drop_all c.list.each-index c.args.list.now c.list-test.false in
    sym (before_end (part_before) parts_in (λ x xs. refl) c.list.all.items)
    ∙ sym (ap (λ xs. before (part_before) c.list.all.items (erased_parts (parts_in xs))) none) ∙ c.list.invariant

pub declarator::parameter_list-list-preserved : goal.declarator::parameter_list-list-preserved
declarator::parameter_list-list-preserved t' c =
    made (λ (e : Parameter). t.a_parameter (specifiers_of e.specifiers) (declarator_of e.declarator)) (λ xs. erased_parameter_list (parameter_list_in xs)) c.args.list.now c.list.each-index c.each-item.result c.list.all.items _ c.in_ok-parameter.field-0 _
    c.list-test.true c.each-item.is c.in_ok-push.ensures.items (λ rest. both (λ s d. t.a_parameter s d (erased_parameter_list (parameter_list_in rest))) _ _ _ _ (sym c.in_ok-parameter.ensures.specifiers) (sym c.in_ok-parameter.ensures.declarator)) c.list.invariant

pub declarator::parameter_list-returns : goal.declarator::parameter_list-returns
declarator::parameter_list-returns t' c =
    let none : drop c.list.each-index c.args.list.now ≡ [] = drop_all c.list.each-index c.args.list.now c.list-test.false in
    sym (before_end (λ (e : Parameter). t.a_parameter (specifiers_of e.specifiers) (declarator_of e.declarator)) parameter_list_in (λ x xs. refl) c.list.all.items)
    ∙ sym (ap (λ xs. before (λ (e : Parameter). t.a_parameter (specifiers_of e.specifiers) (declarator_of e.declarator)) c.list.all.items (erased_parameter_list (parameter_list_in xs))) none) ∙ c.list.invariant

pub specifier::type_specifier-returns-in-Struct : goal.specifier::type_specifier-returns-in-Struct
specifier::type_specifier-returns-in-Struct t' c = struct_erased _ _ _ _ _ c.in-Struct.is c.as_slice.ensures.value c.struct_with.ensures

pub specifier::type_specifier-returns-in-Enum : goal.specifier::type_specifier-returns-in-Enum
specifier::type_specifier-returns-in-Enum t' c = enum_erased _ _ _ _ _ c.in-Enum.is c.as_slice-in-Enum.ensures.value c.enum_with.ensures

pub specifier::member-returns : goal.specifier::member-returns
specifier::member-returns t' c = member_erased c.args.member.now _ c.in_ok-specifiers.specifiers _ _ c.member.ensures c.in_ok-specifiers.ensures c.as_slice.ensures.value c.in_ok-declarators.ensures

pub declarator::parameters-returns-in_ok-parameter_list-in-Listed : goal.declarator::parameters-returns-in_ok-parameter_list-in-Listed
declarator::parameters-returns-in_ok-parameter_list-in-Listed t' c = c.listed.ensures ∙ listed_erased _ _ _ _ c.in-Listed.is c.as_slice.ensures.value c.in_ok-parameter_list-in-Listed.ensures

pub declarator::parameters-returns-in_ok-parameter_list-in-Open : goal.declarator::parameters-returns-in_ok-parameter_list-in-Open
declarator::parameters-returns-in_ok-parameter_list-in-Open t' c = c.open.ensures ∙ open_erased _ _ _ _ c.in-Open.is c.as_slice-in-Open.ensures.value c.in_ok-parameter_list-in-Open.ensures

pub expression::expression-returns-in_ok-expressions-in-Call : goal.expression::expression-returns-in_ok-expressions-in-Call
expression::expression-returns-in_ok-expressions-in-Call t' c =
    call_erased c.args.e.now c.in-Call.callee c.in_ok-callee-in-Call.callee c.in-Call.arguments c.in_ok-expressions-in-Call.field-0 _ _ c.in-Call.is c.deref-in-Call.ensures c.as_slice.ensures.value
    c.in_ok-callee-in-Call.ensures c.in_ok-expressions-in-Call.ensures

pub expression::expression-returns-in_ok-expressions-in-Comma : goal.expression::expression-returns-in_ok-expressions-in-Comma
expression::expression-returns-in_ok-expressions-in-Comma t' c = comma_erased _ _ _ _ _ c.in-Comma.is c.as_slice-in-Comma.ensures.value c.in_ok-expressions-in-Comma.ensures c.comma.ensures

pub expression::expression-returns-in_ok-boxed_type_name-in-SizeofType : goal.expression::expression-returns-in_ok-boxed_type_name-in-SizeofType
expression::expression-returns-in_ok-boxed_type_name-in-SizeofType t' c =
    sizeof_erased c.args.e.now c.in-SizeofType.name c.in_ok-boxed_type_name-in-SizeofType.field-0 _ c.in-SizeofType.is c.deref-in-SizeofType.ensures
    c.in_ok-boxed_type_name-in-SizeofType.ensures.specifiers c.in_ok-boxed_type_name-in-SizeofType.ensures.declarator

pub expression::expression-returns-in_ok-boxed-in-Cast : goal.expression::expression-returns-in_ok-boxed-in-Cast
expression::expression-returns-in_ok-boxed-in-Cast t' c =
    cast_erased c.args.e.now c.in-Cast.name c.in_ok-name-in-Cast.name c.in-Cast.operand c.in_ok-boxed-in-Cast.field-0 _ _ c.in-Cast.is c.deref-in-Cast.ensures c.deref-in-Cast-2.ensures
    c.in_ok-name-in-Cast.ensures.specifiers c.in_ok-name-in-Cast.ensures.declarator c.in_ok-boxed-in-Cast.ensures
