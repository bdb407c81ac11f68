use Rattle.std.proofs.Common.{suc, subst, ◌+◌, refl, ap, ap₂, sym, ◌∙◌, ◌∷◌, ◌++◌, length-append, arith}
use Rattle.lt_tree.specs.declared.mark.Binding.{Binding}
use Rattle.lt_tree.specs.declared.specifier.MemberDeclarator.{MemberDeclarator}
use Rattle.lt_tree.specs.declared.specifier.Enumerator.{Enumerator}
use Rattle.lt_tree.specs.declared.declarator.Parameter.{Parameter}
use Rattle.lt_tree.specs.declared.declarator.Declarator.{Declarator}
use Rattle.lt_tree.specs.declared.declarator.DeclaratorPart.TheVariants as part
use Rattle.lt_tree.specs.declared.declarator.DeclaratorPart.TheViews as views
use Rattle.lt_tree.specs.declared.expression.Expr.TheVariants as variant
use Rattle.lt_tree.specs.declared.specifier.Specifiers.{Specifiers}
use Rattle.lt_tree.specs.declared.specifier.TypeName.{TypeName}
use Rattle.lt_tree.specs.Tree as t
use Rattle.lt_tree.specs.View.{expression_of, mark_of, type_of, member_of, part_before, parameters_of}
use Rattle.lt_tree.specs.Records.{expressions_in, marks_in, bindings_in, maybe_in, specifiers_of, declarator_of, types_in, members_in, member_declarators_in, enumerators_in, parts_in, parameter_list_in}
use Rattle.lt_tree.specs.Nodes.{an_enumerator, in_expression, in_expressions, in_marks, in_mark, in_bindings, in_types, in_type, in_members, in_member_declarators, in_maybe, in_enumerators, in_parts, in_parameters, in_parameter_list, in_specifiers, in_declarator}
use Rattle.lt_objectives.specs.Marked.{within_all, with_marks}
use Rattle.lt_placing.specs.Walks.{in_member, in_first_part}
use Rattle.lt_placing.proofs.Loops.{begun, further, finished, turn, turn_two}
use Rattle.lt_placing.proofs.Openings.{members_sized, parts_sized}
use Rattle.lt_placing.proofs.Standing.{stands}
use Rattle.lt_placing.proofs.Sequences.{lone_part, empty_part, two_parts}
use Rattle.lt_placing.proofs.Copied.{pair_copied, specifiers_copied, declarator_copied, type_given, PartCopied, array_copied}
use Rattle.lt_placing.proofs.Withins.{copy, whole, marked, leaf, one, two, one_within, two_within, one_given, conditional, cast, sizeof, behind_marks}
use Rattle.lt_tree.proofs.Rows.{call_is, comma_is, marked_is, sizeof_is, cast_is, mark_out, member_out, struct_is, enum_is, listed_is, open_is}
use Rattle.lt_placing.proofs.+expressions.Goals as goal

pub expression::expressions-list-init : goal.expression::expressions-list-init
expression::expressions-list-init t' c = begun (λ y. t.an_expression (expression_of y)) (λ new k xs. within_all new k (expressions_in xs)) (λ xs. in_expressions (expressions_in xs)) _ _ _ c.new-all.ensures.items

pub expression::expressions-list-preserved : goal.expression::expressions-list-preserved
expression::expressions-list-preserved t' c =
    further (λ y. t.an_expression (expression_of y)) (λ new k xs. within_all new k (expressions_in xs)) (λ xs. in_expressions (expressions_in xs)) _ _ _ c.args.list.now c.list.e-index c.e-item.result c.list.all.items _ c.in_ok-expression.field-0
    (in_expression (expression_of c.e-item.result)) c.list-test.true c.e-item.is c.in_ok-push.ensures.items (λ rest. length-append _ _)
    (turn (λ new k xs. within_all new k (expressions_in xs)) t.an_expression _ _ _ (λ new k. with_marks new k (expression_of c.e-item.result)) _ c.in_ok-expression.ensures) c.list.invariant

pub expression::expressions-returns : goal.expression::expressions-returns
expression::expressions-returns t' c =
    finished (λ y. t.an_expression (expression_of y)) (λ new k xs. within_all new k (expressions_in xs)) (λ xs. in_expressions (expressions_in xs)) _ _ expressions_in c.args.list.now c.list.e-index c.list.all.items c.list-test.false (λ new j. refl) (λ y ys. refl) refl c.list.invariant

pub label::marks-list-init : goal.label::marks-list-init
label::marks-list-init t' c = begun (λ y. t.a_mark (mark_of y)) (λ new k xs. marks_in xs) (λ xs. in_marks (marks_in xs)) _ _ _ c.new-all.ensures.items

pub label::marks-list-preserved : goal.label::marks-list-preserved
label::marks-list-preserved t' c =
    further (λ y. t.a_mark (mark_of y)) (λ new k xs. marks_in xs) (λ xs. in_marks (marks_in xs)) _ _ _ c.args.list.now c.list.each-index c.each-item.result c.list.all.items _ c.in_ok-mark.field-0
    (in_mark (mark_of c.each-item.result)) c.list-test.true c.each-item.is c.in_ok-push.ensures.items (λ rest. length-append _ _)
    (turn (λ new k xs. marks_in xs) t.a_mark _ _ _ (λ new k. mark_of c.each-item.result) _ c.in_ok-mark.ensures) c.list.invariant

pub label::marks-returns : goal.label::marks-returns
label::marks-returns t' c =
    finished (λ y. t.a_mark (mark_of y)) (λ new k xs. marks_in xs) (λ xs. in_marks (marks_in xs)) _ _ marks_in c.args.list.now c.list.each-index c.list.all.items c.list-test.false (λ new j. refl) (λ y ys. refl) refl c.list.invariant

pub label::bindings-list-init : goal.label::bindings-list-init
label::bindings-list-init t' c = begun (λ (y : Binding). t.a_binding y.name (expression_of y.value)) (λ new k xs. bindings_in xs) (λ xs. in_bindings (bindings_in xs)) _ _ _ c.new-all.ensures.items

pub label::bindings-list-preserved : goal.label::bindings-list-preserved
label::bindings-list-preserved t' c =
    further (λ (y : Binding). t.a_binding y.name (expression_of y.value)) (λ new k xs. bindings_in xs) (λ xs. in_bindings (bindings_in xs)) _ _ _ c.args.list.now c.list.each-index c.each-item.result c.list.all.items _ c.in_ok-binding.field-0
    (in_expression (expression_of c.each-item.result.value)) c.list-test.true c.each-item.is c.in_ok-push.ensures.items (λ rest. length-append _ _)
    (turn_two bindings_in (λ n e rest. t.a_binding n e rest) _ _ _ _ _ _ _ c.in_ok-binding.ensures) c.list.invariant

pub label::bindings-returns : goal.label::bindings-returns
label::bindings-returns t' c =
    finished (λ (y : Binding). t.a_binding y.name (expression_of y.value)) (λ new k xs. bindings_in xs) (λ xs. in_bindings (bindings_in xs)) _ _ bindings_in c.args.list.now c.list.each-index c.list.all.items c.list-test.false (λ new j. refl) (λ y ys. refl) refl c.list.invariant

pub specifier::types-list-init : goal.specifier::types-list-init
specifier::types-list-init t' c = begun (λ y. t.a_type (type_of y)) (λ new k xs. types_in xs) (λ xs. in_types (types_in xs)) _ _ _ c.new-all.ensures.items

pub specifier::types-list-preserved : goal.specifier::types-list-preserved
specifier::types-list-preserved t' c =
    further (λ y. t.a_type (type_of y)) (λ new k xs. types_in xs) (λ xs. in_types (types_in xs)) _ _ _ c.args.list.now c.list.each-index c.each-item.result c.list.all.items _ c.in_ok-type_specifier.field-0
    (in_type (type_of c.each-item.result)) c.list-test.true c.each-item.is c.in_ok-push.ensures.items (λ rest. length-append _ _)
    (turn (λ new k xs. types_in xs) t.a_type _ _ _ (λ new k. type_of c.each-item.result) _ c.in_ok-type_specifier.ensures) c.list.invariant

pub specifier::types-returns : goal.specifier::types-returns
specifier::types-returns t' c =
    finished (λ y. t.a_type (type_of y)) (λ new k xs. types_in xs) (λ xs. in_types (types_in xs)) _ _ types_in c.args.list.now c.list.each-index c.list.all.items c.list-test.false (λ new j. refl) (λ y ys. refl) refl c.list.invariant

pub specifier::members-list-init : goal.specifier::members-list-init
specifier::members-list-init t' c = begun (λ y. t.a_member (member_of y)) (λ new k xs. members_in xs) (λ xs. in_members (members_in xs)) _ _ _ c.new-all.ensures.items

pub specifier::members-list-preserved : goal.specifier::members-list-preserved
specifier::members-list-preserved t' c =
    further (λ y. t.a_member (member_of y)) (λ new k xs. members_in xs) (λ xs. in_members (members_in xs)) _ _ _ c.args.list.now c.list.each-index c.each-item.result c.list.all.items _ c.in_ok-member.field-0
    (in_member (member_of c.each-item.result)) c.list-test.true c.each-item.is c.in_ok-push.ensures.items (λ rest. members_sized c.each-item.result rest)
    (turn (λ new k xs. members_in xs) t.a_member _ _ _ (λ new k. member_of c.each-item.result) _ c.in_ok-member.ensures) c.list.invariant

pub specifier::members-returns : goal.specifier::members-returns
specifier::members-returns t' c =
    finished (λ y. t.a_member (member_of y)) (λ new k xs. members_in xs) (λ xs. in_members (members_in xs)) _ _ members_in c.args.list.now c.list.each-index c.list.all.items c.list-test.false (λ new j. refl) (λ y ys. refl) refl c.list.invariant

pub specifier::member_declarators-list-init : goal.specifier::member_declarators-list-init
specifier::member_declarators-list-init t' c = begun (λ (y : MemberDeclarator). t.a_declarator (declarator_of y.declarator) (maybe_in y.width)) (λ new k xs. member_declarators_in xs) (λ xs. in_member_declarators (member_declarators_in xs)) _ _ _ c.new-all.ensures.items

pub specifier::member_declarators-list-preserved : goal.specifier::member_declarators-list-preserved
specifier::member_declarators-list-preserved t' c =
    further (λ (y : MemberDeclarator). t.a_declarator (declarator_of y.declarator) (maybe_in y.width)) (λ new k xs. member_declarators_in xs) (λ xs. in_member_declarators (member_declarators_in xs)) _ _ _ c.args.list.now c.list.each-index c.each-item.result c.list.all.items _ c.in_ok-member_declarator.field-0
    (in_declarator (declarator_of c.each-item.result.declarator) ++ in_maybe (maybe_in c.each-item.result.width)) c.list-test.true c.each-item.is c.in_ok-push.ensures.items (λ rest. length-append _ _)
    (turn_two member_declarators_in (λ d w rest. t.a_declarator d w rest) _ _ _ _ _ _ _ c.in_ok-member_declarator.ensures) c.list.invariant

pub specifier::member_declarators-returns : goal.specifier::member_declarators-returns
specifier::member_declarators-returns t' c =
    finished (λ (y : MemberDeclarator). t.a_declarator (declarator_of y.declarator) (maybe_in y.width)) (λ new k xs. member_declarators_in xs) (λ xs. in_member_declarators (member_declarators_in xs)) _ _ member_declarators_in c.args.list.now c.list.each-index c.list.all.items c.list-test.false (λ new j. refl) (λ y ys. refl) refl c.list.invariant

pub specifier::enumerators-list-init : goal.specifier::enumerators-list-init
specifier::enumerators-list-init t' c = begun (λ (y : Enumerator). t.an_enumerator y.name (maybe_in y.value)) (λ new k xs. enumerators_in xs) (λ xs. in_enumerators (enumerators_in xs)) _ _ _ c.new-all.ensures.items

pub specifier::enumerators-list-preserved : goal.specifier::enumerators-list-preserved
specifier::enumerators-list-preserved t' c =
    further (λ (y : Enumerator). t.an_enumerator y.name (maybe_in y.value)) (λ new k xs. enumerators_in xs) (λ xs. in_enumerators (enumerators_in xs)) _ _ _ c.args.list.now c.list.each-index c.each-item.result c.list.all.items _ c.in_ok-enumerator.field-0
    (an_enumerator c.each-item.result.name (maybe_in c.each-item.result.value) ∷ in_maybe (maybe_in c.each-item.result.value)) c.list-test.true c.each-item.is c.in_ok-push.ensures.items (λ rest. length-append (an_enumerator c.each-item.result.name (maybe_in c.each-item.result.value) ∷ in_maybe (maybe_in c.each-item.result.value)) (in_enumerators (enumerators_in rest)))
    (turn_two enumerators_in (λ n v rest. t.an_enumerator n v rest) _ _ _ _ _ _ (an_enumerator c.each-item.result.name (maybe_in c.each-item.result.value) ∷ in_maybe (maybe_in c.each-item.result.value)) c.in_ok-enumerator.ensures) c.list.invariant

pub specifier::enumerators-returns : goal.specifier::enumerators-returns
specifier::enumerators-returns t' c =
    finished (λ (y : Enumerator). t.an_enumerator y.name (maybe_in y.value)) (λ new k xs. enumerators_in xs) (λ xs. in_enumerators (enumerators_in xs)) _ _ enumerators_in c.args.list.now c.list.each-index c.list.all.items c.list-test.false (λ new j. refl) (λ y ys. refl) refl c.list.invariant

pub declarator::parts-list-init : goal.declarator::parts-list-init
declarator::parts-list-init t' c = begun part_before (λ new k xs. parts_in xs) (λ xs. in_parts (parts_in xs)) _ _ _ c.new-all.ensures.items

pub declarator::parts-list-preserved : goal.declarator::parts-list-preserved
declarator::parts-list-preserved t' c =
    further part_before (λ new k xs. parts_in xs) (λ xs. in_parts (parts_in xs)) _ _ _ c.args.list.now c.list.each-index c.each-item.result c.list.all.items _ c.in_ok-part.field-0
    (in_first_part (part_before c.each-item.result t.no_parts)) c.list-test.true c.each-item.is c.in_ok-push.ensures.items (λ rest. parts_sized c.each-item.result rest)
    (λ new k at. let so = c.in_ok-part.ensures new k at in ((λ rest. sym (so.0 (parts_in rest))), so.1)) c.list.invariant

pub declarator::parts-returns : goal.declarator::parts-returns
declarator::parts-returns t' c =
    finished part_before (λ new k xs. parts_in xs) (λ xs. in_parts (parts_in xs)) _ _ parts_in c.args.list.now c.list.each-index c.list.all.items c.list-test.false (λ new j. refl) (λ y ys. refl) refl c.list.invariant

pub declarator::parameter_list-list-init : goal.declarator::parameter_list-list-init
declarator::parameter_list-list-init t' c = begun (λ (y : Parameter). t.a_parameter (specifiers_of y.specifiers) (declarator_of y.declarator)) (λ new k xs. parameter_list_in xs) (λ xs. in_parameter_list (parameter_list_in xs)) _ _ _ c.new-all.ensures.items

pub declarator::parameter_list-list-preserved : goal.declarator::parameter_list-list-preserved
declarator::parameter_list-list-preserved t' c =
    further (λ (y : Parameter). t.a_parameter (specifiers_of y.specifiers) (declarator_of y.declarator)) (λ new k xs. parameter_list_in xs) (λ xs. in_parameter_list (parameter_list_in xs)) _ _ _ c.args.list.now c.list.each-index c.each-item.result c.list.all.items _ c.in_ok-parameter.field-0
    (in_specifiers (specifiers_of c.each-item.result.specifiers) ++ in_declarator (declarator_of c.each-item.result.declarator)) c.list-test.true c.each-item.is c.in_ok-push.ensures.items (λ rest. length-append _ _)
    (turn_two parameter_list_in (λ s d rest. t.a_parameter s d rest) _ _ _ _ _ _ _ c.in_ok-parameter.ensures) c.list.invariant

pub declarator::parameter_list-returns : goal.declarator::parameter_list-returns
declarator::parameter_list-returns t' c =
    finished (λ (y : Parameter). t.a_parameter (specifiers_of y.specifiers) (declarator_of y.declarator)) (λ new k xs. parameter_list_in xs) (λ xs. in_parameter_list (parameter_list_in xs)) _ _ parameter_list_in c.args.list.now c.list.each-index c.list.all.items c.list-test.false (λ new j. refl) (λ y ys. refl) refl c.list.invariant

pub expression::within-returns-in_ok-copy-in-Name : goal.expression::within-returns-in_ok-copy-in-Name
expression::within-returns-in_ok-copy-in-Name t' c =
    leaf _ (variant.Name c.in_ok-copy-in-Name.field-0) _ (t.Name c.in-Name.word) (ap expression_of c.in-Name.is) (ap t.Name c.in_ok-copy-in-Name.ensures) (λ new k. refl) refl

pub expression::within-returns-in_ok-copy-in-Constant : goal.expression::within-returns-in_ok-copy-in-Constant
expression::within-returns-in_ok-copy-in-Constant t' c =
    leaf _ (variant.Constant c.in_ok-copy-in-Constant.field-0) _ (t.Constant c.in-Constant.text) (ap expression_of c.in-Constant.is) (ap t.Constant c.in_ok-copy-in-Constant.ensures) (λ new k. refl) refl

pub expression::within-returns-in_ok-copy-in-Text : goal.expression::within-returns-in_ok-copy-in-Text
expression::within-returns-in_ok-copy-in-Text t' c =
    leaf _ (variant.Text c.in_ok-copy-in-Text.field-0) _ (t.Text c.in-Text.bytes) (ap expression_of c.in-Text.is) (ap t.Text c.in_ok-copy-in-Text.ensures) (λ new k. refl) refl

pub expression::within-returns-in_ok-boxed-in-PostInc : goal.expression::within-returns-in_ok-boxed-in-PostInc
expression::within-returns-in_ok-boxed-in-PostInc t' c =
    one_within t.PostInc _ _ (variant.PostInc c.in_ok-boxed-in-PostInc.field-0) _ c.deref-in-PostInc.result.now c.in_ok-boxed-in-PostInc.field-0.value
    (ap expression_of c.in-PostInc.is ∙ ap (λ x. t.PostInc (expression_of x)) (sym c.deref-in-PostInc.ensures)) refl (λ new k. refl) refl c.in_ok-boxed-in-PostInc.ensures

pub expression::within-returns-in_ok-boxed-in-PostDec : goal.expression::within-returns-in_ok-boxed-in-PostDec
expression::within-returns-in_ok-boxed-in-PostDec t' c =
    one_within t.PostDec _ _ (variant.PostDec c.in_ok-boxed-in-PostDec.field-0) _ c.deref-in-PostDec.result.now c.in_ok-boxed-in-PostDec.field-0.value
    (ap expression_of c.in-PostDec.is ∙ ap (λ x. t.PostDec (expression_of x)) (sym c.deref-in-PostDec.ensures)) refl (λ new k. refl) refl c.in_ok-boxed-in-PostDec.ensures

pub expression::within-returns-in_ok-boxed-in-PreInc : goal.expression::within-returns-in_ok-boxed-in-PreInc
expression::within-returns-in_ok-boxed-in-PreInc t' c =
    one_within t.PreInc _ _ (variant.PreInc c.in_ok-boxed-in-PreInc.field-0) _ c.deref-in-PreInc.result.now c.in_ok-boxed-in-PreInc.field-0.value
    (ap expression_of c.in-PreInc.is ∙ ap (λ x. t.PreInc (expression_of x)) (sym c.deref-in-PreInc.ensures)) refl (λ new k. refl) refl c.in_ok-boxed-in-PreInc.ensures

pub expression::within-returns-in_ok-boxed-in-PreDec : goal.expression::within-returns-in_ok-boxed-in-PreDec
expression::within-returns-in_ok-boxed-in-PreDec t' c =
    one_within t.PreDec _ _ (variant.PreDec c.in_ok-boxed-in-PreDec.field-0) _ c.deref-in-PreDec.result.now c.in_ok-boxed-in-PreDec.field-0.value
    (ap expression_of c.in-PreDec.is ∙ ap (λ x. t.PreDec (expression_of x)) (sym c.deref-in-PreDec.ensures)) refl (λ new k. refl) refl c.in_ok-boxed-in-PreDec.ensures

pub expression::within-returns-in_ok-boxed-in-Unary : goal.expression::within-returns-in_ok-boxed-in-Unary
expression::within-returns-in_ok-boxed-in-Unary t' c =
    one_within (t.Unary c.in-Unary.op) _ _ (variant.Unary c.in-Unary.op c.in_ok-boxed-in-Unary.field-0) _ c.deref-in-Unary.result.now c.in_ok-boxed-in-Unary.field-0.value
    (ap expression_of c.in-Unary.is ∙ ap (λ x. t.Unary c.in-Unary.op (expression_of x)) (sym c.deref-in-Unary.ensures)) refl (λ new k. refl) refl c.in_ok-boxed-in-Unary.ensures

pub expression::within-returns-in_ok-copy-in-Member : goal.expression::within-returns-in_ok-copy-in-Member
expression::within-returns-in_ok-copy-in-Member t' c =
    one_within (λ x. t.Member x c.in-Member.name) _ _ (variant.Member c.in_ok-whole-in-Member.whole c.in_ok-copy-in-Member.field-0) _ c.deref-in-Member.result.now c.in_ok-whole-in-Member.whole.value
    (ap expression_of c.in-Member.is ∙ ap (λ x. t.Member (expression_of x) c.in-Member.name) (sym c.deref-in-Member.ensures)) (ap (t.Member (expression_of c.in_ok-whole-in-Member.whole.value)) c.in_ok-copy-in-Member.ensures)
    (λ new k. refl) refl c.in_ok-whole-in-Member.ensures

pub expression::within-returns-in_ok-copy-in-Arrow : goal.expression::within-returns-in_ok-copy-in-Arrow
expression::within-returns-in_ok-copy-in-Arrow t' c =
    one_within (λ x. t.Arrow x c.in-Arrow.name) _ _ (variant.Arrow c.in_ok-pointer-in-Arrow.pointer c.in_ok-copy-in-Arrow.field-0) _ c.deref-in-Arrow.result.now c.in_ok-pointer-in-Arrow.pointer.value
    (ap expression_of c.in-Arrow.is ∙ ap (λ x. t.Arrow (expression_of x) c.in-Arrow.name) (sym c.deref-in-Arrow.ensures)) (ap (t.Arrow (expression_of c.in_ok-pointer-in-Arrow.pointer.value)) c.in_ok-copy-in-Arrow.ensures)
    (λ new k. refl) refl c.in_ok-pointer-in-Arrow.ensures

pub expression::within-returns-in_ok-boxed-in-Index : goal.expression::within-returns-in_ok-boxed-in-Index
expression::within-returns-in_ok-boxed-in-Index t' c =
    two_within t.Index _ _ _ (variant.Index c.in_ok-whole-in-Index.whole c.in_ok-boxed-in-Index.field-0) _ c.deref.result.now c.in_ok-whole-in-Index.whole.value c.deref-in-Index.result.now c.in_ok-boxed-in-Index.field-0.value
    (ap expression_of c.in-Index.is ∙ ap₂ (λ x y. t.Index (expression_of x) (expression_of y)) (sym c.deref.ensures) (sym c.deref-in-Index.ensures)) refl (λ new k. refl) refl
    c.in_ok-whole-in-Index.ensures c.in_ok-boxed-in-Index.ensures

pub expression::within-returns-in_ok-boxed-in-Binary : goal.expression::within-returns-in_ok-boxed-in-Binary
expression::within-returns-in_ok-boxed-in-Binary t' c =
    two_within (t.Binary c.in-Binary.op) _ _ _ (variant.Binary c.in-Binary.op c.in_ok-left-in-Binary.left c.in_ok-boxed-in-Binary.field-0) _ c.deref-in-Binary.result.now c.in_ok-left-in-Binary.left.value c.deref-in-Binary-2.result.now c.in_ok-boxed-in-Binary.field-0.value
    (ap expression_of c.in-Binary.is ∙ ap₂ (λ x y. t.Binary c.in-Binary.op (expression_of x) (expression_of y)) (sym c.deref-in-Binary.ensures) (sym c.deref-in-Binary-2.ensures)) refl (λ new k. refl) refl
    c.in_ok-left-in-Binary.ensures c.in_ok-boxed-in-Binary.ensures

pub expression::within-returns-in_ok-boxed-in-Logical : goal.expression::within-returns-in_ok-boxed-in-Logical
expression::within-returns-in_ok-boxed-in-Logical t' c =
    two_within (t.Logical c.in-Logical.op) _ _ _ (variant.Logical c.in-Logical.op c.in_ok-left-in-Logical.left c.in_ok-boxed-in-Logical.field-0) _ c.deref-in-Logical.result.now c.in_ok-left-in-Logical.left.value c.deref-in-Logical-2.result.now c.in_ok-boxed-in-Logical.field-0.value
    (ap expression_of c.in-Logical.is ∙ ap₂ (λ x y. t.Logical c.in-Logical.op (expression_of x) (expression_of y)) (sym c.deref-in-Logical.ensures) (sym c.deref-in-Logical-2.ensures)) refl (λ new k. refl) refl
    c.in_ok-left-in-Logical.ensures c.in_ok-boxed-in-Logical.ensures

pub expression::within-returns-in_ok-boxed-in-Assign : goal.expression::within-returns-in_ok-boxed-in-Assign
expression::within-returns-in_ok-boxed-in-Assign t' c =
    two_within (t.Assign c.in-Assign.op) _ _ _ (variant.Assign c.in-Assign.op c.in_ok-target-in-Assign.target c.in_ok-boxed-in-Assign.field-0) _ c.deref-in-Assign.result.now c.in_ok-target-in-Assign.target.value c.deref-in-Assign-2.result.now c.in_ok-boxed-in-Assign.field-0.value
    (ap expression_of c.in-Assign.is ∙ ap₂ (λ x y. t.Assign c.in-Assign.op (expression_of x) (expression_of y)) (sym c.deref-in-Assign.ensures) (sym c.deref-in-Assign-2.ensures)) refl (λ new k. refl) refl
    c.in_ok-target-in-Assign.ensures c.in_ok-boxed-in-Assign.ensures

pub expression::within-returns-in_ok-boxed-in-Conditional : goal.expression::within-returns-in_ok-boxed-in-Conditional
expression::within-returns-in_ok-boxed-in-Conditional t' c =
    conditional _ _ _ _ (variant.Conditional c.in_ok-test-in-Conditional.test c.in_ok-left-in-Conditional.left c.in_ok-boxed-in-Conditional.field-0) _ _ (expression_of c.in_ok-test-in-Conditional.test.value) _ (expression_of c.in_ok-left-in-Conditional.left.value) (expression_of c.in_ok-boxed-in-Conditional.field-0.value) _
    (ap expression_of c.in-Conditional.is ∙ ap₂ (λ x y. t.Conditional (expression_of x) (expression_of y) (expression_of c.in-Conditional.right.value)) (sym c.deref-in-Conditional.ensures) (sym c.deref-in-Conditional-2.ensures)
    ∙ ap (λ x. t.Conditional (expression_of c.deref-in-Conditional.result.now) (expression_of c.deref-in-Conditional-2.result.now) (expression_of x)) (sym c.deref-in-Conditional-3.ensures)) refl
    c.in_ok-test-in-Conditional.ensures c.in_ok-left-in-Conditional.ensures c.in_ok-boxed-in-Conditional.ensures

pub expression::within-returns-in_ok-expressions-in-Call : goal.expression::within-returns-in_ok-expressions-in-Call
expression::within-returns-in_ok-expressions-in-Call t' c =
    two t.Call _ _ _ (variant.Call c.in_ok-callee-in-Call.callee c.in_ok-expressions-in-Call.field-0) _ (expression_of c.deref-in-Call.result.now) (expression_of c.in_ok-callee-in-Call.callee.value) (expressions_in c.as_slice.result.now) (expressions_in c.in_ok-expressions-in-Call.field-0.items)
    (λ new k. with_marks new k (expression_of c.deref-in-Call.result.now)) (λ new k. within_all new k (expressions_in c.as_slice.result.now)) _ _
    (ap expression_of c.in-Call.is ∙ call_is c.in-Call.callee c.in-Call.arguments
    ∙ ap₂ (λ x xs. t.Call (expression_of x) (expressions_in xs)) (sym c.deref-in-Call.ensures) (sym c.as_slice.ensures.value)) (call_is c.in_ok-callee-in-Call.callee c.in_ok-expressions-in-Call.field-0)
    (λ new k. refl) refl c.in_ok-callee-in-Call.ensures c.in_ok-expressions-in-Call.ensures

pub expression::within-returns-in_ok-parts-in-Comma : goal.expression::within-returns-in_ok-parts-in-Comma
expression::within-returns-in_ok-parts-in-Comma t' c =
    one t.Comma _ _ c.comma.result _ (expressions_in c.as_slice-in-Comma.result.now) (expressions_in c.in_ok-parts-in-Comma.parts.items) (λ new k. within_all new k (expressions_in c.as_slice-in-Comma.result.now)) _
    (ap expression_of c.in-Comma.is ∙ comma_is c.in-Comma.parts ∙ ap (λ xs. t.Comma (expressions_in xs)) (sym c.as_slice-in-Comma.ensures.value)) c.comma.ensures
    (λ new k. refl) refl c.in_ok-parts-in-Comma.ensures

pub expression::within-returns-in_ok-copied-in-SizeofExpr : goal.expression::within-returns-in_ok-copied-in-SizeofExpr
expression::within-returns-in_ok-copied-in-SizeofExpr t' c =
    one t.SizeofExpr _ _ (variant.SizeofExpr c.in_ok-copied-in-SizeofExpr.field-0) _ (expression_of c.deref-in-SizeofExpr.result.now) (expression_of c.in_ok-copied-in-SizeofExpr.field-0.value) (λ new k. expression_of c.deref-in-SizeofExpr.result.now) _
    (ap expression_of c.in-SizeofExpr.is ∙ ap (λ x. t.SizeofExpr (expression_of x)) (sym c.deref-in-SizeofExpr.ensures)) refl (λ new k. refl) refl c.in_ok-copied-in-SizeofExpr.ensures

pub expression::within-returns-in_ok-boxed_type_name-in-SizeofType : goal.expression::within-returns-in_ok-boxed_type_name-in-SizeofType
expression::within-returns-in_ok-boxed_type_name-in-SizeofType t' c =
    sizeof _ _ (variant.SizeofType c.in_ok-boxed_type_name-in-SizeofType.field-0) _ (specifiers_of c.deref-in-SizeofType.result.now.specifiers) _ (declarator_of c.deref-in-SizeofType.result.now.declarator) _
    (ap expression_of c.in-SizeofType.is ∙ sizeof_is c.in-SizeofType.name _ (sym c.deref-in-SizeofType.ensures))
    (sizeof_is c.in_ok-boxed_type_name-in-SizeofType.field-0 _ refl) c.in_ok-boxed_type_name-in-SizeofType.ensures

pub expression::within-returns-in_ok-boxed-in-Cast : goal.expression::within-returns-in_ok-boxed-in-Cast
expression::within-returns-in_ok-boxed-in-Cast t' c =
    cast _ _ _ (variant.Cast c.in_ok-name-in-Cast.name c.in_ok-boxed-in-Cast.field-0) _ (specifiers_of c.deref-in-Cast.result.now.specifiers) _ (declarator_of c.deref-in-Cast.result.now.declarator) _ (expression_of c.deref-in-Cast-2.result.now) _
    (ap expression_of c.in-Cast.is ∙ cast_is c.in-Cast.name _ c.in-Cast.operand _ (sym c.deref-in-Cast.ensures) (sym c.deref-in-Cast-2.ensures))
    (cast_is c.in_ok-name-in-Cast.name _ c.in_ok-boxed-in-Cast.field-0 _ refl refl) c.in_ok-name-in-Cast.ensures c.in_ok-boxed-in-Cast.ensures

pub expression::within-returns-in_ok-within-in-Marked : goal.expression::within-returns-in_ok-within-in-Marked
expression::within-returns-in_ok-within-in-Marked t' c =
    behind_marks c.behind_marks.result _ _ _ (marks_in c.as_slice-in-Marked.result.now) (expression_of c.deref-in-Marked.result.now)
    (ap expression_of c.in-Marked.is ∙ marked_is c.in-Marked.list c.in-Marked.value
    ∙ ap₂ (λ xs x. t.Marked (marks_in xs) (expression_of x)) (sym c.as_slice-in-Marked.ensures.value) (sym c.deref-in-Marked.ensures))
    (marked c.behind_marks.result _ _ _ _ _ (marks_in c.in_ok-marks-in-Marked.marks.items) (marks_in c.as_slice-in-Marked.result.now) _ (expression_of c.deref-in-Marked.result.now)
    c.in_ok-marks-in-Marked.ensures c.in_ok-here-in-Marked.ensures c.in_ok-within-in-Marked.ensures c.behind_marks.ensures)

pub expression::within-returns-in_ok-operand-in-Decide : goal.expression::within-returns-in_ok-operand-in-Decide
expression::within-returns-in_ok-operand-in-Decide t' c =
    one_given c.decide.result (λ x. t.Decide x c.in-Decide.when_true c.in-Decide.when_false c.in-Decide.tag) _ _ _ (expression_of c.deref-in-Decide.result.now)
    (expression_of c.in_ok-operand-in-Decide.operand.value)
    (ap expression_of c.in-Decide.is ∙ ap (λ x. t.Decide (expression_of x) c.in-Decide.when_true c.in-Decide.when_false c.in-Decide.tag) (sym c.deref-in-Decide.ensures))
    (λ new k. refl) refl c.in_ok-operand-in-Decide.ensures c.decide.ensures

pub expression::within-returns-in_ok-copy-in-After : goal.expression::within-returns-in_ok-copy-in-After
expression::within-returns-in_ok-copy-in-After t' c =
    one_within (λ x. t.After x c.in-After.id c.in-After.tag) _ _ (variant.After c.in_ok-operand-in-After.operand c.in_ok-id-in-After.id c.in_ok-copy-in-After.field-0) _ c.deref-in-After.result.now c.in_ok-operand-in-After.operand.value
    (ap expression_of c.in-After.is ∙ ap (λ x. t.After (expression_of x) c.in-After.id c.in-After.tag) (sym c.deref-in-After.ensures))
    (ap₂ (t.After (expression_of c.in_ok-operand-in-After.operand.value)) c.in_ok-id-in-After.ensures c.in_ok-copy-in-After.ensures) (λ new k. refl) refl c.in_ok-operand-in-After.ensures

pub expression::expression-returns : goal.expression::expression-returns
expression::expression-returns t' c = whole c.with_expression.result _ _ _ _ _ _ c.in_ok-here.ensures c.in_ok-within.ensures c.with_expression.ensures

pub expression::boxed-returns : goal.expression::boxed-returns
expression::boxed-returns t' c new k at =
    let so = c.in_ok-expression.ensures new k at in
    (ap expression_of c.in_ok-new.ensures.ok ∙ so.0, so.1)

pub expression::copied-returns : goal.expression::copied-returns
expression::copied-returns t' c = copy c.args.walk.now _ _ _ _ _ c.without_marks-copying.ensures c.in_ok-copy.ensures refl refl

pub expression::maybe-returns-in-None : goal.expression::maybe-returns-in-None
expression::maybe-returns-in-None t' c = empty_part (λ new k x. x) in_maybe _ _ t.absent (ap maybe_in c.in-None.is) refl (λ new k. refl) refl

pub expression::maybe-returns-in_ok-copied-in-Some : goal.expression::maybe-returns-in_ok-copied-in-Some
expression::maybe-returns-in_ok-copied-in-Some t' c =
    lone_part (λ new k x. x) in_maybe t.present _ _ (expression_of c.deref.result.now) (expression_of c.in_ok-copied-in-Some.field-0.value) (λ new k. expression_of c.deref.result.now) _
    (ap maybe_in c.in-Some.is ∙ ap (λ x. t.present (expression_of x)) (sym c.deref.ensures)) refl (λ new k. refl) refl c.in_ok-copied-in-Some.ensures

pub label::mark-returns : goal.label::mark-returns
label::mark-returns t' c =
    let out = views.out-Mark c.args.mark.now in
    two_parts (λ new k x. x) in_mark (λ e b. t.mark e out.id out.tag b) _ _ (expression_of out.predicate) (expression_of c.in_ok-predicate.predicate.value)
    (bindings_in c.as_slice.result.now) (bindings_in c.in_ok-bound.bound.items) (λ new k. expression_of out.predicate) (λ new k. bindings_in c.as_slice.result.now) _ _
    (mark_out c.args.mark.now ∙ ap (λ xs. t.mark (expression_of out.predicate) out.id out.tag (bindings_in xs)) (sym c.as_slice.ensures.value))
    (c.mark.ensures ∙ ap (λ x. t.mark (expression_of x) c.in_ok-id.id c.in_ok-tag.tag (bindings_in c.in_ok-bound.bound.items)) c.into_inner.ensures
    ∙ ap₂ (λ i g. t.mark (expression_of c.in_ok-predicate.predicate.value) i g (bindings_in c.in_ok-bound.bound.items)) c.in_ok-id.ensures c.in_ok-tag.ensures)
    (λ new k. refl) (ap suc (length-append _ _)) c.step.ensures c.in_ok-predicate.ensures c.in_ok-bound.ensures

pub label::binding-returns : goal.label::binding-returns
label::binding-returns t' c new k at =
    let so = c.in_ok-value.ensures new k at in
    ((c.in_ok-name.ensures, ap expression_of c.into_inner.ensures ∙ so.0), so.1)

pub specifier::specifiers-returns : goal.specifier::specifiers-returns
specifier::specifiers-returns t' c =
    let made : Specifiers = record {
      storage = c.in_ok-from_slice.field-0;
      inline = c.args.specifiers.now.inline;
      noreturn = c.args.specifiers.now.noreturn;
      quals = c.args.specifiers.now.quals;
      types = c.in_ok-types.types;
    } in
    specifiers_copied made c.args.specifiers.now _ (c.in_ok-from_slice.ensures.items ∙ c.as_slice-2.ensures.value) refl refl refl c.as_slice.ensures.value c.in_ok-types.ensures

pub specifier::type_name-returns : goal.specifier::type_name-returns
specifier::type_name-returns t' c = pair_copied _ _ _ _ _ _ c.in_ok-specifiers.ensures c.in_ok-declarator.ensures

pub specifier::boxed_type_name-returns : goal.specifier::boxed_type_name-returns
specifier::boxed_type_name-returns t' c new k at =
    let so = c.in_ok-type_name.ensures new k at in
    ((ap (λ (x : TypeName). specifiers_of x.specifiers) c.in_ok-new.ensures.ok ∙ so.0.0, ap (λ (x : TypeName). declarator_of x.declarator) c.in_ok-new.ensures.ok ∙ so.0.1), so.1)

pub specifier::type_specifier-returns-in-Basic : goal.specifier::type_specifier-returns-in-Basic
specifier::type_specifier-returns-in-Basic t' c = empty_part (λ new k x. x) in_type _ _ (t.Basic c.in-Basic.basic) (ap type_of c.in-Basic.is) c.basic.ensures (λ new k. refl) refl

pub specifier::type_specifier-returns-in-Word : goal.specifier::type_specifier-returns-in-Word
specifier::type_specifier-returns-in-Word t' c = empty_part (λ new k x. x) in_type _ _ (t.Word c.in-Word.word) (ap type_of c.in-Word.is) c.word.ensures (λ new k. refl) refl

pub specifier::type_specifier-returns-in_ok-copy-in-StructTag : goal.specifier::type_specifier-returns-in_ok-copy-in-StructTag
specifier::type_specifier-returns-in_ok-copy-in-StructTag t' c =
    empty_part (λ new k x. x) in_type _ _ (t.StructTag c.in-StructTag.tag) (ap type_of c.in-StructTag.is) (c.struct_tag.ensures ∙ ap t.StructTag c.in_ok-copy-in-StructTag.ensures) (λ new k. refl) refl

pub specifier::type_specifier-returns-in_ok-copy-in-EnumTag : goal.specifier::type_specifier-returns-in_ok-copy-in-EnumTag
specifier::type_specifier-returns-in_ok-copy-in-EnumTag t' c =
    empty_part (λ new k x. x) in_type _ _ (t.EnumTag c.in-EnumTag.tag) (ap type_of c.in-EnumTag.is) (c.enum_tag.ensures ∙ ap t.EnumTag c.in_ok-copy-in-EnumTag.ensures) (λ new k. refl) refl

pub specifier::type_specifier-returns-in_ok-copy-in-Named : goal.specifier::type_specifier-returns-in_ok-copy-in-Named
specifier::type_specifier-returns-in_ok-copy-in-Named t' c =
    empty_part (λ new k x. x) in_type _ _ (t.Named c.in-Named.name) (ap type_of c.in-Named.is) (c.named.ensures ∙ ap t.Named c.in_ok-copy-in-Named.ensures) (λ new k. refl) refl

pub specifier::type_specifier-returns-in-Struct : goal.specifier::type_specifier-returns-in-Struct
specifier::type_specifier-returns-in-Struct t' c =
    type_given c.struct_with.result _ _ _ (t.Struct c.in-Struct.tag (members_in c.as_slice.result.now))
    (ap type_of c.in-Struct.is ∙ struct_is c.in-Struct.tag c.in-Struct.list ∙ ap (λ xs. t.Struct c.in-Struct.tag (members_in xs)) (sym c.as_slice.ensures.value)) c.struct_with.ensures

pub specifier::type_specifier-returns-in-Enum : goal.specifier::type_specifier-returns-in-Enum
specifier::type_specifier-returns-in-Enum t' c =
    type_given c.enum_with.result _ _ _ (t.Enum c.in-Enum.tag (enumerators_in c.as_slice-in-Enum.result.now))
    (ap type_of c.in-Enum.is ∙ enum_is c.in-Enum.tag c.in-Enum.list ∙ ap (λ xs. t.Enum c.in-Enum.tag (enumerators_in xs)) (sym c.as_slice-in-Enum.ensures.value)) c.enum_with.ensures

pub specifier::struct_with-returns : goal.specifier::struct_with-returns
specifier::struct_with-returns t' c new k at =
    let so = c.in_ok-members.ensures new k at in
    (c.struct_with.ensures ∙ ap₂ t.Struct c.in_ok-copy_maybe.ensures so.0, so.1)

pub specifier::enum_with-returns : goal.specifier::enum_with-returns
specifier::enum_with-returns t' c new k at =
    let so = c.in_ok-enumerators.ensures new k at in
    (c.enum_with.ensures ∙ ap₂ t.Enum c.in_ok-copy_maybe.ensures so.0, so.1)

pub specifier::member-returns : goal.specifier::member-returns
specifier::member-returns t' c =
    let out = views.out-Member c.args.member.now in
    two_parts (λ new k x. x) in_member t.member _ _ (specifiers_of out.specifiers) _ (member_declarators_in c.as_slice.result.now) _
    (λ new k. specifiers_of out.specifiers) (λ new k. member_declarators_in c.as_slice.result.now) _ _
    (member_out c.args.member.now ∙ ap (λ xs. t.member (specifiers_of out.specifiers) (member_declarators_in xs)) (sym c.as_slice.ensures.value)) c.member.ensures
    (λ new k. refl) (ap suc (length-append _ _)) c.step.ensures c.in_ok-specifiers.ensures c.in_ok-declarators.ensures

pub specifier::member_declarator-returns : goal.specifier::member_declarator-returns
specifier::member_declarator-returns t' c = pair_copied _ _ _ _ _ _ c.in_ok-declarator.ensures c.in_ok-maybe.ensures

pub specifier::enumerator-returns : goal.specifier::enumerator-returns
specifier::enumerator-returns t' c new k at =
    let so = c.in_ok-maybe.ensures new (k + 1) (c.step.ensures new k at) in
    ((c.in_ok-name.ensures, so.0), stands _ so.1 (omega arith))

pub declarator::declarator-returns : goal.declarator::declarator-returns
declarator::declarator-returns t' c =
    let made : Declarator = record { name = c.in_ok-copy_maybe.field-0; parts = c.in_ok-parts.parts } in
    declarator_copied made c.args.declarator.now _ c.in_ok-copy_maybe.ensures c.as_slice.ensures.value c.step_if_written.ensures c.in_ok-parts.ensures

pub declarator::part-returns-in-Pointer : goal.declarator::part-returns-in-Pointer
declarator::part-returns-in-Pointer t' c =
    subst (λ p. PartCopied c.args.walk.now c.args.walk.now (part.Pointer c.in-Pointer.quals) p) (sym c.in-Pointer.is) (λ new k at. ((λ rest. refl), stands (k + 0) at (omega arith)))

pub declarator::part-returns-in_ok-maybe-in-Array : goal.declarator::part-returns-in_ok-maybe-in-Array
declarator::part-returns-in_ok-maybe-in-Array t' c =
    subst (λ p. PartCopied c.args.walk.now c.maybe.new.walk (part.Array c.in_ok-maybe-in-Array.field-0) p) (sym c.in-Array.is)
    (array_copied c.args.walk.now c.maybe.new.walk c.in_ok-maybe-in-Array.field-0 c.in-Array.length c.in_ok-maybe-in-Array.ensures)

pub declarator::part-returns-in_ok-parameters-in-Function : goal.declarator::part-returns-in_ok-parameters-in-Function
declarator::part-returns-in_ok-parameters-in-Function t' c =
    subst (λ p. PartCopied c.args.walk.now c.parameters.new.walk (part.Function c.in_ok-parameters-in-Function.field-0) p) (sym c.in-Function.is) (λ new k at. let so = c.in_ok-parameters-in-Function.ensures new k at in ((λ rest. ap (λ ps. t.Function ps rest) so.0), so.1))

pub declarator::parameters-returns-in-Unstated : goal.declarator::parameters-returns-in-Unstated
declarator::parameters-returns-in-Unstated t' c = empty_part (λ new k x. x) in_parameters _ _ t.Unstated (ap parameters_of c.in-Unstated.is) c.unstated.ensures (λ new k. refl) refl

pub declarator::parameters-returns-in-Void : goal.declarator::parameters-returns-in-Void
declarator::parameters-returns-in-Void t' c = empty_part (λ new k x. x) in_parameters _ _ t.Void (ap parameters_of c.in-Void.is) c.void.ensures (λ new k. refl) refl

pub declarator::parameters-returns-in_ok-parameter_list-in-Listed : goal.declarator::parameters-returns-in_ok-parameter_list-in-Listed
declarator::parameters-returns-in_ok-parameter_list-in-Listed t' c =
    lone_part (λ new k x. x) in_parameters t.Listed _ _ (parameter_list_in c.as_slice.result.now) _ (λ new k. parameter_list_in c.as_slice.result.now) _
    (ap parameters_of c.in-Listed.is ∙ listed_is c.in-Listed.list ∙ ap (λ xs. t.Listed (parameter_list_in xs)) (sym c.as_slice.ensures.value)) c.listed.ensures (λ new k. refl) refl
    c.in_ok-parameter_list-in-Listed.ensures

pub declarator::parameters-returns-in_ok-parameter_list-in-Open : goal.declarator::parameters-returns-in_ok-parameter_list-in-Open
declarator::parameters-returns-in_ok-parameter_list-in-Open t' c =
    lone_part (λ new k x. x) in_parameters t.Open _ _ (parameter_list_in c.as_slice-in-Open.result.now) _ (λ new k. parameter_list_in c.as_slice-in-Open.result.now) _
    (ap parameters_of c.in-Open.is ∙ open_is c.in-Open.list ∙ ap (λ xs. t.Open (parameter_list_in xs)) (sym c.as_slice-in-Open.ensures.value)) c.open.ensures (λ new k. refl) refl
    c.in_ok-parameter_list-in-Open.ensures

pub declarator::parameter-returns : goal.declarator::parameter-returns
declarator::parameter-returns t' c = pair_copied _ _ _ _ _ _ c.in_ok-specifiers.ensures c.in_ok-declarator.ensures
