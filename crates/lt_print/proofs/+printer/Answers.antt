use Rattle.std.proofs.Common.{◌≡◌, ◌+◌, ◌++◌, ◌∷◌, ◌||◌, ◌&&◌, not, if◌then◌else◌, [], ℕ, List, Bool, true, eqb, ltb, map, drop, refl, ap, sym, ◌∙◌, arith}
use Rattle.std.proofs.lemmas.List.{append-nil}
use Rattle.lt_tree.specs.declared.terminal.Terminal.TheVariants as k
use Rattle.lt_tree.specs.declared.expression.Expr.{Expr}
use Rattle.lt_tree.specs.declared.mark.Mark.{Mark, out-Mark}
use Rattle.lt_tree.specs.declared.mark.Binding.{Binding}
use Rattle.lt_tree.specs.declared.specifier.TypeSpecifier.{TypeSpecifier}
use Rattle.lt_tree.specs.declared.specifier.Member.{Member, out-Member}
use Rattle.lt_tree.specs.declared.specifier.MemberDeclarator.{MemberDeclarator}
use Rattle.lt_tree.specs.declared.specifier.Enumerator.{Enumerator}
use Rattle.lt_tree.specs.declared.declarator.DeclaratorPart.{DeclaratorPart}
use Rattle.lt_tree.specs.declared.declarator.Parameter.{Parameter}
use Rattle.lt_tree.specs.Tree as tree
use Rattle.lt_tree.specs.Pieces.{text_of, indent, line_end}
use Rattle.lt_tree.specs.View.{words_of, expression_of, type_of, parameters_of, part_before}
use Rattle.lt_tree.specs.Records.{expressions_in, marks_in, bindings_in, types_in, members_in, enumerators_in, parts_in, parameter_list_in, specifiers_of, declarator_of, member_declarators_in}
use Rattle.lt_tree.specs.Canon.{Pieces, apart, words_pieces, name_behind, mark, member_declarators, operand, expression, comma_gap, marks_pieces, bindings, member_lines, enumerator_lines, type_specifier, type_specifiers, parameters, sign, word_if, gap_if}
use Rattle.lt_tree.proofs.Rows.{sizeof_is, cast_is}
use Rattle.lt_print.specs.Lists.{separated, behind, stands}
use Rattle.lt_print.specs.Levels.{level_meant}
use Rattle.lt_print.specs.Declarators.{back}
use Rattle.lt_print.specs.Members.{declarators_stand}
use Rattle.lt_print.proofs.Texts.{on_ok}
use Rattle.lt_print.proofs.Words.{joined}
use Rattle.lt_print.proofs.Lists.{one_more, behind_nothing}
use Rattle.lt_print.proofs.Places.{operand_inside, operand_bare}
use Rattle.lt_print.proofs.Heads.{prefix_text, signed_unary, signed_cast}
use Rattle.lt_print.proofs.Declarators.{declared_text, declarator_text, array_text, function_text}
use Rattle.lt_print.proofs.Rows.{operand_at, member_declarator_at, parameter_at, list_is, member_declarators_are, parameters_are, next, ended}
use Rattle.lt_print.proofs.Lines.{or_later, marks_step, bindings_step, members_step, enumerators_step, more_left, types_step, parts_step}
use Rattle.lt_print.proofs.Nodes.{call_is, comma_is, marked_is, struct_is, enum_is, listed_is, open_is}
use Rattle.lt_print.proofs.Types.{apart_text, specifiers_stand, braces_text, member_text}
use Rattle.lt_print.proofs.Structs.{mark_held, member_held}
use Rattle.lt_print.proofs.Marks.{mark_text}
use Rattle.lt_print.proofs.+printer.Goals as goal

-- ---- operands and expressions

pub expression::put_operand-returns-else-is_below : goal.expression::put_operand-returns-else-is_below
expression::put_operand-returns-else-is_below t c =
    on_ok c.put_expression-else-is_below.result
    (λ e. e ∙ ap (λ (x : Pieces). c.args.out.now.items ++ text_of x)
    (sym (operand_bare c.args.line (level_meant c.args.asked) (level_meant c.level_of.result) (expression_of c.args.e.now) c.requires c.level_of.ensures.value (sym c.is_below.ensures ∙ c.if-is_below.false))))
    c.put_expression-else-is_below.ensures

pub expression::put_operand-returns-in_ok-put_expression : goal.expression::put_operand-returns-in_ok-put_expression
expression::put_operand-returns-in_ok-put_expression t c =
    on_ok c.put_sign-then-is_below.result
    (λ e. joined _ _ _ _ _ (joined _ _ _ _ _ c.in_ok-put_sign.ensures c.in_ok-put_expression.ensures) e ∙ ap (λ (x : Pieces). c.args.out.now.items ++ text_of x)
    (sym (operand_inside c.args.line (level_meant c.args.asked) (level_meant c.level_of.result) (expression_of c.args.e.now) c.requires c.level_of.ensures.value (sym c.is_below.ensures ∙ c.if-is_below.true))))
    c.put_sign-then-is_below.ensures

pub expression::put_expression-returns-in_ok-put_operand-in-Call : goal.expression::put_expression-returns-in_ok-put_operand-in-Call
unfolding operand
expression::put_expression-returns-in_ok-put_operand-in-Call t c =
    let is : expression_of c.args.e.now ≡ tree.Call (expression_of c.deref-in-Call.result.now) (expressions_in c.deref-in-Call-2.result.now) =
    ap expression_of c.in-Call.is ∙ call_is c.in-Call.callee c.in-Call.arguments
    ∙ ap (λ (x : Expr). tree.Call (expression_of x) (expressions_in c.in-Call.arguments.items)) (sym c.deref-in-Call.ensures)
    ∙ ap (λ (x : List Expr). tree.Call (expression_of c.deref-in-Call.result.now) (expressions_in x)) (sym c.deref-in-Call-2.ensures.value) in
    on_ok c.put_arguments.result
    (λ e. joined _ _ _ _ _ c.in_ok-put_operand-in-Call.ensures e ∙ ap (λ (x : tree.Expression). c.args.out.now.items ++ text_of (expression c.args.line x)) (sym is))
    c.put_arguments.ensures

pub expression::put_expression-returns-in-SizeofType : goal.expression::put_expression-returns-in-SizeofType
unfolding operand
expression::put_expression-returns-in-SizeofType t c =
    on_ok c.put_sizeof_type.result
    (λ e. e ∙ ap (λ (x : tree.Expression). c.args.out.now.items ++ text_of (expression c.args.line x))
    (sym (ap expression_of c.in-SizeofType.is ∙ sizeof_is c.in-SizeofType.name c.deref-in-SizeofType.result.now (sym c.deref-in-SizeofType.ensures))))
    c.put_sizeof_type.ensures

pub expression::put_expression-returns-in_ok-put_type_name-in-Cast : goal.expression::put_expression-returns-in_ok-put_type_name-in-Cast
unfolding operand
expression::put_expression-returns-in_ok-put_type_name-in-Cast t c =
    on_ok c.put_operand-in-Cast.result
    (λ e. joined _ _ _ _ _ c.in_ok-put_type_name-in-Cast.ensures e ∙ ap (λ (x : tree.Expression). c.args.out.now.items ++ text_of (expression c.args.line x))
    (sym (ap expression_of c.in-Cast.is ∙ cast_is c.in-Cast.name c.deref-in-Cast.result.now c.in-Cast.operand c.deref-in-Cast-2.result.now (sym c.deref-in-Cast.ensures) (sym c.deref-in-Cast-2.ensures))))
    c.put_operand-in-Cast.ensures

pub expression::put_expression-returns-in-Comma : goal.expression::put_expression-returns-in-Comma
unfolding operand
expression::put_expression-returns-in-Comma t c =
    on_ok c.put_list.result
    (λ e. e ∙ ap (λ (x : tree.Expression). c.args.out.now.items ++ text_of (expression c.args.line x))
    (sym (ap expression_of c.in-Comma.is ∙ comma_is c.in-Comma.parts ∙ ap (λ (x : List Expr). tree.Comma (expressions_in x)) (sym c.deref-in-Comma.ensures.value))))
    c.put_list.ensures

pub expression::put_expression-returns-in_ok-put_marks-in-Marked : goal.expression::put_expression-returns-in_ok-put_marks-in-Marked
unfolding operand
expression::put_expression-returns-in_ok-put_marks-in-Marked t c =
    let is : expression_of c.args.e.now ≡ tree.Marked (marks_in c.deref-in-Marked.result.now) (expression_of c.deref-in-Marked-2.result.now) =
    ap expression_of c.in-Marked.is ∙ marked_is c.in-Marked.marks c.in-Marked.value
    ∙ ap (λ (x : List Mark). tree.Marked (marks_in x) (expression_of c.in-Marked.value.value)) (sym c.deref-in-Marked.ensures.value)
    ∙ ap (λ (x : Expr). tree.Marked (marks_in c.deref-in-Marked.result.now) (expression_of x)) (sym c.deref-in-Marked-2.ensures) in
    on_ok c.put_operand-in-Marked.result
    (λ e. joined _ _ _ _ _ c.in_ok-put_marks-in-Marked.ensures e ∙ ap (λ (x : tree.Expression). c.args.out.now.items ++ text_of (expression c.args.line x)) (sym is))
    c.put_operand-in-Marked.ensures

pub prefix::put_prefixed-returns : goal.prefix::put_prefixed-returns
prefix::put_prefixed-returns t c =
    on_ok c.put_operand.result
    (λ e. prefix_text _ _ _ _ c.args.sign _ c.is_signed.result (signed_cast c.args.line (expression_of c.args.operand.now) ∙ sym c.is_signed.ensures) c.in_ok-put_sign.ensures c.in_ok-put_gap_if.ensures e)
    c.put_operand.ensures

pub prefix::put_step-returns : goal.prefix::put_step-returns
prefix::put_step-returns t c =
    on_ok c.put_operand.result
    (λ e. prefix_text _ _ _ _ c.args.sign _ c.is_signed.result (signed_unary c.args.line (expression_of c.args.target.now) ∙ sym c.is_signed.ensures) c.in_ok-put_sign.ensures c.in_ok-put_gap_if.ensures e)
    c.put_operand.ensures

-- ---- lists

pub operation::put_list-loop-at-init : goal.operation::put_list-loop-at-init
operation::put_list-loop-at-init t c = ap (λ (x : Pieces). c.args.out.now.items ++ text_of x) (sym (list_is c.args.line (level_meant c.args.asked) c.args.list.now))

pub operation::put_list-loop-at-preserved : goal.operation::put_list-loop-at-preserved
operation::put_list-loop-at-preserved t c =
    one_more (operand_at c.args.line (level_meant c.args.asked)) comma_gap c.args.list.now c.loop-at.at c.index-list-at.result c.loop-at.out.items _ _ _ c.loop-at-test.true c.index-list-at.is c.in_ok-put_comma_unless.ensures c.in_ok-put_operand.ensures c.loop-at.invariant

pub operation::put_list-returns : goal.operation::put_list-returns
operation::put_list-returns t c =
    ended (λ (l : List Expr). separated comma_gap (eqb c.loop-at.at 0) (map (operand_at c.args.line (level_meant c.args.asked)) l)) c.args.list.now c.loop-at.at _ _ (omega arith) refl c.loop-at.invariant

pub member::put_member_declarators-loop-at-init : goal.member::put_member_declarators-loop-at-init
member::put_member_declarators-loop-at-init t c = ap (λ (x : Pieces). c.args.out.now.items ++ text_of x) (sym (member_declarators_are c.args.line c.args.declarators.now))

pub member::put_member_declarators-loop-at-preserved : goal.member::put_member_declarators-loop-at-preserved
member::put_member_declarators-loop-at-preserved t c =
    one_more (member_declarator_at c.args.line) comma_gap c.args.declarators.now c.loop-at.at c.index-declarators-at.result c.loop-at.out.items _ _ _ c.loop-at-test.true c.index-declarators-at.is
    c.in_ok-put_comma_unless.ensures (joined _ _ _ _ _ c.in_ok-put_declarator.ensures c.in_ok-put_after_sign.ensures) c.loop-at.invariant

pub member::put_member_declarators-returns : goal.member::put_member_declarators-returns
member::put_member_declarators-returns t c =
    ended (λ (l : List _). separated comma_gap (eqb c.loop-at.at 0) (map (member_declarator_at c.args.line) l)) c.args.declarators.now c.loop-at.at _ _ (omega arith) refl c.loop-at.invariant

pub declarator::put_parameter_list-loop-at-init : goal.declarator::put_parameter_list-loop-at-init
declarator::put_parameter_list-loop-at-init t c = ap (λ (x : Pieces). c.args.out.now.items ++ text_of x) (sym (parameters_are c.args.line c.args.list.now))

pub declarator::put_parameter_list-loop-at-preserved : goal.declarator::put_parameter_list-loop-at-preserved
declarator::put_parameter_list-loop-at-preserved t c =
    one_more (parameter_at c.args.line) comma_gap c.args.list.now c.loop-at.at c.index-list-at.result c.loop-at.out.items _ _ _ c.loop-at-test.true c.index-list-at.is
    c.in_ok-put_comma_unless.ensures (apart_text _ _ c.in_ok-before.before _ _ _ c.in_ok-before.ensures.stands c.in_ok-before.ensures.text c.in_ok-put_declared.ensures) c.loop-at.invariant

pub declarator::put_parameter_list-returns : goal.declarator::put_parameter_list-returns
declarator::put_parameter_list-returns t c =
    ended (λ (l : List Parameter). separated comma_gap (eqb c.loop-at.at 0) (map (parameter_at c.args.line) l)) c.args.list.now c.loop-at.at _ _ (omega arith) refl c.loop-at.invariant

pub mark::put_marks-loop-mark-preserved : goal.mark::put_marks-loop-mark-preserved
mark::put_marks-loop-mark-preserved t c =
    next (λ (l : List Mark). marks_pieces c.args.line (marks_in l)) (λ (l : List Mark). marks_pieces c.args.line (marks_in l)) _ c.args.marks.now c.loop-mark.mark-index c.mark-item.result c.loop-mark.out.items _ _
    c.loop-mark-test.true c.mark-item.is (joined _ _ _ _ _ c.in_ok-put_mark.ensures c.in_ok-put_comma.ensures) (marks_step c.args.line c.mark-item.result _) c.loop-mark.invariant

pub mark::put_marks-returns : goal.mark::put_marks-returns
unfolding operand
mark::put_marks-returns t c = ended (λ (l : List Mark). marks_pieces c.args.line (marks_in l)) c.args.marks.now c.loop-mark.mark-index _ _ (omega arith) refl c.loop-mark.invariant

pub mark::put_bindings-loop-binding-preserved : goal.mark::put_bindings-loop-binding-preserved
mark::put_bindings-loop-binding-preserved t c =
    next (λ (l : List Binding). bindings c.args.line (bindings_in l)) (λ (l : List Binding). bindings c.args.line (bindings_in l)) _ c.args.bound.now c.loop-binding.binding-index c.binding-item.result c.loop-binding.out.items _ _
    c.loop-binding-test.true c.binding-item.is
    (joined _ _ _ _ _ (joined _ _ _ _ _ (joined _ _ _ _ _ c.in_ok-put_comma.ensures c.in_ok-put_name.ensures) c.in_ok-put_comma-2.ensures) c.in_ok-put_operand.ensures)
    (bindings_step c.args.line c.binding-item.result _) c.loop-binding.invariant

pub mark::put_bindings-returns : goal.mark::put_bindings-returns
unfolding operand
mark::put_bindings-returns t c = ended (λ (l : List Binding). bindings c.args.line (bindings_in l)) c.args.bound.now c.loop-binding.binding-index _ _ (omega arith) refl c.loop-binding.invariant

pub member::put_members-loop-member-preserved : goal.member::put_members-loop-member-preserved
member::put_members-loop-member-preserved t c =
    next (λ (l : List Member). member_lines c.args.line (members_in l)) (λ (l : List Member). member_lines c.args.line (members_in l)) _ c.args.members.now c.loop-member.member-index c.member-item.result c.loop-member.out.items _ _
    c.loop-member-test.true c.member-item.is c.in_ok-put_member_line.ensures (members_step c.args.line c.member-item.result _) c.loop-member.invariant

pub member::put_members-returns : goal.member::put_members-returns
unfolding operand
member::put_members-returns t c = ended (λ (l : List Member). member_lines c.args.line (members_in l)) c.args.members.now c.loop-member.member-index _ _ (omega arith) refl c.loop-member.invariant

pub member::put_enumerators-loop-at-preserved : goal.member::put_enumerators-loop-at-preserved
member::put_enumerators-loop-at-preserved t c =
    next (λ (l : List Enumerator). enumerator_lines c.args.line (enumerators_in l)) (λ (l : List Enumerator). enumerator_lines c.args.line (enumerators_in l)) _ c.args.enumerators.now c.loop-at.at c.index-enumerators-at.result c.loop-at.out.items _ _
    c.loop-at-test.true c.index-enumerators-at.is
    (joined _ _ _ _ _ (joined _ _ _ _ _ (joined _ _ _ _ _ (joined _ _ _ _ _ c.in_ok-put_indent.ensures c.in_ok-put_name.ensures) c.in_ok-put_after_sign.ensures)
    (c.in_ok-put_sign_if.ensures ∙ ap (λ (b : Bool). c.put_after_sign.new.out.items ++ text_of (word_if b k.Comma)) (sym (more_left c.args.enumerators.now (c.loop-at.at + 1))))) c.in_ok-end_line.ensures)
    (enumerators_step c.args.line c.index-enumerators-at.result _) c.loop-at.invariant

pub member::put_enumerators-returns : goal.member::put_enumerators-returns
unfolding operand
member::put_enumerators-returns t c = ended (λ (l : List Enumerator). enumerator_lines c.args.line (enumerators_in l)) c.args.enumerators.now c.loop-at.at _ _ (omega arith) refl c.loop-at.invariant

pub specifier::put_types-loop-at-preserved : goal.specifier::put_types-loop-at-preserved
specifier::put_types-loop-at-preserved t c =
    let later : (c.args.before || ltb 0 (c.loop-at.at + 1)) ≡ true = or_later c.args.before (c.loop-at.at + 1) (omega arith) in
    next (λ (l : List TypeSpecifier). behind (c.args.before || ltb 0 c.loop-at.at) (type_specifiers c.args.line (types_in l)))
    (λ (l : List TypeSpecifier). behind (c.args.before || ltb 0 (c.loop-at.at + 1)) (type_specifiers c.args.line (types_in l))) _ c.args.types.now c.loop-at.at c.index-types-at.result c.loop-at.out.items _ _
    c.loop-at-test.true c.index-types-at.is (joined _ _ _ _ _ c.in_ok-put_gap_if.ensures c.in_ok-put_type.ensures)
    (types_step c.args.line (c.args.before || ltb 0 c.loop-at.at) (c.args.before || ltb 0 (c.loop-at.at + 1)) c.index-types-at.result _ later) c.loop-at.invariant

pub specifier::put_types-returns : goal.specifier::put_types-returns
unfolding operand
specifier::put_types-returns t c =
    ended (λ (l : List TypeSpecifier). behind (c.args.before || ltb 0 c.loop-at.at) (type_specifiers c.args.line (types_in l))) c.args.types.now c.loop-at.at _ _ (omega arith) (behind_nothing (c.args.before || ltb 0 c.loop-at.at)) c.loop-at.invariant

pub declarator::put_back-loop-part-preserved : goal.declarator::put_back-loop-part-preserved
declarator::put_back-loop-part-preserved t c =
    next (λ (l : List DeclaratorPart). back c.args.line c.loop-part.pointer (parts_in l)) (λ (l : List DeclaratorPart). back c.args.line c.in_ok-pointer.pointer (parts_in l)) _ c.args.parts.now c.loop-part.part-index c.part-item.result c.loop-part.out.items _ _
    c.loop-part-test.true c.part-item.is c.in_ok-pointer.ensures.text
    (parts_step c.args.line c.loop-part.pointer c.part-item.result _ ∙ ap (λ (b : Bool). back c.args.line c.loop-part.pointer (part_before c.part-item.result tree.no_parts) ++ back c.args.line b (parts_in (drop (c.loop-part.part-index + 1) c.args.parts.now))) (sym c.in_ok-pointer.ensures.pointer))
    c.loop-part.invariant

pub declarator::put_back-returns : goal.declarator::put_back-returns
declarator::put_back-returns t c = ended (λ (l : List DeclaratorPart). back c.args.line c.loop-part.pointer (parts_in l)) c.args.parts.now c.loop-part.part-index _ _ (omega arith) refl c.loop-part.invariant

-- ---- declarators

pub declarator::put_declared-returns : goal.declarator::put_declared-returns
declarator::put_declared-returns t c =
    on_ok c.put_declarator.result
    (λ e. declared_text c.args.line c.args.before (declarator_of c.args.declarator.now) _ _ _
    (c.in_ok-put_gap_if.ensures ∙ ap (λ (b : Bool). c.args.out.now.items ++ text_of (gap_if (c.args.before && b))) c.is_written.ensures) e)
    c.put_declarator.ensures

pub declarator::put_declarator-returns : goal.declarator::put_declarator-returns
declarator::put_declarator-returns t c =
    on_ok c.put_back.result
    (λ e. declarator_text c.args.line c.args.declarator.now.name c.args.declarator.now.parts.items c.deref.result.now c.deref-2.result.now c.is_some.result _ _ _ _
    c.is_some.ensures c.deref.ensures.value c.deref-2.ensures.value c.in_ok-put_front.ensures c.in_ok-put_name_if.ensures e)
    c.put_back.ensures

pub declarator::put_suffix-returns-in-Pointer-clause-text : goal.declarator::put_suffix-returns-in-Pointer-clause-text
unfolding text_of
declarator::put_suffix-returns-in-Pointer-clause-text t c =
    sym (append-nil c.args.out.now.items) ∙ ap (λ (x : DeclaratorPart). c.args.out.now.items ++ text_of (back c.args.line c.args.pointer (part_before x tree.no_parts))) (sym c.in-Pointer.is)

pub declarator::put_suffix-returns-in_ok-put_sign-in-Array-2-clause-text : goal.declarator::put_suffix-returns-in_ok-put_sign-in-Array-2-clause-text
declarator::put_suffix-returns-in_ok-put_sign-in-Array-2-clause-text t c =
    array_text c.args.line c.args.pointer c.args.part.now c.in-Array.length _ _ _ _ _ c.in-Array.is c.in_ok-put_sign_if-in-Array.ensures c.in_ok-put_sign-in-Array.ensures c.in_ok-put_maybe-in-Array.ensures c.in_ok-put_sign-in-Array-2.ensures

pub declarator::put_suffix-returns-in_ok-put_sign-in-Function-2-clause-text : goal.declarator::put_suffix-returns-in_ok-put_sign-in-Function-2-clause-text
declarator::put_suffix-returns-in_ok-put_sign-in-Function-2-clause-text t c =
    function_text c.args.line c.args.pointer c.args.part.now c.in-Function.parameters _ _ _ _ _ c.in-Function.is c.in_ok-put_sign_if-in-Function.ensures c.in_ok-put_sign-in-Function.ensures c.in_ok-put_parameters-in-Function.ensures c.in_ok-put_sign-in-Function-2.ensures

pub declarator::put_parameters-returns-in-Listed : goal.declarator::put_parameters-returns-in-Listed
unfolding operand
declarator::put_parameters-returns-in-Listed t c =
    on_ok c.put_parameter_list.result
    (λ e. e ∙ ap (λ (x : tree.Parameters). c.args.out.now.items ++ text_of (parameters c.args.line x))
    (sym (ap parameters_of c.in-Listed.is ∙ listed_is c.in-Listed.list ∙ ap (λ (x : List Parameter). tree.Listed (parameter_list_in x)) (sym c.deref.ensures.value))))
    c.put_parameter_list.ensures

pub declarator::put_parameters-returns-in_ok-put_comma-in-Open : goal.declarator::put_parameters-returns-in_ok-put_comma-in-Open
unfolding operand
declarator::put_parameters-returns-in_ok-put_comma-in-Open t c =
    on_ok c.put_sign-in-Open.result
    (λ e. joined _ _ _ _ _ (joined _ _ _ _ _ c.in_ok-put_parameter_list-in-Open.ensures c.in_ok-put_comma-in-Open.ensures) e ∙ ap (λ (x : tree.Parameters). c.args.out.now.items ++ text_of (parameters c.args.line x))
    (sym (ap parameters_of c.in-Open.is ∙ open_is c.in-Open.list ∙ ap (λ (x : List Parameter). tree.Open (parameter_list_in x)) (sym c.deref-in-Open.ensures.value))))
    c.put_sign-in-Open.ensures

-- ---- marks, specifiers and members

pub mark::put_mark-returns : goal.mark::put_mark-returns
mark::put_mark-returns t c =
    on_ok c.put_sign-3.result
    (λ e. mark_text c.args.line (expression_of (out-Mark c.args.mark.now).predicate) (out-Mark c.args.mark.now).id (out-Mark c.args.mark.now).tag c.deref.result.now c.label_word.result _ _ _ _ _ _ _ _
    (c.label_word.ensures ∙ ap (λ (b : Bool). if b then k.Label else k.LabelBind) (c.is_empty.ensures ∙ ap (λ (n : ℕ). eqb n 0) (sym c.deref.ensures.len)))
    c.in_ok-put_sign.ensures c.in_ok-put_sign-2.ensures c.in_ok-put_operand.ensures c.in_ok-put_id.ensures c.in_ok-put_tag.ensures c.in_ok-put_bindings.ensures e
    ∙ ap (λ (x : tree.Mark). c.args.out.now.items ++ text_of (mark c.args.line x))
    (ap (λ (l : List Binding). tree.mark (expression_of (out-Mark c.args.mark.now).predicate) (out-Mark c.args.mark.now).id (out-Mark c.args.mark.now).tag (bindings_in l)) c.deref.ensures.value ∙ sym (mark_held c.args.mark.now)))
    c.put_sign-3.ensures

pub specifier::put_specifiers-returns-clause-text : goal.specifier::put_specifiers-returns-clause-text
unfolding operand
specifier::put_specifiers-returns-clause-text t c =
    apart_text _ _ c.in_ok-before.before _ _ _ c.in_ok-before.ensures.stands c.in_ok-before.ensures.text c.in_ok-put_types.ensures
    ∙ ap (λ (l : List TypeSpecifier). c.args.out.now.items ++ text_of (apart (words_pieces (words_of c.args.specifiers.now.storage c.args.specifiers.now.inline c.args.specifiers.now.noreturn c.args.specifiers.now.quals)) (type_specifiers c.args.line (types_in l)))) c.deref.ensures.value

pub specifier::put_specifiers-returns-clause-stands : goal.specifier::put_specifiers-returns-clause-stands
unfolding operand
specifier::put_specifiers-returns-clause-stands t c =
    ap (λ (b : Bool). c.in_ok-before.before || not b) (c.is_empty.ensures ∙ ap (λ (n : ℕ). eqb n 0) (sym c.deref.ensures.len))
    ∙ specifiers_stand c.args.line (words_pieces (words_of c.args.specifiers.now.storage c.args.specifiers.now.inline c.args.specifiers.now.noreturn c.args.specifiers.now.quals)) c.deref.result.now c.in_ok-before.before c.in_ok-before.ensures.stands
    ∙ ap (λ (l : List TypeSpecifier). stands (apart (words_pieces (words_of c.args.specifiers.now.storage c.args.specifiers.now.inline c.args.specifiers.now.noreturn c.args.specifiers.now.quals)) (type_specifiers c.args.line (types_in l)))) c.deref.ensures.value

pub specifier::put_struct-returns : goal.specifier::put_struct-returns
unfolding operand
specifier::put_struct-returns t c =
    on_ok c.close_braces.result
    (λ e. braces_text c.args.line k.Struct c.args.tag.now _ _ _ _ _ _ _ c.in_ok-put_sign.ensures c.in_ok-put_tag_if.ensures c.in_ok-open_braces.ensures c.in_ok-put_members.ensures e
    ∙ ap (λ (n : ℕ). c.args.out.now.items ++ text_of (apart (sign k.Struct ∷ name_behind c.args.tag.now) (sign k.OpenBrace ∷ line_end ∷ member_lines n (members_in c.args.members.now) ++ indent c.args.line ∷ sign k.CloseBrace ∷ []))) c.in_ok-inner.ensures)
    c.close_braces.ensures

pub specifier::put_enum-returns : goal.specifier::put_enum-returns
unfolding operand
specifier::put_enum-returns t c =
    on_ok c.close_braces.result
    (λ e. braces_text c.args.line k.Enum c.args.tag.now _ _ _ _ _ _ _ c.in_ok-put_sign.ensures c.in_ok-put_tag_if.ensures c.in_ok-open_braces.ensures c.in_ok-put_enumerators.ensures e
    ∙ ap (λ (n : ℕ). c.args.out.now.items ++ text_of (apart (sign k.Enum ∷ name_behind c.args.tag.now) (sign k.OpenBrace ∷ line_end ∷ enumerator_lines n (enumerators_in c.args.enumerators.now) ++ indent c.args.line ∷ sign k.CloseBrace ∷ []))) c.in_ok-inner.ensures)
    c.close_braces.ensures

pub specifier::put_type-returns-in-Struct : goal.specifier::put_type-returns-in-Struct
specifier::put_type-returns-in-Struct t c =
    on_ok c.put_struct.result
    (λ e. e ∙ ap (λ (x : tree.TypeSpecifier). c.args.out.now.items ++ text_of (type_specifier c.args.line x))
    (sym (ap type_of c.in-Struct.is ∙ struct_is c.in-Struct.tag c.in-Struct.members ∙ ap (λ (x : List Member). tree.Struct c.in-Struct.tag (members_in x)) (sym c.deref.ensures.value))))
    c.put_struct.ensures

pub specifier::put_type-returns-in-Enum : goal.specifier::put_type-returns-in-Enum
specifier::put_type-returns-in-Enum t c =
    on_ok c.put_enum.result
    (λ e. e ∙ ap (λ (x : tree.TypeSpecifier). c.args.out.now.items ++ text_of (type_specifier c.args.line x))
    (sym (ap type_of c.in-Enum.is ∙ enum_is c.in-Enum.tag c.in-Enum.enumerators ∙ ap (λ (x : List Enumerator). tree.Enum c.in-Enum.tag (enumerators_in x)) (sym c.deref-in-Enum.ensures.value))))
    c.put_enum.ensures

pub prefix::put_type_name-returns : goal.prefix::put_type_name-returns
prefix::put_type_name-returns t c =
    on_ok c.put_sign-2.result
    (λ e. joined _ _ _ _ _ c.in_ok-put_sign.ensures (joined _ _ _ _ _ (apart_text _ _ c.in_ok-before.before _ _ _ c.in_ok-before.ensures.stands c.in_ok-before.ensures.text c.in_ok-put_declared.ensures) e))
    c.put_sign-2.ensures

pub member::put_member_line-returns : goal.member::put_member_line-returns
member::put_member_line-returns t c =
    on_ok c.end_line.result
    (λ e. member_text c.args.line (specifiers_of (out-Member c.args.member.now).specifiers) (member_declarators_in (out-Member c.args.member.now).declarators.items) c.in_ok-before.before _ _ _ _ _ _ _
    c.in_ok-put_indent.ensures c.in_ok-before.ensures.text c.in_ok-before.ensures.stands
    (c.in_ok-put_gap_if.ensures ∙ ap (λ (b : Bool). c.put_specifiers.new.out.items ++ text_of (gap_if (c.in_ok-before.before && b))) (c.any_stands.ensures ∙ ap (λ (l : List MemberDeclarator). declarators_stand (member_declarators_in l)) c.deref.ensures.value))
    (c.in_ok-put_member_declarators.ensures ∙ ap (λ (l : List MemberDeclarator). c.put_gap_if.new.out.items ++ text_of (member_declarators c.args.line (member_declarators_in l))) c.deref-2.ensures.value)
    c.in_ok-put_sign.ensures e
    ∙ ap (λ (x : tree.StructMember). c.args.out.now.items ++ text_of (member_lines c.args.line (tree.a_member x tree.no_members))) (sym (member_held c.args.member.now)))
    c.end_line.ensures
