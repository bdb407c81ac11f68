use Rattle.std.proofs.Common.{◌≡◌, ◌++◌, ◌||◌, drop, map, eqb, ltb, false}
use Rattle.lt_tree.specs.Pieces.{text_of}
use Rattle.lt_tree.specs.Records.{expressions_in, marks_in, bindings_in, types_in, members_in, member_declarators_in, enumerators_in, parts_in, parameter_list_in}
use Rattle.lt_tree.specs.Canon.{comma_gap, list, marks_pieces, bindings, type_specifiers, member_lines, member_declarators, enumerator_lines, parameter_list}
use Rattle.lt_print.specs.Lists.{separated, behind}
use Rattle.lt_print.specs.Levels.{level_meant}
use Rattle.lt_print.specs.Declarators.{back}
use Rattle.lt_print.proofs.Rows.{operand_at, member_declarator_at, parameter_at}
use Rattle.lt_print.proofs.+printer.Given as goal

abbrev pub invariant-operation::put_list-loop-at : goal.invariant-operation::put_list-loop-at
invariant-operation::put_list-loop-at l =
    l.out.items ++ text_of (separated comma_gap (eqb l.at 0) (map (operand_at l.line (level_meant l.asked)) (drop l.at l.list))) ≡ l.fn.out.items ++ text_of (list l.line (level_meant l.asked) (expressions_in l.list))

abbrev pub invariant-member::put_member_declarators-loop-at : goal.invariant-member::put_member_declarators-loop-at
invariant-member::put_member_declarators-loop-at l =
    l.out.items ++ text_of (separated comma_gap (eqb l.at 0) (map (member_declarator_at l.line) (drop l.at l.declarators))) ≡ l.fn.out.items ++ text_of (member_declarators l.line (member_declarators_in l.declarators))

abbrev pub invariant-declarator::put_parameter_list-loop-at : goal.invariant-declarator::put_parameter_list-loop-at
invariant-declarator::put_parameter_list-loop-at l =
    l.out.items ++ text_of (separated comma_gap (eqb l.at 0) (map (parameter_at l.line) (drop l.at l.list))) ≡ l.fn.out.items ++ text_of (parameter_list l.line (parameter_list_in l.list))

abbrev pub invariant-mark::put_marks-loop-mark : goal.invariant-mark::put_marks-loop-mark
invariant-mark::put_marks-loop-mark l = l.out.items ++ text_of (marks_pieces l.line (marks_in (drop l.mark-index l.marks))) ≡ l.fn.out.items ++ text_of (marks_pieces l.line (marks_in l.marks))

abbrev pub invariant-mark::put_bindings-loop-binding : goal.invariant-mark::put_bindings-loop-binding
invariant-mark::put_bindings-loop-binding l = l.out.items ++ text_of (bindings l.line (bindings_in (drop l.binding-index l.bound))) ≡ l.fn.out.items ++ text_of (bindings l.line (bindings_in l.bound))

abbrev pub invariant-member::put_members-loop-member : goal.invariant-member::put_members-loop-member
invariant-member::put_members-loop-member l = l.out.items ++ text_of (member_lines l.line (members_in (drop l.member-index l.members))) ≡ l.fn.out.items ++ text_of (member_lines l.line (members_in l.members))

abbrev pub invariant-member::put_enumerators-loop-at : goal.invariant-member::put_enumerators-loop-at
invariant-member::put_enumerators-loop-at l = l.out.items ++ text_of (enumerator_lines l.line (enumerators_in (drop l.at l.enumerators))) ≡ l.fn.out.items ++ text_of (enumerator_lines l.line (enumerators_in l.enumerators))

abbrev pub invariant-specifier::put_types-loop-at : goal.invariant-specifier::put_types-loop-at
invariant-specifier::put_types-loop-at l =
    l.out.items ++ text_of (behind (l.before || ltb 0 l.at) (type_specifiers l.line (types_in (drop l.at l.types)))) ≡ l.fn.out.items ++ text_of (behind l.before (type_specifiers l.line (types_in l.types)))

abbrev pub invariant-declarator::put_back-loop-part : goal.invariant-declarator::put_back-loop-part
invariant-declarator::put_back-loop-part l = l.out.items ++ text_of (back l.line l.pointer (parts_in (drop l.part-index l.parts))) ≡ l.fn.out.items ++ text_of (back l.line false (parts_in l.parts))
