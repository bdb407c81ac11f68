use Rattle.std.proofs.Common.{◌≡◌, max, drop}
use Rattle.lt_tree.specs.Records.{types_in, expressions_in, marks_in, bindings_in, members_in, member_declarators_in, enumerators_in, parts_in, parameter_list_in}
use Rattle.lt_tree.specs.Ids.{greatest_id, ids_in_types, ids_in_expressions, ids_in_marks, ids_in_bindings, ids_in_members, ids_in_member_declarators, ids_in_enumerators, ids_in_parts, ids_in_parameter_list}
use Rattle.lt_marks.proofs.ids.expression.+ids.Given as goal

abbrev pub invariant-in_expressions-list : goal.invariant-in_expressions-list
invariant-in_expressions-list l = max l.best (greatest_id (ids_in_expressions (expressions_in (drop l.e-index l.list)))) ≡ greatest_id (ids_in_expressions (expressions_in l.list))

abbrev pub invariant-in_marks-list : goal.invariant-in_marks-list
invariant-in_marks-list l = max l.best (greatest_id (ids_in_marks (marks_in (drop l.mark-index l.list)))) ≡ greatest_id (ids_in_marks (marks_in l.list))

abbrev pub invariant-in_bindings-list : goal.invariant-in_bindings-list
invariant-in_bindings-list l = max l.best (greatest_id (ids_in_bindings (bindings_in (drop l.binding-index l.list)))) ≡ greatest_id (ids_in_bindings (bindings_in l.list))

abbrev pub invariant-in_members-list : goal.invariant-in_members-list
invariant-in_members-list l = max l.best (greatest_id (ids_in_members (members_in (drop l.member-index l.list)))) ≡ greatest_id (ids_in_members (members_in l.list))

abbrev pub invariant-in_member_declarators-list : goal.invariant-in_member_declarators-list
invariant-in_member_declarators-list l = max l.best (greatest_id (ids_in_member_declarators (member_declarators_in (drop l.member-index l.list)))) ≡ greatest_id (ids_in_member_declarators (member_declarators_in l.list))

abbrev pub invariant-in_enumerators-list : goal.invariant-in_enumerators-list
invariant-in_enumerators-list l = max l.best (greatest_id (ids_in_enumerators (enumerators_in (drop l.enumerator-index l.list)))) ≡ greatest_id (ids_in_enumerators (enumerators_in l.list))

abbrev pub invariant-in_parts-list : goal.invariant-in_parts-list
invariant-in_parts-list l = max l.best (greatest_id (ids_in_parts (parts_in (drop l.part-index l.list)))) ≡ greatest_id (ids_in_parts (parts_in l.list))

abbrev pub invariant-in_parameter_list-list : goal.invariant-in_parameter_list-list
invariant-in_parameter_list-list l = max l.best (greatest_id (ids_in_parameter_list (parameter_list_in (drop l.parameter-index l.list)))) ≡ greatest_id (ids_in_parameter_list (parameter_list_in l.list))

abbrev pub invariant-in_types-list : goal.invariant-in_types-list
invariant-in_types-list l = max l.best (greatest_id (ids_in_types (types_in (drop l.ty-index l.list)))) ≡ greatest_id (ids_in_types (types_in l.list))
