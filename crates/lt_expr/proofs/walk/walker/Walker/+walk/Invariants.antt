use Rattle.std.proofs.Common.{◌≡◌, drop}
use Rattle.lt_tree.specs.Records.{expressions_in, marks_in, bindings_in, types_in, members_in, member_declarators_in, enumerators_in, parts_in, parameter_list_in}
use Rattle.lt_expr.specs.Walk.{walk_all, walk_marks, walk_bindings, walk_types, walk_members, walk_member_declarators, walk_enumerators, walk_parts, walk_parameter_list}
use Rattle.lt_expr.proofs.walk.walker.Walker.+walk.Given as goal

abbrev pub invariant-expressions-expressions : goal.invariant-expressions-expressions
invariant-expressions-expressions l = l.self ≡ walk_all (expressions_in (drop l.at l.list)) l.initial.self

abbrev pub invariant-marks-marks : goal.invariant-marks-marks
invariant-marks-marks l = l.self ≡ walk_marks (marks_in (drop l.at l.list)) l.initial.self

abbrev pub invariant-bindings-bindings : goal.invariant-bindings-bindings
invariant-bindings-bindings l = l.self ≡ walk_bindings (bindings_in (drop l.at l.list)) l.initial.self

abbrev pub invariant-types-types : goal.invariant-types-types
invariant-types-types l = l.self ≡ walk_types (types_in (drop l.at l.list)) l.initial.self

abbrev pub invariant-members-members : goal.invariant-members-members
invariant-members-members l = l.self ≡ walk_members (members_in (drop l.at l.list)) l.initial.self

abbrev pub invariant-member_declarators-declarators : goal.invariant-member_declarators-declarators
invariant-member_declarators-declarators l = l.self ≡ walk_member_declarators (member_declarators_in (drop l.at l.list)) l.initial.self

abbrev pub invariant-enumerators-enumerators : goal.invariant-enumerators-enumerators
invariant-enumerators-enumerators l = l.self ≡ walk_enumerators (enumerators_in (drop l.at l.list)) l.initial.self

abbrev pub invariant-parts-parts : goal.invariant-parts-parts
invariant-parts-parts l = l.self ≡ walk_parts (parts_in (drop l.at l.list)) l.initial.self

abbrev pub invariant-parameter_list-parameters : goal.invariant-parameter_list-parameters
invariant-parameter_list-parameters l = l.self ≡ walk_parameter_list (parameter_list_in (drop l.at l.list)) l.initial.self
