use Rattle.std.proofs.Common.{◌≡◌, drop}
use Rattle.lt_tree.specs.Records.{expressions_in, marks_in, bindings_in, types_in, members_in, member_declarators_in, enumerators_in, parts_in}
use Rattle.lt_tree.specs.Scope.{hiding, enumerators_in_all, enumerators_in_marks, enumerators_in_bindings, enumerators_in_types, enumerators_in_members, enumerators_in_member_declarators, enumerators_of, enumerators_in_parts}
use Rattle.lt_expr.proofs.typedefs.Typedefs.+hide.Given as goal

abbrev pub invariant-hide_expressions-expressions : goal.invariant-hide_expressions-expressions
invariant-hide_expressions-expressions l = hiding (enumerators_in_all (expressions_in (drop l.e-index l.list))) l.self ≡ hiding (enumerators_in_all (expressions_in l.list)) l.initial.self

abbrev pub invariant-hide_marks-marks : goal.invariant-hide_marks-marks
invariant-hide_marks-marks l = hiding (enumerators_in_marks (marks_in (drop l.mark-index l.list))) l.self ≡ hiding (enumerators_in_marks (marks_in l.list)) l.initial.self

abbrev pub invariant-hide_bindings-bindings : goal.invariant-hide_bindings-bindings
invariant-hide_bindings-bindings l = hiding (enumerators_in_bindings (bindings_in (drop l.binding-index l.list))) l.self ≡ hiding (enumerators_in_bindings (bindings_in l.list)) l.initial.self

abbrev pub invariant-hide_parts-parts : goal.invariant-hide_parts-parts
invariant-hide_parts-parts l = hiding (enumerators_in_parts (parts_in (drop l.part-index l.list))) l.self ≡ hiding (enumerators_in_parts (parts_in l.list)) l.initial.self

abbrev pub invariant-hide_types-types : goal.invariant-hide_types-types
invariant-hide_types-types l = hiding (enumerators_in_types (types_in (drop l.kind-index l.list))) l.self ≡ hiding (enumerators_in_types (types_in l.list)) l.initial.self

abbrev pub invariant-hide_members-members : goal.invariant-hide_members-members
invariant-hide_members-members l = hiding (enumerators_in_members (members_in (drop l.member-index l.list))) l.self ≡ hiding (enumerators_in_members (members_in l.list)) l.initial.self

abbrev pub invariant-hide_member_declarators-declarators : goal.invariant-hide_member_declarators-declarators
invariant-hide_member_declarators-declarators l = hiding (enumerators_in_member_declarators (member_declarators_in (drop l.member-index l.list))) l.self ≡ hiding (enumerators_in_member_declarators (member_declarators_in l.list)) l.initial.self

abbrev pub invariant-hide_enumerators-enumerators : goal.invariant-hide_enumerators-enumerators
invariant-hide_enumerators-enumerators l = hiding (enumerators_of (enumerators_in (drop l.enumerator-index l.list))) l.self ≡ hiding (enumerators_of (enumerators_in l.list)) l.initial.self
