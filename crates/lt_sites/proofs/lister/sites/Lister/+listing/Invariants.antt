use Rattle.std.proofs.Common.{◌≡◌, drop}
use Rattle.lt_tree.specs.Records.{expressions_in, marks_in, bindings_in, types_in, members_in, member_declarators_in, enumerators_in, parts_in, parameter_list_in}
use Rattle.lt_tree.specs.Nodes.{in_expressions, in_marks, in_bindings, in_types, in_members, in_member_declarators, in_enumerators, in_parts, in_parameter_list}
use Rattle.lt_sites.specs.Listed.{listed, entries}
use Rattle.lt_sites.proofs.lister.sites.Lister.+listing.Given as goal

abbrev pub invariant-expressions-expressions : goal.invariant-expressions-expressions
invariant-expressions-expressions l = entries l.self ≡ listed (in_expressions (expressions_in (drop l.at l.list))) (entries l.initial.self)

abbrev pub invariant-marks-marks : goal.invariant-marks-marks
invariant-marks-marks l = entries l.self ≡ listed (in_marks (marks_in (drop l.at l.list))) (entries l.initial.self)

abbrev pub invariant-bindings-bindings : goal.invariant-bindings-bindings
invariant-bindings-bindings l = entries l.self ≡ listed (in_bindings (bindings_in (drop l.at l.list))) (entries l.initial.self)

abbrev pub invariant-types-types : goal.invariant-types-types
invariant-types-types l = entries l.self ≡ listed (in_types (types_in (drop l.at l.list))) (entries l.initial.self)

abbrev pub invariant-members-members : goal.invariant-members-members
invariant-members-members l = entries l.self ≡ listed (in_members (members_in (drop l.at l.list))) (entries l.initial.self)

abbrev pub invariant-member_declarators-declarators : goal.invariant-member_declarators-declarators
invariant-member_declarators-declarators l = entries l.self ≡ listed (in_member_declarators (member_declarators_in (drop l.at l.list))) (entries l.initial.self)

abbrev pub invariant-enumerators-enumerators : goal.invariant-enumerators-enumerators
invariant-enumerators-enumerators l = entries l.self ≡ listed (in_enumerators (enumerators_in (drop l.at l.list))) (entries l.initial.self)

abbrev pub invariant-parts-parts : goal.invariant-parts-parts
invariant-parts-parts l = entries l.self ≡ listed (in_parts (parts_in (drop l.at l.list))) (entries l.initial.self)

abbrev pub invariant-parameter_list-parameters : goal.invariant-parameter_list-parameters
invariant-parameter_list-parameters l = entries l.self ≡ listed (in_parameter_list (parameter_list_in (drop l.at l.list))) (entries l.initial.self)
