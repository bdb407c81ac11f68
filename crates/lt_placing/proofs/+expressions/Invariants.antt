use Rattle.std.proofs.Common.{drop}
use Rattle.lt_tree.specs.declared.mark.Binding.{Binding}
use Rattle.lt_tree.specs.declared.specifier.MemberDeclarator.{MemberDeclarator}
use Rattle.lt_tree.specs.declared.specifier.Enumerator.{Enumerator}
use Rattle.lt_tree.specs.declared.declarator.Parameter.{Parameter}
use Rattle.lt_tree.specs.Tree as t
use Rattle.lt_tree.specs.View.{expression_of, mark_of, type_of, member_of, part_before}
use Rattle.lt_tree.specs.Records.{expressions_in, marks_in, bindings_in, maybe_in, specifiers_of, declarator_of, types_in, members_in, member_declarators_in, enumerators_in, parts_in, parameter_list_in}
use Rattle.lt_tree.specs.Nodes.{in_expressions, in_marks, in_bindings, in_types, in_members, in_member_declarators, in_enumerators, in_parts, in_parameter_list}
use Rattle.lt_objectives.specs.Marked.{within_all}
use Rattle.lt_placing.proofs.Loops.{ComesFar}
use Rattle.lt_placing.proofs.+expressions.Given as goal

abbrev pub invariant-expression::expressions-list : goal.invariant-expression::expressions-list
invariant-expression::expressions-list l = ComesFar (λ y. t.an_expression (expression_of y)) (λ new k xs. within_all new k (expressions_in xs)) (λ xs. in_expressions (expressions_in xs)) l.initial.walk l.walk l.all.items l.list (drop l.e-index l.list)

abbrev pub invariant-label::marks-list : goal.invariant-label::marks-list
invariant-label::marks-list l = ComesFar (λ y. t.a_mark (mark_of y)) (λ new k xs. marks_in xs) (λ xs. in_marks (marks_in xs)) l.initial.walk l.walk l.all.items l.list (drop l.each-index l.list)

abbrev pub invariant-label::bindings-list : goal.invariant-label::bindings-list
invariant-label::bindings-list l = ComesFar (λ (y : Binding). t.a_binding y.name (expression_of y.value)) (λ new k xs. bindings_in xs) (λ xs. in_bindings (bindings_in xs)) l.initial.walk l.walk l.all.items l.list (drop l.each-index l.list)

abbrev pub invariant-specifier::types-list : goal.invariant-specifier::types-list
invariant-specifier::types-list l = ComesFar (λ y. t.a_type (type_of y)) (λ new k xs. types_in xs) (λ xs. in_types (types_in xs)) l.initial.walk l.walk l.all.items l.list (drop l.each-index l.list)

abbrev pub invariant-specifier::members-list : goal.invariant-specifier::members-list
invariant-specifier::members-list l = ComesFar (λ y. t.a_member (member_of y)) (λ new k xs. members_in xs) (λ xs. in_members (members_in xs)) l.initial.walk l.walk l.all.items l.list (drop l.each-index l.list)

abbrev pub invariant-specifier::member_declarators-list : goal.invariant-specifier::member_declarators-list
invariant-specifier::member_declarators-list l = ComesFar (λ (y : MemberDeclarator). t.a_declarator (declarator_of y.declarator) (maybe_in y.width)) (λ new k xs. member_declarators_in xs) (λ xs. in_member_declarators (member_declarators_in xs)) l.initial.walk l.walk l.all.items l.list (drop l.each-index l.list)

abbrev pub invariant-specifier::enumerators-list : goal.invariant-specifier::enumerators-list
invariant-specifier::enumerators-list l = ComesFar (λ (y : Enumerator). t.an_enumerator y.name (maybe_in y.value)) (λ new k xs. enumerators_in xs) (λ xs. in_enumerators (enumerators_in xs)) l.initial.walk l.walk l.all.items l.list (drop l.each-index l.list)

abbrev pub invariant-declarator::parts-list : goal.invariant-declarator::parts-list
invariant-declarator::parts-list l = ComesFar part_before (λ new k xs. parts_in xs) (λ xs. in_parts (parts_in xs)) l.initial.walk l.walk l.all.items l.list (drop l.each-index l.list)

abbrev pub invariant-declarator::parameter_list-list : goal.invariant-declarator::parameter_list-list
invariant-declarator::parameter_list-list l = ComesFar (λ (y : Parameter). t.a_parameter (specifiers_of y.specifiers) (declarator_of y.declarator)) (λ new k xs. parameter_list_in xs) (λ xs. in_parameter_list (parameter_list_in xs)) l.initial.walk l.walk l.all.items l.list (drop l.each-index l.list)
