use Rattle.std.proofs.Common.{◌≡◌, drop}
use Rattle.lt_tree.specs.declared.specifier.MemberDeclarator.{MemberDeclarator}
use Rattle.lt_tree.specs.declared.specifier.Enumerator.{Enumerator}
use Rattle.lt_tree.specs.declared.declarator.Parameter.{Parameter}
use Rattle.lt_tree.specs.Tree as t
use Rattle.lt_tree.specs.View.{expression_of, type_of, member_of, part_before}
use Rattle.lt_tree.specs.Records.{expressions_in, maybe_in, specifiers_of, declarator_of, types_in, members_in, member_declarators_in, enumerators_in, parts_in, parameter_list_in}
use Rattle.lt_tree.specs.Erasure.{erased_expressions, erased_types, erased_members, erased_member_declarators, erased_enumerators, erased_parts, erased_parameter_list}
use Rattle.lt_marks.proofs.Made.{before}
use Rattle.lt_marks.proofs.erasure.+erasure.Given as goal

abbrev pub invariant-expression::expressions-list : goal.invariant-expression::expressions-list
invariant-expression::expressions-list l = before (λ e. t.an_expression (expression_of e)) l.all.items (erased_expressions (expressions_in (drop l.e-index l.list))) ≡ erased_expressions (expressions_in l.list)

abbrev pub invariant-specifier::types-list : goal.invariant-specifier::types-list
invariant-specifier::types-list l = before (λ e. t.a_type (type_of e)) l.all.items (erased_types (types_in (drop l.each-index l.list))) ≡ erased_types (types_in l.list)

abbrev pub invariant-specifier::members-list : goal.invariant-specifier::members-list
invariant-specifier::members-list l = before (λ e. t.a_member (member_of e)) l.all.items (erased_members (members_in (drop l.each-index l.list))) ≡ erased_members (members_in l.list)

abbrev pub invariant-specifier::member_declarators-list : goal.invariant-specifier::member_declarators-list
invariant-specifier::member_declarators-list l = before (λ (e : MemberDeclarator). t.a_declarator (declarator_of e.declarator) (maybe_in e.width)) l.all.items (erased_member_declarators (member_declarators_in (drop l.each-index l.list))) ≡ erased_member_declarators (member_declarators_in l.list)

abbrev pub invariant-specifier::enumerators-list : goal.invariant-specifier::enumerators-list
invariant-specifier::enumerators-list l = before (λ (e : Enumerator). t.an_enumerator e.name (maybe_in e.value)) l.all.items (erased_enumerators (enumerators_in (drop l.each-index l.list))) ≡ erased_enumerators (enumerators_in l.list)

abbrev pub invariant-declarator::parts-list : goal.invariant-declarator::parts-list
invariant-declarator::parts-list l = before (part_before) l.all.items (erased_parts (parts_in (drop l.each-index l.list))) ≡ erased_parts (parts_in l.list)

abbrev pub invariant-declarator::parameter_list-list : goal.invariant-declarator::parameter_list-list
invariant-declarator::parameter_list-list l = before (λ (e : Parameter). t.a_parameter (specifiers_of e.specifiers) (declarator_of e.declarator)) l.all.items (erased_parameter_list (parameter_list_in (drop l.each-index l.list))) ≡ erased_parameter_list (parameter_list_in l.list)
