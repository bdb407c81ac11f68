use Rattle.std.proofs.Common.{◌≡◌, ◌+◌, ◌*◌, max, pos, true, map, length, [], drop, ◌++◌}
use denote.Param.Weighed.{most}
use Rattle.lt_tree.specs.declared.expression.Expr.{size-Expr}
use Rattle.lt_tree.specs.declared.mark.Mark.{size-Mark}
use Rattle.lt_tree.specs.declared.specifier.TypeName.{size-TypeName}
use Rattle.lt_tree.specs.Records as tree
use Rattle.lt_type.specs.Found as found
use Rattle.lt_type.specs.Found.{part_of, found_of}
use Rattle.lt_type.proofs.MarkTurns.{mark_before}
use Rattle.lt_tree.specs.Records.{expressions_in, bindings_in, marks_in, types_in, enumerators_in}
use Rattle.lt_tree.specs.Typing.Steps.{gives}
use Rattle.lt_tree.specs.Typing.ExpressionTyping as typing
use Rattle.lt_env.specs.Views.{all_typed, bindings_with}
use Rattle.lt_declare.specs.DeclaredViews.{naming_of, setting_of, members_in, specified_of}
use Rattle.lt_type.proofs.Turns.{Turning, before}
use Rattle.lt_type.proofs.walk.+typing.Given as goal

abbrev pub invariant-parts::expressions-list : goal.invariant-parts::expressions-list
invariant-parts::expressions-list l = Turning l.initial.walker l.walker (λ types. typing.expressions (expressions_in l.list)) (λ types. typing.expressions (expressions_in (drop l.e-index l.list))) (λ types xs. gives (all_typed types l.all.items ++ xs))

abbrev pub invariant-marks::bindings-list : goal.invariant-marks::bindings-list
invariant-marks::bindings-list l = record {
  found : length l.all.items ≡ l.binding-index;
  turns : Turning l.initial.walker l.walker (λ types. typing.bindings (bindings_in l.list)) (λ types. typing.bindings (bindings_in (drop l.binding-index l.list))) (λ types bs. gives (bindings_with types l.list l.all.items ++ bs));
}

abbrev pub invariant-marks::marks-list : goal.invariant-marks::marks-list
invariant-marks::marks-list l = Turning l.initial.walker l.walker (λ types. typing.marks (marks_in l.list)) (λ types. typing.marks (marks_in (drop l.m-index l.list))) (λ types ms. gives (before (mark_before types) l.all.items ms))

abbrev pub invariant-naming::type_specifiers-list : goal.invariant-naming::type_specifiers-list
invariant-naming::type_specifiers-list l = Turning l.initial.walker l.walker (λ types. typing.type_specifiers (types_in l.list) (setting_of l.setting)) (λ types. typing.type_specifiers (types_in (drop l.t-index l.list)) (setting_of l.setting)) (λ types all. gives (map (naming_of types) l.all.items ++ all))

abbrev pub invariant-naming::enumerators-list : goal.invariant-naming::enumerators-list
invariant-naming::enumerators-list l = Turning l.initial.walker l.walker (λ types. typing.enumerators (enumerators_in l.list) (pos 0)) (λ types. typing.enumerators (enumerators_in (drop l.e-index l.list)) l.counted) (λ types t. gives t)

abbrev pub invariant-members::members-list : goal.invariant-members::members-list
invariant-members::members-list l = Turning l.initial.walker l.walker (λ types. typing.members (tree.members_in l.list) []) (λ types. typing.members (tree.members_in (drop l.m-index l.list)) (members_in types l.found)) (λ types t. gives t)

abbrev pub invariant-members::member_declarators-list : goal.invariant-members::member_declarators-list
invariant-members::member_declarators-list l = Turning l.initial.walker l.walker (λ types. typing.member_declarators (tree.member_declarators_in l.list) (specified_of types l.it) (members_in types l.fn.found))
    (λ types. typing.member_declarators (tree.member_declarators_in (drop l.m-index l.list)) (specified_of types l.it) (members_in types l.all.members)) (λ types f. gives (record f { faults = l.all.faults ++ f.faults }))

abbrev pub invariant-declarators::shapes-list : goal.invariant-declarators::shapes-list
invariant-declarators::shapes-list l = Turning l.initial.walker l.walker (λ types. found.parts l.list l.is_definition true) (λ types. found.parts (drop l.part-index l.list) l.is_defined l.is_outermost) (λ types ps. gives (map (part_of types) l.all.items ++ ps))

abbrev pub invariant-parameters::found_parameters-list : goal.invariant-parameters::found_parameters-list
invariant-parameters::found_parameters-list l = Turning l.initial.walker l.walker (λ types. found.parameters l.list l.is_definition) (λ types. found.parameters (drop l.p-index l.list) l.is_definition) (λ types all. gives (map (found_of types) l.all.items ++ all))

-- ---- measures: the depth of what is gone over, and which function calls which at the same depth

abbrev pub decreases-expression : goal.decreases-expression
decreases-expression l = 8 * goal.size-expression l

abbrev pub decreases-parts::member : goal.decreases-parts::member
decreases-parts::member l = 8 * goal.size-parts::member l + 3

abbrev pub decreases-parts::arrow : goal.decreases-parts::arrow
decreases-parts::arrow l = 8 * goal.size-parts::arrow l + 3

abbrev pub decreases-operators::step : goal.decreases-operators::step
decreases-operators::step l = 8 * goal.size-operators::step l + 3

abbrev pub decreases-operators::unary : goal.decreases-operators::unary
decreases-operators::unary l = 8 * goal.size-operators::unary l + 3

abbrev pub decreases-operators::size : goal.decreases-operators::size
decreases-operators::size l = 8 * goal.size-operators::size l + 3

abbrev pub decreases-operators::comma : goal.decreases-operators::comma
decreases-operators::comma l = 8 * goal.size-operators::comma l + 3

abbrev pub decreases-operators::unmarked : goal.decreases-operators::unmarked
decreases-operators::unmarked l = 8 * goal.size-operators::unmarked l + 1

abbrev pub decreases-parts::expressions : goal.decreases-parts::expressions
decreases-parts::expressions l = 8 * goal.size-parts::expressions l + 1

abbrev pub decreases-parts::index : goal.decreases-parts::index
decreases-parts::index l = 8 * max (size-Expr l.whole.now) (size-Expr l.index.now) + 3

abbrev pub decreases-operators::binary : goal.decreases-operators::binary
decreases-operators::binary l = 8 * max (size-Expr l.left.now) (size-Expr l.right.now) + 3

abbrev pub decreases-operators::logical : goal.decreases-operators::logical
decreases-operators::logical l = 8 * max (size-Expr l.left.now) (size-Expr l.right.now) + 3

abbrev pub decreases-operators::assignment : goal.decreases-operators::assignment
decreases-operators::assignment l = 8 * max (size-Expr l.target.now) (size-Expr l.value.now) + 3

abbrev pub decreases-operators::conditional : goal.decreases-operators::conditional
decreases-operators::conditional l = 8 * max (size-Expr l.test.now) (max (size-Expr l.left.now) (size-Expr l.right.now)) + 3

abbrev pub decreases-parts::call : goal.decreases-parts::call
decreases-parts::call l = 8 * max (size-Expr l.callee.now) (most size-Expr l.arguments.now) + 3

abbrev pub decreases-marks::mark : goal.decreases-marks::mark
decreases-marks::mark l = 8 * goal.size-marks::mark l

abbrev pub decreases-marks::bindings : goal.decreases-marks::bindings
decreases-marks::bindings l = 8 * goal.size-marks::bindings l + 1

abbrev pub decreases-marks::marks : goal.decreases-marks::marks
decreases-marks::marks l = 8 * goal.size-marks::marks l + 1

abbrev pub decreases-marks::decide : goal.decreases-marks::decide
decreases-marks::decide l = 8 * goal.size-marks::decide l + 3

abbrev pub decreases-marks::after : goal.decreases-marks::after
decreases-marks::after l = 8 * goal.size-marks::after l + 3

abbrev pub decreases-marks::marked : goal.decreases-marks::marked
decreases-marks::marked l = 8 * max (most size-Mark l.list.now) (size-Expr l.value.now) + 3

abbrev pub decreases-naming::maybe : goal.decreases-naming::maybe
decreases-naming::maybe l = 8 * goal.size-naming::maybe l + 2

abbrev pub decreases-naming::specifiers : goal.decreases-naming::specifiers
decreases-naming::specifiers l = 8 * goal.size-naming::specifiers l + 2

abbrev pub decreases-naming::type_specifiers : goal.decreases-naming::type_specifiers
decreases-naming::type_specifiers l = 8 * goal.size-naming::type_specifiers l + 1

abbrev pub decreases-naming::type_specifier : goal.decreases-naming::type_specifier
decreases-naming::type_specifier l = 8 * goal.size-naming::type_specifier l

abbrev pub decreases-naming::structure : goal.decreases-naming::structure
decreases-naming::structure l = 8 * goal.size-naming::structure l + 2

abbrev pub decreases-naming::enumeration : goal.decreases-naming::enumeration
decreases-naming::enumeration l = 8 * goal.size-naming::enumeration l + 2

abbrev pub decreases-naming::enumerators : goal.decreases-naming::enumerators
decreases-naming::enumerators l = 8 * goal.size-naming::enumerators l + 1

abbrev pub decreases-naming::enumerator : goal.decreases-naming::enumerator
decreases-naming::enumerator l = 8 * goal.size-naming::enumerator l

abbrev pub decreases-members::members : goal.decreases-members::members
decreases-members::members l = 8 * goal.size-members::members l + 1

abbrev pub decreases-members::member : goal.decreases-members::member
decreases-members::member l = 8 * goal.size-members::member l

abbrev pub decreases-members::member_declarators : goal.decreases-members::member_declarators
decreases-members::member_declarators l = 8 * goal.size-members::member_declarators l + 1

abbrev pub decreases-members::member_declarator : goal.decreases-members::member_declarator
decreases-members::member_declarator l = 8 * goal.size-members::member_declarator l

abbrev pub decreases-declarators::declarator : goal.decreases-declarators::declarator
decreases-declarators::declarator l = 8 * goal.size-declarators::declarator l + 3

abbrev pub decreases-declarators::parts : goal.decreases-declarators::parts
decreases-declarators::parts l = 8 * goal.size-declarators::parts l + 2

abbrev pub decreases-declarators::shapes : goal.decreases-declarators::shapes
decreases-declarators::shapes l = 8 * goal.size-declarators::shapes l + 1

abbrev pub decreases-declarators::shape : goal.decreases-declarators::shape
decreases-declarators::shape l = 8 * goal.size-declarators::shape l

abbrev pub decreases-declarators::size_of_type : goal.decreases-declarators::size_of_type
decreases-declarators::size_of_type l = 8 * goal.size-declarators::size_of_type l + 3

abbrev pub decreases-parameters::block_of_parameters : goal.decreases-parameters::block_of_parameters
decreases-parameters::block_of_parameters l = 8 * goal.size-parameters::block_of_parameters l + 4

abbrev pub decreases-parameters::parameters : goal.decreases-parameters::parameters
decreases-parameters::parameters l = 8 * goal.size-parameters::parameters l + 3

abbrev pub decreases-parameters::parameter_list : goal.decreases-parameters::parameter_list
decreases-parameters::parameter_list l = 8 * goal.size-parameters::parameter_list l + 2

abbrev pub decreases-parameters::found_parameters : goal.decreases-parameters::found_parameters
decreases-parameters::found_parameters l = 8 * goal.size-parameters::found_parameters l + 1

abbrev pub decreases-parameters::parameter : goal.decreases-parameters::parameter
decreases-parameters::parameter l = 8 * goal.size-parameters::parameter l

abbrev pub decreases-declarators::cast : goal.decreases-declarators::cast
decreases-declarators::cast l = 8 * max (size-TypeName l.name.now) (size-Expr l.operand.now) + 3
