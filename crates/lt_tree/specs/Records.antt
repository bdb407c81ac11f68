-- The values of the structs that trees are made of, and of lists of them.
use Rattle.std.specs.Prelude.{List, [], ◌∷◌, Option, Some, None}
use Rattle.std.specs.Global.{Box}
use Rattle.lt_tree.specs.declared.expression.Expr.{Expr}
use Rattle.lt_tree.specs.declared.mark.Mark.{Mark}
use Rattle.lt_tree.specs.declared.mark.Binding.{Binding}
use Rattle.lt_tree.specs.declared.specifier.TypeSpecifier.{TypeSpecifier}
use Rattle.lt_tree.specs.declared.specifier.Specifiers.{Specifiers}
use Rattle.lt_tree.specs.declared.specifier.Member.{Member}
use Rattle.lt_tree.specs.declared.specifier.MemberDeclarator.{MemberDeclarator}
use Rattle.lt_tree.specs.declared.specifier.Enumerator.{Enumerator}
use Rattle.lt_tree.specs.declared.declarator.Declarator.{Declarator}
use Rattle.lt_tree.specs.declared.declarator.DeclaratorPart.{DeclaratorPart}
use Rattle.lt_tree.specs.declared.declarator.Parameter.{Parameter}
use Rattle.lt_tree.specs.Tree as t
use Rattle.lt_tree.specs.View.{words_of, expression_of, mark_of, type_of, member_of, part_before}

abbrev pub expressions_in : List Expr → t.Expressions
expressions_in [] = t.no_expressions
expressions_in (first ∷ rest) = t.an_expression (expression_of first) (expressions_in rest)

-- an expression that may be left out
abbrev pub maybe_in : Option (Box Expr) → t.Maybe
maybe_in None = t.absent
maybe_in (Some e) = t.present (expression_of e.value)

-- the same before it is put into a box
abbrev pub maybe_given : Option Expr → t.Maybe
maybe_given None = t.absent
maybe_given (Some e) = t.present (expression_of e)

abbrev pub marks_in : List Mark → t.Marks
marks_in [] = t.no_marks
marks_in (first ∷ rest) = t.a_mark (mark_of first) (marks_in rest)

abbrev pub bindings_in : List Binding → t.Bindings
bindings_in [] = t.no_bindings
bindings_in (first ∷ rest) = t.a_binding first.name (expression_of first.value) (bindings_in rest)

abbrev pub types_in : List TypeSpecifier → t.TypeSpecifiers
types_in [] = t.no_types
types_in (first ∷ rest) = t.a_type (type_of first) (types_in rest)

abbrev pub specifiers_of : Specifiers → t.Specifiers
specifiers_of s = t.specifiers (words_of s.storage s.inline s.noreturn s.quals) (types_in s.types.items)

abbrev pub parts_in : List DeclaratorPart → t.Parts
parts_in [] = t.no_parts
parts_in (first ∷ rest) = part_before first (parts_in rest)

abbrev pub declarator_of : Declarator → t.Declarator
declarator_of d = t.declarator d.name (parts_in d.parts.items)

abbrev pub parameter_list_in : List Parameter → t.ParameterList
parameter_list_in [] = t.no_parameters
parameter_list_in (first ∷ rest) = t.a_parameter (specifiers_of first.specifiers) (declarator_of first.declarator) (parameter_list_in rest)

abbrev pub members_in : List Member → t.Members
members_in [] = t.no_members
members_in (first ∷ rest) = t.a_member (member_of first) (members_in rest)

abbrev pub member_declarators_in : List MemberDeclarator → t.MemberDeclarators
member_declarators_in [] = t.no_declarators
member_declarators_in (first ∷ rest) = t.a_declarator (declarator_of first.declarator) (maybe_in first.width) (member_declarators_in rest)

abbrev pub enumerators_in : List Enumerator → t.Enumerators
enumerators_in [] = t.no_enumerators
enumerators_in (first ∷ rest) = t.an_enumerator first.name (maybe_in first.value) (enumerators_in rest)
