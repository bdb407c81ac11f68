-- Nodes with what they hold in lists.
use Rattle.std.proofs.Common.{◌≡◌, Option, ℕ, List, ap}
use Rattle.std.specs.Global.{Box, Vec}
use Rattle.lt_tree.specs.declared.expression.Expr.{Expr}
use Rattle.lt_tree.specs.declared.mark.Mark.{Mark}
use Rattle.lt_tree.specs.declared.specifier.Member.{Member}
use Rattle.lt_tree.specs.declared.specifier.Enumerator.{Enumerator}
use Rattle.lt_tree.specs.declared.declarator.Parameter.{Parameter}
use Rattle.lt_tree.specs.declared.expression.Expr.TheVariants as e
use Rattle.lt_tree.specs.declared.specifier.TypeSpecifier.TheVariants as s
use Rattle.lt_tree.specs.declared.declarator.Parameters.TheVariants as p
use Rattle.lt_tree.specs.Tree as t
use Rattle.lt_tree.specs.View.{expression_of, type_of, parameters_of}
use Rattle.lt_tree.specs.Records.{expressions_in, marks_in, members_in, enumerators_in, parameter_list_in}
use Rattle.lt_tree.proofs.Rows.{expressions_are, marks_are, members_are, enumerators_are, parameters_are}

pub call_is : (callee : Box Expr) (arguments : Vec Expr) → expression_of (e.Call callee arguments) ≡ t.Call (expression_of callee.value) (expressions_in arguments.items)
call_is callee arguments = ap (t.Call (expression_of callee.value)) (expressions_are arguments)

pub comma_is : (parts : Vec Expr) → expression_of (e.Comma parts) ≡ t.Comma (expressions_in parts.items)
comma_is parts = ap t.Comma (expressions_are parts)

pub marked_is : (marks : Vec Mark) (value : Box Expr) → expression_of (e.Marked marks value) ≡ t.Marked (marks_in marks.items) (expression_of value.value)
marked_is marks value = ap (λ (ms : t.Marks). t.Marked ms (expression_of value.value)) (marks_are marks)

pub struct_is : (tag : Option (List ℕ)) (members : Vec Member) → type_of (s.Struct tag members) ≡ t.Struct tag (members_in members.items)
struct_is tag members = ap (t.Struct tag) (members_are members)

pub enum_is : (tag : Option (List ℕ)) (enumerators : Vec Enumerator) → type_of (s.Enum tag enumerators) ≡ t.Enum tag (enumerators_in enumerators.items)
enum_is tag enumerators = ap (t.Enum tag) (enumerators_are enumerators)

pub listed_is : (list : Vec Parameter) → parameters_of (p.Listed list) ≡ t.Listed (parameter_list_in list.items)
listed_is list = ap t.Listed (parameters_are list)

pub open_is : (list : Vec Parameter) → parameters_of (p.Open list) ≡ t.Open (parameter_list_in list.items)
open_is list = ap t.Open (parameters_are list)
