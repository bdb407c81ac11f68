-- The value of a tree that lies in memory.
use Rattle.std.specs.Prelude.{Bool}
use Rattle.std.specs.Global.{Vec}
use Rattle.lt_model.specs.declared.ctype.Quals.{Quals}
pub use Rattle.lt_model.specs.TypeView.{qualifiers_of}
use Rattle.lt_tree.specs.declared.specifier.Storage.{Storage}
use Rattle.lt_tree.specs.declared.expression.Expr.{Expr}
use Rattle.lt_tree.specs.declared.mark.Mark.{Mark}
use Rattle.lt_tree.specs.declared.specifier.Member.{Member}
use Rattle.lt_tree.specs.declared.specifier.TypeSpecifier.{TypeSpecifier}
use Rattle.lt_tree.specs.declared.declarator.DeclaratorPart.{DeclaratorPart}
use Rattle.lt_tree.specs.declared.declarator.Parameters.{Parameters}
use Rattle.lt_tree.specs.declared.declarator.DeclaratorPart.TheBlock as at
use Rattle.lt_tree.specs.Tree as t

abbrev pub words_of : Vec Storage → Bool → Bool → Quals → t.Words
words_of storage inline noreturn quals = record { storage = storage.items; inline = inline; noreturn = noreturn; qualifiers = qualifiers_of quals }

abbrev mutual
  pub expression_of : Expr → t.Expression
  expression_of (at.Name name) = t.Name name
  expression_of (at.Constant text) = t.Constant text
  expression_of (at.Text bytes) = t.Text bytes
  expression_of (at.Index' p whole q index) = t.Index (expression_of whole) (expression_of index)
  expression_of (at.Call' p callee shape arguments) = t.Call (expression_of callee) (expressions_of arguments)
  expression_of (at.Member' p whole name) = t.Member (expression_of whole) name
  expression_of (at.Arrow' p pointer name) = t.Arrow (expression_of pointer) name
  expression_of (at.PostInc' p target) = t.PostInc (expression_of target)
  expression_of (at.PostDec' p target) = t.PostDec (expression_of target)
  expression_of (at.PreInc' p target) = t.PreInc (expression_of target)
  expression_of (at.PreDec' p target) = t.PreDec (expression_of target)
  expression_of (at.Unary' op p operand) = t.Unary op (expression_of operand)
  expression_of (at.SizeofExpr' p operand) = t.SizeofExpr (expression_of operand)
  expression_of (at.SizeofType' p storage inline noreturn quals shape types name shape' parts) = t.SizeofType (t.specifiers (words_of storage inline noreturn quals) (types_of types)) (t.declarator name (parts_of parts))
  expression_of (at.Cast' p storage inline noreturn quals shape types name shape' parts q operand) = t.Cast (t.specifiers (words_of storage inline noreturn quals) (types_of types)) (t.declarator name (parts_of parts)) (expression_of operand)
  expression_of (at.Binary' op p left q right) = t.Binary op (expression_of left) (expression_of right)
  expression_of (at.Logical' op p left q right) = t.Logical op (expression_of left) (expression_of right)
  expression_of (at.Conditional' p test q left r right) = t.Conditional (expression_of test) (expression_of left) (expression_of right)
  expression_of (at.Assign' op p target q value) = t.Assign op (expression_of target) (expression_of value)
  expression_of (at.Comma' shape parts) = t.Comma (expressions_of parts)
  expression_of (at.Marked' shape marks p value) = t.Marked (marks_of marks) (expression_of value)
  expression_of (at.Decide' p operand when_true when_false tag) = t.Decide (expression_of operand) when_true when_false tag
  expression_of (at.After' p operand id tag) = t.After (expression_of operand) id tag

  pub expressions_of : {m : _} → at.Row_of-Expr m → t.Expressions
  expressions_of at.end_of-Expr = t.no_expressions
  expressions_of (at.more_of-Expr first rest) = t.an_expression (expression_of first) (expressions_of rest)

  pub marks_of : {m : _} → at.Row_of-Mark m → t.Marks
  marks_of at.end_of-Mark = t.no_marks
  marks_of (at.more_of-Mark first rest) = t.a_mark (mark_of first) (marks_of rest)

  pub mark_of : Mark → t.Mark
  mark_of (at.struct-Mark predicate id tag shape bound) = t.mark (expression_of predicate) id tag (bindings_of bound)

  pub bindings_of : {m : _} → at.Row_of-Binding m → t.Bindings
  bindings_of at.end_of-Binding = t.no_bindings
  bindings_of (at.more_of-Binding name value rest) = t.a_binding name (expression_of value) (bindings_of rest)

  pub types_of : {m : _} → at.Row_of-TypeSpecifier m → t.TypeSpecifiers
  types_of at.end_of-TypeSpecifier = t.no_types
  types_of (at.more_of-TypeSpecifier first rest) = t.a_type (type_of first) (types_of rest)

  pub type_of : TypeSpecifier → t.TypeSpecifier
  type_of (at.Basic basic) = t.Basic basic
  type_of (at.Word word) = t.Word word
  type_of (at.StructTag tag) = t.StructTag tag
  type_of (at.Struct' tag shape members) = t.Struct tag (members_of members)
  type_of (at.EnumTag tag) = t.EnumTag tag
  type_of (at.Enum' tag shape enumerators) = t.Enum tag (enumerators_of enumerators)
  type_of (at.Named name) = t.Named name

  pub members_of : {m : _} → at.Row_of-Member m → t.Members
  members_of at.end_of-Member = t.no_members
  members_of (at.more_of-Member first rest) = t.a_member (member_of first) (members_of rest)

  pub member_of : Member → t.StructMember
  member_of (at.struct-Member storage inline noreturn quals shape types shape' declarators) = t.member (t.specifiers (words_of storage inline noreturn quals) (types_of types)) (member_declarators_of declarators)

  pub member_declarators_of : {m : _} → at.Row_of-MemberDeclarator m → t.MemberDeclarators
  member_declarators_of at.end_of-MemberDeclarator = t.no_declarators
  member_declarators_of (at.more_of-MemberDeclarator name shape' parts width rest) =
      t.a_declarator (t.declarator name (parts_of parts)) (maybe_of width) (member_declarators_of rest)

  pub maybe_of : at.Held-DeclaratorPart-Array-0 → t.Maybe
  maybe_of at.None' = t.absent
  maybe_of (at.Some' p e) = t.present (expression_of e)

  pub enumerators_of : {m : _} → at.Row_of-Enumerator m → t.Enumerators
  enumerators_of at.end_of-Enumerator = t.no_enumerators
  enumerators_of (at.more_of-Enumerator name value rest) = t.an_enumerator name (maybe_of value) (enumerators_of rest)

  pub parts_of : {m : _} → at.Row_of-DeclaratorPart m → t.Parts
  parts_of at.end_of-DeclaratorPart = t.no_parts
  parts_of (at.more_of-DeclaratorPart first rest) = part_before first (parts_of rest)

  pub part_before : DeclaratorPart → t.Parts → t.Parts
  part_before (at.Pointer quals) rest = t.Pointer (qualifiers_of quals) rest
  part_before (at.Array' length) rest = t.Array (maybe_of length) rest
  part_before (at.Function parameters) rest = t.Function (parameters_of parameters) rest

  pub parameters_of : Parameters → t.Parameters
  parameters_of at.Unstated = t.Unstated
  parameters_of at.Void = t.Void
  parameters_of (at.Listed' shape list) = t.Listed (parameter_list_of list)
  parameters_of (at.Open' shape list) = t.Open (parameter_list_of list)

  pub parameter_list_of : {m : _} → at.Row_of-Parameter m → t.ParameterList
  parameter_list_of at.end_of-Parameter = t.no_parameters
  parameter_list_of (at.more_of-Parameter storage inline noreturn quals shape types name shape' parts rest) = t.a_parameter (t.specifiers (words_of storage inline noreturn quals) (types_of types)) (t.declarator name (parts_of parts)) (parameter_list_of rest)
