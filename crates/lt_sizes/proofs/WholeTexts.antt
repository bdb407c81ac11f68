-- Each part of a text is whole: the nodes below its marks stand in it.
use Rattle.std.proofs.Common.{refl, ℕ, List, [], ◌∷◌, ◌++◌, Option, Some, None}
use Rattle.std.specs.List.{flat_map}
use Rattle.lt_tree.specs.Tree as c
use Rattle.lt_tree.specs.Nodes.{Node, an_initialiser, a_member, an_enumerator, a_label, a_declared_item, a_stated_item, a_marked_item, a_statement, an_expression, if_written, in_expression, in_expressions, in_maybe, in_marks, in_specifiers, in_types, in_type, in_members, in_member_declarators, in_enumerators, in_declarator, in_parts, in_parameters, in_parameter_list, in_initialiser, in_initialisers, in_optional_initialiser, in_init_declarator, in_declaration, in_optional, in_start, in_label, in_statement, in_items, in_cases}
use Rattle.lt_sizes.proofs.Texts.{IsWhole, empty_whole, node_whole, both_whole, mark_whole}

behind_expression : (e : c.Expression) (ns : List Node) → IsWhole ns → IsWhole (an_expression e ∷ ns)
behind_expression e ns w = node_whole (an_expression e) ns refl w

pub two : (xs ys : List Node) → IsWhole xs → IsWhole ys → IsWhole (xs ++ ys)
two xs ys p q = both_whole xs ys p q

pub three : (xs ys zs : List Node) → IsWhole xs → IsWhole ys → IsWhole zs → IsWhole (xs ++ ys ++ zs)
three xs ys zs p q r = both_whole (xs ++ ys) zs (both_whole xs ys p q) r

pub written_whole : (name : Option (List ℕ)) (parts : c.Parts) → IsWhole (if_written name parts)
written_whole None c.no_parts = empty_whole
written_whole None (c.Pointer q rest) = node_whole _ [] refl empty_whole
written_whole None (c.Array length rest) = node_whole _ [] refl empty_whole
written_whole None (c.Function ps rest) = node_whole _ [] refl empty_whole
written_whole (Some name) parts = node_whole _ [] refl empty_whole

mutual
  pub expression_whole : (e : c.Expression) → IsWhole (in_expression e)
  expression_whole (c.Name w) = behind_expression (c.Name w) [] empty_whole
  expression_whole (c.Constant w) = behind_expression (c.Constant w) [] empty_whole
  expression_whole (c.Text bytes) = behind_expression (c.Text bytes) [] empty_whole
  expression_whole (c.Index whole place) = behind_expression (c.Index whole place) _ (two _ _ (expression_whole whole) (expression_whole place))
  expression_whole (c.Call callee arguments) = behind_expression (c.Call callee arguments) _ (two _ _ (expression_whole callee) (expressions_whole arguments))
  expression_whole (c.Member e w) = behind_expression (c.Member e w) _ (expression_whole e)
  expression_whole (c.Arrow e w) = behind_expression (c.Arrow e w) _ (expression_whole e)
  expression_whole (c.PostInc e) = behind_expression (c.PostInc e) _ (expression_whole e)
  expression_whole (c.PostDec e) = behind_expression (c.PostDec e) _ (expression_whole e)
  expression_whole (c.PreInc e) = behind_expression (c.PreInc e) _ (expression_whole e)
  expression_whole (c.PreDec e) = behind_expression (c.PreDec e) _ (expression_whole e)
  expression_whole (c.Unary op e) = behind_expression (c.Unary op e) _ (expression_whole e)
  expression_whole (c.SizeofExpr e) = behind_expression (c.SizeofExpr e) _ (expression_whole e)
  expression_whole (c.SizeofType s d) = behind_expression (c.SizeofType s d) _ (two _ _ (specifiers_whole s) (declarator_whole d))
  expression_whole (c.Cast s d e) = behind_expression (c.Cast s d e) _ (three _ _ _ (specifiers_whole s) (declarator_whole d) (expression_whole e))
  expression_whole (c.Binary op left right) = behind_expression (c.Binary op left right) _ (two _ _ (expression_whole left) (expression_whole right))
  expression_whole (c.Logical op left right) = behind_expression (c.Logical op left right) _ (two _ _ (expression_whole left) (expression_whole right))
  expression_whole (c.Conditional test left right) =
      behind_expression (c.Conditional test left right) _ (three _ _ _ (expression_whole test) (expression_whole left) (expression_whole right))
  expression_whole (c.Assign op target value) = behind_expression (c.Assign op target value) _ (two _ _ (expression_whole target) (expression_whole value))
  expression_whole (c.Comma parts) = behind_expression (c.Comma parts) _ (expressions_whole parts)
  expression_whole (c.Marked marks e) = behind_expression (c.Marked marks e) _ (two _ _ (marks_whole marks) (expression_whole e))
  expression_whole (c.Decide e when_true when_false tag) = behind_expression (c.Decide e when_true when_false tag) _ (expression_whole e)
  expression_whole (c.After e id tag) = behind_expression (c.After e id tag) _ (expression_whole e)

  pub expressions_whole : (them : c.Expressions) → IsWhole (in_expressions them)
  expressions_whole c.no_expressions = empty_whole
  expressions_whole (c.an_expression e es) = two _ _ (expression_whole e) (expressions_whole es)

  maybe_whole : (it : c.Maybe) → IsWhole (in_maybe it)
  maybe_whole c.absent = empty_whole
  maybe_whole (c.present e) = expression_whole e

  pub marks_whole : (them : c.Marks) → IsWhole (in_marks them)
  marks_whole c.no_marks = empty_whole
  marks_whole (c.a_mark m ms) = two _ _ (mark_whole m) (marks_whole ms)

  pub specifiers_whole : (it : c.Specifiers) → IsWhole (in_specifiers it)
  specifiers_whole (c.specifiers words types) = types_whole types

  types_whole : (them : c.TypeSpecifiers) → IsWhole (in_types them)
  types_whole c.no_types = empty_whole
  types_whole (c.a_type type types) = two _ _ (type_whole type) (types_whole types)

  type_whole : (it : c.TypeSpecifier) → IsWhole (in_type it)
  type_whole (c.Struct tag members) = members_whole members
  type_whole (c.Enum tag enumerators) = enumerators_whole enumerators
  type_whole (c.Basic type) = empty_whole
  type_whole (c.Word word) = empty_whole
  type_whole (c.StructTag tag) = empty_whole
  type_whole (c.EnumTag tag) = empty_whole
  type_whole (c.Named name) = empty_whole

  members_whole : (them : c.Members) → IsWhole (in_members them)
  members_whole c.no_members = empty_whole
  members_whole (c.a_member (c.member s ds) ms) =
      node_whole (a_member (c.member s ds)) _ refl (three _ _ _ (specifiers_whole s) (member_declarators_whole ds) (members_whole ms))

  member_declarators_whole : (them : c.MemberDeclarators) → IsWhole (in_member_declarators them)
  member_declarators_whole c.no_declarators = empty_whole
  member_declarators_whole (c.a_declarator d width ds) = three _ _ _ (declarator_whole d) (maybe_whole width) (member_declarators_whole ds)

  enumerators_whole : (them : c.Enumerators) → IsWhole (in_enumerators them)
  enumerators_whole c.no_enumerators = empty_whole
  enumerators_whole (c.an_enumerator w value es) = node_whole (an_enumerator w value) _ refl (two _ _ (maybe_whole value) (enumerators_whole es))

  pub declarator_whole : (it : c.Declarator) → IsWhole (in_declarator it)
  declarator_whole (c.declarator name parts) = two _ _ (written_whole name parts) (parts_whole parts)

  pub parts_whole : (them : c.Parts) → IsWhole (in_parts them)
  parts_whole c.no_parts = empty_whole
  parts_whole (c.Pointer q parts) = parts_whole parts
  parts_whole (c.Array length parts) = two _ _ (maybe_whole length) (parts_whole parts)
  parts_whole (c.Function ps parts) = two _ _ (parameters_whole ps) (parts_whole parts)

  pub parameters_whole : (them : c.Parameters) → IsWhole (in_parameters them)
  parameters_whole c.Unstated = empty_whole
  parameters_whole c.Void = empty_whole
  parameters_whole (c.Listed ps) = parameter_list_whole ps
  parameters_whole (c.Open ps) = parameter_list_whole ps

  pub parameter_list_whole : (them : c.ParameterList) → IsWhole (in_parameter_list them)
  parameter_list_whole c.no_parameters = empty_whole
  parameter_list_whole (c.a_parameter s d ps) = three _ _ _ (specifiers_whole s) (declarator_whole d) (parameter_list_whole ps)

-- ---- declarations

mutual
  pub initialiser_whole : (it : c.Initialiser) → IsWhole (in_initialiser it)
  initialiser_whole (c.Value e) = node_whole (an_initialiser (c.Value e)) _ refl (expression_whole e)
  initialiser_whole (c.Braces is) = node_whole (an_initialiser (c.Braces is)) _ refl (initialisers_whole is)

  pub initialisers_whole : (them : c.Initialisers) → IsWhole (in_initialisers them)
  initialisers_whole c.no_initialisers = empty_whole
  initialisers_whole (c.an_initialiser i is) = two _ _ (initialiser_whole i) (initialisers_whole is)

pub optional_initialiser_whole : (it : Option c.Initialiser) → IsWhole (in_optional_initialiser it)
optional_initialiser_whole None = empty_whole
optional_initialiser_whole (Some i) = initialiser_whole i

pub init_declarator_whole : (d : c.InitDeclarator) → IsWhole (in_init_declarator d)
init_declarator_whole d = two _ _ (declarator_whole d.declarator) (optional_initialiser_whole d.initialiser)

pub each_whole : {A : Type 0} (of : A → List Node) (list : List A) → ((a : A) → IsWhole (of a)) → IsWhole (flat_map of list)
each_whole of [] f = empty_whole
each_whole of (a ∷ list) f = two _ _ (f a) (each_whole of list f)

pub declaration_whole : (d : c.Declaration) → IsWhole (in_declaration d)
declaration_whole d = two _ _ (specifiers_whole d.specifiers) (each_whole in_init_declarator d.declarators init_declarator_whole)

-- ---- statements

pub optional_whole : (it : Option c.Expression) → IsWhole (in_optional it)
optional_whole None = empty_whole
optional_whole (Some e) = expression_whole e

pub start_whole : (it : c.ForStart) → IsWhole (in_start it)
start_whole c.Nothing = empty_whole
start_whole (c.First e) = expression_whole e
start_whole (c.Declares d) = declaration_whole d

pub label_whole : (it : c.Label) → IsWhole (in_label it)
label_whole (c.Case e) = node_whole (a_label (c.Case e)) _ refl (expression_whole e)
label_whole c.Default = node_whole (a_label c.Default) [] refl empty_whole

stated : (x : c.Statement) (ns : List Node) → IsWhole ns → IsWhole (a_statement x ∷ ns)
stated x ns w = node_whole (a_statement x) ns refl w

mutual
  pub statement_whole : (x : c.Statement) → IsWhole (in_statement x)
  statement_whole (c.Compound items) = stated (c.Compound items) _ (items_whole items)
  statement_whole (c.Evaluates e) = stated (c.Evaluates e) _ (expression_whole e)
  statement_whole c.Null = stated c.Null [] empty_whole
  statement_whole (c.If test x) = stated (c.If test x) _ (two _ _ (expression_whole test) (statement_whole x))
  statement_whole (c.IfElse test x y) = stated (c.IfElse test x y) _ (three _ _ _ (expression_whole test) (statement_whole x) (statement_whole y))
  statement_whole (c.While test x) = stated (c.While test x) _ (two _ _ (expression_whole test) (statement_whole x))
  statement_whole (c.Do x test) = stated (c.Do x test) _ (two _ _ (statement_whole x) (expression_whole test))
  statement_whole (c.For start test step x) =
      stated (c.For start test step x) _ (two _ _ (three _ _ _ (start_whole start) (optional_whole test) (optional_whole step)) (statement_whole x))
  statement_whole (c.Switch e cases) = stated (c.Switch e cases) _ (two _ _ (expression_whole e) (cases_whole cases))
  statement_whole c.Break = stated c.Break [] empty_whole
  statement_whole c.Continue = stated c.Continue [] empty_whole
  statement_whole (c.Return e) = stated (c.Return e) _ (optional_whole e)

  pub items_whole : (them : c.Items) → IsWhole (in_items them)
  items_whole c.no_items = empty_whole
  items_whole (c.a_declaration d items) = node_whole (a_declared_item d) _ refl (two _ _ (declaration_whole d) (items_whole items))
  items_whole (c.a_statement x items) = node_whole (a_stated_item x) _ refl (two _ _ (statement_whole x) (items_whole items))
  items_whole (c.a_label m items) = node_whole (a_marked_item m) _ refl (two _ _ (mark_whole m) (items_whole items))

  pub cases_whole : (them : c.Cases) → IsWhole (in_cases them)
  cases_whole c.no_cases = empty_whole
  cases_whole (c.a_case labels x cases) = three _ _ _ (each_whole in_label labels label_whole) (statement_whole x) (cases_whole cases)
