-- Trees without their marks.
use Rattle.std.specs.Prelude.{option_map, map}
use Rattle.lt_tree.specs.Comma.{comma_of}
use Rattle.lt_tree.specs.Tree as t

-- An expression without marks: what stands behind marks, in `pc_decide` and in `pc_after`, stands alone.
abbrev mutual
  pub erased : t.Expression → t.Expression
  erased (t.Name name) = t.Name name
  erased (t.Constant text) = t.Constant text
  erased (t.Text bytes) = t.Text bytes
  erased (t.Index whole index) = t.Index (erased whole) (erased index)
  erased (t.Call callee arguments) = t.Call (erased callee) (erased_expressions arguments)
  erased (t.Member whole name) = t.Member (erased whole) name
  erased (t.Arrow pointer name) = t.Arrow (erased pointer) name
  erased (t.PostInc target) = t.PostInc (erased target)
  erased (t.PostDec target) = t.PostDec (erased target)
  erased (t.PreInc target) = t.PreInc (erased target)
  erased (t.PreDec target) = t.PreDec (erased target)
  erased (t.Unary op operand) = t.Unary op (erased operand)
  erased (t.SizeofExpr operand) = t.SizeofExpr (erased operand)
  erased (t.SizeofType s d) = t.SizeofType (erased_specifiers s) (erased_declarator d)
  erased (t.Cast s d operand) = t.Cast (erased_specifiers s) (erased_declarator d) (erased operand)
  erased (t.Binary op left right) = t.Binary op (erased left) (erased right)
  erased (t.Logical op left right) = t.Logical op (erased left) (erased right)
  erased (t.Conditional test left right) = t.Conditional (erased test) (erased left) (erased right)
  erased (t.Assign op target value) = t.Assign op (erased target) (erased value)
  erased (t.Comma parts) = erased_comma parts
  erased (t.Marked marks value) = erased value
  erased (t.Decide operand when_true when_false tag) = erased operand
  erased (t.After operand id tag) = erased operand

  pub erased_comma : t.Expressions → t.Expression
  erased_comma t.no_expressions = t.Comma t.no_expressions
  erased_comma (t.an_expression first rest) = comma_of (erased first) (erased_expressions rest)

  pub erased_expressions : t.Expressions → t.Expressions
  erased_expressions t.no_expressions = t.no_expressions
  erased_expressions (t.an_expression first rest) = t.an_expression (erased first) (erased_expressions rest)

  pub erased_maybe : t.Maybe → t.Maybe
  erased_maybe t.absent = t.absent
  erased_maybe (t.present e) = t.present (erased e)

  pub erased_specifiers : t.Specifiers → t.Specifiers
  erased_specifiers (t.specifiers words types) = t.specifiers words (erased_types types)

  pub erased_types : t.TypeSpecifiers → t.TypeSpecifiers
  erased_types t.no_types = t.no_types
  erased_types (t.a_type first rest) = t.a_type (erased_type first) (erased_types rest)

  pub erased_type : t.TypeSpecifier → t.TypeSpecifier
  erased_type (t.Basic basic) = t.Basic basic
  erased_type (t.Word word) = t.Word word
  erased_type (t.StructTag tag) = t.StructTag tag
  erased_type (t.Struct tag members) = t.Struct tag (erased_members members)
  erased_type (t.EnumTag tag) = t.EnumTag tag
  erased_type (t.Enum tag enumerators) = t.Enum tag (erased_enumerators enumerators)
  erased_type (t.Named name) = t.Named name

  pub erased_members : t.Members → t.Members
  erased_members t.no_members = t.no_members
  erased_members (t.a_member first rest) = t.a_member (erased_member first) (erased_members rest)

  pub erased_member : t.StructMember → t.StructMember
  erased_member (t.member s declarators) = t.member (erased_specifiers s) (erased_member_declarators declarators)

  pub erased_member_declarators : t.MemberDeclarators → t.MemberDeclarators
  erased_member_declarators t.no_declarators = t.no_declarators
  erased_member_declarators (t.a_declarator first width rest) =
      t.a_declarator (erased_declarator first) (erased_maybe width) (erased_member_declarators rest)

  pub erased_enumerators : t.Enumerators → t.Enumerators
  erased_enumerators t.no_enumerators = t.no_enumerators
  erased_enumerators (t.an_enumerator name value rest) = t.an_enumerator name (erased_maybe value) (erased_enumerators rest)

  pub erased_declarator : t.Declarator → t.Declarator
  erased_declarator (t.declarator name parts) = t.declarator name (erased_parts parts)

  pub erased_parts : t.Parts → t.Parts
  erased_parts t.no_parts = t.no_parts
  erased_parts (t.Pointer qualifiers rest) = t.Pointer qualifiers (erased_parts rest)
  erased_parts (t.Array length rest) = t.Array (erased_maybe length) (erased_parts rest)
  erased_parts (t.Function parameters rest) = t.Function (erased_parameters parameters) (erased_parts rest)

  pub erased_parameters : t.Parameters → t.Parameters
  erased_parameters t.Unstated = t.Unstated
  erased_parameters t.Void = t.Void
  erased_parameters (t.Listed list) = t.Listed (erased_parameter_list list)
  erased_parameters (t.Open list) = t.Open (erased_parameter_list list)

  pub erased_parameter_list : t.ParameterList → t.ParameterList
  erased_parameter_list t.no_parameters = t.no_parameters
  erased_parameter_list (t.a_parameter s d rest) =
      t.a_parameter (erased_specifiers s) (erased_declarator d) (erased_parameter_list rest)

abbrev mutual
  pub erased_initialiser : t.Initialiser → t.Initialiser
  erased_initialiser (t.Value value) = t.Value (erased value)
  erased_initialiser (t.Braces parts) = t.Braces (erased_initialisers parts)

  pub erased_initialisers : t.Initialisers → t.Initialisers
  erased_initialisers t.no_initialisers = t.no_initialisers
  erased_initialisers (t.an_initialiser first rest) = t.an_initialiser (erased_initialiser first) (erased_initialisers rest)

abbrev pub erased_init_declarator : t.InitDeclarator → t.InitDeclarator
erased_init_declarator d = record { declarator = erased_declarator d.declarator; initialiser = option_map erased_initialiser d.initialiser }

abbrev pub erased_declaration : t.Declaration → t.Declaration
erased_declaration d = record { specifiers = erased_specifiers d.specifiers; declarators = map erased_init_declarator d.declarators }

abbrev pub erased_start : t.ForStart → t.ForStart
erased_start t.Nothing = t.Nothing
erased_start (t.First e) = t.First (erased e)
erased_start (t.Declares declaration) = t.Declares (erased_declaration declaration)

abbrev pub erased_label : t.Label → t.Label
erased_label (t.Case value) = t.Case (erased value)
erased_label t.Default = t.Default

-- A statement without marks; items that are marks go.
abbrev mutual
  pub erased_statement : t.Statement → t.Statement
  erased_statement (t.Compound items) = t.Compound (erased_items items)
  erased_statement (t.Evaluates e) = t.Evaluates (erased e)
  erased_statement t.Null = t.Null
  erased_statement (t.If test body) = t.If (erased test) (erased_statement body)
  erased_statement (t.IfElse test body other) = t.IfElse (erased test) (erased_statement body) (erased_statement other)
  erased_statement (t.While test body) = t.While (erased test) (erased_statement body)
  erased_statement (t.Do body test) = t.Do (erased_statement body) (erased test)
  erased_statement (t.For start test step body) =
      t.For (erased_start start) (option_map erased test) (option_map erased step) (erased_statement body)
  erased_statement (t.Switch operand cases) = t.Switch (erased operand) (erased_cases cases)
  erased_statement t.Break = t.Break
  erased_statement t.Continue = t.Continue
  erased_statement (t.Return value) = t.Return (option_map erased value)

  pub erased_items : t.Items → t.Items
  erased_items t.no_items = t.no_items
  erased_items (t.a_declaration first rest) = t.a_declaration (erased_declaration first) (erased_items rest)
  erased_items (t.a_statement first rest) = t.a_statement (erased_statement first) (erased_items rest)
  erased_items (t.a_label first rest) = erased_items rest

  pub erased_cases : t.Cases → t.Cases
  erased_cases t.no_cases = t.no_cases
  erased_cases (t.a_case labels first rest) = t.a_case (map erased_label labels) (erased_statement first) (erased_cases rest)

abbrev pub erased_external : t.External → t.External
erased_external (t.Defines s d body) = t.Defines (erased_specifiers s) (erased_declarator d) (erased_items body)
erased_external (t.Declared declaration) = t.Declared (erased_declaration declaration)

abbrev pub erased_unit : t.Unit → t.Unit
erased_unit externals = map erased_external externals
