-- The ids of the marks of a unit, as written, in the order of the text.
use Rattle.std.specs.Prelude.{ℕ, ℤ, pos, negsuc, nat_le, if◌then◌else◌, max, List, [], ◌∷◌, ◌++◌, Option, Some, None}
use Rattle.std.specs.List.{flat_map}
use Rattle.lt_tree.specs.Constants.{value_of}
use Rattle.lt_tree.specs.Tree as t

abbrev mutual
  pub ids_in : t.Expression → List (List ℕ)
  ids_in (t.Name name) = []
  ids_in (t.Constant text) = []
  ids_in (t.Text bytes) = []
  ids_in (t.Index whole index) = ids_in whole ++ ids_in index
  ids_in (t.Call callee arguments) = ids_in callee ++ ids_in_expressions arguments
  ids_in (t.Member whole name) = ids_in whole
  ids_in (t.Arrow pointer name) = ids_in pointer
  ids_in (t.PostInc target) = ids_in target
  ids_in (t.PostDec target) = ids_in target
  ids_in (t.PreInc target) = ids_in target
  ids_in (t.PreDec target) = ids_in target
  ids_in (t.Unary op operand) = ids_in operand
  ids_in (t.SizeofExpr operand) = ids_in operand
  ids_in (t.SizeofType s d) = ids_in_specifiers s ++ ids_in_declarator d
  ids_in (t.Cast s d operand) = ids_in_specifiers s ++ ids_in_declarator d ++ ids_in operand
  ids_in (t.Binary op left right) = ids_in left ++ ids_in right
  ids_in (t.Logical op left right) = ids_in left ++ ids_in right
  ids_in (t.Conditional test left right) = ids_in test ++ ids_in left ++ ids_in right
  ids_in (t.Assign op target value) = ids_in target ++ ids_in value
  ids_in (t.Comma parts) = ids_in_expressions parts
  ids_in (t.Marked marks value) = ids_in_marks marks ++ ids_in value
  ids_in (t.Decide operand when_true when_false tag) = ids_in operand ++ when_true ∷ when_false ∷ []
  ids_in (t.After operand id tag) = ids_in operand ++ id ∷ []

  pub ids_in_expressions : t.Expressions → List (List ℕ)
  ids_in_expressions t.no_expressions = []
  ids_in_expressions (t.an_expression first rest) = ids_in first ++ ids_in_expressions rest

  pub ids_in_maybe : t.Maybe → List (List ℕ)
  ids_in_maybe t.absent = []
  ids_in_maybe (t.present e) = ids_in e

  pub ids_in_marks : t.Marks → List (List ℕ)
  ids_in_marks t.no_marks = []
  ids_in_marks (t.a_mark first rest) = ids_in_mark first ++ ids_in_marks rest

  pub ids_in_mark : t.Mark → List (List ℕ)
  ids_in_mark (t.mark predicate id tag bound) = ids_in predicate ++ id ∷ ids_in_bindings bound

  pub ids_in_bindings : t.Bindings → List (List ℕ)
  ids_in_bindings t.no_bindings = []
  ids_in_bindings (t.a_binding name value rest) = ids_in value ++ ids_in_bindings rest

  pub ids_in_specifiers : t.Specifiers → List (List ℕ)
  ids_in_specifiers (t.specifiers words types) = ids_in_types types

  pub ids_in_types : t.TypeSpecifiers → List (List ℕ)
  ids_in_types t.no_types = []
  ids_in_types (t.a_type first rest) = ids_in_type first ++ ids_in_types rest

  pub ids_in_type : t.TypeSpecifier → List (List ℕ)
  ids_in_type (t.Basic basic) = []
  ids_in_type (t.Word word) = []
  ids_in_type (t.StructTag tag) = []
  ids_in_type (t.Struct tag members) = ids_in_members members
  ids_in_type (t.EnumTag tag) = []
  ids_in_type (t.Enum tag enumerators) = ids_in_enumerators enumerators
  ids_in_type (t.Named name) = []

  pub ids_in_members : t.Members → List (List ℕ)
  ids_in_members t.no_members = []
  ids_in_members (t.a_member first rest) = ids_in_member first ++ ids_in_members rest

  pub ids_in_member : t.StructMember → List (List ℕ)
  ids_in_member (t.member s declarators) = ids_in_specifiers s ++ ids_in_member_declarators declarators

  pub ids_in_member_declarators : t.MemberDeclarators → List (List ℕ)
  ids_in_member_declarators t.no_declarators = []
  ids_in_member_declarators (t.a_declarator first width rest) = ids_in_declarator first ++ ids_in_maybe width ++ ids_in_member_declarators rest

  pub ids_in_enumerators : t.Enumerators → List (List ℕ)
  ids_in_enumerators t.no_enumerators = []
  ids_in_enumerators (t.an_enumerator name value rest) = ids_in_maybe value ++ ids_in_enumerators rest

  pub ids_in_declarator : t.Declarator → List (List ℕ)
  ids_in_declarator (t.declarator name parts) = ids_in_parts parts

  pub ids_in_parts : t.Parts → List (List ℕ)
  ids_in_parts t.no_parts = []
  ids_in_parts (t.Pointer qualifiers rest) = ids_in_parts rest
  ids_in_parts (t.Array length rest) = ids_in_maybe length ++ ids_in_parts rest
  ids_in_parts (t.Function parameters rest) = ids_in_parameters parameters ++ ids_in_parts rest

  pub ids_in_parameters : t.Parameters → List (List ℕ)
  ids_in_parameters t.Unstated = []
  ids_in_parameters t.Void = []
  ids_in_parameters (t.Listed list) = ids_in_parameter_list list
  ids_in_parameters (t.Open list) = ids_in_parameter_list list

  pub ids_in_parameter_list : t.ParameterList → List (List ℕ)
  ids_in_parameter_list t.no_parameters = []
  ids_in_parameter_list (t.a_parameter s d rest) =
      ids_in_specifiers s ++ ids_in_declarator d ++ ids_in_parameter_list rest

abbrev mutual
  pub ids_in_initialiser : t.Initialiser → List (List ℕ)
  ids_in_initialiser (t.Value value) = ids_in value
  ids_in_initialiser (t.Braces parts) = ids_in_initialisers parts

  pub ids_in_initialisers : t.Initialisers → List (List ℕ)
  ids_in_initialisers t.no_initialisers = []
  ids_in_initialisers (t.an_initialiser first rest) = ids_in_initialiser first ++ ids_in_initialisers rest

-- the ids in what may be left out
abbrev pub ids_in_some : {X : Type 0} → (X → List (List ℕ)) → Option X → List (List ℕ)
ids_in_some ids None = []
ids_in_some ids (Some x) = ids x

abbrev pub ids_in_init_declarator : t.InitDeclarator → List (List ℕ)
ids_in_init_declarator d = ids_in_declarator d.declarator ++ ids_in_some ids_in_initialiser d.initialiser

abbrev pub ids_in_declaration : t.Declaration → List (List ℕ)
ids_in_declaration d = ids_in_specifiers d.specifiers ++ flat_map ids_in_init_declarator d.declarators

abbrev pub ids_in_start : t.ForStart → List (List ℕ)
ids_in_start t.Nothing = []
ids_in_start (t.First e) = ids_in e
ids_in_start (t.Declares declaration) = ids_in_declaration declaration

abbrev pub ids_in_label : t.Label → List (List ℕ)
ids_in_label (t.Case value) = ids_in value
ids_in_label t.Default = []

abbrev mutual
  pub ids_in_statement : t.Statement → List (List ℕ)
  ids_in_statement (t.Compound items) = ids_in_items items
  ids_in_statement (t.Evaluates e) = ids_in e
  ids_in_statement t.Null = []
  ids_in_statement (t.If test body) = ids_in test ++ ids_in_statement body
  ids_in_statement (t.IfElse test body other) = ids_in test ++ ids_in_statement body ++ ids_in_statement other
  ids_in_statement (t.While test body) = ids_in test ++ ids_in_statement body
  ids_in_statement (t.Do body test) = ids_in_statement body ++ ids_in test
  ids_in_statement (t.For start test step body) = ids_in_start start ++ ids_in_some ids_in test ++ ids_in_some ids_in step ++ ids_in_statement body
  ids_in_statement (t.Switch operand cases) = ids_in operand ++ ids_in_cases cases
  ids_in_statement t.Break = []
  ids_in_statement t.Continue = []
  ids_in_statement (t.Return value) = ids_in_some ids_in value

  pub ids_in_items : t.Items → List (List ℕ)
  ids_in_items t.no_items = []
  ids_in_items (t.a_declaration first rest) = ids_in_declaration first ++ ids_in_items rest
  ids_in_items (t.a_statement first rest) = ids_in_statement first ++ ids_in_items rest
  ids_in_items (t.a_label first rest) = ids_in_mark first ++ ids_in_items rest

  pub ids_in_cases : t.Cases → List (List ℕ)
  ids_in_cases t.no_cases = []
  ids_in_cases (t.a_case labels first rest) = flat_map ids_in_label labels ++ ids_in_statement first ++ ids_in_cases rest

abbrev pub ids_in_external : t.External → List (List ℕ)
ids_in_external (t.Defines s d body) = ids_in_specifiers s ++ ids_in_declarator d ++ ids_in_items body
ids_in_external (t.Declared declaration) = ids_in_declaration declaration

abbrev pub ids_of_unit : t.Unit → List (List ℕ)
ids_of_unit externals = flat_map ids_in_external externals

-- a value from 1 to 2,147,483,647, else 0
abbrev pub within : Option ℤ → ℕ
within None = 0
within (Some (negsuc n)) = 0
within (Some (pos n)) = if nat_le n 2147483647 then n else 0

-- the greatest of these ids that is a value from 1 to 2,147,483,647, or 0 if none is
abbrev pub greatest_id : List (List ℕ) → ℕ
greatest_id [] = 0
greatest_id (id ∷ ids) = max (within (value_of id)) (greatest_id ids)
