-- From the ends of nodes to their spots: the ends stand in the order in which nodes end, the spots in the order of a walk from parent to child.
use Rattle.std.specs.Prelude.{ℕ, List, [], ◌∷◌, drop, None}
use Rattle.lt_tree.specs.Tree as c

-- the ends that are left, the last one first, and the spots of what was walked
abbrev pub Walked : Type 0
Walked = List ℕ × List ℕ

abbrev pub last_end : List ℕ → ℕ
last_end [] = 0
last_end (at ∷ ends) = at

-- a node, and what is inside of it
abbrev pub node : (Walked → Walked) → Walked → Walked
node inside w = ((inside (drop 1 w.0, w.1)).0, last_end w.0 ∷ (inside (drop 1 w.0, w.1)).1)

-- A tree that was read before these spots: its ends are taken off, and its spots stand before.
abbrev mutual
  pub walk : c.Expression → Walked → Walked
  walk (c.Name name) w = node (λ v. v) w
  walk (c.Constant text) w = node (λ v. v) w
  walk (c.Text bytes) w = node (λ v. v) w
  walk (c.Index whole index) w = node (λ v. walk whole (walk index v)) w
  walk (c.Call callee arguments) w = node (λ v. walk callee (walk_all arguments v)) w
  walk (c.Member whole name) w = node (walk whole) w
  walk (c.Arrow pointer name) w = node (walk pointer) w
  walk (c.PostInc target) w = node (walk target) w
  walk (c.PostDec target) w = node (walk target) w
  walk (c.PreInc target) w = node (walk target) w
  walk (c.PreDec target) w = node (walk target) w
  walk (c.Unary op operand) w = node (walk operand) w
  walk (c.SizeofExpr operand) w = node (walk operand) w
  walk (c.SizeofType s d) w = node (λ v. walk_specifiers s (walk_declarator d v)) w
  walk (c.Cast s d operand) w = node (λ v. walk_specifiers s (walk_declarator d (walk operand v))) w
  walk (c.Binary op left right) w = node (λ v. walk left (walk right v)) w
  walk (c.Logical op left right) w = node (λ v. walk left (walk right v)) w
  walk (c.Conditional test left right) w = node (λ v. walk test (walk left (walk right v))) w
  walk (c.Assign op target value) w = node (λ v. walk target (walk value v)) w
  walk (c.Comma parts) w = node (walk_all parts) w
  walk (c.Marked marks value) w = node (λ v. walk_marks marks (walk value v)) w
  walk (c.Decide operand when_true when_false tag) w = node (walk operand) w
  walk (c.After operand id tag) w = node (walk operand) w

  pub walk_all : c.Expressions → Walked → Walked
  walk_all c.no_expressions w = w
  walk_all (c.an_expression first rest) w = walk first (walk_all rest w)

  pub walk_maybe : c.Maybe → Walked → Walked
  walk_maybe c.absent w = w
  walk_maybe (c.present e) w = walk e w

  pub walk_marks : c.Marks → Walked → Walked
  walk_marks c.no_marks w = w
  walk_marks (c.a_mark first rest) w = walk_mark first (walk_marks rest w)

  pub walk_mark : c.Mark → Walked → Walked
  walk_mark (c.mark predicate id tag bound) w = node (λ v. walk predicate (walk_bindings bound v)) w

  pub walk_bindings : c.Bindings → Walked → Walked
  walk_bindings c.no_bindings w = w
  walk_bindings (c.a_binding name value rest) w = walk value (walk_bindings rest w)

  pub walk_specifiers : c.Specifiers → Walked → Walked
  walk_specifiers (c.specifiers words types) w = walk_types types w

  pub walk_types : c.TypeSpecifiers → Walked → Walked
  walk_types c.no_types w = w
  walk_types (c.a_type first rest) w = walk_type first (walk_types rest w)

  pub walk_type : c.TypeSpecifier → Walked → Walked
  walk_type (c.Struct tag members) w = walk_members members w
  walk_type (c.Enum tag enumerators) w = walk_enumerators enumerators w
  walk_type _ w = w

  pub walk_members : c.Members → Walked → Walked
  walk_members c.no_members w = w
  walk_members (c.a_member first rest) w = walk_member first (walk_members rest w)

  pub walk_member : c.StructMember → Walked → Walked
  walk_member (c.member s ds) w = node (λ v. walk_specifiers s (walk_member_declarators ds v)) w

  pub walk_member_declarators : c.MemberDeclarators → Walked → Walked
  walk_member_declarators c.no_declarators w = w
  walk_member_declarators (c.a_declarator d width rest) w = walk_declarator d (walk_maybe width (walk_member_declarators rest w))

  pub walk_enumerators : c.Enumerators → Walked → Walked
  walk_enumerators c.no_enumerators w = w
  walk_enumerators (c.an_enumerator name value rest) w = node (walk_maybe value) (walk_enumerators rest w)

  -- a declarator with neither name nor parts is no node
  pub walk_declarator : c.Declarator → Walked → Walked
  walk_declarator (c.declarator None c.no_parts) w = w
  walk_declarator (c.declarator name parts) w = node (walk_parts parts) w

  pub walk_parts : c.Parts → Walked → Walked
  walk_parts c.no_parts w = w
  walk_parts (c.Pointer q rest) w = walk_parts rest w
  walk_parts (c.Array length rest) w = walk_maybe length (walk_parts rest w)
  walk_parts (c.Function parameters rest) w = walk_parameters parameters (walk_parts rest w)

  pub walk_parameters : c.Parameters → Walked → Walked
  walk_parameters c.Unstated w = w
  walk_parameters c.Void w = w
  walk_parameters (c.Listed parameters) w = walk_parameter_list parameters w
  walk_parameters (c.Open parameters) w = walk_parameter_list parameters w

  pub walk_parameter_list : c.ParameterList → Walked → Walked
  walk_parameter_list c.no_parameters w = w
  walk_parameter_list (c.a_parameter s d rest) w = walk_specifiers s (walk_declarator d (walk_parameter_list rest w))
