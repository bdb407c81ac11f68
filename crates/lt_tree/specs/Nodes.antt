-- The nodes of a unit, by which places in it are numbered: externals, declarators, initialisers, brace lists, members, enumerators, labels,
-- items, statements, expressions and marks, in the order of a walk from parent to child.
use Rattle.std.specs.Prelude.{ℕ, List, [], ◌∷◌, ◌++◌, Option, Some, None}
use Rattle.std.specs.List.{flat_map}
use Rattle.lt_tree.specs.Tree as c

pub data Node : Type 0 where
  an_external : (x : c.External) → Node
  a_declarator : (d : c.Declarator) → Node
  an_initialiser : (i : c.Initialiser) → Node
  a_member : (m : c.StructMember) → Node
  an_enumerator : (name : List ℕ) (value : c.Maybe) → Node
  a_label : (label : c.Label) → Node
  -- the three kinds of items of a block
  a_declared_item : (d : c.Declaration) → Node
  a_stated_item : (x : c.Statement) → Node
  a_marked_item : (m : c.Mark) → Node
  a_statement : (x : c.Statement) → Node
  an_expression : (e : c.Expression) → Node
  a_mark : (m : c.Mark) → Node

-- A declarator is a node where it has a name or parts.
abbrev pub if_written : Option (List ℕ) → c.Parts → List Node
if_written None c.no_parts = []
if_written name parts = a_declarator (c.declarator name parts) ∷ []

abbrev mutual
  pub in_expression : c.Expression → List Node
  in_expression (c.Name w) = an_expression (c.Name w) ∷ []
  in_expression (c.Constant w) = an_expression (c.Constant w) ∷ []
  in_expression (c.Text bytes) = an_expression (c.Text bytes) ∷ []
  in_expression (c.Index whole place) = an_expression (c.Index whole place) ∷ in_expression whole ++ in_expression place
  in_expression (c.Call callee arguments) = an_expression (c.Call callee arguments) ∷ in_expression callee ++ in_expressions arguments
  in_expression (c.Member e w) = an_expression (c.Member e w) ∷ in_expression e
  in_expression (c.Arrow e w) = an_expression (c.Arrow e w) ∷ in_expression e
  in_expression (c.PostInc e) = an_expression (c.PostInc e) ∷ in_expression e
  in_expression (c.PostDec e) = an_expression (c.PostDec e) ∷ in_expression e
  in_expression (c.PreInc e) = an_expression (c.PreInc e) ∷ in_expression e
  in_expression (c.PreDec e) = an_expression (c.PreDec e) ∷ in_expression e
  in_expression (c.Unary op e) = an_expression (c.Unary op e) ∷ in_expression e
  in_expression (c.SizeofExpr e) = an_expression (c.SizeofExpr e) ∷ in_expression e
  in_expression (c.SizeofType s d) = an_expression (c.SizeofType s d) ∷ in_specifiers s ++ in_declarator d
  in_expression (c.Cast s d e) = an_expression (c.Cast s d e) ∷ in_specifiers s ++ in_declarator d ++ in_expression e
  in_expression (c.Binary op left right) = an_expression (c.Binary op left right) ∷ in_expression left ++ in_expression right
  in_expression (c.Logical op left right) = an_expression (c.Logical op left right) ∷ in_expression left ++ in_expression right
  in_expression (c.Conditional test left right) = an_expression (c.Conditional test left right) ∷ in_expression test ++ in_expression left ++ in_expression right
  in_expression (c.Assign op target value) = an_expression (c.Assign op target value) ∷ in_expression target ++ in_expression value
  in_expression (c.Comma parts) = an_expression (c.Comma parts) ∷ in_expressions parts
  in_expression (c.Marked marks e) = an_expression (c.Marked marks e) ∷ in_marks marks ++ in_expression e
  in_expression (c.Decide e when_true when_false tag) = an_expression (c.Decide e when_true when_false tag) ∷ in_expression e
  in_expression (c.After e id tag) = an_expression (c.After e id tag) ∷ in_expression e

  pub in_expressions : c.Expressions → List Node
  in_expressions c.no_expressions = []
  in_expressions (c.an_expression e es) = in_expression e ++ in_expressions es

  pub in_maybe : c.Maybe → List Node
  in_maybe c.absent = []
  in_maybe (c.present e) = in_expression e

  pub in_marks : c.Marks → List Node
  in_marks c.no_marks = []
  in_marks (c.a_mark m ms) = in_mark m ++ in_marks ms

  pub in_mark : c.Mark → List Node
  in_mark (c.mark e id tag bound) = a_mark (c.mark e id tag bound) ∷ in_expression e ++ in_bindings bound

  pub in_bindings : c.Bindings → List Node
  in_bindings c.no_bindings = []
  in_bindings (c.a_binding w e bound) = in_expression e ++ in_bindings bound

  pub in_specifiers : c.Specifiers → List Node
  in_specifiers (c.specifiers words types) = in_types types

  pub in_types : c.TypeSpecifiers → List Node
  in_types c.no_types = []
  in_types (c.a_type type types) = in_type type ++ in_types types

  pub in_type : c.TypeSpecifier → List Node
  in_type (c.Struct tag members) = in_members members
  in_type (c.Enum tag enumerators) = in_enumerators enumerators
  in_type _ = []

  pub in_members : c.Members → List Node
  in_members c.no_members = []
  in_members (c.a_member (c.member s ds) ms) = a_member (c.member s ds) ∷ in_specifiers s ++ in_member_declarators ds ++ in_members ms

  pub in_member_declarators : c.MemberDeclarators → List Node
  in_member_declarators c.no_declarators = []
  in_member_declarators (c.a_declarator d width ds) = in_declarator d ++ in_maybe width ++ in_member_declarators ds

  pub in_enumerators : c.Enumerators → List Node
  in_enumerators c.no_enumerators = []
  in_enumerators (c.an_enumerator w value es) = an_enumerator w value ∷ in_maybe value ++ in_enumerators es

  pub in_declarator : c.Declarator → List Node
  in_declarator (c.declarator name parts) = if_written name parts ++ in_parts parts

  pub in_parts : c.Parts → List Node
  in_parts c.no_parts = []
  in_parts (c.Pointer q parts) = in_parts parts
  in_parts (c.Array length parts) = in_maybe length ++ in_parts parts
  in_parts (c.Function ps parts) = in_parameters ps ++ in_parts parts

  pub in_parameters : c.Parameters → List Node
  in_parameters c.Unstated = []
  in_parameters c.Void = []
  in_parameters (c.Listed ps) = in_parameter_list ps
  in_parameters (c.Open ps) = in_parameter_list ps

  pub in_parameter_list : c.ParameterList → List Node
  in_parameter_list c.no_parameters = []
  in_parameter_list (c.a_parameter s d ps) = in_specifiers s ++ in_declarator d ++ in_parameter_list ps

abbrev mutual
  pub in_initialiser : c.Initialiser → List Node
  in_initialiser (c.Value e) = an_initialiser (c.Value e) ∷ in_expression e
  in_initialiser (c.Braces is) = an_initialiser (c.Braces is) ∷ in_initialisers is

  pub in_initialisers : c.Initialisers → List Node
  in_initialisers c.no_initialisers = []
  in_initialisers (c.an_initialiser i is) = in_initialiser i ++ in_initialisers is

abbrev pub in_optional_initialiser : Option c.Initialiser → List Node
in_optional_initialiser None = []
in_optional_initialiser (Some i) = in_initialiser i

abbrev pub in_init_declarator : c.InitDeclarator → List Node
in_init_declarator d = in_declarator d.declarator ++ in_optional_initialiser d.initialiser

abbrev pub in_declaration : c.Declaration → List Node
in_declaration d = in_specifiers d.specifiers ++ flat_map in_init_declarator d.declarators

abbrev pub in_optional : Option c.Expression → List Node
in_optional None = []
in_optional (Some e) = in_expression e

abbrev pub in_start : c.ForStart → List Node
in_start c.Nothing = []
in_start (c.First e) = in_expression e
in_start (c.Declares d) = in_declaration d

abbrev pub in_label : c.Label → List Node
in_label (c.Case e) = a_label (c.Case e) ∷ in_expression e
in_label c.Default = a_label c.Default ∷ []

abbrev mutual
  pub in_statement : c.Statement → List Node
  in_statement (c.Compound items) = a_statement (c.Compound items) ∷ in_items items
  in_statement (c.Evaluates e) = a_statement (c.Evaluates e) ∷ in_expression e
  in_statement c.Null = a_statement c.Null ∷ []
  in_statement (c.If test x) = a_statement (c.If test x) ∷ in_expression test ++ in_statement x
  in_statement (c.IfElse test x y) = a_statement (c.IfElse test x y) ∷ in_expression test ++ in_statement x ++ in_statement y
  in_statement (c.While test x) = a_statement (c.While test x) ∷ in_expression test ++ in_statement x
  in_statement (c.Do x test) = a_statement (c.Do x test) ∷ in_statement x ++ in_expression test
  in_statement (c.For start test step x) = a_statement (c.For start test step x) ∷ in_start start ++ in_optional test ++ in_optional step ++ in_statement x
  in_statement (c.Switch e cases) = a_statement (c.Switch e cases) ∷ in_expression e ++ in_cases cases
  in_statement c.Break = a_statement c.Break ∷ []
  in_statement c.Continue = a_statement c.Continue ∷ []
  in_statement (c.Return e) = a_statement (c.Return e) ∷ in_optional e

  pub in_items : c.Items → List Node
  in_items c.no_items = []
  in_items (c.a_declaration d items) = a_declared_item d ∷ in_declaration d ++ in_items items
  in_items (c.a_statement x items) = a_stated_item x ∷ in_statement x ++ in_items items
  in_items (c.a_label m items) = a_marked_item m ∷ in_mark m ++ in_items items

  pub in_cases : c.Cases → List Node
  in_cases c.no_cases = []
  in_cases (c.a_case labels x cases) = flat_map in_label labels ++ in_statement x ++ in_cases cases

abbrev pub in_external : c.External → List Node
in_external (c.Defines s d body) = an_external (c.Defines s d body) ∷ in_specifiers s ++ in_declarator d ++ in_items body
in_external (c.Declared d) = an_external (c.Declared d) ∷ in_declaration d

-- A node's number is its place in this list.
abbrev pub nodes : c.Unit → List Node
nodes unit = flat_map in_external unit
