-- In a unit's list of nodes each node begins its own part.
use Rattle.std.proofs.Common.{refl, Option, Some, None}
use Rattle.lt_tree.specs.Tree as c
use Rattle.lt_tree.specs.Nodes.{in_expression, in_expressions, in_maybe, in_marks, in_mark, in_bindings, in_specifiers, in_types, in_type, in_members, in_member_declarators, in_enumerators, in_declarator, in_parts, in_parameters, in_parameter_list, in_initialiser, in_initialisers, in_optional_initialiser, in_init_declarator, in_declaration, in_optional, in_start, in_label, in_statement, in_items, in_cases, in_external, nodes}
use Rattle.lt_decisions.proofs.Closed.{Closed, nothing, both, whole, each}

mutual
  pub expression : (e : c.Expression) → Closed (in_expression e)
  expression (c.Name w) = whole refl nothing
  expression (c.Constant w) = whole refl nothing
  expression (c.Text bytes) = whole refl nothing
  expression (c.Index array place) = whole refl (both (expression array) (expression place))
  expression (c.Call callee arguments) = whole refl (both (expression callee) (expressions arguments))
  expression (c.Member e w) = whole refl (expression e)
  expression (c.Arrow e w) = whole refl (expression e)
  expression (c.PostInc e) = whole refl (expression e)
  expression (c.PostDec e) = whole refl (expression e)
  expression (c.PreInc e) = whole refl (expression e)
  expression (c.PreDec e) = whole refl (expression e)
  expression (c.Unary op e) = whole refl (expression e)
  expression (c.SizeofExpr e) = whole refl (expression e)
  expression (c.SizeofType s d) = whole refl (both (specifiers s) (declarator d))
  expression (c.Cast s d e) = whole refl (both (both (specifiers s) (declarator d)) (expression e))
  expression (c.Binary op left right) = whole refl (both (expression left) (expression right))
  expression (c.Logical op left right) = whole refl (both (expression left) (expression right))
  expression (c.Conditional test left right) = whole refl (both (both (expression test) (expression left)) (expression right))
  expression (c.Assign op target value) = whole refl (both (expression target) (expression value))
  expression (c.Comma list) = whole refl (expressions list)
  expression (c.Marked list e) = whole refl (both (marks list) (expression e))
  expression (c.Decide e when_true when_false tag) = whole refl (expression e)
  expression (c.After e id tag) = whole refl (expression e)

  pub expressions : (es : c.Expressions) → Closed (in_expressions es)
  expressions c.no_expressions = nothing
  expressions (c.an_expression e es) = both (expression e) (expressions es)

  pub maybe : (e : c.Maybe) → Closed (in_maybe e)
  maybe c.absent = nothing
  maybe (c.present e) = expression e

  pub marks : (ms : c.Marks) → Closed (in_marks ms)
  marks c.no_marks = nothing
  marks (c.a_mark m ms) = both (mark m) (marks ms)

  pub mark : (m : c.Mark) → Closed (in_mark m)
  mark (c.mark e id tag bound) = whole refl (both (expression e) (bindings bound))

  pub bindings : (bs : c.Bindings) → Closed (in_bindings bs)
  bindings c.no_bindings = nothing
  bindings (c.a_binding w e bs) = both (expression e) (bindings bs)

  pub specifiers : (s : c.Specifiers) → Closed (in_specifiers s)
  specifiers (c.specifiers words types) = type_words types

  type_words : (types : c.TypeSpecifiers) → Closed (in_types types)
  type_words c.no_types = nothing
  type_words (c.a_type type types) = both (type_word type) (type_words types)

  type_word : (type : c.TypeSpecifier) → Closed (in_type type)
  type_word (c.Struct tag list) = members list
  type_word (c.Enum tag list) = enumerators list
  type_word _ = nothing

  members : (ms : c.Members) → Closed (in_members ms)
  members c.no_members = nothing
  members (c.a_member (c.member s ds) ms) = both (whole refl (both (specifiers s) (member_declarators ds))) (members ms)

  member_declarators : (ds : c.MemberDeclarators) → Closed (in_member_declarators ds)
  member_declarators c.no_declarators = nothing
  member_declarators (c.a_declarator d width ds) = both (both (declarator d) (maybe width)) (member_declarators ds)

  enumerators : (es : c.Enumerators) → Closed (in_enumerators es)
  enumerators c.no_enumerators = nothing
  enumerators (c.an_enumerator w value es) = both (whole refl (maybe value)) (enumerators es)

  pub declarator : (d : c.Declarator) → Closed (in_declarator d)
  declarator (c.declarator None c.no_parts) = nothing
  declarator (c.declarator None (c.Pointer q list)) = whole refl (parts (c.Pointer q list))
  declarator (c.declarator None (c.Array length list)) = whole refl (parts (c.Array length list))
  declarator (c.declarator None (c.Function ps list)) = whole refl (parts (c.Function ps list))
  declarator (c.declarator (Some name) list) = whole refl (parts list)

  parts : (list : c.Parts) → Closed (in_parts list)
  parts c.no_parts = nothing
  parts (c.Pointer q list) = parts list
  parts (c.Array length list) = both (maybe length) (parts list)
  parts (c.Function ps list) = both (parameters ps) (parts list)

  parameters : (ps : c.Parameters) → Closed (in_parameters ps)
  parameters c.Unstated = nothing
  parameters c.Void = nothing
  parameters (c.Listed list) = parameter_list list
  parameters (c.Open list) = parameter_list list

  parameter_list : (ps : c.ParameterList) → Closed (in_parameter_list ps)
  parameter_list c.no_parameters = nothing
  parameter_list (c.a_parameter s d ps) = both (both (specifiers s) (declarator d)) (parameter_list ps)

mutual
  pub initialiser : (i : c.Initialiser) → Closed (in_initialiser i)
  initialiser (c.Value e) = whole refl (expression e)
  initialiser (c.Braces list) = whole refl (initialisers list)

  pub initialisers : (list : c.Initialisers) → Closed (in_initialisers list)
  initialisers c.no_initialisers = nothing
  initialisers (c.an_initialiser i list) = both (initialiser i) (initialisers list)

pub optional_initialiser : (i : Option c.Initialiser) → Closed (in_optional_initialiser i)
optional_initialiser None = nothing
optional_initialiser (Some i) = initialiser i

pub init_declarator : (d : c.InitDeclarator) → Closed (in_init_declarator d)
init_declarator d = both (declarator d.declarator) (optional_initialiser d.initialiser)

pub declaration : (d : c.Declaration) → Closed (in_declaration d)
declaration d = both (specifiers d.specifiers) (each in_init_declarator init_declarator d.declarators)

pub optional : (e : Option c.Expression) → Closed (in_optional e)
optional None = nothing
optional (Some e) = expression e

pub start : (s : c.ForStart) → Closed (in_start s)
start c.Nothing = nothing
start (c.First e) = expression e
start (c.Declares d) = declaration d

pub label : (l : c.Label) → Closed (in_label l)
label (c.Case e) = whole refl (expression e)
label c.Default = whole refl nothing

mutual
  pub statement : (x : c.Statement) → Closed (in_statement x)
  statement (c.Compound list) = whole refl (items list)
  statement (c.Evaluates e) = whole refl (expression e)
  statement c.Null = whole refl nothing
  statement (c.If test x) = whole refl (both (expression test) (statement x))
  statement (c.IfElse test x y) = whole refl (both (both (expression test) (statement x)) (statement y))
  statement (c.While test x) = whole refl (both (expression test) (statement x))
  statement (c.Do x test) = whole refl (both (statement x) (expression test))
  statement (c.For head test step x) = whole refl (both (both (both (start head) (optional test)) (optional step)) (statement x))
  statement (c.Switch e list) = whole refl (both (expression e) (cases list))
  statement c.Break = whole refl nothing
  statement c.Continue = whole refl nothing
  statement (c.Return e) = whole refl (optional e)

  pub items : (list : c.Items) → Closed (in_items list)
  items c.no_items = nothing
  items (c.a_declaration d list) = both (whole refl (declaration d)) (items list)
  items (c.a_statement x list) = both (whole refl (statement x)) (items list)
  items (c.a_label m list) = both (whole refl (mark m)) (items list)

  pub cases : (list : c.Cases) → Closed (in_cases list)
  cases c.no_cases = nothing
  cases (c.a_case labels x list) = both (both (each in_label label labels) (statement x)) (cases list)

pub external : (x : c.External) → Closed (in_external x)
external (c.Defines s d body) = whole refl (both (both (specifiers s) (declarator d)) (items body))
external (c.Declared d) = whole refl (declaration d)

pub unit_is_closed : (unit : c.Unit) → Closed (nodes unit)
unit_is_closed unit = each in_external external unit
