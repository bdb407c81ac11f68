-- Where the part of each node stands: the nodes of a unit go on, from each of them, with the nodes of its part.
use Rattle.std.proofs.Common.{◌≡◌, refl, sym, ap, ◌∙◌, ℕ, zero, suc, List, [], ◌∷◌, ◌++◌, drop, Option, Some, None}
use Rattle.std.specs.List.{flat_map, slice_get}
use Rattle.std.proofs.lemmas.List.{append-nil, append_assoc}
use Rattle.lt_tree.specs.Tree as c
use Rattle.lt_tree.specs.Nodes.{Node, an_external, a_declarator, an_initialiser, a_member, an_enumerator, a_label, a_declared_item, a_stated_item, a_marked_item, a_statement, an_expression, a_mark, in_expression, in_expressions, in_maybe, in_marks, in_mark, in_bindings, in_specifiers, in_types, in_type, in_members, in_member_declarators, in_enumerators, in_declarator, in_parts, in_parameters, in_parameter_list, in_initialiser, in_initialisers, in_optional_initialiser, in_init_declarator, in_declaration, in_optional, in_start, in_label, in_statement, in_items, in_cases, in_external, nodes}
use Rattle.lt_sites.specs.Sites.{in_node}

-- from each node on, the list goes on with its part
abbrev pub AreWhole : List Node → Type 0
AreWhole [] = Unit {0}
AreWhole (x ∷ xs) = ((behind : List Node) × (x ∷ xs ≡ in_node x ++ behind)) × AreWhole xs

both : (xs ys : List Node) → AreWhole xs → AreWhole ys → AreWhole (xs ++ ys)
both [] ys a b = b
both (x ∷ xs) ys a b = ((a.0.0 ++ ys, ap (λ zs. zs ++ ys) a.0.1 ∙ append_assoc (in_node x) a.0.0 ys), both xs ys a.1 b)

-- a node with its part behind it
own : (x : Node) (xs : List Node) → in_node x ≡ x ∷ xs → AreWhole xs → AreWhole (x ∷ xs)
own x xs is a = (([], sym (append-nil (x ∷ xs)) ∙ ap (λ zs. zs ++ []) (sym is)), a)

each : {X : Type 0} (f : X → List Node) → ((x : X) → AreWhole (f x)) → (xs : List X) → AreWhole (flat_map f xs)
each f whole [] = tt
each f whole (x ∷ xs) = both (f x) (flat_map f xs) (whole x) (each f whole xs)

written : (name : Option (List ℕ)) (parts : c.Parts) → AreWhole (in_parts parts) → AreWhole (in_declarator (c.declarator name parts))
written None c.no_parts a = tt
written name parts a = own (a_declarator (c.declarator name parts)) (in_parts parts) refl a

mutual
  pub expression_whole : (e : c.Expression) → AreWhole (in_expression e)
  expression_whole (c.Name w) = own (an_expression (c.Name w)) [] refl tt
  expression_whole (c.Constant w) = own (an_expression (c.Constant w)) [] refl tt
  expression_whole (c.Text bytes) = own (an_expression (c.Text bytes)) [] refl tt
  expression_whole (c.Index whole place) = own (an_expression (c.Index whole place)) (in_expression whole ++ in_expression place) refl (both (in_expression whole) (in_expression place) (expression_whole whole) (expression_whole place))
  expression_whole (c.Call callee arguments) = own (an_expression (c.Call callee arguments)) (in_expression callee ++ in_expressions arguments) refl (both (in_expression callee) (in_expressions arguments) (expression_whole callee) (expressions_whole arguments))
  expression_whole (c.Member e w) = own (an_expression (c.Member e w)) (in_expression e) refl (expression_whole e)
  expression_whole (c.Arrow e w) = own (an_expression (c.Arrow e w)) (in_expression e) refl (expression_whole e)
  expression_whole (c.PostInc e) = own (an_expression (c.PostInc e)) (in_expression e) refl (expression_whole e)
  expression_whole (c.PostDec e) = own (an_expression (c.PostDec e)) (in_expression e) refl (expression_whole e)
  expression_whole (c.PreInc e) = own (an_expression (c.PreInc e)) (in_expression e) refl (expression_whole e)
  expression_whole (c.PreDec e) = own (an_expression (c.PreDec e)) (in_expression e) refl (expression_whole e)
  expression_whole (c.Unary op e) = own (an_expression (c.Unary op e)) (in_expression e) refl (expression_whole e)
  expression_whole (c.SizeofExpr e) = own (an_expression (c.SizeofExpr e)) (in_expression e) refl (expression_whole e)
  expression_whole (c.SizeofType s d) = own (an_expression (c.SizeofType s d)) (in_specifiers s ++ in_declarator d) refl (both (in_specifiers s) (in_declarator d) (specifiers_whole s) (declarator_whole d))
  expression_whole (c.Cast s d e) = own (an_expression (c.Cast s d e)) ((in_specifiers s ++ in_declarator d) ++ in_expression e) refl (both (in_specifiers s ++ in_declarator d) (in_expression e) (both (in_specifiers s) (in_declarator d) (specifiers_whole s) (declarator_whole d)) (expression_whole e))
  expression_whole (c.Binary op left right) = own (an_expression (c.Binary op left right)) (in_expression left ++ in_expression right) refl (both (in_expression left) (in_expression right) (expression_whole left) (expression_whole right))
  expression_whole (c.Logical op left right) = own (an_expression (c.Logical op left right)) (in_expression left ++ in_expression right) refl (both (in_expression left) (in_expression right) (expression_whole left) (expression_whole right))
  expression_whole (c.Conditional test left right) = own (an_expression (c.Conditional test left right)) ((in_expression test ++ in_expression left) ++ in_expression right) refl (both (in_expression test ++ in_expression left) (in_expression right) (both (in_expression test) (in_expression left) (expression_whole test) (expression_whole left)) (expression_whole right))
  expression_whole (c.Assign op target value) = own (an_expression (c.Assign op target value)) (in_expression target ++ in_expression value) refl (both (in_expression target) (in_expression value) (expression_whole target) (expression_whole value))
  expression_whole (c.Comma parts) = own (an_expression (c.Comma parts)) (in_expressions parts) refl (expressions_whole parts)
  expression_whole (c.Marked marks e) = own (an_expression (c.Marked marks e)) (in_marks marks ++ in_expression e) refl (both (in_marks marks) (in_expression e) (marks_whole marks) (expression_whole e))
  expression_whole (c.Decide e when_true when_false tag) = own (an_expression (c.Decide e when_true when_false tag)) (in_expression e) refl (expression_whole e)
  expression_whole (c.After e id tag) = own (an_expression (c.After e id tag)) (in_expression e) refl (expression_whole e)

  expressions_whole : (x : c.Expressions) → AreWhole (in_expressions x)
  expressions_whole c.no_expressions = tt
  expressions_whole (c.an_expression e es) = both (in_expression e) (in_expressions es) (expression_whole e) (expressions_whole es)

  maybe_whole : (x : c.Maybe) → AreWhole (in_maybe x)
  maybe_whole c.absent = tt
  maybe_whole (c.present e) = expression_whole e

  marks_whole : (x : c.Marks) → AreWhole (in_marks x)
  marks_whole c.no_marks = tt
  marks_whole (c.a_mark m ms) = both (in_mark m) (in_marks ms) (mark_whole m) (marks_whole ms)

  mark_whole : (x : c.Mark) → AreWhole (in_mark x)
  mark_whole (c.mark e id tag bound) = own (a_mark (c.mark e id tag bound)) (in_expression e ++ in_bindings bound) refl (both (in_expression e) (in_bindings bound) (expression_whole e) (bindings_whole bound))

  bindings_whole : (x : c.Bindings) → AreWhole (in_bindings x)
  bindings_whole c.no_bindings = tt
  bindings_whole (c.a_binding w e bound) = both (in_expression e) (in_bindings bound) (expression_whole e) (bindings_whole bound)

  specifiers_whole : (x : c.Specifiers) → AreWhole (in_specifiers x)
  specifiers_whole (c.specifiers words types) = types_whole types

  types_whole : (x : c.TypeSpecifiers) → AreWhole (in_types x)
  types_whole c.no_types = tt
  types_whole (c.a_type type types) = both (in_type type) (in_types types) (type_whole type) (types_whole types)

  type_whole : (x : c.TypeSpecifier) → AreWhole (in_type x)
  type_whole (c.Struct tag members) = members_whole members
  type_whole (c.Enum tag enumerators) = enumerators_whole enumerators
  type_whole _ = tt

  members_whole : (x : c.Members) → AreWhole (in_members x)
  members_whole c.no_members = tt
  members_whole (c.a_member (c.member s ds) ms) = both (a_member (c.member s ds) ∷ (in_specifiers s ++ in_member_declarators ds)) (in_members ms) (own (a_member (c.member s ds)) (in_specifiers s ++ in_member_declarators ds) refl (both (in_specifiers s) (in_member_declarators ds) (specifiers_whole s) (member_declarators_whole ds))) (members_whole ms)

  member_declarators_whole : (x : c.MemberDeclarators) → AreWhole (in_member_declarators x)
  member_declarators_whole c.no_declarators = tt
  member_declarators_whole (c.a_declarator d width ds) = both (in_declarator d ++ in_maybe width) (in_member_declarators ds) (both (in_declarator d) (in_maybe width) (declarator_whole d) (maybe_whole width)) (member_declarators_whole ds)

  enumerators_whole : (x : c.Enumerators) → AreWhole (in_enumerators x)
  enumerators_whole c.no_enumerators = tt
  enumerators_whole (c.an_enumerator w value es) = both (an_enumerator w value ∷ in_maybe value) (in_enumerators es) (own (an_enumerator w value) (in_maybe value) refl (maybe_whole value)) (enumerators_whole es)

  declarator_whole : (x : c.Declarator) → AreWhole (in_declarator x)
  declarator_whole (c.declarator name parts) = written name parts (parts_whole parts)

  parts_whole : (x : c.Parts) → AreWhole (in_parts x)
  parts_whole c.no_parts = tt
  parts_whole (c.Pointer q parts) = parts_whole parts
  parts_whole (c.Array size parts) = both (in_maybe size) (in_parts parts) (maybe_whole size) (parts_whole parts)
  parts_whole (c.Function ps parts) = both (in_parameters ps) (in_parts parts) (parameters_whole ps) (parts_whole parts)

  parameters_whole : (x : c.Parameters) → AreWhole (in_parameters x)
  parameters_whole c.Unstated = tt
  parameters_whole c.Void = tt
  parameters_whole (c.Listed ps) = parameter_list_whole ps
  parameters_whole (c.Open ps) = parameter_list_whole ps

  parameter_list_whole : (x : c.ParameterList) → AreWhole (in_parameter_list x)
  parameter_list_whole c.no_parameters = tt
  parameter_list_whole (c.a_parameter s d ps) = both (in_specifiers s ++ in_declarator d) (in_parameter_list ps) (both (in_specifiers s) (in_declarator d) (specifiers_whole s) (declarator_whole d)) (parameter_list_whole ps)

mutual
  initialiser_whole : (x : c.Initialiser) → AreWhole (in_initialiser x)
  initialiser_whole (c.Value e) = own (an_initialiser (c.Value e)) (in_expression e) refl (expression_whole e)
  initialiser_whole (c.Braces is) = own (an_initialiser (c.Braces is)) (in_initialisers is) refl (initialisers_whole is)

  initialisers_whole : (x : c.Initialisers) → AreWhole (in_initialisers x)
  initialisers_whole c.no_initialisers = tt
  initialisers_whole (c.an_initialiser i is) = both (in_initialiser i) (in_initialisers is) (initialiser_whole i) (initialisers_whole is)

optional_initialiser_whole : (x : Option c.Initialiser) → AreWhole (in_optional_initialiser x)
optional_initialiser_whole None = tt
optional_initialiser_whole (Some i) = initialiser_whole i

init_declarator_whole : (x : c.InitDeclarator) → AreWhole (in_init_declarator x)
init_declarator_whole d = both (in_declarator d.declarator) (in_optional_initialiser d.initialiser) (declarator_whole d.declarator) (optional_initialiser_whole d.initialiser)

declaration_whole : (x : c.Declaration) → AreWhole (in_declaration x)
declaration_whole d = both (in_specifiers d.specifiers) (flat_map in_init_declarator d.declarators) (specifiers_whole d.specifiers) (each in_init_declarator init_declarator_whole d.declarators)

optional_whole : (x : Option c.Expression) → AreWhole (in_optional x)
optional_whole None = tt
optional_whole (Some e) = expression_whole e

start_whole : (x : c.ForStart) → AreWhole (in_start x)
start_whole c.Nothing = tt
start_whole (c.First e) = expression_whole e
start_whole (c.Declares d) = declaration_whole d

label_whole : (x : c.Label) → AreWhole (in_label x)
label_whole (c.Case e) = own (a_label (c.Case e)) (in_expression e) refl (expression_whole e)
label_whole c.Default = own (a_label c.Default) [] refl tt

mutual
  statement_whole : (x : c.Statement) → AreWhole (in_statement x)
  statement_whole (c.Compound items) = own (a_statement (c.Compound items)) (in_items items) refl (items_whole items)
  statement_whole (c.Evaluates e) = own (a_statement (c.Evaluates e)) (in_expression e) refl (expression_whole e)
  statement_whole c.Null = own (a_statement c.Null) [] refl tt
  statement_whole (c.If test x) = own (a_statement (c.If test x)) (in_expression test ++ in_statement x) refl (both (in_expression test) (in_statement x) (expression_whole test) (statement_whole x))
  statement_whole (c.IfElse test x y) = own (a_statement (c.IfElse test x y)) ((in_expression test ++ in_statement x) ++ in_statement y) refl (both (in_expression test ++ in_statement x) (in_statement y) (both (in_expression test) (in_statement x) (expression_whole test) (statement_whole x)) (statement_whole y))
  statement_whole (c.While test x) = own (a_statement (c.While test x)) (in_expression test ++ in_statement x) refl (both (in_expression test) (in_statement x) (expression_whole test) (statement_whole x))
  statement_whole (c.Do x test) = own (a_statement (c.Do x test)) (in_statement x ++ in_expression test) refl (both (in_statement x) (in_expression test) (statement_whole x) (expression_whole test))
  statement_whole (c.For start test step x) = own (a_statement (c.For start test step x)) (((in_start start ++ in_optional test) ++ in_optional step) ++ in_statement x) refl (both ((in_start start ++ in_optional test) ++ in_optional step) (in_statement x) (both (in_start start ++ in_optional test) (in_optional step) (both (in_start start) (in_optional test) (start_whole start) (optional_whole test)) (optional_whole step)) (statement_whole x))
  statement_whole (c.Switch e cases) = own (a_statement (c.Switch e cases)) (in_expression e ++ in_cases cases) refl (both (in_expression e) (in_cases cases) (expression_whole e) (cases_whole cases))
  statement_whole c.Break = own (a_statement c.Break) [] refl tt
  statement_whole c.Continue = own (a_statement c.Continue) [] refl tt
  statement_whole (c.Return e) = own (a_statement (c.Return e)) (in_optional e) refl (optional_whole e)

  items_whole : (x : c.Items) → AreWhole (in_items x)
  items_whole c.no_items = tt
  items_whole (c.a_declaration d items) = both (a_declared_item d ∷ in_declaration d) (in_items items) (own (a_declared_item d) (in_declaration d) refl (declaration_whole d)) (items_whole items)
  items_whole (c.a_statement x items) = both (a_stated_item x ∷ in_statement x) (in_items items) (own (a_stated_item x) (in_statement x) refl (statement_whole x)) (items_whole items)
  items_whole (c.a_label m items) = both (a_marked_item m ∷ in_mark m) (in_items items) (own (a_marked_item m) (in_mark m) refl (mark_whole m)) (items_whole items)

  cases_whole : (x : c.Cases) → AreWhole (in_cases x)
  cases_whole c.no_cases = tt
  cases_whole (c.a_case labels x cases) = both (flat_map in_label labels ++ in_statement x) (in_cases cases) (both (flat_map in_label labels) (in_statement x) (each in_label label_whole labels) (statement_whole x)) (cases_whole cases)

external_whole : (x : c.External) → AreWhole (in_external x)
external_whole (c.Defines s d body) = own (an_external (c.Defines s d body)) ((in_specifiers s ++ in_declarator d) ++ in_items body) refl (both (in_specifiers s ++ in_declarator d) (in_items body) (both (in_specifiers s) (in_declarator d) (specifiers_whole s) (declarator_whole d)) (items_whole body))
external_whole (c.Declared d) = own (an_external (c.Declared d)) (in_declaration d) refl (declaration_whole d)

pub unit_whole : (unit : c.Unit) → AreWhole (nodes unit)
unit_whole unit = each in_external external_whole unit

-- from a node's number on, the nodes are those of its part, and others
pub part_at : (xs : List Node) (k : ℕ) (x : Node) → AreWhole xs → slice_get xs k ≡ Some x → (behind : List Node) × (drop k xs ≡ in_node x ++ behind)
part_at [] k x whole is = absurd cc
part_at (y ∷ ys) zero x whole is = let same : y ≡ x = cc in (whole.0.0, whole.0.1 ∙ ap (λ n. in_node n ++ whole.0.0) same)
part_at (y ∷ ys) (suc k) x whole is = part_at ys k x whole.1 is
