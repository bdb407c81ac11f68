-- The nodes of a mark stand among those of the tree that it stands in.
use Rattle.std.proofs.Common.{◌≡◌, ℕ, suc, ◌+◌, ◌-◌, ◌≤◌, max, List, [], ◌∷◌, ◌++◌, length, Option, Some, None, arith, length-append}
use Rattle.std.specs.List.{flat_map}
use Rattle.lt_tree.specs.Tree as c
use Rattle.lt_tree.specs.Nodes.{Node, if_written, in_expression, in_expressions, in_maybe, in_marks, in_mark, in_bindings, in_specifiers, in_types, in_type, in_members, in_member_declarators, in_enumerators, in_declarator, in_parts, in_parameters, in_parameter_list, in_initialiser, in_initialisers, in_optional_initialiser, in_init_declarator, in_declaration, in_optional, in_start, in_label, in_statement, in_items, in_cases}
use Rattle.lt_sites.specs.Sites.{part_of}
use Rattle.lt_facts.specs.Outside.{mark_size}

-- each mark among these nodes ends among them
abbrev pub Ends : List Node → Type 0
Ends [] = Unit {0}
Ends (x ∷ xs) = (mark_size (part_of x) ≤ 1 + length xs) × Ends xs

pub both_end : (xs ys : List Node) → Ends xs → Ends ys → Ends (xs ++ ys)
both_end [] ys a b = b
both_end (x ∷ xs) ys a b = let here : mark_size (part_of x) ≤ 1 + length xs = a.0 in (omega (arith, length-append xs ys), both_end xs ys a.1 b)

three_end : (xs ys zs : List Node) → Ends xs → Ends ys → Ends zs → Ends (xs ++ ys ++ zs)
three_end xs ys zs a b d = both_end (xs ++ ys) zs (both_end xs ys a b) d

pub none : (n : ℕ) → 0 ≤ 1 + n
none n = omega arith

whole : (n : ℕ) → suc n ≤ 1 + n
whole n = omega arith

-- how many nodes are in marks still, behind these
abbrev pub inside_after : ℕ → List Node → ℕ
inside_after inside [] = inside
inside_after inside (x ∷ xs) = inside_after (max (mark_size (part_of x)) inside - 1) xs

fewer : (size inside n : ℕ) → size ≤ 1 + n → inside ≤ suc n → max size inside - 1 ≤ n
fewer size inside n a b = omega arith

ends_from : (xs : List Node) (inside : ℕ) → inside ≤ length xs → Ends xs → inside_after inside xs ≡ 0
ends_from [] inside h ends = omega arith
ends_from (x ∷ xs) inside h ends = ends_from xs (max (mark_size (part_of x)) inside - 1) (fewer (mark_size (part_of x)) inside (length xs) ends.0 h) ends.1

pub none_inside : (xs : List Node) → Ends xs → inside_after 0 xs ≡ 0
none_inside xs ends = ends_from xs 0 (omega arith) ends

written_ends : (name : Option (List ℕ)) (parts : c.Parts) → Ends (if_written name parts)
written_ends None c.no_parts = tt
written_ends None (c.Pointer q rest) = (none 0, tt)
written_ends None (c.Array length rest) = (none 0, tt)
written_ends None (c.Function ps rest) = (none 0, tt)
written_ends (Some w) parts = (none 0, tt)

mutual
  expression_ends : (e : c.Expression) → Ends (in_expression e)
  expression_ends (c.Name w) = (none 0, tt)
  expression_ends (c.Constant w) = (none 0, tt)
  expression_ends (c.Text bytes) = (none 0, tt)
  expression_ends (c.Index whole place) = (none _, both_end _ _ (expression_ends whole) (expression_ends place))
  expression_ends (c.Call callee arguments) = (none _, both_end _ _ (expression_ends callee) (expressions_end arguments))
  expression_ends (c.Member e w) = (none _, expression_ends e)
  expression_ends (c.Arrow e w) = (none _, expression_ends e)
  expression_ends (c.PostInc e) = (none _, expression_ends e)
  expression_ends (c.PostDec e) = (none _, expression_ends e)
  expression_ends (c.PreInc e) = (none _, expression_ends e)
  expression_ends (c.PreDec e) = (none _, expression_ends e)
  expression_ends (c.Unary op e) = (none _, expression_ends e)
  expression_ends (c.SizeofExpr e) = (none _, expression_ends e)
  expression_ends (c.SizeofType s d) = (none _, both_end _ _ (specifiers_end s) (declarator_ends d))
  expression_ends (c.Cast s d e) = (none _, three_end _ _ _ (specifiers_end s) (declarator_ends d) (expression_ends e))
  expression_ends (c.Binary op left right) = (none _, both_end _ _ (expression_ends left) (expression_ends right))
  expression_ends (c.Logical op left right) = (none _, both_end _ _ (expression_ends left) (expression_ends right))
  expression_ends (c.Conditional test left right) = (none _, three_end _ _ _ (expression_ends test) (expression_ends left) (expression_ends right))
  expression_ends (c.Assign op target value) = (none _, both_end _ _ (expression_ends target) (expression_ends value))
  expression_ends (c.Comma parts) = (none _, expressions_end parts)
  expression_ends (c.Marked marks e) = (none _, both_end _ _ (marks_end marks) (expression_ends e))
  expression_ends (c.Decide e when_true when_false tag) = (none _, expression_ends e)
  expression_ends (c.After e id tag) = (none _, expression_ends e)

  expressions_end : (es : c.Expressions) → Ends (in_expressions es)
  expressions_end c.no_expressions = tt
  expressions_end (c.an_expression e es) = both_end _ _ (expression_ends e) (expressions_end es)

  maybe_ends : (e : c.Maybe) → Ends (in_maybe e)
  maybe_ends c.absent = tt
  maybe_ends (c.present e) = expression_ends e

  marks_end : (ms : c.Marks) → Ends (in_marks ms)
  marks_end c.no_marks = tt
  marks_end (c.a_mark m ms) = both_end _ _ (mark_ends m) (marks_end ms)

  pub mark_ends : (m : c.Mark) → Ends (in_mark m)
  mark_ends (c.mark e id tag bound) = (whole (length (in_expression e ++ in_bindings bound)), both_end _ _ (expression_ends e) (bindings_end bound))

  bindings_end : (bound : c.Bindings) → Ends (in_bindings bound)
  bindings_end c.no_bindings = tt
  bindings_end (c.a_binding w e bound) = both_end _ _ (expression_ends e) (bindings_end bound)

  pub specifiers_end : (s : c.Specifiers) → Ends (in_specifiers s)
  specifiers_end (c.specifiers words types) = types_end types

  types_end : (types : c.TypeSpecifiers) → Ends (in_types types)
  types_end c.no_types = tt
  types_end (c.a_type type types) = both_end _ _ (type_ends type) (types_end types)

  type_ends : (type : c.TypeSpecifier) → Ends (in_type type)
  type_ends (c.Struct tag list) = members_end list
  type_ends (c.Enum tag list) = enumerators_end list
  type_ends _ = tt

  members_end : (ms : c.Members) → Ends (in_members ms)
  members_end c.no_members = tt
  members_end (c.a_member (c.member s ds) ms) = (none _, three_end _ _ _ (specifiers_end s) (member_declarators_end ds) (members_end ms))

  member_declarators_end : (ds : c.MemberDeclarators) → Ends (in_member_declarators ds)
  member_declarators_end c.no_declarators = tt
  member_declarators_end (c.a_declarator d width ds) = three_end _ _ _ (declarator_ends d) (maybe_ends width) (member_declarators_end ds)

  enumerators_end : (es : c.Enumerators) → Ends (in_enumerators es)
  enumerators_end c.no_enumerators = tt
  enumerators_end (c.an_enumerator w value es) = (none _, both_end _ _ (maybe_ends value) (enumerators_end es))

  pub declarator_ends : (d : c.Declarator) → Ends (in_declarator d)
  declarator_ends (c.declarator name parts) = both_end _ _ (written_ends name parts) (parts_end parts)

  parts_end : (parts : c.Parts) → Ends (in_parts parts)
  parts_end c.no_parts = tt
  parts_end (c.Pointer q parts) = parts_end parts
  parts_end (c.Array length parts) = both_end _ _ (maybe_ends length) (parts_end parts)
  parts_end (c.Function ps parts) = both_end _ _ (parameters_end ps) (parts_end parts)

  parameters_end : (ps : c.Parameters) → Ends (in_parameters ps)
  parameters_end c.Unstated = tt
  parameters_end c.Void = tt
  parameters_end (c.Listed ps) = list_ends ps
  parameters_end (c.Open ps) = list_ends ps

  list_ends : (ps : c.ParameterList) → Ends (in_parameter_list ps)
  list_ends c.no_parameters = tt
  list_ends (c.a_parameter s d ps) = three_end _ _ _ (specifiers_end s) (declarator_ends d) (list_ends ps)

mutual
  initialiser_ends : (i : c.Initialiser) → Ends (in_initialiser i)
  initialiser_ends (c.Value e) = (none _, expression_ends e)
  initialiser_ends (c.Braces is) = (none _, initialisers_end is)

  initialisers_end : (is : c.Initialisers) → Ends (in_initialisers is)
  initialisers_end c.no_initialisers = tt
  initialisers_end (c.an_initialiser i is) = both_end _ _ (initialiser_ends i) (initialisers_end is)

init_ends : (i : Option c.Initialiser) → Ends (in_optional_initialiser i)
init_ends None = tt
init_ends (Some i) = initialiser_ends i

declarators_end : (ds : List c.InitDeclarator) → Ends (flat_map in_init_declarator ds)
declarators_end [] = tt
declarators_end (d ∷ ds) = both_end (in_init_declarator d) _ (both_end (in_declarator d.declarator) _ (declarator_ends d.declarator) (init_ends d.initialiser)) (declarators_end ds)

pub declaration_ends : (d : c.Declaration) → Ends (in_declaration d)
declaration_ends d = both_end _ _ (specifiers_end d.specifiers) (declarators_end d.declarators)

optional_ends : (e : Option c.Expression) → Ends (in_optional e)
optional_ends None = tt
optional_ends (Some e) = expression_ends e

start_ends : (x : c.ForStart) → Ends (in_start x)
start_ends c.Nothing = tt
start_ends (c.First e) = expression_ends e
start_ends (c.Declares d) = declaration_ends d

labels_end : (labels : List c.Label) → Ends (flat_map in_label labels)
labels_end [] = tt
labels_end (c.Case e ∷ labels) = both_end (in_label (c.Case e)) _ (none _, expression_ends e) (labels_end labels)
labels_end (c.Default ∷ labels) = (none _, labels_end labels)

mutual
  pub statement_ends : (x : c.Statement) → Ends (in_statement x)
  statement_ends (c.Compound items) = (none _, items_end items)
  statement_ends (c.Evaluates e) = (none _, expression_ends e)
  statement_ends c.Null = (none 0, tt)
  statement_ends (c.If test x) = (none _, both_end _ _ (expression_ends test) (statement_ends x))
  statement_ends (c.IfElse test x y) = (none _, three_end _ _ _ (expression_ends test) (statement_ends x) (statement_ends y))
  statement_ends (c.While test x) = (none _, both_end _ _ (expression_ends test) (statement_ends x))
  statement_ends (c.Do x test) = (none _, both_end _ _ (statement_ends x) (expression_ends test))
  statement_ends (c.For start test step x) = (none _, both_end _ _ (three_end _ _ _ (start_ends start) (optional_ends test) (optional_ends step)) (statement_ends x))
  statement_ends (c.Switch e cases) = (none _, both_end _ _ (expression_ends e) (cases_end cases))
  statement_ends c.Break = (none 0, tt)
  statement_ends c.Continue = (none 0, tt)
  statement_ends (c.Return e) = (none _, optional_ends e)

  pub items_end : (items : c.Items) → Ends (in_items items)
  items_end c.no_items = tt
  items_end (c.a_declaration d items) = (none _, both_end _ _ (declaration_ends d) (items_end items))
  items_end (c.a_statement x items) = (none _, both_end _ _ (statement_ends x) (items_end items))
  items_end (c.a_label m items) = (none _, both_end _ _ (mark_ends m) (items_end items))

  cases_end : (cases : c.Cases) → Ends (in_cases cases)
  cases_end c.no_cases = tt
  cases_end (c.a_case labels x cases) = three_end _ _ _ (labels_end labels) (statement_ends x) (cases_end cases)
