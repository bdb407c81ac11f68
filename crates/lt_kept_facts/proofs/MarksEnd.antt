-- Marks in expressions and type names end in them.
use Rattle.std.proofs.Common.{◌≡◌, ℕ, suc, ◌+◌, ◌-◌, ◌≤◌, max, List, [], ◌∷◌, ◌++◌, length, Option, Some, None, arith, length-append}
use Rattle.lt_tree.specs.Tree as c
use Rattle.lt_tree.specs.Nodes.{Node, if_written, in_expression, in_expressions, in_maybe, in_marks, in_mark, in_bindings, in_specifiers, in_types, in_type, in_members, in_member_declarators, in_enumerators, in_declarator, in_parts, in_parameters, in_parameter_list}
use Rattle.lt_sites.specs.Sites.{part_of}
use Rattle.lt_facts.specs.Outside.{mark_size}

-- each mark among these nodes ends among them
abbrev pub Ends : List Node → Type 0
Ends [] = Unit {0}
Ends (x ∷ xs) = (mark_size (part_of x) ≤ 1 + length xs) × Ends xs

pub both_end : (xs ys : List Node) → Ends xs → Ends ys → Ends (xs ++ ys)
both_end [] ys a b = b
both_end (x ∷ xs) ys a b = let here : mark_size (part_of x) ≤ 1 + length xs = a.0 in (omega (arith, length-append xs ys), both_end xs ys a.1 b)

three_end : (xs ys zs : List Node) → Ends xs → Ends ys → Ends zs → Ends (xs ++ ys ++ zs)
three_end xs ys zs a b d = both_end (xs ++ ys) zs (both_end xs ys a b) d

pub none : (n : ℕ) → 0 ≤ 1 + n
none n = omega arith

whole : (n : ℕ) → suc n ≤ 1 + n
whole n = omega arith

-- how many nodes are in marks still, behind these
abbrev pub inside_after : ℕ → List Node → ℕ
inside_after inside [] = inside
inside_after inside (x ∷ xs) = inside_after (max (mark_size (part_of x)) inside - 1) xs

fewer : (size inside n : ℕ) → size ≤ 1 + n → inside ≤ suc n → max size inside - 1 ≤ n
fewer size inside n a b = omega arith

ends_from : (xs : List Node) (inside : ℕ) → inside ≤ length xs → Ends xs → inside_after inside xs ≡ 0
ends_from [] inside h ends = omega arith
ends_from (x ∷ xs) inside h ends = ends_from xs (max (mark_size (part_of x)) inside - 1) (fewer (mark_size (part_of x)) inside (length xs) ends.0 h) ends.1

pub none_inside : (xs : List Node) → Ends xs → inside_after 0 xs ≡ 0
none_inside xs ends = ends_from xs 0 (omega arith) ends

written_ends : (name : Option (List ℕ)) (parts : c.Parts) → Ends (if_written name parts)
written_ends None c.no_parts = tt
written_ends None (c.Pointer q rest) = (none 0, tt)
written_ends None (c.Array length rest) = (none 0, tt)
written_ends None (c.Function ps rest) = (none 0, tt)
written_ends (Some w) parts = (none 0, tt)

mutual
  pub expression_ends : (e : c.Expression) → Ends (in_expression e)
  expression_ends (c.Name w) = (none 0, tt)
  expression_ends (c.Constant w) = (none 0, tt)
  expression_ends (c.Text bytes) = (none 0, tt)
  expression_ends (c.Index whole place) = (none _, both_end _ _ (expression_ends whole) (expression_ends place))
  expression_ends (c.Call callee arguments) = (none _, both_end _ _ (expression_ends callee) (expressions_end arguments))
  expression_ends (c.Member e w) = (none _, expression_ends e)
  expression_ends (c.Arrow e w) = (none _, expression_ends e)
  expression_ends (c.PostInc e) = (none _, expression_ends e)
  expression_ends (c.PostDec e) = (none _, expression_ends e)
  expression_ends (c.PreInc e) = (none _, expression_ends e)
  expression_ends (c.PreDec e) = (none _, expression_ends e)
  expression_ends (c.Unary op e) = (none _, expression_ends e)
  expression_ends (c.SizeofExpr e) = (none _, expression_ends e)
  expression_ends (c.SizeofType s d) = (none _, both_end _ _ (specifiers_end s) (declarator_ends d))
  expression_ends (c.Cast s d e) = (none _, three_end _ _ _ (specifiers_end s) (declarator_ends d) (expression_ends e))
  expression_ends (c.Binary op left right) = (none _, both_end _ _ (expression_ends left) (expression_ends right))
  expression_ends (c.Logical op left right) = (none _, both_end _ _ (expression_ends left) (expression_ends right))
  expression_ends (c.Conditional test left right) = (none _, three_end _ _ _ (expression_ends test) (expression_ends left) (expression_ends right))
  expression_ends (c.Assign op target value) = (none _, both_end _ _ (expression_ends target) (expression_ends value))
  expression_ends (c.Comma parts) = (none _, expressions_end parts)
  expression_ends (c.Marked marks e) = (none _, both_end _ _ (marks_end marks) (expression_ends e))
  expression_ends (c.Decide e when_true when_false tag) = (none _, expression_ends e)
  expression_ends (c.After e id tag) = (none _, expression_ends e)

  expressions_end : (es : c.Expressions) → Ends (in_expressions es)
  expressions_end c.no_expressions = tt
  expressions_end (c.an_expression e es) = both_end _ _ (expression_ends e) (expressions_end es)

  maybe_ends : (e : c.Maybe) → Ends (in_maybe e)
  maybe_ends c.absent = tt
  maybe_ends (c.present e) = expression_ends e

  pub marks_end : (ms : c.Marks) → Ends (in_marks ms)
  marks_end c.no_marks = tt
  marks_end (c.a_mark m ms) = both_end _ _ (mark_ends m) (marks_end ms)

  pub mark_ends : (m : c.Mark) → Ends (in_mark m)
  mark_ends (c.mark e id tag bound) = (whole (length (in_expression e ++ in_bindings bound)), both_end _ _ (expression_ends e) (bindings_end bound))

  bindings_end : (bound : c.Bindings) → Ends (in_bindings bound)
  bindings_end c.no_bindings = tt
  bindings_end (c.a_binding w e bound) = both_end _ _ (expression_ends e) (bindings_end bound)

  pub specifiers_end : (s : c.Specifiers) → Ends (in_specifiers s)
  specifiers_end (c.specifiers words types) = types_end types

  types_end : (types : c.TypeSpecifiers) → Ends (in_types types)
  types_end c.no_types = tt
  types_end (c.a_type type types) = both_end _ _ (type_ends type) (types_end types)

  type_ends : (type : c.TypeSpecifier) → Ends (in_type type)
  type_ends (c.Struct tag list) = members_end list
  type_ends (c.Enum tag list) = enumerators_end list
  type_ends _ = tt

  members_end : (ms : c.Members) → Ends (in_members ms)
  members_end c.no_members = tt
  members_end (c.a_member (c.member s ds) ms) = (none _, three_end _ _ _ (specifiers_end s) (member_declarators_end ds) (members_end ms))

  member_declarators_end : (ds : c.MemberDeclarators) → Ends (in_member_declarators ds)
  member_declarators_end c.no_declarators = tt
  member_declarators_end (c.a_declarator d width ds) = three_end _ _ _ (declarator_ends d) (maybe_ends width) (member_declarators_end ds)

  enumerators_end : (es : c.Enumerators) → Ends (in_enumerators es)
  enumerators_end c.no_enumerators = tt
  enumerators_end (c.an_enumerator w value es) = (none _, both_end _ _ (maybe_ends value) (enumerators_end es))

  pub declarator_ends : (d : c.Declarator) → Ends (in_declarator d)
  declarator_ends (c.declarator name parts) = both_end _ _ (written_ends name parts) (parts_end parts)

  parts_end : (parts : c.Parts) → Ends (in_parts parts)
  parts_end c.no_parts = tt
  parts_end (c.Pointer q parts) = parts_end parts
  parts_end (c.Array length parts) = both_end _ _ (maybe_ends length) (parts_end parts)
  parts_end (c.Function ps parts) = both_end _ _ (parameters_end ps) (parts_end parts)

  parameters_end : (ps : c.Parameters) → Ends (in_parameters ps)
  parameters_end c.Unstated = tt
  parameters_end c.Void = tt
  parameters_end (c.Listed ps) = list_ends ps
  parameters_end (c.Open ps) = list_ends ps

  list_ends : (ps : c.ParameterList) → Ends (in_parameter_list ps)
  list_ends c.no_parameters = tt
  list_ends (c.a_parameter s d ps) = three_end _ _ _ (specifiers_end s) (declarator_ends d) (list_ends ps)
