-- No function stands in an expression or in what is below it.
use Rattle.std.proofs.Common.{◌≡◌, List, [], ◌∷◌, ◌++◌, Some, None, refl}
use Rattle.lt_tree.specs.Tree as c
use Rattle.lt_tree.specs.Nodes.{Node, in_expression, in_expressions, in_maybe, in_marks, in_mark, in_bindings, in_specifiers, in_types, in_type, in_members, in_member_declarators, in_enumerators, in_declarator, in_parts, in_parameters, in_parameter_list}
use Rattle.lt_label_counts.proofs.Asked.{defined_here}

abbrev pub AreNone : List Node → Type 0
AreNone [] = Unit {0}
AreNone (x ∷ xs) = (defined_here (record { number = 0; node = x }) ≡ 0) × AreNone xs

-- none of these nodes is a function
pub record Plain (xs : List Node) : Type 0 where
  pub none : AreNone xs

nothing : Plain []
nothing = record { none = tt }

none_of_both : (xs ys : List Node) → AreNone xs → AreNone ys → AreNone (xs ++ ys)
none_of_both [] ys a b = b
none_of_both (x ∷ xs) ys a b = (a.0, none_of_both xs ys a.1 b)

pub both : {xs ys : List Node} → Plain xs → Plain ys → Plain (xs ++ ys)
both {xs} {ys} a b = record { none = none_of_both xs ys a.none b.none }

node : {x : Node} {xs : List Node} → defined_here (record { number = 0; node = x }) ≡ 0 → Plain xs → Plain (x ∷ xs)
node e a = record { none = (e, a.none) }

mutual
  pub expression : (e : c.Expression) → Plain (in_expression e)
  expression (c.Name w) = node refl nothing
  expression (c.Constant w) = node refl nothing
  expression (c.Text bytes) = node refl nothing
  expression (c.Index array place) = node refl (both (expression array) (expression place))
  expression (c.Call callee arguments) = node refl (both (expression callee) (expressions arguments))
  expression (c.Member e w) = node refl (expression e)
  expression (c.Arrow e w) = node refl (expression e)
  expression (c.PostInc e) = node refl (expression e)
  expression (c.PostDec e) = node refl (expression e)
  expression (c.PreInc e) = node refl (expression e)
  expression (c.PreDec e) = node refl (expression e)
  expression (c.Unary op e) = node refl (expression e)
  expression (c.SizeofExpr e) = node refl (expression e)
  expression (c.SizeofType s d) = node refl (both (specifiers s) (declarator d))
  expression (c.Cast s d e) = node refl (both (both (specifiers s) (declarator d)) (expression e))
  expression (c.Binary op left right) = node refl (both (expression left) (expression right))
  expression (c.Logical op left right) = node refl (both (expression left) (expression right))
  expression (c.Conditional test left right) = node refl (both (both (expression test) (expression left)) (expression right))
  expression (c.Assign op target value) = node refl (both (expression target) (expression value))
  expression (c.Comma list) = node refl (expressions list)
  expression (c.Marked list e) = node refl (both (marks list) (expression e))
  expression (c.Decide e when_true when_false tag) = node refl (expression e)
  expression (c.After e id tag) = node refl (expression e)

  expressions : (es : c.Expressions) → Plain (in_expressions es)
  expressions c.no_expressions = nothing
  expressions (c.an_expression e es) = both (expression e) (expressions es)

  maybe : (e : c.Maybe) → Plain (in_maybe e)
  maybe c.absent = nothing
  maybe (c.present e) = expression e

  marks : (ms : c.Marks) → Plain (in_marks ms)
  marks c.no_marks = nothing
  marks (c.a_mark m ms) = both (mark m) (marks ms)

  mark : (m : c.Mark) → Plain (in_mark m)
  mark (c.mark e id tag bound) = node refl (both (expression e) (bindings bound))

  pub bindings : (bs : c.Bindings) → Plain (in_bindings bs)
  bindings c.no_bindings = nothing
  bindings (c.a_binding w e bs) = both (expression e) (bindings bs)

  specifiers : (s : c.Specifiers) → Plain (in_specifiers s)
  specifiers (c.specifiers words types) = type_words types

  type_words : (types : c.TypeSpecifiers) → Plain (in_types types)
  type_words c.no_types = nothing
  type_words (c.a_type type types) = both (type_word type) (type_words types)

  type_word : (type : c.TypeSpecifier) → Plain (in_type type)
  type_word (c.Struct tag list) = members list
  type_word (c.Enum tag list) = enumerators list
  type_word _ = nothing

  members : (ms : c.Members) → Plain (in_members ms)
  members c.no_members = nothing
  members (c.a_member (c.member s ds) ms) = both (node refl (both (specifiers s) (member_declarators ds))) (members ms)

  member_declarators : (ds : c.MemberDeclarators) → Plain (in_member_declarators ds)
  member_declarators c.no_declarators = nothing
  member_declarators (c.a_declarator d width ds) = both (both (declarator d) (maybe width)) (member_declarators ds)

  enumerators : (es : c.Enumerators) → Plain (in_enumerators es)
  enumerators c.no_enumerators = nothing
  enumerators (c.an_enumerator w value es) = both (node refl (maybe value)) (enumerators es)

  declarator : (d : c.Declarator) → Plain (in_declarator d)
  declarator (c.declarator None c.no_parts) = nothing
  declarator (c.declarator None (c.Pointer q list)) = node refl (parts (c.Pointer q list))
  declarator (c.declarator None (c.Array length list)) = node refl (parts (c.Array length list))
  declarator (c.declarator None (c.Function ps list)) = node refl (parts (c.Function ps list))
  declarator (c.declarator (Some name) list) = node refl (parts list)

  parts : (list : c.Parts) → Plain (in_parts list)
  parts c.no_parts = nothing
  parts (c.Pointer q list) = parts list
  parts (c.Array length list) = both (maybe length) (parts list)
  parts (c.Function ps list) = both (parameters ps) (parts list)

  parameters : (ps : c.Parameters) → Plain (in_parameters ps)
  parameters c.Unstated = nothing
  parameters c.Void = nothing
  parameters (c.Listed list) = parameter_list list
  parameters (c.Open list) = parameter_list list

  parameter_list : (ps : c.ParameterList) → Plain (in_parameter_list ps)
  parameter_list c.no_parameters = nothing
  parameter_list (c.a_parameter s d ps) = both (both (specifiers s) (declarator d)) (parameter_list ps)
