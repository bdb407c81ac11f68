-- Nodes that declare nothing outside of them and begin no block: all but externals, declarations in blocks and some statements.
use Rattle.std.proofs.Common.{◌≡◌, refl, ℕ, List, [], ◌∷◌, ◌++◌, Option, Some, None}
use Rattle.std.specs.List.{flat_map}
use Rattle.lt_tree.specs.Tree as c
use Rattle.lt_tree.specs.Nodes.{Node, in_expression, in_expressions, in_maybe, in_marks, in_mark, in_bindings, in_specifiers, in_types, in_type, in_members, in_member_declarators, in_enumerators, in_declarator, in_parts, in_parameters, in_parameter_list, in_initialiser, in_initialisers, in_optional_initialiser, in_init_declarator, in_declaration, in_optional, in_start, in_label}
use Rattle.lt_copies.specs.Blocks.{BlocksValue}
use Rattle.lt_copies.specs.Judged.{entered}

abbrev pub IsPlain : Node → Type 0
IsPlain node = (behind : ℕ) (blocks : BlocksValue) → entered node behind blocks ≡ blocks

abbrev pub EachIsPlain : List Node → Type 0
EachIsPlain [] = Unit {0}
EachIsPlain (x ∷ xs) = IsPlain x × EachIsPlain xs

pub record Plain (xs : List Node) : Type 0 where
  pub each : EachIsPlain xs

pub nothing : Plain []
nothing = record { each = tt }

pub one : {x : Node} {xs : List Node} → IsPlain x → Plain xs → Plain (x ∷ xs)
one {x} {xs} h i = record { each = (h, i.each) }

each_of_both : (xs ys : List Node) → EachIsPlain xs → EachIsPlain ys → EachIsPlain (xs ++ ys)
each_of_both [] ys h i = i
each_of_both (x ∷ xs) ys h i = (h.0, each_of_both xs ys h.1 i)

pub both : {xs ys : List Node} → Plain xs → Plain ys → Plain (xs ++ ys)
both {xs} {ys} h i = record { each = each_of_both xs ys h.each i.each }

pub each_of : {X : Type 0} (f : X → List Node) → ((x : X) → Plain (f x)) → (xs : List X) → Plain (flat_map f xs)
each_of f h [] = nothing
each_of f h (x ∷ xs) = both (h x) (each_of f h xs)

mutual
  pub expression : (e : c.Expression) → Plain (in_expression e)
  expression (c.Name w) = one (λ behind blocks. refl) nothing
  expression (c.Constant w) = one (λ behind blocks. refl) nothing
  expression (c.Text bytes) = one (λ behind blocks. refl) nothing
  expression (c.Index array place) = one (λ behind blocks. refl) (both (expression array) (expression place))
  expression (c.Call callee arguments) = one (λ behind blocks. refl) (both (expression callee) (expressions arguments))
  expression (c.Member e w) = one (λ behind blocks. refl) (expression e)
  expression (c.Arrow e w) = one (λ behind blocks. refl) (expression e)
  expression (c.PostInc e) = one (λ behind blocks. refl) (expression e)
  expression (c.PostDec e) = one (λ behind blocks. refl) (expression e)
  expression (c.PreInc e) = one (λ behind blocks. refl) (expression e)
  expression (c.PreDec e) = one (λ behind blocks. refl) (expression e)
  expression (c.Unary op e) = one (λ behind blocks. refl) (expression e)
  expression (c.SizeofExpr e) = one (λ behind blocks. refl) (expression e)
  expression (c.SizeofType s d) = one (λ behind blocks. refl) (both (specifiers s) (declarator d))
  expression (c.Cast s d e) = one (λ behind blocks. refl) (both (both (specifiers s) (declarator d)) (expression e))
  expression (c.Binary op left right) = one (λ behind blocks. refl) (both (expression left) (expression right))
  expression (c.Logical op left right) = one (λ behind blocks. refl) (both (expression left) (expression right))
  expression (c.Conditional test left right) = one (λ behind blocks. refl) (both (both (expression test) (expression left)) (expression right))
  expression (c.Assign op target value) = one (λ behind blocks. refl) (both (expression target) (expression value))
  expression (c.Comma list) = one (λ behind blocks. refl) (expressions list)
  expression (c.Marked list e) = one (λ behind blocks. refl) (both (marks list) (expression e))
  expression (c.Decide e when_true when_false tag) = one (λ behind blocks. refl) (expression e)
  expression (c.After e id tag) = one (λ behind blocks. refl) (expression e)

  pub expressions : (es : c.Expressions) → Plain (in_expressions es)
  expressions c.no_expressions = nothing
  expressions (c.an_expression e es) = both (expression e) (expressions es)

  pub maybe : (e : c.Maybe) → Plain (in_maybe e)
  maybe c.absent = nothing
  maybe (c.present e) = expression e

  pub marks : (ms : c.Marks) → Plain (in_marks ms)
  marks c.no_marks = nothing
  marks (c.a_mark m ms) = both (mark m) (marks ms)

  pub mark : (m : c.Mark) → Plain (in_mark m)
  mark (c.mark e id tag bound) = one (λ behind blocks. refl) (both (expression e) (bindings bound))

  pub bindings : (bs : c.Bindings) → Plain (in_bindings bs)
  bindings c.no_bindings = nothing
  bindings (c.a_binding w e bs) = both (expression e) (bindings bs)

  pub specifiers : (s : c.Specifiers) → Plain (in_specifiers s)
  specifiers (c.specifiers words types) = type_words types

  type_words : (types : c.TypeSpecifiers) → Plain (in_types types)
  type_words c.no_types = nothing
  type_words (c.a_type type types) = both (type_word type) (type_words types)

  type_word : (type : c.TypeSpecifier) → Plain (in_type type)
  type_word (c.Struct tag list) = members list
  type_word (c.Enum tag list) = enumerators list
  type_word _ = nothing

  members : (ms : c.Members) → Plain (in_members ms)
  members c.no_members = nothing
  members (c.a_member (c.member s ds) ms) = both (one (λ behind blocks. refl) (both (specifiers s) (member_declarators ds))) (members ms)

  member_declarators : (ds : c.MemberDeclarators) → Plain (in_member_declarators ds)
  member_declarators c.no_declarators = nothing
  member_declarators (c.a_declarator d width ds) = both (both (declarator d) (maybe width)) (member_declarators ds)

  enumerators : (es : c.Enumerators) → Plain (in_enumerators es)
  enumerators c.no_enumerators = nothing
  enumerators (c.an_enumerator w value es) = both (one (λ behind blocks. refl) (maybe value)) (enumerators es)

  pub declarator : (d : c.Declarator) → Plain (in_declarator d)
  declarator (c.declarator None c.no_parts) = nothing
  declarator (c.declarator None (c.Pointer q list)) = one (λ behind blocks. refl) (parts (c.Pointer q list))
  declarator (c.declarator None (c.Array length list)) = one (λ behind blocks. refl) (parts (c.Array length list))
  declarator (c.declarator None (c.Function ps list)) = one (λ behind blocks. refl) (parts (c.Function ps list))
  declarator (c.declarator (Some name) list) = one (λ behind blocks. refl) (parts list)

  parts : (list : c.Parts) → Plain (in_parts list)
  parts c.no_parts = nothing
  parts (c.Pointer q list) = parts list
  parts (c.Array length list) = both (maybe length) (parts list)
  parts (c.Function ps list) = both (parameters ps) (parts list)

  parameters : (ps : c.Parameters) → Plain (in_parameters ps)
  parameters c.Unstated = nothing
  parameters c.Void = nothing
  parameters (c.Listed list) = parameter_list list
  parameters (c.Open list) = parameter_list list

  parameter_list : (ps : c.ParameterList) → Plain (in_parameter_list ps)
  parameter_list c.no_parameters = nothing
  parameter_list (c.a_parameter s d ps) = both (both (specifiers s) (declarator d)) (parameter_list ps)

mutual
  pub initialiser : (i : c.Initialiser) → Plain (in_initialiser i)
  initialiser (c.Value e) = one (λ behind blocks. refl) (expression e)
  initialiser (c.Braces list) = one (λ behind blocks. refl) (initialisers list)

  pub initialisers : (list : c.Initialisers) → Plain (in_initialisers list)
  initialisers c.no_initialisers = nothing
  initialisers (c.an_initialiser i list) = both (initialiser i) (initialisers list)

pub optional_initialiser : (i : Option c.Initialiser) → Plain (in_optional_initialiser i)
optional_initialiser None = nothing
optional_initialiser (Some i) = initialiser i

pub init_declarator : (d : c.InitDeclarator) → Plain (in_init_declarator d)
init_declarator d = both (declarator d.declarator) (optional_initialiser d.initialiser)

pub declaration : (d : c.Declaration) → Plain (in_declaration d)
declaration d = both (specifiers d.specifiers) (each_of in_init_declarator init_declarator d.declarators)

pub optional : (e : Option c.Expression) → Plain (in_optional e)
optional None = nothing
optional (Some e) = expression e

pub start : (s : c.ForStart) → Plain (in_start s)
start c.Nothing = nothing
start (c.First e) = expression e
start (c.Declares d) = declaration d

pub label : (l : c.Label) → Plain (in_label l)
label (c.Case e) = one (λ behind blocks. refl) (expression e)
label c.Default = one (λ behind blocks. refl) nothing
