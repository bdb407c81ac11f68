-- Which names stand for types, C11 6.2.1 and 6.7.8: a name is in scope from the end of its declarator, an enumerator from its own end, and an
-- inner name hides an outer one. In the rest of an expression names stay what they were: what a type name in it declares is in scope behind it.
use Rattle.std.specs.Prelude.{ℕ, Bool, false, if◌then◌else◌, List, [], ◌∷◌, ◌++◌, Option, Some, None}
use Rattle.std.specs.Str.{bytes_eq}
use Rattle.std.specs.List.{list_any}
use denote.Enum.Bare.{sameb}
use Rattle.lt_tree.specs.contracts.specifier.Storage.{the_type}
use Rattle.lt_tree.specs.declared.specifier.Storage.TheVariants as storage
use Rattle.lt_tree.specs.Tree as t

-- a name in scope, and whether it is a typedef name
pub record Binder : Type 0 where
  pub name : List ℕ
  pub is_type : Bool

-- the names in scope, the innermost first
abbrev pub Scope : Type 0
Scope = List Binder

-- whether a name stands for a type
abbrev pub is_type : Scope → List ℕ → Bool
is_type [] w = false
is_type (binder ∷ scope) w = if bytes_eq binder.name w then binder.is_type else is_type scope w

-- these names, declared one after the other as something other than types
abbrev pub hiding : List (List ℕ) → Scope → Scope
hiding [] scope = scope
hiding (w ∷ ws) scope = hiding ws (record { name = w; is_type = false } ∷ scope)

-- The enumerators that a tree declares, in the order of the text. Those of parameters end with their list.
abbrev mutual
  pub enumerators_in : t.Expression → List (List ℕ)
  enumerators_in (t.Name name) = []
  enumerators_in (t.Constant text) = []
  enumerators_in (t.Text bytes) = []
  enumerators_in (t.Index whole index) = enumerators_in whole ++ enumerators_in index
  enumerators_in (t.Call callee arguments) = enumerators_in callee ++ enumerators_in_all arguments
  enumerators_in (t.Member whole name) = enumerators_in whole
  enumerators_in (t.Arrow pointer name) = enumerators_in pointer
  enumerators_in (t.PostInc target) = enumerators_in target
  enumerators_in (t.PostDec target) = enumerators_in target
  enumerators_in (t.PreInc target) = enumerators_in target
  enumerators_in (t.PreDec target) = enumerators_in target
  enumerators_in (t.Unary op operand) = enumerators_in operand
  enumerators_in (t.SizeofExpr operand) = enumerators_in operand
  enumerators_in (t.SizeofType s d) = enumerators_in_specifiers s ++ enumerators_in_declarator d
  enumerators_in (t.Cast s d operand) = enumerators_in_specifiers s ++ enumerators_in_declarator d ++ enumerators_in operand
  enumerators_in (t.Binary op left right) = enumerators_in left ++ enumerators_in right
  enumerators_in (t.Logical op left right) = enumerators_in left ++ enumerators_in right
  enumerators_in (t.Conditional test left right) = enumerators_in test ++ enumerators_in left ++ enumerators_in right
  enumerators_in (t.Assign op target value) = enumerators_in target ++ enumerators_in value
  enumerators_in (t.Comma parts) = enumerators_in_all parts
  enumerators_in (t.Marked marks value) = enumerators_in_marks marks ++ enumerators_in value
  enumerators_in (t.Decide operand when_true when_false tag) = enumerators_in operand
  enumerators_in (t.After operand id tag) = enumerators_in operand

  pub enumerators_in_all : t.Expressions → List (List ℕ)
  enumerators_in_all t.no_expressions = []
  enumerators_in_all (t.an_expression first rest) = enumerators_in first ++ enumerators_in_all rest

  pub enumerators_in_maybe : t.Maybe → List (List ℕ)
  enumerators_in_maybe t.absent = []
  enumerators_in_maybe (t.present e) = enumerators_in e

  pub enumerators_in_marks : t.Marks → List (List ℕ)
  enumerators_in_marks t.no_marks = []
  enumerators_in_marks (t.a_mark first rest) = enumerators_in_mark first ++ enumerators_in_marks rest

  pub enumerators_in_mark : t.Mark → List (List ℕ)
  enumerators_in_mark (t.mark predicate id tag bound) = enumerators_in predicate ++ enumerators_in_bindings bound

  pub enumerators_in_bindings : t.Bindings → List (List ℕ)
  enumerators_in_bindings t.no_bindings = []
  enumerators_in_bindings (t.a_binding name value rest) = enumerators_in value ++ enumerators_in_bindings rest

  pub enumerators_in_specifiers : t.Specifiers → List (List ℕ)
  enumerators_in_specifiers (t.specifiers words types) = enumerators_in_types types

  pub enumerators_in_types : t.TypeSpecifiers → List (List ℕ)
  enumerators_in_types t.no_types = []
  enumerators_in_types (t.a_type first rest) = enumerators_in_type first ++ enumerators_in_types rest

  pub enumerators_in_type : t.TypeSpecifier → List (List ℕ)
  enumerators_in_type (t.Struct tag members) = enumerators_in_members members
  enumerators_in_type (t.Enum tag enumerators) = enumerators_of enumerators
  enumerators_in_type _ = []

  pub enumerators_in_members : t.Members → List (List ℕ)
  enumerators_in_members t.no_members = []
  enumerators_in_members (t.a_member (t.member s declarators) rest) =
      enumerators_in_specifiers s ++ enumerators_in_member_declarators declarators ++ enumerators_in_members rest

  pub enumerators_in_member_declarators : t.MemberDeclarators → List (List ℕ)
  enumerators_in_member_declarators t.no_declarators = []
  enumerators_in_member_declarators (t.a_declarator first width rest) =
      enumerators_in_declarator first ++ enumerators_in_maybe width ++ enumerators_in_member_declarators rest

  pub enumerators_of : t.Enumerators → List (List ℕ)
  enumerators_of t.no_enumerators = []
  enumerators_of (t.an_enumerator name value rest) = enumerators_in_maybe value ++ name ∷ enumerators_of rest

  pub enumerators_in_declarator : t.Declarator → List (List ℕ)
  enumerators_in_declarator (t.declarator name parts) = enumerators_in_parts parts

  pub enumerators_in_parts : t.Parts → List (List ℕ)
  enumerators_in_parts t.no_parts = []
  enumerators_in_parts (t.Pointer qualifiers rest) = enumerators_in_parts rest
  enumerators_in_parts (t.Array length rest) = enumerators_in_maybe length ++ enumerators_in_parts rest
  enumerators_in_parts (t.Function parameters rest) = enumerators_in_parts rest

abbrev mutual
  pub enumerators_in_initialiser : t.Initialiser → List (List ℕ)
  enumerators_in_initialiser (t.Value e) = enumerators_in e
  enumerators_in_initialiser (t.Braces parts) = enumerators_in_initialisers parts

  pub enumerators_in_initialisers : t.Initialisers → List (List ℕ)
  enumerators_in_initialisers t.no_initialisers = []
  enumerators_in_initialisers (t.an_initialiser first rest) = enumerators_in_initialiser first ++ enumerators_in_initialisers rest

-- ---- the scope behind a tree

abbrev pub after_expression : t.Expression → Scope → Scope
after_expression e scope = hiding (enumerators_in e) scope

abbrev pub after_optional : Option t.Expression → Scope → Scope
after_optional None scope = scope
after_optional (Some e) scope = after_expression e scope

abbrev pub after_maybe : t.Maybe → Scope → Scope
after_maybe e scope = hiding (enumerators_in_maybe e) scope

abbrev pub after_type : t.TypeSpecifier → Scope → Scope
after_type type scope = hiding (enumerators_in_type type) scope

abbrev pub after_types : t.TypeSpecifiers → Scope → Scope
after_types types scope = hiding (enumerators_in_types types) scope

abbrev pub after_members : t.Members → Scope → Scope
after_members members scope = hiding (enumerators_in_members members) scope

abbrev pub after_enumerators : t.Enumerators → Scope → Scope
after_enumerators enumerators scope = hiding (enumerators_of enumerators) scope

abbrev pub after_specifiers : t.Specifiers → Scope → Scope
after_specifiers s scope = hiding (enumerators_in_specifiers s) scope

-- behind parts of a declarator: parameters, and what their types declare, end with their list
abbrev pub after_parts : t.Parts → Scope → Scope
after_parts parts scope = hiding (enumerators_in_parts parts) scope

-- behind the parts of a declarator
abbrev pub after_inside : t.Declarator → Scope → Scope
after_inside d scope = hiding (enumerators_in_declarator d) scope

abbrev pub after_member_declarator : t.Declarator → t.Maybe → Scope → Scope
after_member_declarator d width scope = after_maybe width (after_inside d scope)

abbrev pub after_member_declarators : t.MemberDeclarators → Scope → Scope
after_member_declarators ds scope = hiding (enumerators_in_member_declarators ds) scope

abbrev pub after_member : t.StructMember → Scope → Scope
after_member (t.member s ds) scope = after_member_declarators ds (after_specifiers s scope)

abbrev pub declaring : Bool → Option (List ℕ) → Scope → Scope
declaring type None scope = scope
declaring type (Some w) scope = record { name = w; is_type = type } ∷ scope

-- an enumerator is in scope behind its value
abbrev pub after_enumerator : List ℕ → t.Maybe → Scope → Scope
after_enumerator w value scope = declaring false (Some w) (after_maybe value scope)

-- the name of a declarator is in scope behind its parts, as a typedef name or not
abbrev pub after_name : Bool → t.Declarator → Scope → Scope
after_name type (t.declarator name parts) scope = declaring type name scope

abbrev pub after_declarator : Bool → t.Declarator → Scope → Scope
after_declarator type d scope = after_name type d (after_inside d scope)

abbrev pub after_initialiser : Option t.Initialiser → Scope → Scope
after_initialiser None scope = scope
after_initialiser (Some i) scope = hiding (enumerators_in_initialiser i) scope

-- whether the specifiers make typedef names
abbrev pub makes_types : t.Specifiers → Bool
makes_types (t.specifiers words types) = list_any (λ s. sameb the_type s storage.Typedef) words.storage

abbrev pub after_declarators : Bool → List t.InitDeclarator → Scope → Scope
after_declarators type [] scope = scope
after_declarators type (d ∷ ds) scope = after_declarators type ds (after_initialiser d.initialiser (after_declarator type d.declarator scope))

abbrev pub after_declaration : t.Declaration → Scope → Scope
after_declaration d scope = after_declarators (makes_types d.specifiers) d.declarators (after_specifiers d.specifiers scope)

-- behind a parameter, in its own list
abbrev pub after_parameter : t.Specifiers → t.Declarator → Scope → Scope
after_parameter s d scope = after_declarator false d (after_specifiers s scope)

abbrev pub after_list : t.ParameterList → Scope → Scope
after_list t.no_parameters scope = scope
after_list (t.a_parameter s d rest) scope = after_list rest (after_parameter s d scope)

abbrev pub after_parameters : t.Parameters → Scope → Scope
after_parameters t.Unstated scope = scope
after_parameters t.Void scope = scope
after_parameters (t.Listed parameters) scope = after_list parameters scope
after_parameters (t.Open parameters) scope = after_list parameters scope

abbrev pub after_first_part : t.Parts → Scope → Scope
after_first_part (t.Function parameters rest) scope = after_parameters parameters scope
after_first_part _ scope = scope

-- in the body of a function: its own name, and then its parameters
abbrev pub in_body : t.Specifiers → t.Declarator → Scope → Scope
in_body s (t.declarator name parts) scope =
    after_first_part parts (after_declarator (makes_types s) (t.declarator name parts) (after_specifiers s scope))

-- Behind a statement of a block: those that choose or repeat are blocks of their own, C11 6.8.4 and 6.8.5.
abbrev pub after_statement : t.Statement → Scope → Scope
after_statement (t.Evaluates e) scope = after_expression e scope
after_statement (t.Return value) scope = after_optional value scope
after_statement _ scope = scope

abbrev pub after_mark : t.Mark → Scope → Scope
after_mark m scope = hiding (enumerators_in_mark m) scope

abbrev pub after_start : t.ForStart → Scope → Scope
after_start t.Nothing scope = scope
after_start (t.First e) scope = after_expression e scope
after_start (t.Declares d) scope = after_declaration d scope

abbrev pub after_labels : List t.Label → Scope → Scope
after_labels [] scope = scope
after_labels (t.Case e ∷ labels) scope = after_labels labels (after_expression e scope)
after_labels (t.Default ∷ labels) scope = after_labels labels scope

abbrev pub after_external : t.External → Scope → Scope
after_external (t.Defines s d body) scope = after_declarator (makes_types s) d (after_specifiers s scope)
after_external (t.Declared d) scope = after_declaration d scope
