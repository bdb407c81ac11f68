-- The typing of declarations, C11 6.7.
use Rattle.std.specs.Prelude.{ℕ, Bool, true, false, if◌then◌else◌, List, [], ◌∷◌, ◌++◌, Option, Some, None, is_some}
use Rattle.lt_tree.specs.declared.specifier.Storage.{Storage}
use Rattle.lt_tree.specs.declared.specifier.Storage.TheVariants as storage
use Rattle.lt_tree.specs.Tree as c
use Rattle.lt_tree.specs.Typing.Types.{CType}
use Rattle.lt_tree.specs.Typing.Rules.{Rule}
use Rattle.lt_tree.specs.Typing.TypedTree.{Local, Start}
use Rattle.lt_tree.specs.Typing.Entities.{a_typedef, Life, is_static, type_of_object}
use Rattle.lt_tree.specs.Typing.Steps.{Walk, ◌>>=◌, ◌>>◌, gives, here, changes, binds}
use Rattle.lt_tree.specs.Typing.Specifying.{Specified, alone, elsewhere}
use Rattle.lt_tree.specs.Typing.Declarators.{Declares}
use Rattle.lt_tree.specs.Typing.ExpressionTyping.{specifiers, declarator}
use Rattle.lt_tree.specs.Typing.InitialiserTyping.{object_initialiser, initialiser_of_none}
use Rattle.lt_tree.specs.Typing.Declaring.{Kind, a_type_name, a_function_name, an_object_of, kind_of, declaration_faults, declare_function, declare_object, with_start, length_faults}

-- the initialiser of what is no object, if there is one
abbrev pub no_object : Option c.Initialiser → Walk (List Local)
no_object None = gives []
no_object (Some i) = initialiser_of_none i >> gives []

-- A local object is created where its declaration is reached; all others are there from the start.
abbrev pub created : Bool → ℕ → Option Start → List Local
created is_there n start = if is_there then [] else record { object = n; start = start } ∷ []

-- An object with its initialiser, if it has one. The object's type is the composite of those of its declarations.
abbrev pub started_object : Life → ℕ → Option c.Initialiser → Walk (List Local)
started_object life n None = gives (created (is_static life) n None)
started_object life n (Some i) = do
  known ← here
  it ← object_initialiser (is_static life) (type_of_object known n) length_faults i
  changes (with_start n (if is_static life then Some it.start else None) it.type)
  gives (created (is_static life) n (Some it.start))

-- A name is in scope from the end of its declarator, in its own initialiser too.
abbrev pub declare : Kind → ℕ → List ℕ → CType → Option c.Initialiser → Walk (List Local)
declare a_type_name node name t i = binds name (a_typedef t) >> no_object i
declare a_function_name node name t i = declare_function name t >> no_object i
declare (an_object_of life is_register) node name t i = declare_object life is_register node name t >>= (λ n. started_object life n i)

abbrev pub declare_named : Specified → Declares → Option c.Initialiser → Walk (List Local)
declare_named it declared i =
    here >>= (λ known. elim (declared.name) [ None ↦ no_object i | Some name ↦ declare (kind_of known it.storage declared.type) declared.node name declared.type i ])

abbrev pub init_declarator : Specified → c.InitDeclarator → Walk (List Local)
init_declarator it d = do
  declared ← declarator d.declarator it false (declaration_faults it.storage (is_some d.initialiser))
  declare_named it declared d.initialiser

abbrev pub init_declarators : Specified → List c.InitDeclarator → Walk (List Local)
init_declarators it [] = gives []
init_declarators it (d ∷ ds) = do
  first ← init_declarator it d
  rest ← init_declarators it ds
  gives (first ++ rest)

-- the local objects of a declaration, and what it breaks that has no declarator
pub record DeclaredLocals : Type 0 where
  pub locals : List Local
  pub faults : List Rule

-- whether a declaration is of a tag alone
abbrev pub has_no_declarator : List c.InitDeclarator → Bool
has_no_declarator [] = true
has_no_declarator (d ∷ ds) = false

abbrev pub left_over : List c.InitDeclarator → Specified → List Rule
left_over ds it = if has_no_declarator ds then it.faults else []

-- a declaration, where so much of its storage class has an effect
abbrev pub declaration_by : (Option Storage → Option Storage) → c.Declaration → Walk DeclaredLocals
declaration_by effective d = do
  it ← specifiers d.specifiers (if has_no_declarator d.declarators then alone else elsewhere)
  locals ← init_declarators (record it { storage = effective it.storage }) d.declarators
  gives (record { locals = locals; faults = left_over d.declarators it })

abbrev pub declaration : c.Declaration → Walk DeclaredLocals
declaration d = declaration_by (λ class. class) d

-- In the head of a `for` only `static`, `typedef` and `register` have an effect.
abbrev pub effective_in_for : Option Storage → Option Storage
effective_in_for (Some storage.Static) = Some storage.Static
effective_in_for (Some storage.Typedef) = Some storage.Typedef
effective_in_for (Some storage.Register) = Some storage.Register
effective_in_for _ = None

abbrev pub declaration_in_for : c.Declaration → Walk DeclaredLocals
declaration_in_for d = declaration_by effective_in_for d
