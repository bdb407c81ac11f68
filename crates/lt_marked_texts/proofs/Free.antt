-- Trees in whose types and operands of `sizeof` no mark stands; and, where it is asked, no mark at all.
use Rattle.std.specs.Prelude.{◌≡◌, Bool, true, false, List, [], ◌∷◌, Option, Some, None}
use Rattle.lt_tree.specs.Tree as c

abbrev mutual
  -- with no mark at all, if so
  pub Free : Bool → c.Expression → Type 0
  Free none (c.Name w) = Unit {0}
  Free none (c.Constant w) = Unit {0}
  Free none (c.Text bytes) = Unit {0}
  Free none (c.Index whole place) = Free none whole × Free none place
  Free none (c.Call callee arguments) = Free none callee × FreeAll none arguments
  Free none (c.Member e w) = Free none e
  Free none (c.Arrow e w) = Free none e
  Free none (c.PostInc e) = Free none e
  Free none (c.PostDec e) = Free none e
  Free none (c.PreInc e) = Free none e
  Free none (c.PreDec e) = Free none e
  Free none (c.Unary op e) = Free none e
  Free none (c.SizeofExpr e) = Free true e
  Free none (c.SizeofType s d) = FreeSpecifiers s × FreeDeclarator d
  Free none (c.Cast s d e) = FreeSpecifiers s × FreeDeclarator d × Free none e
  Free none (c.Binary op left right) = Free none left × Free none right
  Free none (c.Logical op left right) = Free none left × Free none right
  Free none (c.Conditional test left right) = Free none test × Free none left × Free none right
  Free none (c.Assign op target value) = Free none target × Free none value
  Free none (c.Comma parts) = FreeAll none parts
  Free none (c.Marked marks e) = FreeMarks none marks × Free none e
  Free none (c.Decide e when_true when_false tag) = (none ≡ false) × Free none e
  Free none (c.After e id tag) = (none ≡ false) × Free none e

  pub FreeAll : Bool → c.Expressions → Type 0
  FreeAll none c.no_expressions = Unit {0}
  FreeAll none (c.an_expression e es) = Free none e × FreeAll none es

  pub FreeMaybe : c.Maybe → Type 0
  FreeMaybe c.absent = Unit {0}
  FreeMaybe (c.present e) = Free true e

  pub FreeMarks : Bool → c.Marks → Type 0
  FreeMarks none c.no_marks = Unit {0}
  FreeMarks none (c.a_mark m ms) = FreeMark none m × FreeMarks none ms

  pub FreeMark : Bool → c.Mark → Type 0
  FreeMark none (c.mark e id tag bound) = (none ≡ false) × Free none e × FreeBindings none bound

  pub FreeBindings : Bool → c.Bindings → Type 0
  FreeBindings none c.no_bindings = Unit {0}
  FreeBindings none (c.a_binding w e bound) = Free none e × FreeBindings none bound

  pub FreeSpecifiers : c.Specifiers → Type 0
  FreeSpecifiers (c.specifiers words types) = FreeTypes types

  pub FreeTypes : c.TypeSpecifiers → Type 0
  FreeTypes c.no_types = Unit {0}
  FreeTypes (c.a_type first rest) = FreeType first × FreeTypes rest

  pub FreeType : c.TypeSpecifier → Type 0
  FreeType (c.Struct tag members) = FreeMembers members
  FreeType (c.Enum tag enumerators) = FreeEnumerators enumerators
  FreeType _ = Unit {0}

  pub FreeMembers : c.Members → Type 0
  FreeMembers c.no_members = Unit {0}
  FreeMembers (c.a_member first rest) = FreeMember first × FreeMembers rest

  pub FreeMember : c.StructMember → Type 0
  FreeMember (c.member s ds) = FreeSpecifiers s × FreeMemberDeclarators ds

  pub FreeMemberDeclarators : c.MemberDeclarators → Type 0
  FreeMemberDeclarators c.no_declarators = Unit {0}
  FreeMemberDeclarators (c.a_declarator d width rest) = FreeDeclarator d × FreeMaybe width × FreeMemberDeclarators rest

  pub FreeEnumerators : c.Enumerators → Type 0
  FreeEnumerators c.no_enumerators = Unit {0}
  FreeEnumerators (c.an_enumerator w value rest) = FreeMaybe value × FreeEnumerators rest

  pub FreeDeclarator : c.Declarator → Type 0
  FreeDeclarator (c.declarator name parts) = FreeParts parts

  pub FreeParts : c.Parts → Type 0
  FreeParts c.no_parts = Unit {0}
  FreeParts (c.Pointer q rest) = FreeParts rest
  FreeParts (c.Array length rest) = FreeMaybe length × FreeParts rest
  FreeParts (c.Function ps rest) = FreeParameters ps × FreeParts rest

  pub FreeParameters : c.Parameters → Type 0
  FreeParameters c.Unstated = Unit {0}
  FreeParameters c.Void = Unit {0}
  FreeParameters (c.Listed ps) = FreeList ps
  FreeParameters (c.Open ps) = FreeList ps

  pub FreeList : c.ParameterList → Type 0
  FreeList c.no_parameters = Unit {0}
  FreeList (c.a_parameter s d rest) = FreeSpecifiers s × FreeDeclarator d × FreeList rest

-- ---- declarations

abbrev mutual
  pub FreeInitialiser : c.Initialiser → Type 0
  FreeInitialiser (c.Value e) = Free false e
  FreeInitialiser (c.Braces is) = FreeInitialisers is

  pub FreeInitialisers : c.Initialisers → Type 0
  FreeInitialisers c.no_initialisers = Unit {0}
  FreeInitialisers (c.an_initialiser i is) = FreeInitialiser i × FreeInitialisers is

abbrev pub FreeInit : Option c.Initialiser → Type 0
FreeInit None = Unit {0}
FreeInit (Some i) = FreeInitialiser i

abbrev pub FreeDeclarators : List c.InitDeclarator → Type 0
FreeDeclarators [] = Unit {0}
FreeDeclarators (x ∷ xs) = FreeInit x.initialiser × FreeDeclarators xs

abbrev pub FreeDeclaration : c.Declaration → Type 0
FreeDeclaration x = FreeDeclarators x.declarators

-- ---- statements

abbrev pub FreeOptional : Option c.Expression → Type 0
FreeOptional None = Unit {0}
FreeOptional (Some e) = Free false e

abbrev pub FreeStart : c.ForStart → Type 0
FreeStart c.Nothing = Unit {0}
FreeStart (c.First e) = Free false e
FreeStart (c.Declares x) = FreeDeclaration x

abbrev mutual
  pub FreeStatement : c.Statement → Type 0
  FreeStatement (c.Compound items) = FreeItems items
  FreeStatement (c.Evaluates e) = Free false e
  FreeStatement c.Null = Unit {0}
  FreeStatement (c.If test x) = Free false test × FreeStatement x
  FreeStatement (c.IfElse test x y) = Free false test × FreeStatement x × FreeStatement y
  FreeStatement (c.While test x) = Free false test × FreeStatement x
  FreeStatement (c.Do x test) = FreeStatement x × Free false test
  FreeStatement (c.For start test step x) = FreeStart start × FreeOptional test × FreeOptional step × FreeStatement x
  FreeStatement (c.Switch e cases) = Free false e × FreeCases cases
  FreeStatement c.Break = Unit {0}
  FreeStatement c.Continue = Unit {0}
  FreeStatement (c.Return e) = FreeOptional e

  pub FreeItems : c.Items → Type 0
  FreeItems c.no_items = Unit {0}
  FreeItems (c.a_declaration x items) = FreeDeclaration x × FreeItems items
  FreeItems (c.a_statement x items) = FreeStatement x × FreeItems items
  FreeItems (c.a_label m items) = FreeMark false m × FreeItems items

  pub FreeCases : c.Cases → Type 0
  FreeCases c.no_cases = Unit {0}
  FreeCases (c.a_case labels x cases) = FreeStatement x × FreeCases cases

-- ---- units

abbrev pub FreeExternal : c.External → Type 0
FreeExternal (c.Defines s d body) = FreeItems body
FreeExternal (c.Declared x) = FreeDeclaration x

abbrev pub FreeUnit : c.Unit → Type 0
FreeUnit [] = Unit {0}
FreeUnit (x ∷ xs) = FreeExternal x × FreeUnit xs
