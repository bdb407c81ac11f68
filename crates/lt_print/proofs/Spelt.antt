-- Trees whose names, constants and strings are read as what they stand for, and symbols of which that holds.
use Rattle.std.specs.Prelude.{◌≡◌, ℕ, false, List, [], ◌∷◌, Option, Some, None}
use Rattle.std.specs.List.{All}
use Rattle.lt_tree.specs.Tree as c
use Rattle.lt_tree.specs.Symbols as s
use Rattle.lt_tree.specs.Symbols.{Symbol}
use Rattle.lt_tree.specs.Canon.{sign_of_assignment}
use Rattle.lt_print.proofs.CuttingQuotes.{IsByte}
use Rattle.lt_print.proofs.Written.{is_other}
use Rattle.lt_print.proofs.Clean.{IsIdentifier, IsConstant}

abbrev pub IsSpelt : Symbol → Type 0
IsSpelt (s.name w at) = IsIdentifier w
IsSpelt (s.constant w at) = IsConstant w
IsSpelt (s.literal w at) = All IsByte w
IsSpelt (s.sign x at) = Unit {0}

abbrev pub AreSpelt : List Symbol → Type 0
AreSpelt [] = Unit {0}
AreSpelt (x ∷ xs) = IsSpelt x × AreSpelt xs

abbrev pub NameIf : Option (List ℕ) → Type 0
NameIf None = Unit {0}
NameIf (Some w) = IsIdentifier w

abbrev mutual
  pub Spelt : c.Expression → Type 0
  Spelt (c.Name w) = IsIdentifier w
  Spelt (c.Constant w) = IsConstant w
  Spelt (c.Text bytes) = All IsByte bytes
  Spelt (c.Index whole place) = Spelt whole × Spelt place
  Spelt (c.Call callee arguments) = Spelt callee × SpeltAll arguments
  Spelt (c.Member e w) = Spelt e × IsIdentifier w
  Spelt (c.Arrow e w) = Spelt e × IsIdentifier w
  Spelt (c.PostInc e) = Spelt e
  Spelt (c.PostDec e) = Spelt e
  Spelt (c.PreInc e) = Spelt e
  Spelt (c.PreDec e) = Spelt e
  Spelt (c.Unary o e) = Spelt e
  Spelt (c.SizeofExpr e) = Spelt e
  Spelt (c.SizeofType ss d) = SpeltSpecifiers ss × SpeltDeclarator d
  Spelt (c.Cast ss d e) = SpeltSpecifiers ss × SpeltDeclarator d × Spelt e
  Spelt (c.Binary o left right) = Spelt left × Spelt right
  Spelt (c.Logical o left right) = Spelt left × Spelt right
  Spelt (c.Conditional test left right) = Spelt test × Spelt left × Spelt right
  Spelt (c.Assign o target value) = (is_other (sign_of_assignment o) ≡ false) × Spelt target × Spelt value
  Spelt (c.Comma parts) = SpeltAll parts
  Spelt (c.Marked marks e) = SpeltMarks marks × Spelt e
  Spelt (c.Decide e yes_id no_id tag) = Spelt e × IsConstant yes_id × IsConstant no_id × All IsByte tag
  Spelt (c.After e id tag) = Spelt e × IsConstant id × All IsByte tag

  pub SpeltAll : c.Expressions → Type 0
  SpeltAll c.no_expressions = Unit {0}
  SpeltAll (c.an_expression e es) = Spelt e × SpeltAll es

  pub SpeltMaybe : c.Maybe → Type 0
  SpeltMaybe c.absent = Unit {0}
  SpeltMaybe (c.present e) = Spelt e

  pub SpeltMarks : c.Marks → Type 0
  SpeltMarks c.no_marks = Unit {0}
  SpeltMarks (c.a_mark m ms) = SpeltMark m × SpeltMarks ms

  pub SpeltMark : c.Mark → Type 0
  SpeltMark (c.mark e id tag bound) = Spelt e × IsConstant id × All IsByte tag × SpeltBindings bound

  pub SpeltBindings : c.Bindings → Type 0
  SpeltBindings c.no_bindings = Unit {0}
  SpeltBindings (c.a_binding w e bound) = IsIdentifier w × Spelt e × SpeltBindings bound

  pub SpeltSpecifiers : c.Specifiers → Type 0
  SpeltSpecifiers (c.specifiers words types) = SpeltTypes types

  pub SpeltTypes : c.TypeSpecifiers → Type 0
  SpeltTypes c.no_types = Unit {0}
  SpeltTypes (c.a_type first rest) = SpeltType first × SpeltTypes rest

  pub SpeltType : c.TypeSpecifier → Type 0
  SpeltType (c.Basic type) = Unit {0}
  SpeltType (c.Word word) = Unit {0}
  SpeltType (c.StructTag w) = IsIdentifier w
  SpeltType (c.Struct tag members) = NameIf tag × SpeltMembers members
  SpeltType (c.EnumTag w) = IsIdentifier w
  SpeltType (c.Enum tag enumerators) = NameIf tag × SpeltEnumerators enumerators
  SpeltType (c.Named w) = IsIdentifier w

  pub SpeltMembers : c.Members → Type 0
  SpeltMembers c.no_members = Unit {0}
  SpeltMembers (c.a_member (c.member ss ds) rest) = SpeltSpecifiers ss × SpeltMemberDeclarators ds × SpeltMembers rest

  pub SpeltMemberDeclarators : c.MemberDeclarators → Type 0
  SpeltMemberDeclarators c.no_declarators = Unit {0}
  SpeltMemberDeclarators (c.a_declarator d width rest) = SpeltDeclarator d × SpeltMaybe width × SpeltMemberDeclarators rest

  pub SpeltEnumerators : c.Enumerators → Type 0
  SpeltEnumerators c.no_enumerators = Unit {0}
  SpeltEnumerators (c.an_enumerator w value rest) = IsIdentifier w × SpeltMaybe value × SpeltEnumerators rest

  pub SpeltDeclarator : c.Declarator → Type 0
  SpeltDeclarator (c.declarator name parts) = NameIf name × SpeltParts parts

  pub SpeltParts : c.Parts → Type 0
  SpeltParts c.no_parts = Unit {0}
  SpeltParts (c.Pointer q rest) = SpeltParts rest
  SpeltParts (c.Array length rest) = SpeltMaybe length × SpeltParts rest
  SpeltParts (c.Function ps rest) = SpeltParameters ps × SpeltParts rest

  pub SpeltParameters : c.Parameters → Type 0
  SpeltParameters c.Unstated = Unit {0}
  SpeltParameters c.Void = Unit {0}
  SpeltParameters (c.Listed ps) = SpeltList ps
  SpeltParameters (c.Open ps) = SpeltList ps

  pub SpeltList : c.ParameterList → Type 0
  SpeltList c.no_parameters = Unit {0}
  SpeltList (c.a_parameter ss d rest) = SpeltSpecifiers ss × SpeltDeclarator d × SpeltList rest
