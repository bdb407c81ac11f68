-- Declarations, statements and units that may stand where these names are in scope, spelt well.
use Rattle.std.specs.Prelude.{◌≡◌, Bool, true, false, List, [], ◌∷◌, Option, Some, None}
use Rattle.lt_tree.specs.Tree as c
use Rattle.lt_tree.specs.Scope.{Scope, after_expression, after_optional, after_start, after_labels, after_specifiers, after_declarator, after_initialiser, after_declaration, after_statement, after_mark, after_external, in_body, makes_types}
use Rattle.lt_tree.specs.Ahead.{Naming, named, naming_behind}
use Rattle.lt_print.proofs.Spelt.{SpeltSpecifiers, SpeltDeclarator}
use Rattle.lt_print.proofs.SpeltUnits.{SpeltLabels}
use Rattle.lt_print.proofs.Claims.{SpecifiersAgain, DeclaratorFits}
use Rattle.lt_print.proofs.DeclarationsAgain.{AreGiven}
use Rattle.lt_print.proofs.StatementsAgain.{LabelsFit}
use Rattle.lt_marked_texts.proofs.Good.{Good, GoodMark}

-- ---- declarations

abbrev mutual
  pub GoodInitialiser : Scope → c.Initialiser → Type 0
  GoodInitialiser scope (c.Value e) = Good scope e
  GoodInitialiser scope (c.Braces is) = AreGiven is × GoodInitialisers scope is

  pub GoodInitialisers : Scope → c.Initialisers → Type 0
  GoodInitialisers scope c.no_initialisers = Unit {0}
  GoodInitialisers scope (c.an_initialiser i is) = GoodInitialiser scope i × GoodInitialisers scope is

abbrev pub GoodInit : Scope → Option c.Initialiser → Type 0
GoodInit scope None = Unit {0}
GoodInit scope (Some i) = GoodInitialiser scope i

abbrev pub GoodDeclarators : Naming → Bool → Scope → List c.InitDeclarator → Type 0
GoodDeclarators naming type scope [] = Unit {0}
GoodDeclarators naming type scope (x ∷ xs) =
    DeclaratorFits naming scope x.declarator × SpeltDeclarator x.declarator × GoodInit (after_declarator type x.declarator scope) x.initialiser
    × GoodDeclarators named type (after_initialiser x.initialiser (after_declarator type x.declarator scope)) xs

pub record GoodDeclaration (scope : Scope) (x : c.Declaration) : Type 0 where
  pub again : SpecifiersAgain scope x.specifiers
  pub words : SpeltSpecifiers x.specifiers
  pub declarators : GoodDeclarators (naming_behind x.specifiers) (makes_types x.specifiers) (after_specifiers x.specifiers scope) x.declarators

-- ---- statements

abbrev pub GoodOptional : Scope → Option c.Expression → Type 0
GoodOptional scope None = Unit {0}
GoodOptional scope (Some e) = Good scope e

abbrev pub GoodStart : Scope → c.ForStart → Type 0
GoodStart scope c.Nothing = Unit {0}
GoodStart scope (c.First e) = Good scope e
GoodStart scope (c.Declares x) = GoodDeclaration scope x

abbrev mutual
  -- a statement behind which an `else` may stand or not
  pub GoodStatement : Scope → Bool → c.Statement → Type 0
  GoodStatement scope f (c.Compound items) = GoodItems scope items
  GoodStatement scope f (c.Evaluates e) = Good scope e
  GoodStatement scope f c.Null = Unit {0}
  GoodStatement scope f (c.If test x) = (f ≡ false) × Good scope test × GoodStatement (after_expression test scope) false x
  GoodStatement scope f (c.IfElse test x y) =
      Good scope test × GoodStatement (after_expression test scope) true x × GoodStatement (after_expression test scope) f y
  GoodStatement scope f (c.While test x) = Good scope test × GoodStatement (after_expression test scope) f x
  GoodStatement scope f (c.Do x test) = GoodStatement scope false x × Good scope test
  GoodStatement scope f (c.For start test step x) =
      GoodStart scope start × GoodOptional (after_start start scope) test × GoodOptional (after_optional test (after_start start scope)) step
      × GoodStatement (after_optional step (after_optional test (after_start start scope))) f x
  GoodStatement scope f (c.Switch e cases) = Good scope e × GoodCases (after_expression e scope) cases
  GoodStatement scope f c.Break = Unit {0}
  GoodStatement scope f c.Continue = Unit {0}
  GoodStatement scope f (c.Return e) = GoodOptional scope e

  pub GoodItems : Scope → c.Items → Type 0
  GoodItems scope c.no_items = Unit {0}
  GoodItems scope (c.a_declaration x items) = GoodDeclaration scope x × GoodItems (after_declaration x scope) items
  GoodItems scope (c.a_statement x items) = ((f : Bool) × GoodStatement scope f x) × GoodItems (after_statement x scope) items
  GoodItems scope (c.a_label m items) = GoodMark scope m × GoodItems (after_mark m scope) items

  pub GoodCases : Scope → c.Cases → Type 0
  GoodCases scope c.no_cases = Unit {0}
  GoodCases scope (c.a_case labels x cases) =
      LabelsFit scope labels × SpeltLabels labels × ((f : Bool) × GoodStatement (after_labels labels scope) f x)
      × GoodCases (after_statement x (after_labels labels scope)) cases

-- ---- units

pub record GoodHead (scope : Scope) (s : c.Specifiers) (d : c.Declarator) : Type 0 where
  pub again : SpecifiersAgain scope s
  pub words : SpeltSpecifiers s
  pub fits : DeclaratorFits (naming_behind s) (after_specifiers s scope) d
  pub parts : SpeltDeclarator d

abbrev pub GoodExternal : Scope → c.External → Type 0
GoodExternal scope (c.Defines s d body) = GoodHead scope s d × GoodItems (in_body s d scope) body
GoodExternal scope (c.Declared x) = GoodDeclaration scope x

abbrev pub GoodUnit : Scope → c.Unit → Type 0
GoodUnit scope [] = Unit {0}
GoodUnit scope (x ∷ xs) = GoodExternal scope x × GoodUnit (after_external x scope) xs
