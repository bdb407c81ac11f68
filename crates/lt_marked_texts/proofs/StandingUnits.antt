-- The words of good declarations, statements and units derive them, and are spelt well.
use Rattle.std.proofs.Common.{◌≡◌, Bool, true, false, List, [], ◌∷◌, Option, Some, None, refl, sym, subst}
use Rattle.lt_tree.specs.Tree as c
use Rattle.lt_tree.specs.Scope.{Scope, after_declaration, after_external}
use Rattle.lt_tree.specs.Ahead.{Naming}
use Rattle.lt_print.proofs.SpeltUnits.{SpeltInitialiser, SpeltInitialisers, SpeltInit, SpeltDeclarators, SpeltDeclaration, SpeltOptional, SpeltStart, SpeltStatement, SpeltItems, SpeltCases, SpeltUnit}
use Rattle.lt_print.proofs.DeclarationsAgain as ds
use Rattle.lt_print.proofs.DeclarationsAgain.{InitialiserAgain, InitialisersFit, InitialiserFits, DeclaratorsFit, DeclarationAgain}
use Rattle.lt_print.proofs.StatementsAgain as sts
use Rattle.lt_print.proofs.StatementsAgain.{OptionalStands, StartAgain, StatementAgain, ItemsAgain, CasesAgain}
use Rattle.lt_print.proofs.UnitsAgain as us
use Rattle.lt_print.proofs.UnitsAgain.{UnitAgain}
use Rattle.lt_marked_texts.proofs.GoodUnits.{GoodInitialiser, GoodInitialisers, GoodInit, GoodDeclarators, GoodDeclaration, GoodOptional, GoodStart, GoodStatement, GoodItems, GoodCases, GoodUnit}
use Rattle.lt_marked_texts.proofs.Standing.{stands, mark_stands, spelt, mark_spelt}

-- ---- declarations

mutual
  initialiser_stands : (scope : Scope) (i : c.Initialiser) → GoodInitialiser scope i → InitialiserAgain scope i
  initialiser_stands scope (c.Value e) good = ds.value_again (stands scope e good)
  initialiser_stands scope (c.Braces is) good = ds.braces_again is (initialisers_stand scope is good.1) good.0

  initialisers_stand : (scope : Scope) (is : c.Initialisers) → GoodInitialisers scope is → InitialisersFit scope is
  initialisers_stand scope c.no_initialisers good = tt
  initialisers_stand scope (c.an_initialiser i is) good = (initialiser_stands scope i good.0, initialisers_stand scope is good.1)

init_stands : (scope : Scope) (i : Option c.Initialiser) → GoodInit scope i → InitialiserFits scope i
init_stands scope None good = tt
init_stands scope (Some i) good = initialiser_stands scope i good

declarators_stand : (naming : Naming) (type : Bool) (scope : Scope) (xs : List c.InitDeclarator) → GoodDeclarators naming type scope xs → DeclaratorsFit naming type scope xs
declarators_stand naming type scope [] good = tt
declarators_stand naming type scope (x ∷ xs) good = (good.0, init_stands _ x.initialiser good.2, declarators_stand _ type _ xs good.3)

declared_stand : (scope : Scope) (ss : c.Specifiers) (xs : List c.InitDeclarator) → GoodDeclaration scope (record { specifiers = ss; declarators = xs }) → DeclarationAgain scope (record { specifiers = ss; declarators = xs })
declared_stand scope ss [] good = ds.alone_again good.again
declared_stand scope ss (x ∷ xs) good = ds.declared_again good.again (declarators_stand _ _ _ (x ∷ xs) good.declarators) tt

declaration_stands : (scope : Scope) (x : c.Declaration) → GoodDeclaration scope x → DeclarationAgain scope x
declaration_stands scope x good = declared_stand scope x.specifiers x.declarators (record { again = good.again; words = good.words; declarators = good.declarators })

-- ---- statements

optional_stands : (scope : Scope) (e : Option c.Expression) → GoodOptional scope e → OptionalStands scope e
optional_stands scope None good = tt
optional_stands scope (Some e) good = (stands scope e good).stands

start_stands : (scope : Scope) (x : c.ForStart) → GoodStart scope x → StartAgain scope x
start_stands scope c.Nothing good = sts.nothing_start_again
start_stands scope (c.First e) good = sts.first_start_again (stands scope e good)
start_stands scope (c.Declares x) good = sts.declares_start_again (declaration_stands scope x good)

if_stands : (scope : Scope) (f : Bool) (test : c.Expression) (x : c.Statement) → f ≡ false → StatementAgain scope false (c.If test x) → StatementAgain scope f (c.If test x)
if_stands scope f test x e = subst (λ (b : Bool). StatementAgain scope b (c.If test x)) (sym e)

mutual
  statement_stands : (scope : Scope) (f : Bool) (x : c.Statement) → GoodStatement scope f x → StatementAgain scope f x
  statement_stands scope f (c.Compound items) good = sts.compound_again (items_stand scope items good)
  statement_stands scope f (c.Evaluates e) good = sts.evaluates_again (stands scope e good)
  statement_stands scope f c.Null good = sts.null_again
  statement_stands scope f (c.If test x) good = if_stands scope f test x good.0 (sts.if_again (stands scope test good.1) (statement_stands _ false x good.2))
  statement_stands scope f (c.IfElse test x y) good = sts.if_else_again (stands scope test good.0) (statement_stands _ true x good.1) (statement_stands _ f y good.2)
  statement_stands scope f (c.While test x) good = sts.while_again (stands scope test good.0) (statement_stands _ f x good.1)
  statement_stands scope f (c.Do x test) good = sts.do_again (stands scope test good.1) (statement_stands scope false x good.0)
  statement_stands scope f (c.For start test step x) good =
      sts.for_again test step (start_stands scope start good.0) refl (optional_stands _ test good.1) refl (optional_stands _ step good.2) (statement_stands _ f x good.3)
  statement_stands scope f (c.Switch e cases) good = sts.switch_again (stands scope e good.0) (cases_stand _ cases good.1)
  statement_stands scope f c.Break good = sts.break_again
  statement_stands scope f c.Continue good = sts.continue_again
  statement_stands scope f (c.Return e) good = sts.returns_again e (optional_stands scope e good)

  items_stand : (scope : Scope) (items : c.Items) → GoodItems scope items → ItemsAgain scope items
  items_stand scope c.no_items good = sts.no_items_again
  items_stand scope (c.a_declaration x items) good = sts.declaration_item_again (declaration_stands scope x good.0) (items_stand _ items good.1)
  items_stand scope (c.a_statement x items) good = sts.statement_item_again (statement_stands scope good.0.0 x good.0.1) (items_stand _ items good.1)
  items_stand scope (c.a_label m items) good = sts.label_item_again (mark_stands scope m good.0) (items_stand _ items good.1)

  cases_stand : (scope : Scope) (cases : c.Cases) → GoodCases scope cases → CasesAgain scope cases
  cases_stand scope c.no_cases good = sts.no_cases_again
  cases_stand scope (c.a_case labels x cases) good = sts.case_again labels good.0 (statement_stands _ good.2.0 x good.2.1) (cases_stand _ cases good.3)

-- ---- units

pub unit_stands : (scope : Scope) (unit : c.Unit) → GoodUnit scope unit → UnitAgain scope unit
unit_stands scope [] good = us.nothing_again
unit_stands scope (c.Defines s d body ∷ unit) good =
    let x = c.Defines s d body in
    us.definition_again good.0.0.again good.0.0.fits (items_stand _ body good.0.1) (unit_stands (after_external x scope) unit good.1)
unit_stands scope (c.Declared x ∷ unit) good = us.declaration_again (declaration_stands scope x good.0) (unit_stands (after_declaration x scope) unit good.1)

-- ---- words

mutual
  initialiser_spelt : (scope : Scope) (i : c.Initialiser) → GoodInitialiser scope i → SpeltInitialiser i
  initialiser_spelt scope (c.Value e) good = spelt scope e good
  initialiser_spelt scope (c.Braces is) good = initialisers_spelt scope is good.1

  initialisers_spelt : (scope : Scope) (is : c.Initialisers) → GoodInitialisers scope is → SpeltInitialisers is
  initialisers_spelt scope c.no_initialisers good = tt
  initialisers_spelt scope (c.an_initialiser i is) good = (initialiser_spelt scope i good.0, initialisers_spelt scope is good.1)

init_spelt : (scope : Scope) (i : Option c.Initialiser) → GoodInit scope i → SpeltInit i
init_spelt scope None good = tt
init_spelt scope (Some i) good = initialiser_spelt scope i good

declarators_spelt : (naming : Naming) (type : Bool) (scope : Scope) (xs : List c.InitDeclarator) → GoodDeclarators naming type scope xs → SpeltDeclarators xs
declarators_spelt naming type scope [] good = tt
declarators_spelt naming type scope (x ∷ xs) good = (good.1, init_spelt _ x.initialiser good.2, declarators_spelt _ type _ xs good.3)

declaration_spelt : (scope : Scope) (x : c.Declaration) → GoodDeclaration scope x → SpeltDeclaration x
declaration_spelt scope x good = (good.words, declarators_spelt _ _ _ x.declarators good.declarators)

optional_spelt : (scope : Scope) (e : Option c.Expression) → GoodOptional scope e → SpeltOptional e
optional_spelt scope None good = tt
optional_spelt scope (Some e) good = spelt scope e good

start_spelt : (scope : Scope) (x : c.ForStart) → GoodStart scope x → SpeltStart x
start_spelt scope c.Nothing good = tt
start_spelt scope (c.First e) good = spelt scope e good
start_spelt scope (c.Declares x) good = declaration_spelt scope x good

mutual
  statement_spelt : (scope : Scope) (f : Bool) (x : c.Statement) → GoodStatement scope f x → SpeltStatement x
  statement_spelt scope f (c.Compound items) good = items_spelt scope items good
  statement_spelt scope f (c.Evaluates e) good = spelt scope e good
  statement_spelt scope f c.Null good = tt
  statement_spelt scope f (c.If test x) good = (spelt scope test good.1, statement_spelt _ false x good.2)
  statement_spelt scope f (c.IfElse test x y) good = (spelt scope test good.0, statement_spelt _ true x good.1, statement_spelt _ f y good.2)
  statement_spelt scope f (c.While test x) good = (spelt scope test good.0, statement_spelt _ f x good.1)
  statement_spelt scope f (c.Do x test) good = (statement_spelt scope false x good.0, spelt scope test good.1)
  statement_spelt scope f (c.For start test step x) good = (start_spelt scope start good.0, optional_spelt _ test good.1, optional_spelt _ step good.2, statement_spelt _ f x good.3)
  statement_spelt scope f (c.Switch e cases) good = (spelt scope e good.0, cases_spelt _ cases good.1)
  statement_spelt scope f c.Break good = tt
  statement_spelt scope f c.Continue good = tt
  statement_spelt scope f (c.Return e) good = optional_spelt scope e good

  items_spelt : (scope : Scope) (items : c.Items) → GoodItems scope items → SpeltItems items
  items_spelt scope c.no_items good = tt
  items_spelt scope (c.a_declaration x items) good = (declaration_spelt scope x good.0, items_spelt _ items good.1)
  items_spelt scope (c.a_statement x items) good = (statement_spelt scope good.0.0 x good.0.1, items_spelt _ items good.1)
  items_spelt scope (c.a_label m items) good = (mark_spelt scope m good.0, items_spelt _ items good.1)

  cases_spelt : (scope : Scope) (cases : c.Cases) → GoodCases scope cases → SpeltCases cases
  cases_spelt scope c.no_cases good = tt
  cases_spelt scope (c.a_case labels x cases) good = (good.1, statement_spelt _ good.2.0 x good.2.1, cases_spelt _ cases good.3)

pub unit_spelt : (scope : Scope) (unit : c.Unit) → GoodUnit scope unit → SpeltUnit unit
unit_spelt scope [] good = tt
unit_spelt scope (c.Defines s d body ∷ unit) good =
    let x = c.Defines s d body in
    (good.0.0.words, good.0.0.parts, items_spelt _ body good.0.1, unit_spelt (after_external x scope) unit good.1)
unit_spelt scope (c.Declared x ∷ unit) good = (declaration_spelt scope x good.0, unit_spelt (after_declaration x scope) unit good.1)
