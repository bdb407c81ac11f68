-- What symbols derive of declarations, statements and units is spelt as they are.
use Rattle.std.specs.Prelude.{ℕ, Bool, List, [], ◌∷◌, Option, Some, None}
use Rattle.lt_tree.specs.Tree as c
use Rattle.lt_tree.specs.Symbols.{Symbol}
use Rattle.lt_tree.specs.Scope.{Scope}
use Rattle.lt_tree.specs.Ahead.{Naming}
use Rattle.lt_tree.specs.Declarations as d
use Rattle.lt_tree.specs.Statements as st
use Rattle.lt_tree.specs.Units as u
use Rattle.lt_print.proofs.Spelt.{AreSpelt, Spelt, SpeltMark, SpeltSpecifiers, SpeltDeclarator}
use Rattle.lt_print.proofs.SpeltTrees.{of_expression, of_mark, of_specifiers, of_declarator}

-- ---- trees

abbrev mutual
  pub SpeltInitialiser : c.Initialiser → Type 0
  SpeltInitialiser (c.Value e) = Spelt e
  SpeltInitialiser (c.Braces is) = SpeltInitialisers is

  pub SpeltInitialisers : c.Initialisers → Type 0
  SpeltInitialisers c.no_initialisers = Unit {0}
  SpeltInitialisers (c.an_initialiser i is) = SpeltInitialiser i × SpeltInitialisers is

abbrev pub SpeltInit : Option c.Initialiser → Type 0
SpeltInit None = Unit {0}
SpeltInit (Some i) = SpeltInitialiser i

abbrev pub SpeltDeclarators : List c.InitDeclarator → Type 0
SpeltDeclarators [] = Unit {0}
SpeltDeclarators (x ∷ xs) = SpeltDeclarator x.declarator × SpeltInit x.initialiser × SpeltDeclarators xs

abbrev pub SpeltDeclaration : c.Declaration → Type 0
SpeltDeclaration x = SpeltSpecifiers x.specifiers × SpeltDeclarators x.declarators

abbrev pub SpeltOptional : Option c.Expression → Type 0
SpeltOptional None = Unit {0}
SpeltOptional (Some e) = Spelt e

abbrev pub SpeltStart : c.ForStart → Type 0
SpeltStart c.Nothing = Unit {0}
SpeltStart (c.First e) = Spelt e
SpeltStart (c.Declares x) = SpeltDeclaration x

abbrev pub SpeltLabels : List c.Label → Type 0
SpeltLabels [] = Unit {0}
SpeltLabels (c.Case e ∷ labels) = Spelt e × SpeltLabels labels
SpeltLabels (c.Default ∷ labels) = SpeltLabels labels

abbrev mutual
  pub SpeltStatement : c.Statement → Type 0
  SpeltStatement (c.Compound items) = SpeltItems items
  SpeltStatement (c.Evaluates e) = Spelt e
  SpeltStatement c.Null = Unit {0}
  SpeltStatement (c.If test x) = Spelt test × SpeltStatement x
  SpeltStatement (c.IfElse test x y) = Spelt test × SpeltStatement x × SpeltStatement y
  SpeltStatement (c.While test x) = Spelt test × SpeltStatement x
  SpeltStatement (c.Do x test) = SpeltStatement x × Spelt test
  SpeltStatement (c.For start test step x) = SpeltStart start × SpeltOptional test × SpeltOptional step × SpeltStatement x
  SpeltStatement (c.Switch e cases) = Spelt e × SpeltCases cases
  SpeltStatement c.Break = Unit {0}
  SpeltStatement c.Continue = Unit {0}
  SpeltStatement (c.Return e) = SpeltOptional e

  pub SpeltItems : c.Items → Type 0
  SpeltItems c.no_items = Unit {0}
  SpeltItems (c.a_declaration x items) = SpeltDeclaration x × SpeltItems items
  SpeltItems (c.a_statement x items) = SpeltStatement x × SpeltItems items
  SpeltItems (c.a_label m items) = SpeltMark m × SpeltItems items

  pub SpeltCases : c.Cases → Type 0
  SpeltCases c.no_cases = Unit {0}
  SpeltCases (c.a_case labels x cases) = SpeltLabels labels × SpeltStatement x × SpeltCases cases

abbrev pub SpeltUnit : c.Unit → Type 0
SpeltUnit [] = Unit {0}
SpeltUnit (c.Defines ss x body ∷ unit) = SpeltSpecifiers ss × SpeltDeclarator x × SpeltItems body × SpeltUnit unit
SpeltUnit (c.Declared x ∷ unit) = SpeltDeclaration x × SpeltUnit unit

-- ---- what is derived

mutual
  of_initialiser : {scope : Scope} {ts : List Symbol} {i : c.Initialiser} {rest : List Symbol} {spots more : List ℕ} → d.IsInitialiser scope ts i rest spots more → AreSpelt ts → SpeltInitialiser i × AreSpelt rest
  of_initialiser (d.value x) all = of_expression x all
  of_initialiser (d.braces x) all = of_initialisers x all.1

  of_initialisers : {scope : Scope} {ts : List Symbol} {is : c.Initialisers} {rest : List Symbol} {spots more : List ℕ} → d.AreInitialisers scope ts is rest spots more → AreSpelt ts → SpeltInitialisers is × AreSpelt rest
  of_initialisers (d.last_initialiser x) all = let y = of_initialiser x all in ((y.0, tt), y.1.1)
  of_initialisers (d.last_initialiser_and_comma x) all = let y = of_initialiser x all in ((y.0, tt), y.1.1.1)
  of_initialisers (d.more_initialisers x xs) all = let y = of_initialiser x all in let z = of_initialisers xs y.1.1 in ((y.0, z.0), z.1)

of_optional_initialiser : {scope : Scope} {ts : List Symbol} {i : Option c.Initialiser} {rest : List Symbol} {spots more : List ℕ} → d.IsOptionalInitialiser scope ts i rest spots more → AreSpelt ts → SpeltInit i × AreSpelt rest
of_optional_initialiser (d.left_out n) all = (tt, all)
of_optional_initialiser (d.given x) all = of_initialiser x all.1

of_declarators : {scope : Scope} {naming : Naming} {type : Bool} {ts : List Symbol} {xs : List c.InitDeclarator} {rest : List Symbol} {spots more : List ℕ}
    → d.AreDeclarators scope naming type ts xs rest spots more → AreSpelt ts → SpeltDeclarators xs × AreSpelt rest
of_declarators (d.last_declarator x i) all = let y = of_declarator x all in let z = of_optional_initialiser i y.1 in ((y.0, z.0, tt), z.1.1)
of_declarators (d.more_declarators x i xs) all = let y = of_declarator x all in let z = of_optional_initialiser i y.1 in let w = of_declarators xs z.1.1 in ((y.0, z.0, w.0), w.1)

of_declaration : {scope : Scope} {ts : List Symbol} {x : c.Declaration} {rest : List Symbol} {spots more : List ℕ} → d.IsDeclaration scope ts x rest spots more → AreSpelt ts → SpeltDeclaration x × AreSpelt rest
of_declaration (d.specifiers_alone x) all = let y = of_specifiers x all in ((y.0, tt), y.1.1)
of_declaration (d.with_declarators x xs) all = let y = of_specifiers x all in let z = of_declarators xs y.1 in ((y.0, z.0), z.1)

of_optional : {scope : Scope} {ts : List Symbol} {e : Option c.Expression} {rest : List Symbol} {spots more : List ℕ} → st.IsOptional scope ts e rest spots more → AreSpelt ts → SpeltOptional e × AreSpelt rest
of_optional st.left_out all = (tt, all)
of_optional (st.given x) all = of_expression x all

of_start : {scope : Scope} {ts : List Symbol} {x : c.ForStart} {rest : List Symbol} {spots more : List ℕ} → st.IsForStart scope ts x rest spots more → AreSpelt ts → SpeltStart x × AreSpelt rest
of_start st.nothing all = (tt, all.1)
of_start (st.expression x) all = let y = of_expression x all in (y.0, y.1.1)
of_start (st.declaration x) all = of_declaration x all

of_labels : {scope : Scope} {ts : List Symbol} {labels : List c.Label} {rest : List Symbol} {spots more : List ℕ} → st.AreLabels scope ts labels rest spots more → AreSpelt ts → SpeltLabels labels × AreSpelt rest
of_labels (st.no_labels a b) all = (tt, all)
of_labels (st.case_label x y) all = let v = of_expression x all.1 in let w = of_labels y v.1.1 in ((v.0, w.0), w.1)
of_labels (st.default_label y) all = of_labels y all.1.1

mutual
  of_statement : {scope : Scope} {ts : List Symbol} {x : c.Statement} {rest : List Symbol} {spots more : List ℕ} → st.IsStatement scope ts x rest spots more → AreSpelt ts → SpeltStatement x × AreSpelt rest
  of_statement (st.compound x) all = of_items x all.1
  of_statement st.null all = (tt, all.1)
  of_statement (st.expression x) all = let v = of_expression x all in (v.0, v.1.1)
  of_statement (st.if_alone x y none) all = let v = of_expression x all.1.1 in let w = of_statement y v.1.1 in ((v.0, w.0), w.1)
  of_statement (st.if_else x y z) all = let v = of_expression x all.1.1 in let w = of_statement y v.1.1 in let r = of_statement z w.1.1 in ((v.0, w.0, r.0), r.1)
  of_statement (st.while_loop x y) all = let v = of_expression x all.1.1 in let w = of_statement y v.1.1 in ((v.0, w.0), w.1)
  of_statement (st.do_loop x y) all = let v = of_statement x all.1 in let w = of_expression y v.1.1.1 in ((v.0, w.0), w.1.1.1)
  of_statement (st.for_loop a is b is' x y) all =
      let v = of_start a all.1.1 in let w = of_optional b v.1 in let r = of_optional x w.1.1 in let z = of_statement y r.1.1 in ((v.0, w.0, r.0, z.0), z.1)
  of_statement (st.switch x y) all = let v = of_expression x all.1.1 in let w = of_cases y v.1.1.1 in ((v.0, w.0), w.1)
  of_statement st.break all = (tt, all.1.1)
  of_statement st.continue all = (tt, all.1.1)
  of_statement (st.returns x) all = let v = of_optional x all.1 in (v.0, v.1.1)

  of_items : {scope : Scope} {ts : List Symbol} {items : c.Items} {rest : List Symbol} {spots more : List ℕ} → st.AreItems scope ts items rest spots more → AreSpelt ts → SpeltItems items × AreSpelt rest
  of_items st.no_more_items all = (tt, all.1)
  of_items (st.declaration x y) all = let v = of_declaration x all in let w = of_items y v.1 in ((v.0, w.0), w.1)
  of_items (st.statement x y) all = let v = of_statement x all in let w = of_items y v.1 in ((v.0, w.0), w.1)
  of_items (st.label x y) all = let v = of_mark x all in let w = of_items y v.1.1 in ((v.0, w.0), w.1)

  of_cases : {scope : Scope} {ts : List Symbol} {cases : c.Cases} {rest : List Symbol} {spots more : List ℕ} → st.AreCases scope ts cases rest spots more → AreSpelt ts → SpeltCases cases × AreSpelt rest
  of_cases st.no_more_cases all = (tt, all.1)
  of_cases (st.one_more_case x y z) all = let v = of_labels x all in let w = of_statement y v.1 in let r = of_cases z w.1 in ((v.0, w.0, r.0), r.1)

-- A unit is spelt as the symbols that derive it.
pub of_unit : {scope : Scope} {ts : List Symbol} {unit : c.Unit} {spots more : List ℕ} → u.AreExternals scope ts unit spots more → AreSpelt ts → SpeltUnit unit
of_unit u.no_more_externals all = tt
of_unit (u.definition x y z w) all = let a = of_specifiers x all in let b = of_declarator y a.1 in let d = of_items z b.1.1 in (a.0, b.0, d.0, of_unit w d.1)
of_unit (u.declaration x y) all = let a = of_declaration x all in (a.0, of_unit y a.1)
of_unit (u.semicolon y) all = of_unit y all.1
