-- Declarations, statements and units that symbols derive are good, if they are spelt well and have marks only where they may stand.
use Rattle.std.proofs.Common.{◌≡◌, ℕ, Bool, true, false, List, ◌∷◌, Option, ap, ◌∙◌, subst}
use Rattle.lt_tree.specs.declared.terminal.Terminal.TheVariants as k
use Rattle.lt_tree.specs.Tree as c
use Rattle.lt_tree.specs.Symbols as s
use Rattle.lt_tree.specs.Symbols.{Symbol}
use Rattle.lt_tree.specs.Scope.{Scope, after_optional, after_start}
use Rattle.lt_tree.specs.Ahead.{Naming, sees}
use Rattle.lt_tree.specs.Declarations as d
use Rattle.lt_tree.specs.Statements as st
use Rattle.lt_tree.specs.Units as u
use Rattle.lt_print.proofs.SpeltUnits.{SpeltInitialiser, SpeltInitialisers, SpeltInit, SpeltDeclarators, SpeltDeclaration, SpeltOptional, SpeltStart, SpeltStatement, SpeltItems, SpeltCases, SpeltUnit}
use Rattle.lt_print.proofs.DeclarationsAgain.{AreGiven}
use Rattle.lt_print.proofs.Again.{of_specifiers, of_declarator}
use Rattle.lt_print.proofs.UnitsAgain.{of_labels, else_seen, while_seen}
use Rattle.lt_marked_texts.proofs.GoodUnits.{GoodInitialiser, GoodInitialisers, GoodInit, GoodDeclarators, GoodDeclaration, GoodOptional, GoodStart, GoodStatement, GoodItems, GoodCases, GoodUnit}
use Rattle.lt_marked_texts.proofs.Free.{FreeInitialiser, FreeInitialisers, FreeInit, FreeDeclarators, FreeDeclaration, FreeOptional, FreeStart, FreeStatement, FreeItems, FreeCases, FreeUnit}
use Rattle.lt_marked_texts.proofs.Derived.{of_expression, of_mark}

-- ---- declarations

mutual
  of_initialiser : {scope : Scope} {ts : List Symbol} {i : c.Initialiser} {rest : List Symbol} {spots more : List ℕ} → d.IsInitialiser scope ts i rest spots more → SpeltInitialiser i → FreeInitialiser i
      → GoodInitialiser scope i
  of_initialiser (d.value x) spelt free = of_expression false x spelt free
  of_initialiser (d.braces x) spelt free = of_initialisers x spelt free

  of_initialisers : {scope : Scope} {ts : List Symbol} {is : c.Initialisers} {rest : List Symbol} {spots more : List ℕ} → d.AreInitialisers scope ts is rest spots more → SpeltInitialisers is → FreeInitialisers is
      → AreGiven is × GoodInitialisers scope is
  of_initialisers (d.last_initialiser x) spelt free = (tt, (of_initialiser x spelt.0 free.0, tt))
  of_initialisers (d.last_initialiser_and_comma x) spelt free = (tt, (of_initialiser x spelt.0 free.0, tt))
  of_initialisers (d.more_initialisers x xs) spelt free = (tt, (of_initialiser x spelt.0 free.0, (of_initialisers xs spelt.1 free.1).1))

of_init : {scope : Scope} {ts : List Symbol} {i : Option c.Initialiser} {rest : List Symbol} {spots more : List ℕ} → d.IsOptionalInitialiser scope ts i rest spots more → SpeltInit i → FreeInit i → GoodInit scope i
of_init (d.left_out n) spelt free = tt
of_init (d.given x) spelt free = of_initialiser x spelt free

of_declarators : {scope : Scope} {naming : Naming} {type : Bool} {ts : List Symbol} {xs : List c.InitDeclarator} {rest : List Symbol} {spots more : List ℕ}
    → d.AreDeclarators scope naming type ts xs rest spots more → SpeltDeclarators xs → FreeDeclarators xs → GoodDeclarators naming type scope xs
of_declarators (d.last_declarator x i) spelt free = (of_declarator x, spelt.0, of_init i spelt.1 free.0, tt)
of_declarators (d.more_declarators x i xs) spelt free = (of_declarator x, spelt.0, of_init i spelt.1 free.0, of_declarators xs spelt.2 free.1)

of_declaration : {scope : Scope} {ts : List Symbol} {x : c.Declaration} {rest : List Symbol} {spots more : List ℕ} → d.IsDeclaration scope ts x rest spots more → SpeltDeclaration x → FreeDeclaration x → GoodDeclaration scope x
of_declaration (d.specifiers_alone x) spelt free = record { again = of_specifiers x; words = spelt.0; declarators = tt }
of_declaration (d.with_declarators x xs) spelt free = record { again = of_specifiers x; words = spelt.0; declarators = of_declarators xs spelt.1 free }

-- ---- statements

of_optional : {scope : Scope} {ts : List Symbol} {e : Option c.Expression} {rest : List Symbol} {spots more : List ℕ} → st.IsOptional scope ts e rest spots more → SpeltOptional e → FreeOptional e → GoodOptional scope e
of_optional st.left_out spelt free = tt
of_optional (st.given x) spelt free = of_expression false x spelt free

of_start : {scope : Scope} {ts : List Symbol} {x : c.ForStart} {rest : List Symbol} {spots more : List ℕ} → st.IsForStart scope ts x rest spots more → SpeltStart x → FreeStart x → GoodStart scope x
of_start st.nothing spelt free = tt
of_start (st.expression x) spelt free = of_expression false x spelt free
of_start (st.declaration x) spelt free = of_declaration x spelt free

-- the scopes of a `for` are named in its rule
for_good : (scope inner behind_test : Scope) (rest : List Symbol) (start : c.ForStart) (test step : Option c.Expression) (body : c.Statement) → inner ≡ after_start start scope → behind_test ≡ after_optional test inner
    → GoodStart scope start → GoodOptional inner test → GoodOptional behind_test step → GoodStatement (after_optional step behind_test) (sees k.Else rest) body → GoodStatement scope (sees k.Else rest) (c.For start test step body)
for_good scope inner behind_test rest start test step body is is' a b x y =
    let behind : behind_test ≡ after_optional test (after_start start scope) = is' ∙ ap (after_optional test) is in (
      a,
      subst (λ (at : Scope). GoodOptional at test) is b,
      subst (λ (at : Scope). GoodOptional at step) behind x,
      subst (λ (at : Scope). GoodStatement (after_optional step at) (sees k.Else rest) body) behind y,
    )

-- behind a statement that an `else` follows or not
at_else : (scope : Scope) (f g : Bool) (x : c.Statement) → f ≡ g → GoodStatement scope f x → GoodStatement scope g x
at_else scope f g x e = subst (λ (b : Bool). GoodStatement scope b x) e

mutual
  of_statement : {scope : Scope} {ts : List Symbol} {x : c.Statement} {rest : List Symbol} {spots more : List ℕ} → st.IsStatement scope ts x rest spots more → SpeltStatement x → FreeStatement x
      → GoodStatement scope (sees k.Else rest) x
  of_statement (st.compound x) spelt free = of_items x spelt free
  of_statement st.null spelt free = tt
  of_statement (st.expression x) spelt free = of_expression false x spelt free
  of_statement {rest} (st.if_alone {body} x y none) spelt free =
      (none, of_expression false x spelt.0 free.0, at_else _ (sees k.Else rest) false body none (of_statement y spelt.1 free.1))
  of_statement (st.if_else {d = at} {vs} {body} x y z) spelt free =
      (of_expression false x spelt.0 free.0, at_else _ (sees k.Else (s.sign k.Else at ∷ vs)) true body (else_seen at vs) (of_statement y spelt.1 free.1), of_statement z spelt.2 free.2)
  of_statement (st.while_loop x y) spelt free = (of_expression false x spelt.0 free.0, of_statement y spelt.1 free.1)
  of_statement {scope} (st.do_loop {a = at} {b = open_at} {us} {body} x y) spelt free =
      (at_else scope (sees k.Else (s.sign k.While at ∷ s.sign k.OpenParen open_at ∷ us)) false body (while_seen at (s.sign k.OpenParen open_at ∷ us)) (of_statement x spelt.0 free.0), of_expression false y spelt.1 free.1)
  of_statement {scope} {rest} (st.for_loop {inner} {behind_test} {start} {test} {step} {body} a is b is' x y) spelt free =
      for_good scope inner behind_test rest start test step body is is' (of_start a spelt.0 free.0) (of_optional b spelt.1 free.1) (of_optional x spelt.2 free.2) (of_statement y spelt.3 free.3)
  of_statement (st.switch x y) spelt free = (of_expression false x spelt.0 free.0, of_cases y spelt.1 free.1)
  of_statement st.break spelt free = tt
  of_statement st.continue spelt free = tt
  of_statement (st.returns x) spelt free = of_optional x spelt free

  of_items : {scope : Scope} {ts : List Symbol} {items : c.Items} {rest : List Symbol} {spots more : List ℕ} → st.AreItems scope ts items rest spots more → SpeltItems items → FreeItems items → GoodItems scope items
  of_items st.no_more_items spelt free = tt
  of_items (st.declaration x y) spelt free = (of_declaration x spelt.0 free.0, of_items y spelt.1 free.1)
  of_items (st.statement {us} x y) spelt free = ((sees k.Else us, of_statement x spelt.0 free.0), of_items y spelt.1 free.1)
  of_items (st.label x y) spelt free = (of_mark false x spelt.0 free.0, of_items y spelt.1 free.1)

  of_cases : {scope : Scope} {ts : List Symbol} {cases : c.Cases} {rest : List Symbol} {spots more : List ℕ} → st.AreCases scope ts cases rest spots more → SpeltCases cases → FreeCases cases → GoodCases scope cases
  of_cases st.no_more_cases spelt free = tt
  of_cases (st.one_more_case {vs} x y z) spelt free = (of_labels x, spelt.0, (sees k.Else vs, of_statement y spelt.1 free.0), of_cases z spelt.2 free.1)

-- ---- units

pub of_unit : {scope : Scope} {ts : List Symbol} {unit : c.Unit} {spots more : List ℕ} → u.AreExternals scope ts unit spots more → SpeltUnit unit → FreeUnit unit → GoodUnit scope unit
of_unit u.no_more_externals spelt free = tt
of_unit (u.definition x y z w) spelt free =
    ((record { again = of_specifiers x; words = spelt.0; fits = of_declarator y; parts = spelt.1 }, of_items z spelt.2 free.0), of_unit w spelt.3 free.1)
of_unit (u.declaration x y) spelt free = (of_declaration x spelt.0 free.0, of_unit y spelt.1 free.1)
of_unit (u.semicolon y) spelt free = of_unit y spelt free
