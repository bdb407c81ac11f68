-- Of declarations, statements and units that symbols derive: the words of their canonical text derive them again, rule by rule of the grammar.
use Rattle.std.proofs.Common.{◌≡◌, ℕ, Bool, true, false, List, [], ◌∷◌, ◌++◌, Option, refl, sym, subst}
use Rattle.std.specs.List.{flat_map}
use Rattle.lt_tree.specs.declared.terminal.Terminal.TheVariants as k
use Rattle.lt_tree.specs.Tree as c
use Rattle.lt_tree.specs.Symbols as s
use Rattle.lt_tree.specs.Symbols.{Symbol}
use Rattle.lt_tree.specs.Scope.{Scope, after_specifiers, after_declaration, after_external, in_body}
use Rattle.lt_tree.specs.Ahead.{Naming, naming_behind, takes_none, same_terminal, sees}
use Rattle.lt_tree.specs.Declarations as d
use Rattle.lt_tree.specs.Statements as st
use Rattle.lt_tree.specs.Units as u
use Rattle.lt_tree.specs.Units.{AreExternals}
use Rattle.lt_tree.specs.Pieces.{gap, line_end}
use Rattle.lt_tree.specs.Canon.{sign, apart, specifiers, declarator}
use Rattle.lt_tree.specs.CanonUnits.{declaration, item_lines, external}
use Rattle.lt_print.proofs.ReadPieces.{Reads, done, a_sign, a_gap, a_line_end, parted, by_brace}
use Rattle.lt_print.proofs.Claims.{SpecifiersAgain, DeclaratorFits}
use Rattle.lt_print.proofs.DeclaratorFronts.{declared_again, behind_clear_after, behind_is_named}
use Rattle.lt_print.proofs.DeclarationsAgain as ds
use Rattle.lt_print.proofs.DeclarationsAgain.{InitialiserAgain, InitialisersFit, AreGiven, InitialiserFits, DeclaratorsFit, AreDeclared, DeclarationAgain}
use Rattle.lt_print.proofs.StatementsAgain as sts
use Rattle.lt_print.proofs.StatementsAgain.{OptionalStands, StartAgain, LabelsFit, StatementAgain, ItemsAgain, CasesAgain}
use Rattle.lt_print.proofs.Again.{of_expression, of_mark, of_specifiers, of_declarator}

-- ---- declarations

mutual
  of_initialiser : {scope : Scope} {ts : List Symbol} {i : c.Initialiser} {rest : List Symbol} {spots more : List ℕ} → d.IsInitialiser scope ts i rest spots more → InitialiserAgain scope i
  of_initialiser (d.value x) = ds.value_again (of_expression x)
  of_initialiser (d.braces {is} x) = let all = of_initialisers x in ds.braces_again is all.1 all.0

  of_initialisers : {scope : Scope} {ts : List Symbol} {is : c.Initialisers} {rest : List Symbol} {spots more : List ℕ} → d.AreInitialisers scope ts is rest spots more → AreGiven is × InitialisersFit scope is
  of_initialisers (d.last_initialiser x) = (tt, (of_initialiser x, tt))
  of_initialisers (d.last_initialiser_and_comma x) = (tt, (of_initialiser x, tt))
  of_initialisers (d.more_initialisers x xs) = (tt, (of_initialiser x, (of_initialisers xs).1))

of_optional_initialiser : {scope : Scope} {ts : List Symbol} {i : Option c.Initialiser} {rest : List Symbol} {spots more : List ℕ} → d.IsOptionalInitialiser scope ts i rest spots more → InitialiserFits scope i
of_optional_initialiser (d.left_out n) = tt
of_optional_initialiser (d.given x) = of_initialiser x

of_declarators : {scope : Scope} {naming : Naming} {type : Bool} {ts : List Symbol} {xs : List c.InitDeclarator} {rest : List Symbol} {spots more : List ℕ}
    → d.AreDeclarators scope naming type ts xs rest spots more → AreDeclared xs × DeclaratorsFit naming type scope xs
of_declarators (d.last_declarator x i) = (tt, (of_declarator x, of_optional_initialiser i, tt))
of_declarators (d.more_declarators x i xs) = (tt, (of_declarator x, of_optional_initialiser i, (of_declarators xs).1))

of_declaration : {scope : Scope} {ts : List Symbol} {x : c.Declaration} {rest : List Symbol} {spots more : List ℕ} → d.IsDeclaration scope ts x rest spots more → DeclarationAgain scope x
of_declaration (d.specifiers_alone x) = ds.alone_again (of_specifiers x)
of_declaration (d.with_declarators x xs) = let all = of_declarators xs in ds.declared_again (of_specifiers x) all.1 all.0

-- ---- statements

of_optional : {scope : Scope} {ts : List Symbol} {e : Option c.Expression} {rest : List Symbol} {spots more : List ℕ} → st.IsOptional scope ts e rest spots more → OptionalStands scope e
of_optional st.left_out = tt
of_optional (st.given x) = (of_expression x).stands

of_start : {scope : Scope} {ts : List Symbol} {x : c.ForStart} {rest : List Symbol} {spots more : List ℕ} → st.IsForStart scope ts x rest spots more → StartAgain scope x
of_start st.nothing = sts.nothing_start_again
of_start (st.expression x) = sts.first_start_again (of_expression x)
of_start (st.declaration x) = sts.declares_start_again (of_declaration x)

pub of_labels : {scope : Scope} {ts : List Symbol} {labels : List c.Label} {rest : List Symbol} {spots more : List ℕ} → st.AreLabels scope ts labels rest spots more → LabelsFit scope labels
of_labels (st.no_labels a b) = tt
of_labels (st.case_label x y) = ((of_expression x).stands, of_labels y)
of_labels (st.default_label y) = of_labels y

at_else : (scope : Scope) (f g : Bool) (x : c.Statement) → f ≡ g → StatementAgain scope f x → StatementAgain scope g x
at_else scope f g x e = subst (λ (b : Bool). StatementAgain scope b x) e

pub else_seen : (at : ℕ) (ts : List Symbol) → sees k.Else (s.sign k.Else at ∷ ts) ≡ true
unfolding same_terminal
else_seen at ts = refl

pub while_seen : (at : ℕ) (ts : List Symbol) → sees k.Else (s.sign k.While at ∷ ts) ≡ false
unfolding same_terminal
while_seen at ts = refl

mutual
  of_statement : {scope : Scope} {ts : List Symbol} {x : c.Statement} {rest : List Symbol} {spots more : List ℕ} → st.IsStatement scope ts x rest spots more → StatementAgain scope (sees k.Else rest) x
  of_statement (st.compound x) = sts.compound_again (of_items x)
  of_statement st.null = sts.null_again
  of_statement (st.expression x) = sts.evaluates_again (of_expression x)
  of_statement {scope} {rest} (st.if_alone {test} {body} x y none) =
      at_else scope false (sees k.Else rest) (c.If test body) (sym none) (sts.if_again (of_expression x) (at_else _ (sees k.Else rest) false body none (of_statement y)))
  of_statement (st.if_else {d = at} {vs} {body} x y z) = sts.if_else_again (of_expression x) (at_else _ (sees k.Else (s.sign k.Else at ∷ vs)) true body (else_seen at vs) (of_statement y)) (of_statement z)
  of_statement (st.while_loop x y) = sts.while_again (of_expression x) (of_statement y)
  of_statement {scope} (st.do_loop {a = at} {b = open_at} {us} {body} x y) =
      sts.do_again (of_expression y) (at_else scope (sees k.Else (s.sign k.While at ∷ s.sign k.OpenParen open_at ∷ us)) false body (while_seen at (s.sign k.OpenParen open_at ∷ us)) (of_statement x))
  of_statement (st.for_loop {test} {step} a is b is' x y) = sts.for_again test step (of_start a) is (of_optional b) is' (of_optional x) (of_statement y)
  of_statement (st.switch x y) = sts.switch_again (of_expression x) (of_cases y)
  of_statement st.break = sts.break_again
  of_statement st.continue = sts.continue_again
  of_statement (st.returns {e} x) = sts.returns_again e (of_optional x)

  of_items : {scope : Scope} {ts : List Symbol} {items : c.Items} {rest : List Symbol} {spots more : List ℕ} → st.AreItems scope ts items rest spots more → ItemsAgain scope items
  of_items st.no_more_items = sts.no_items_again
  of_items (st.declaration x y) = sts.declaration_item_again (of_declaration x) (of_items y)
  of_items (st.statement x y) = sts.statement_item_again (of_statement x) (of_items y)
  of_items (st.label x y) = sts.label_item_again (of_mark x) (of_items y)

  of_cases : {scope : Scope} {ts : List Symbol} {cases : c.Cases} {rest : List Symbol} {spots more : List ℕ} → st.AreCases scope ts cases rest spots more → CasesAgain scope cases
  of_cases st.no_more_cases = sts.no_cases_again
  of_cases (st.one_more_case {labels} x y z) = sts.case_again labels (of_labels x) (of_statement y) (of_cases z)

-- ---- units

abbrev pub UnitAgain : Scope → c.Unit → Type 0
UnitAgain scope unit = (ts : List Symbol) (more : List ℕ) → Reads (flat_map external unit) ts [] → (spots : List ℕ) × AreExternals scope ts unit spots more

pub nothing_again : {scope : Scope} → UnitAgain scope []
nothing_again ts more done = (more, u.no_more_externals)

declaration_from : {scope : Scope} {x : c.Declaration} {unit : c.Unit} → DeclarationAgain scope x → UnitAgain (after_declaration x scope) unit → {ts between past : List Symbol} (more : List ℕ)
    → Reads (declaration 0 x) ts between → Reads (line_end ∷ []) between past → Reads (flat_map external unit) past [] → (spots : List ℕ) × AreExternals scope ts (c.Declared x ∷ unit) spots more
declaration_from again others {ts} {past = past} more a (a_line_end done) b =
    let behind = others past more b in let got = again 0 ts past behind.0 a in (_, u.declaration got.1 behind.1)

pub declaration_again : {scope : Scope} {x : c.Declaration} {unit : c.Unit} → DeclarationAgain scope x → UnitAgain (after_declaration x scope) unit → UnitAgain scope (c.Declared x ∷ unit)
declaration_again {scope} {x} {unit} again others ts more r =
    let q = parted (declaration 0 x ++ line_end ∷ []) (flat_map external unit) r in
    let p = parted (declaration 0 x) (line_end ∷ []) q.front in
    declaration_from again others more p.front p.back q.back

definition_from : {scope : Scope} {ss : c.Specifiers} {x : c.Declarator} {body : c.Items} {unit : c.Unit} → SpecifiersAgain scope ss → DeclaratorFits (naming_behind ss) (after_specifiers ss scope) x
    → ItemsAgain (in_body ss x scope) body → UnitAgain (after_external (c.Defines ss x body) scope) unit → {ts between past gone : List Symbol} (more : List ℕ)
    → Reads (apart (specifiers 0 ss) (declarator 0 x)) ts between → Reads (gap ∷ sign k.OpenBrace ∷ line_end ∷ item_lines 1 body) between past → Reads (sign k.CloseBrace ∷ line_end ∷ []) past gone
    → Reads (flat_map external unit) gone [] → (spots : List ℕ) × AreExternals scope ts (c.Defines ss x body ∷ unit) spots more
definition_from {scope} {ss} {x} {body} again fits items others {ts} {gone = gone} more a (a_gap (a_sign {at = open_at} {ts = us} (a_line_end b))) (a_sign {at = close_at} (a_line_end done)) d =
    let behind = others gone more d in
    let inside = items 1 close_at us gone behind.0 b in
    let m = declared_again scope (after_specifiers ss scope) (naming_behind ss) ss x again fits (behind_clear_after scope ss x fits) 0 ts (s.sign k.OpenBrace open_at ∷ us) inside.0 by_brace (no_missing ss) a in
    (_, u.definition m.first m.second inside.1 behind.1)
  where
    no_missing : (ss : c.Specifiers) {b : Bool} → takes_none (naming_behind ss) ≡ true → b ≡ false
    no_missing ss e = let f = behind_is_named ss in absurd cc

pub definition_again : {scope : Scope} {ss : c.Specifiers} {x : c.Declarator} {body : c.Items} {unit : c.Unit} → SpecifiersAgain scope ss → DeclaratorFits (naming_behind ss) (after_specifiers ss scope) x
    → ItemsAgain (in_body ss x scope) body → UnitAgain (after_external (c.Defines ss x body) scope) unit → UnitAgain scope (c.Defines ss x body ∷ unit)
definition_again {scope} {ss} {x} {body} {unit} again fits items others ts more r =
    let q = parted (apart (specifiers 0 ss) (declarator 0 x) ++ gap ∷ sign k.OpenBrace ∷ line_end ∷ item_lines 1 body ++ sign k.CloseBrace ∷ line_end ∷ []) (flat_map external unit) r in
    let p = parted (apart (specifiers 0 ss) (declarator 0 x) ++ gap ∷ sign k.OpenBrace ∷ line_end ∷ item_lines 1 body) (sign k.CloseBrace ∷ line_end ∷ []) q.front in
    let o = parted (apart (specifiers 0 ss) (declarator 0 x)) (gap ∷ sign k.OpenBrace ∷ line_end ∷ item_lines 1 body) p.front in
    definition_from again fits items others more o.front o.back p.back q.back

-- The words of a unit's canonical text derive the unit.
pub of_unit : {scope : Scope} {ts : List Symbol} {unit : c.Unit} {spots more : List ℕ} → AreExternals scope ts unit spots more → UnitAgain scope unit
of_unit u.no_more_externals = nothing_again
of_unit (u.definition x y z w) = definition_again (of_specifiers x) (of_declarator y) (of_items z) (of_unit w)
of_unit (u.declaration x y) = declaration_again (of_declaration x) (of_unit y)
of_unit (u.semicolon y) = of_unit y
