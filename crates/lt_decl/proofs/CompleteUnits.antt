-- What is derived of units is read, and so at most one unit is derived.
use Rattle.std.proofs.Common.{◌≡◌, ℕ, suc, ◌≤◌, true, false, List, [], ◌∷◌, length, Some, refl, ap, ◌∙◌, arith}
use Rattle.lt_tree.specs.declared.terminal.Terminal.TheVariants as t
use Rattle.lt_tree.specs.Tree as c
use Rattle.lt_tree.specs.Symbols.{Symbol, sign, start_of}
use Rattle.lt_tree.specs.Scope.{Scope, after_specifiers, after_external, in_body, makes_types}
use Rattle.lt_tree.specs.Ahead.{naming_behind, same_terminal, sees, begins_specifier}
use Rattle.lt_tree.specs.Declarations as dc
use Rattle.lt_tree.specs.Declarations.{IsDeclaration}
use Rattle.lt_tree.specs.Units as un
use Rattle.lt_tree.specs.Units.{AreExternals, UnitsAreOne}
use Rattle.lt_expr.specs.Reading as ex
use Rattle.lt_expr.specs.Walk.{Walked, walk_specifiers, walk_declarator}
use Rattle.lt_expr.proofs.CompleteStarts.{specifiers_shorter, declarator_short}
use Rattle.lt_expr.proofs.CompleteParameters.{specifier_front}
use Rattle.lt_expr.proofs.CompleteForms.{Read, once, twice, node_of}
use Rattle.lt_expr.proofs.Complete.{complete_specifiers, complete_declarator, specifiers_begin, named_declarator, behind_takes_a_name}
use Rattle.lt_expr.proofs.CompleteWhole.{at_enough, one_read}
use Rattle.lt_decl.specs.Reading as read
use Rattle.lt_decl.specs.Reading.{unit_of}
use Rattle.lt_decl.specs.Walk.{walk_declaration, walk_items, walk_external, walk_unit}
use Rattle.lt_decl.specs.Laws.{UnitDerivedIsRead}
use Rattle.lt_decl.proofs.CompleteStarts.{declaration_shorter, items_shorter}
use Rattle.lt_decl.proofs.CompleteDeclarations.{Declarators, walk_whole, complete_declarators}
use Rattle.lt_decl.proofs.CompleteMarked.{declaration_begins}
use Rattle.lt_decl.proofs.CompleteStatements.{Items}
use Rattle.lt_decl.proofs.Complete.{complete_items}

-- ---- one external

abbrev pub OneExternal : Scope → List Symbol → c.External → List Symbol → List ℕ → List ℕ → List ℕ → Type 0
OneExternal scope ts x rest spots more ends = Read (λ n. read.external n scope) walk_external 4 ts x rest spots more ends

alone_read : (n : ℕ) (scope : Scope) (at : ℕ) (ts rest : List Symbol) (ss : c.Specifiers) (ends now : List ℕ)
    → ex.specifiers n scope (ts, ends) ≡ Some (ss, (sign t.Semicolon at ∷ rest, now))
    → read.external (suc n) scope (ts, ends) ≡ Some (c.Declared (record { specifiers = ss; declarators = [] }), (rest, start_of ts ∷ now))
unfolding read.external same_terminal
alone_read n scope at ts rest ss ends now is = rw is refl

declares_read : (n : ℕ) (scope : Scope) (ts us vs rest : List Symbol) (ss : c.Specifiers) (d : c.Declarator) (ds : List c.InitDeclarator) (ends m1 m2 now : List ℕ) → sees t.Semicolon us ≡ false → sees t.OpenBrace vs ≡ false
    → ex.specifiers (suc n) scope (ts, ends) ≡ Some (ss, (us, m1))
    → ex.declarator (suc n) (after_specifiers ss scope) (naming_behind ss) (us, m1) ≡ Some (d, (vs, m2))
    → read.declarators n (after_specifiers ss scope) (makes_types ss) d (vs, m2) ≡ Some (ds, (rest, now))
    → read.external (suc (suc n)) scope (ts, ends) ≡ Some (c.Declared (record { specifiers = ss; declarators = ds }), (rest, start_of ts ∷ now))
unfolding read.external
declares_read n scope ts us vs rest ss d ds ends m1 m2 now front no_brace first second others = rw (first, front, second, no_brace, others) refl

defines_read : (n : ℕ) (scope : Scope) (at : ℕ) (ts us vs rest : List Symbol) (ss : c.Specifiers) (d : c.Declarator) (body : c.Items) (ends m1 m2 now : List ℕ) → sees t.Semicolon us ≡ false
    → ex.specifiers (suc n) scope (ts, ends) ≡ Some (ss, (us, m1))
    → ex.declarator (suc n) (after_specifiers ss scope) (naming_behind ss) (us, m1) ≡ Some (d, (sign t.OpenBrace at ∷ vs, m2))
    → read.items n (in_body ss d scope) (vs, m2) ≡ Some (body, (rest, now))
    → read.external (suc (suc n)) scope (ts, ends) ≡ Some (c.Defines ss d body, (rest, start_of ts ∷ now))
unfolding read.external same_terminal
defines_read n scope at ts us vs rest ss d body ends m1 m2 now front first second third = rw (first, front, second, third) refl

declares_complete : (scope : Scope) (ts us rest : List Symbol) (ss : c.Specifiers) (ds : List c.InitDeclarator) (spots between more ends : List ℕ) → suc (length us) ≤ length ts
    → Read (λ n. ex.specifiers n scope) walk_specifiers 3 ts ss us spots between ends
    → ((now : List ℕ) → Declarators (after_specifiers ss scope) (naming_behind ss) (makes_types ss) us ds rest between more now)
    → OneExternal scope ts (c.Declared (record { specifiers = ss; declarators = ds })) rest (start_of ts ∷ spots) more ends
declares_complete scope ts us rest ss ds spots between more ends short x cb =
    let y = cb x.now in
    let small = y.short in
    twice (start_of ts ∷ y.behind_read.now)
    (node_of (walk_declaration (record { specifiers = ss; declarators = ds })) (start_of ts) y.behind_read.now more ends spots (ap (walk_specifiers ss) (walk_whole y) ∙ x.walked)) (omega arith)
    (λ n big. declares_read n scope ts us y.after rest ss y.first ds ends x.now y.first_read.now y.behind_read.now (y.no_semicolon (behind_takes_a_name ss)) y.no_brace
    (x.reads (suc n) (omega arith)) (y.first_read.reads (suc n) (omega arith)) (y.behind_read.reads n (omega arith)))

complete_declared : {scope : Scope} {ts rest : List Symbol} {d : c.Declaration} {spots more : List ℕ} → IsDeclaration scope ts d rest spots more
    → (ends : List ℕ) → OneExternal scope ts (c.Declared d) rest (start_of ts ∷ spots) more ends
complete_declared {scope} {ts} {rest} {spots = spots} {more = more} (dc.specifiers_alone {at = at} {ss = ss} x) ends =
    let d = complete_specifiers x ends in
    once (start_of ts ∷ d.now) (node_of (walk_specifiers ss) (start_of ts) d.now more ends spots d.walked) (omega arith)
    (λ n big. alone_read n scope at ts rest ss ends d.now (d.reads n (omega arith)))
complete_declared (dc.with_declarators x z) ends = declares_complete _ _ _ _ _ _ _ _ _ ends (specifiers_shorter x) (complete_specifiers x ends) (complete_declarators z)

definition_complete : (scope : Scope) (at : ℕ) (ts us vs rest : List Symbol) (ss : c.Specifiers) (d : c.Declarator) (body : c.Items) (spots one two more ends : List ℕ)
    → suc (length us) ≤ length ts → suc (length vs) ≤ length us → sees t.Semicolon us ≡ false
    → Read (λ n. ex.specifiers n scope) walk_specifiers 3 ts ss us spots one ends
    → ((now : List ℕ) → Read (λ n. ex.declarator n (after_specifiers ss scope) (naming_behind ss)) walk_declarator 5 us d (sign t.OpenBrace at ∷ vs) one two now)
    → ((now : List ℕ) → Items (in_body ss d scope) vs body rest two more now)
    → OneExternal scope ts (c.Defines ss d body) rest (start_of ts ∷ spots) more ends
definition_complete scope at ts us vs rest ss d body spots one two more ends short shorter front x cd cb =
    let y = cd x.now in
    let z = cb y.now in
    twice (start_of ts ∷ z.now)
    (node_of (λ v. walk_specifiers ss (walk_declarator d (walk_items body v))) (start_of ts) z.now more ends spots
    (ap (λ (v : Walked). walk_specifiers ss (walk_declarator d v)) z.walked ∙ ap (walk_specifiers ss) y.walked ∙ x.walked)) (omega arith)
    (λ n big. defines_read n scope at ts us vs rest ss d body ends x.now y.now z.now front (x.reads (suc n) (omega arith)) (y.reads (suc n) (omega arith)) (z.reads n (omega arith)))

-- ---- units

abbrev pub Externals : Scope → List Symbol → c.Unit → List ℕ → List ℕ → List ℕ → Type 0
Externals scope ts unit spots more ends = Read (λ n. read.externals n scope) walk_unit 5 ts unit [] spots more ends

externals_stop : (n : ℕ) (scope : Scope) (ends : List ℕ) → read.externals (suc n) scope ([], ends) ≡ Some ([], ([], ends))
unfolding read.externals
externals_stop n scope ends = refl

externals_skip : (n : ℕ) (scope : Scope) (at : ℕ) (ts : List Symbol) (unit : c.Unit) (ends now : List ℕ)
    → read.externals n scope (ts, ends) ≡ Some (unit, ([], now)) → read.externals (suc n) scope (sign t.Semicolon at ∷ ts, ends) ≡ Some (unit, ([], now))
unfolding read.externals same_terminal
externals_skip n scope at ts unit ends now is = is

externals_go : (n : ℕ) (scope : Scope) (ts us : List Symbol) (x : c.External) (unit : c.Unit) (ends middle now : List ℕ) → begins_specifier scope false ts ≡ true → sees t.Semicolon ts ≡ false
    → read.external n scope (ts, ends) ≡ Some (x, (us, middle)) → read.externals n (after_external x scope) (us, middle) ≡ Some (unit, ([], now))
    → read.externals (suc n) scope (ts, ends) ≡ Some (x ∷ unit, ([], now))
unfolding read.externals
externals_go n scope [] us x unit ends middle now begins front first others = absurd cc
externals_go n scope (s ∷ ts) us x unit ends middle now begins front first others = rw (front, first, others) refl

specifier_no_semicolon : (scope : Scope) (ts : List Symbol) → begins_specifier scope false ts ≡ true → sees t.Semicolon ts ≡ false
unfolding same_terminal
specifier_no_semicolon scope ts e = specifier_front t.Semicolon scope false ts refl refl e

external_complete : (scope : Scope) (ts us : List Symbol) (x : c.External) (unit : c.Unit) (spots between more ends : List ℕ) → begins_specifier scope false ts ≡ true → suc (length us) ≤ length ts
    → OneExternal scope ts x us spots between ends
    → ((now : List ℕ) → Externals (after_external x scope) us unit between more now)
    → Externals scope ts (x ∷ unit) spots more ends
external_complete scope ts us x unit spots between more ends begins short d cb =
    let y = cb d.now in
    once y.now (ap (walk_external x) y.walked ∙ d.walked) (omega arith)
    (λ n big. externals_go n scope ts us x unit ends d.now y.now begins (specifier_no_semicolon scope ts begins) (d.reads n (omega arith)) (y.reads n (omega arith)))

semicolon_complete : (scope : Scope) (at : ℕ) (ts : List Symbol) (unit : c.Unit) (spots more ends : List ℕ) → Externals scope ts unit spots more ends → Externals scope (sign t.Semicolon at ∷ ts) unit spots more ends
semicolon_complete scope at ts unit spots more ends x = once x.now x.walked (omega arith) (λ n big. externals_skip n scope at ts unit ends x.now (x.reads n (omega arith)))

complete_externals : {scope : Scope} {ts : List Symbol} {unit : c.Unit} {spots more : List ℕ} → AreExternals scope ts unit spots more → (ends : List ℕ) → Externals scope ts unit spots more ends
complete_externals {scope} un.no_more_externals ends = once ends refl (omega arith) (λ n big. externals_stop n scope ends)
complete_externals (un.definition {ss = ss} x z w v) ends =
    external_complete _ _ _ _ _ _ _ _ ends (specifiers_begin x) (omega (arith, specifiers_shorter x, declarator_short z, items_shorter w))
    (definition_complete _ _ _ _ _ _ _ _ _ _ _ _ _ ends (specifiers_shorter x) (omega (arith, declarator_short z)) (named_declarator (behind_takes_a_name ss) z)
    (complete_specifiers x ends) (complete_declarator z) (complete_items w)) (complete_externals v)
complete_externals (un.declaration x z) ends = external_complete _ _ _ _ _ _ _ _ ends (declaration_begins x) (declaration_shorter x) (complete_declared x ends) (complete_externals z)
complete_externals (un.semicolon x) ends = semicolon_complete _ _ _ _ _ _ ends (complete_externals x ends)

-- ---- a whole unit

pub unit_derived_is_read : UnitDerivedIsRead
unfolding unit_of
unit_derived_is_read ts unit spots d = let x = complete_externals d [] in (x.now, x.walked, rw (at_enough x (omega arith)) refl)

pub units_are_one : UnitsAreOne
units_are_one tokens u v spots places one two = let same = one_read (complete_externals one []) (complete_externals two []) in (same.0, same.2)
