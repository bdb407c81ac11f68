-- The words of declarations derive them again, C11 6.7 and 6.7.9.
use Rattle.std.specs.Prelude.{◌≡◌, ℕ, Bool, false, List, [], ◌∷◌, ◌++◌, Option, Some, None, refl}
use Rattle.lt_tree.specs.declared.terminal.Terminal.{Terminal}
use Rattle.lt_tree.specs.declared.terminal.Terminal.TheVariants as k
use Rattle.lt_tree.specs.Tree as c
use Rattle.lt_tree.specs.Symbols as s
use Rattle.lt_tree.specs.Symbols.{Symbol}
use Rattle.lt_tree.specs.Scope.{Scope, after_specifiers, after_declarator, after_initialiser, makes_types}
use Rattle.lt_tree.specs.Ahead.{Naming, named, naming_behind, same_terminal}
use Rattle.lt_tree.specs.Grammar as g
use Rattle.lt_tree.specs.Grammar.{AreSpecifiers, IsDeclarator}
use Rattle.lt_tree.specs.Declarations as d
use Rattle.lt_tree.specs.Declarations.{IsInitialiser, AreInitialisers, IsOptionalInitialiser, AreDeclarators, IsDeclaration}
use Rattle.lt_tree.specs.Canon.{Pieces, sign, spaced, apart, specifiers, declarator}
use Rattle.lt_tree.specs.CanonUnits.{initialiser, initialisers, init_declarator, init_declarators, declaration}
use Rattle.lt_print.proofs.ReadPieces.{Reads, done, a_sign, a_gap, parted, parted_apart, split_comma, Ends, by_comma, by_semicolon, by_equal}
use Rattle.lt_print.proofs.Claims.{Again, names_type, SpecifiersAgain, DeclaratorFits}
use Rattle.lt_print.proofs.DeclaratorsAgain.{declarator_again}
use Rattle.lt_print.proofs.DeclaratorFronts.{Clear, front_clear, behind_clear_after, behind_bare}

-- ---- initialisers

abbrev pub InitialiserAgain : Scope → c.Initialiser → Type 0
InitialiserAgain scope i = (n : ℕ) (ts rest : List Symbol) (more : List ℕ) → Reads (initialiser n i) ts rest → (spots : List ℕ) × IsInitialiser scope ts i rest spots more

abbrev pub InitialisersFit : Scope → c.Initialisers → Type 0
InitialisersFit scope c.no_initialisers = Unit {0}
InitialisersFit scope (c.an_initialiser i is) = InitialiserAgain scope i × InitialisersFit scope is

abbrev pub AreGiven : c.Initialisers → Type 0
AreGiven c.no_initialisers = ⊥
AreGiven (c.an_initialiser i is) = Unit {0}

pub value_again : {scope : Scope} {e : c.Expression} → Again scope e → InitialiserAgain scope (c.Value e)
value_again again n ts rest more r = let got = again.stands n g.assignment ts rest more r in (_, d.value got.1)

-- before the closing brace
initialisers_again : (scope : Scope) (n : ℕ) (is : c.Initialisers) → InitialisersFit scope is → AreGiven is → (at : ℕ) (ts rest : List Symbol) (more : List ℕ)
    → Reads (initialisers n is) ts (s.sign k.CloseBrace at ∷ rest) → (spots : List ℕ) × AreInitialisers scope ts is rest spots more
initialisers_again scope n c.no_initialisers fit given at ts rest more r = absurd given
initialisers_again scope n (c.an_initialiser i c.no_initialisers) fit given at ts rest more r =
    let got = fit.0 n ts (s.sign k.CloseBrace at ∷ rest) more r in (got.0, d.last_initialiser got.1)
initialisers_again scope n (c.an_initialiser i (c.an_initialiser j is)) fit given at ts rest more r =
    let q = split_comma (initialiser n i) (initialisers n (c.an_initialiser j is)) r in
    let others = initialisers_again scope n (c.an_initialiser j is) fit.1 tt at q.between rest more q.back in
    let got = fit.0 n ts (s.sign k.Comma q.at ∷ q.between) others.0 q.front in
    (got.0, d.more_initialisers got.1 others.1)

braces_from : (scope : Scope) (n : ℕ) (is : c.Initialisers) → InitialisersFit scope is → AreGiven is → (a : ℕ) {ts between rest : List Symbol} (more : List ℕ)
    → Reads (initialisers n is) ts between → Reads (sign k.CloseBrace ∷ []) between rest → (spots : List ℕ) × IsInitialiser scope (s.sign k.OpenBrace a ∷ ts) (c.Braces is) rest spots more
braces_from scope n is fit given a {ts} {rest = rest} more x (a_sign {at} done) = let got = initialisers_again scope n is fit given at ts rest more x in (_, d.braces got.1)

pub braces_again : {scope : Scope} (is : c.Initialisers) → InitialisersFit scope is → AreGiven is → InitialiserAgain scope (c.Braces is)
braces_again {scope} is fit given n ts rest more (a_sign {at = a} r) =
    let q = parted (initialisers n is) (sign k.CloseBrace ∷ []) r in braces_from scope n is fit given a more q.front q.back

-- ---- declarators with their initialisers

abbrev pub InitialiserFits : Scope → Option c.Initialiser → Type 0
InitialiserFits scope None = Unit {0}
InitialiserFits scope (Some i) = InitialiserAgain scope i

abbrev pub DeclaratorsFit : Naming → Bool → Scope → List c.InitDeclarator → Type 0
DeclaratorsFit naming type scope [] = Unit {0}
DeclaratorsFit naming type scope (x ∷ xs) =
    DeclaratorFits naming scope x.declarator × InitialiserFits (after_declarator type x.declarator scope) x.initialiser
    × DeclaratorsFit named type (after_initialiser x.initialiser (after_declarator type x.declarator scope)) xs

abbrev pub AreDeclared : List c.InitDeclarator → Type 0
AreDeclared [] = ⊥
AreDeclared (x ∷ xs) = Unit {0}

record Init (scope : Scope) (naming : Naming) (type : Bool) (ts : List Symbol) (x : c.Declarator) (i : Option c.Initialiser) (rest : List Symbol) (more : List ℕ) : Type 0 where
  between : List Symbol
  middle : List ℕ
  spots : List ℕ
  first : IsDeclarator scope naming ts x between spots middle
  second : IsOptionalInitialiser (after_declarator type x scope) between i rest middle more

with_initialiser : (scope : Scope) (naming : Naming) (type : Bool) (n : ℕ) (x : c.Declarator) (i : c.Initialiser) → DeclaratorFits naming scope x → InitialiserAgain (after_declarator type x scope) i
    → {ts between past rest : List Symbol} (more : List ℕ) → Reads (declarator n x) ts between → Reads (spaced k.Equal) between past → Reads (initialiser n i) past rest
    → Init scope naming type ts x (Some i) rest more
with_initialiser scope naming type n x i fits again {ts} {past = past} {rest} more a (a_gap (a_sign {at} (a_gap done))) b =
    let second = again n past rest more b in
    let third = d.given {at = at} second.1 in
    let first = declarator_again naming scope x fits n ts (s.sign k.Equal at ∷ past) second.0 by_equal a in
    record { between = s.sign k.Equal at ∷ past; middle = second.0; spots = first.0; first = first.1; second = third }

init_again : (scope : Scope) (naming : Naming) (type : Bool) (n : ℕ) (x : c.Declarator) (i : Option c.Initialiser) → DeclaratorFits naming scope x → InitialiserFits (after_declarator type x scope) i
    → (end : Terminal) (at : ℕ) (ts rest : List Symbol) (more : List ℕ) → Ends (s.sign end at ∷ rest) → same_terminal end k.Equal ≡ false
    → Reads (init_declarator n x i) ts (s.sign end at ∷ rest) → Init scope naming type ts x i (s.sign end at ∷ rest) more
init_again scope naming type n x None fits again end at ts rest more ends other r =
    let first = declarator_again naming scope x fits n ts (s.sign end at ∷ rest) more ends r in
    record { between = s.sign end at ∷ rest; middle = more; spots = first.0; first = first.1; second = d.left_out other }
init_again scope naming type n x (Some i) fits again end at ts rest more ends other r =
    let q = parted (declarator n x ++ spaced k.Equal) (initialiser n i) r in
    let p = parted (declarator n x) (spaced k.Equal) q.front in
    with_initialiser scope naming type n x i fits again more p.front p.back q.back

-- before the semicolon
declarators_again : (scope : Scope) (naming : Naming) (type : Bool) (n : ℕ) (xs : List c.InitDeclarator) → DeclaratorsFit naming type scope xs → AreDeclared xs → (at : ℕ) (ts rest : List Symbol) (more : List ℕ)
    → Reads (init_declarators n xs) ts (s.sign k.Semicolon at ∷ rest) → (spots : List ℕ) × AreDeclarators scope naming type ts xs rest spots more
unfolding same_terminal
declarators_again scope naming type n [] fit declared at ts rest more r = absurd declared
declarators_again scope naming type n (x ∷ []) fit declared at ts rest more r =
    let m = init_again scope naming type n x.declarator x.initialiser fit.0 fit.1 k.Semicolon at ts rest more by_semicolon refl r in (m.spots, d.last_declarator m.first m.second)
declarators_again scope naming type n (x ∷ y ∷ xs) fit declared at ts rest more r =
    let q = split_comma (init_declarator n x.declarator x.initialiser) (init_declarators n (y ∷ xs)) r in
    let others = declarators_again (after_initialiser x.initialiser (after_declarator type x.declarator scope)) named type n (y ∷ xs) fit.2 tt at q.between rest more q.back in
    let m = init_again scope naming type n x.declarator x.initialiser fit.0 fit.1 k.Comma q.at ts q.between others.0 by_comma refl q.front in
    (m.spots, d.more_declarators m.first m.second others.1)

-- ---- declarations

abbrev pub DeclarationAgain : Scope → c.Declaration → Type 0
DeclarationAgain scope x = (n : ℕ) (ts rest : List Symbol) (more : List ℕ) → Reads (declaration n x) ts rest → (spots : List ℕ) × IsDeclaration scope ts x rest spots more

-- up to the semicolon
record Ended (a : Pieces) (ts rest : List Symbol) : Type 0 where
  at : ℕ
  front : Reads a ts (s.sign k.Semicolon at ∷ rest)

ended_at : {a : Pieces} {ts between rest : List Symbol} → Reads a ts between → Reads (sign k.Semicolon ∷ []) between rest → Ended a ts rest
ended_at x (a_sign done) = record { at = _; front = x }

ended : (a : Pieces) {ts rest : List Symbol} → Reads (a ++ sign k.Semicolon ∷ []) ts rest → Ended a ts rest
ended a r = let q = parted a (sign k.Semicolon ∷ []) r in ended_at q.front q.back

pub alone_again : {scope : Scope} {ss : c.Specifiers} → SpecifiersAgain scope ss → DeclarationAgain scope (record { specifiers = ss; declarators = [] })
unfolding same_terminal
alone_again {scope} {ss} again n ts rest more r =
    let q = ended (specifiers n ss) r in let got = again n ts (s.sign k.Semicolon q.at ∷ rest) more refl refl q.front in (got.0, d.specifiers_alone got.1)

declarators_clear : (scope : Scope) (ss : c.Specifiers) (type : Bool) (xs : List c.InitDeclarator) → DeclaratorsFit (naming_behind ss) type (after_specifiers ss scope) xs → {ts rest : List Symbol} {spots more : List ℕ}
    → AreDeclarators (after_specifiers ss scope) (naming_behind ss) type ts xs rest spots more → Clear scope (names_type ss) ts
declarators_clear scope ss type [] fit x = elim x [ ]
declarators_clear scope ss type (x ∷ xs) fit (d.last_declarator {us} a b) = front_clear (names_type ss) a (behind_bare ss us) (behind_clear_after scope ss x.declarator fit.0)
declarators_clear scope ss type (x ∷ xs) fit (d.more_declarators {us} a b z) = front_clear (names_type ss) a (behind_bare ss us) (behind_clear_after scope ss x.declarator fit.0)

pub declared_again : {scope : Scope} {ss : c.Specifiers} {xs : List c.InitDeclarator} → SpecifiersAgain scope ss → DeclaratorsFit (naming_behind ss) (makes_types ss) (after_specifiers ss scope) xs → AreDeclared xs
    → DeclarationAgain scope (record { specifiers = ss; declarators = xs })
declared_again {scope} {ss} {xs} again fit declared n ts rest more r =
    let q = ended (apart (specifiers n ss) (init_declarators n xs)) r in
    let p = parted_apart (specifiers n ss) (init_declarators n xs) q.front in
    let second = declarators_again (after_specifiers ss scope) (naming_behind ss) (makes_types ss) n xs fit declared q.at p.between rest more p.back in
    let front : Clear scope (names_type ss) p.between = declarators_clear scope ss (makes_types ss) xs fit second.1 in
    let first = again n ts p.between second.0 front.none front.brace p.front in
    (first.0, d.with_declarators first.1 second.1)
