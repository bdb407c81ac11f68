-- Initialisers and declarations that are read are derived: a step of each reading function, and all of them at every number.
use Rattle.std.proofs.Common.{ℕ, zero, suc, Bool, List, [], ◌∷◌, drop, Option, Some}
use Rattle.lt_tree.specs.declared.terminal.Terminal.TheVariants as t
use Rattle.lt_tree.specs.Tree as c
use Rattle.lt_tree.specs.Symbols.{Symbol, start_of}
use Rattle.lt_tree.specs.Scope.{Scope, after_specifiers, after_declarator, after_initialiser, makes_types}
use Rattle.lt_tree.specs.Ahead.{Naming, named, naming_behind}
use Rattle.lt_tree.specs.Grammar as g
use Rattle.lt_tree.specs.Declarations as d
use Rattle.lt_tree.specs.Declarations.{IsInitialiser, AreInitialisers, IsOptionalInitialiser, AreDeclarators, IsDeclaration}
use Rattle.lt_expr.specs.Front.{Rest, behind}
use Rattle.lt_expr.specs.Reading as e
use Rattle.lt_expr.proofs.Sound.{sound}
use Rattle.lt_expr.proofs.SoundSteps.{Yields, nothing, given, weaker, both}
use Rattle.lt_expr.proofs.SoundFronts.{Sees, seen, seeing, expecting}
use Rattle.lt_expr.proofs.SoundSpots.{Spotted, no_spot, by_rule, two, three, one_node}
use Rattle.lt_decl.specs.Items.{initialisers_by}
use Rattle.lt_decl.specs.Reading as read
use Rattle.lt_decl.specs.Walk.{walk_initialisers}
use Rattle.lt_decl.proofs.SoundForms.{InitialiserSound, InitialisersSound, OptionalInitialiserSound, DeclaratorsSound, DeclarationSound}

-- ---- the rules, by what is seen

braces_rule : {scope : Scope} {ts rest : List Symbol} {is : c.Initialisers} {spots more : List ℕ}
    → Sees t.OpenBrace ts → AreInitialisers scope (drop 1 ts) is rest spots more → IsInitialiser scope ts (c.Braces is) rest (start_of ts ∷ spots) more
braces_rule seen h = d.braces h

-- '}', or more initialisers
data AreOthers : (scope : Scope) → (ts : List Symbol) → (is : c.Initialisers) → (rest : List Symbol) → (spots more : List ℕ) → Type 0 where
  no_others : {scope : Scope} {ts : List Symbol} {more : List ℕ} → Sees t.CloseBrace ts → AreOthers scope ts c.no_initialisers (drop 1 ts) more more
  others : {scope : Scope} {ts rest : List Symbol} {is : c.Initialisers} {spots more : List ℕ}
      → AreInitialisers scope ts is rest spots more → AreOthers scope ts is rest spots more

comma_and_brace_rule : {scope : Scope} {ts us : List Symbol} {i : c.Initialiser} {spots more : List ℕ}
    → IsInitialiser scope ts i us spots more → Sees t.Comma us → Sees t.CloseBrace (drop 1 us)
    → AreInitialisers scope ts (c.an_initialiser i c.no_initialisers) (drop 1 (drop 1 us)) spots more
comma_and_brace_rule h seen seen = d.last_initialiser_and_comma h

more_initialisers_rule : {scope : Scope} {ts us rest : List Symbol} {i : c.Initialiser} {is : c.Initialisers} {spots middle more : List ℕ}
    → IsInitialiser scope ts i us spots middle → Sees t.Comma us → AreInitialisers scope (drop 1 us) is rest middle more
    → AreInitialisers scope ts (c.an_initialiser i is) rest spots more
more_initialisers_rule h seen k = d.more_initialisers h k

others_rule : {scope : Scope} {ts us rest : List Symbol} {i : c.Initialiser} {is : c.Initialisers} {spots middle more : List ℕ}
    → IsInitialiser scope ts i us spots middle → Sees t.Comma us → AreOthers scope (drop 1 us) is rest middle more
    → AreInitialisers scope ts (c.an_initialiser i is) rest spots more
others_rule h s (no_others close) = comma_and_brace_rule h s close
others_rule h s (others k) = more_initialisers_rule h s k

last_initialiser_rule : {scope : Scope} {ts us : List Symbol} {i : c.Initialiser} {spots more : List ℕ}
    → Sees t.CloseBrace us → IsInitialiser scope ts i us spots more → AreInitialisers scope ts (c.an_initialiser i c.no_initialisers) (drop 1 us) spots more
last_initialiser_rule seen h = d.last_initialiser h

given_rule : {scope : Scope} {ts rest : List Symbol} {i : c.Initialiser} {spots more : List ℕ}
    → Sees t.Equal ts → IsInitialiser scope (drop 1 ts) i rest spots more → IsOptionalInitialiser scope ts (Some i) rest spots more
given_rule seen h = d.given h

last_declarator_rule : {scope : Scope} {naming : Naming} {type : Bool} {ts us vs : List Symbol} {x : c.Declarator} {i : Option c.Initialiser} {spots middle more : List ℕ}
    → Sees t.Semicolon vs → g.IsDeclarator scope naming ts x us spots middle → IsOptionalInitialiser (after_declarator type x scope) us i vs middle more
    → AreDeclarators scope naming type ts (record { declarator = x; initialiser = i } ∷ []) (drop 1 vs) spots more
last_declarator_rule seen h k = d.last_declarator h k

more_declarators_rule : {scope : Scope} {naming : Naming} {type : Bool} {ts us vs rest : List Symbol} {x : c.Declarator} {i : Option c.Initialiser} {ds : List c.InitDeclarator} {spots first second more : List ℕ}
    → Sees t.Comma vs → g.IsDeclarator scope naming ts x us spots first → IsOptionalInitialiser (after_declarator type x scope) us i vs first second
    → AreDeclarators (after_initialiser i (after_declarator type x scope)) named type (drop 1 vs) ds rest second more
    → AreDeclarators scope naming type ts (record { declarator = x; initialiser = i } ∷ ds) rest spots more
more_declarators_rule seen h k l = d.more_declarators h k l

alone_rule : {scope : Scope} {ts us : List Symbol} {ss : c.Specifiers} {spots more : List ℕ}
    → Sees t.Semicolon us → g.AreSpecifiers scope ts ss us spots more → IsDeclaration scope ts (record { specifiers = ss; declarators = [] }) (drop 1 us) spots more
alone_rule seen h = d.specifiers_alone h

-- ---- a step of each

initialiser_step : (n : ℕ) → InitialisersSound n → InitialiserSound (suc n)
unfolding read.initialiser
initialiser_step n initialisers scope r =
    seeing t.OpenBrace r.0 (λ q. cc)
    (λ s. both (read.initialisers n scope (behind r)) (initialisers scope (behind r)) (λ is h. given (one_node (λ spots more k. braces_rule s k) h)))
    (λ no_brace. both (e.assignment n scope r) ((sound n).assignment scope r) (λ x h. given (one_node (λ spots more k. d.value k) h)))

others_sound : (n : ℕ) → InitialisersSound n → (scope : Scope) (r : Rest)
    → Yields (initialisers_by (read.initialisers n scope) r) (λ x. Spotted (walk_initialisers x.0) x.1.1 r.1 (AreOthers scope r.0 x.0 x.1.0))
others_sound n initialisers scope r =
    seeing t.CloseBrace r.0 (λ q. cc)
    (λ s. given (no_spot (λ more. no_others s)))
    (λ no_brace. weaker (λ x h. by_rule (λ spots more k. others k) h) (initialisers scope r))

initialisers_step : (n : ℕ) → InitialiserSound n → InitialisersSound n → InitialisersSound (suc n)
unfolding read.initialiser
initialisers_step n initialiser initialisers scope r =
    both (read.initialiser n scope r) (initialiser scope r) (λ i h.
    seeing t.Comma i.1.0 (λ q. cc)
    (λ s.
    both (initialisers_by (read.initialisers n scope) (behind i.1)) (others_sound n initialisers scope (behind i.1)) (λ y k.
    given (two (λ spots middle more l m. others_rule l s m) h k)))
    (λ last.
    expecting t.CloseBrace i.1 _ (λ q. cc) (λ s.
    given (by_rule (λ spots more k. last_initialiser_rule s k) h))))

optional_initialiser_step : (n : ℕ) → InitialiserSound n → OptionalInitialiserSound (suc n)
unfolding read.optional_initialiser
optional_initialiser_step n initialiser scope r =
    seeing t.Equal r.0 (λ q. cc)
    (λ s. both (read.initialiser n scope (behind r)) (initialiser scope (behind r)) (λ i h. given (by_rule (λ spots more k. given_rule s k) h)))
    (λ not. given (no_spot (λ more. d.left_out not)))

declarators_step : (n : ℕ) → OptionalInitialiserSound n → DeclaratorsSound n → DeclaratorsSound (suc n)
unfolding read.optional_initialiser
declarators_step n optional declarators scope naming type x from r h =
    both (read.optional_initialiser n (after_declarator type x scope) r) (optional (after_declarator type x scope) r) (λ i k.
    seeing t.Comma i.1.0 (λ q. cc)
    (λ s.
    both (e.declarator n (after_initialiser i.0 (after_declarator type x scope)) named (behind i.1))
    ((sound n).declarator (after_initialiser i.0 (after_declarator type x scope)) named (behind i.1)) (λ y l.
    both (read.declarators n (after_initialiser i.0 (after_declarator type x scope)) type y.0 y.1)
    (declarators (after_initialiser i.0 (after_declarator type x scope)) named type y.0 (behind i.1) y.1 l) (λ z m.
    given (three (λ spots first second more a b f. more_declarators_rule s a b f) h k m))))
    (λ last.
    expecting t.Semicolon i.1 _ (λ q. cc) (λ s.
    given (two (λ spots middle more a b. last_declarator_rule s a b) h k))))

declaration_step : (n : ℕ) → DeclaratorsSound n → DeclarationSound (suc n)
unfolding read.optional_initialiser
declaration_step n declarators scope r =
    both (e.specifiers n scope r) ((sound n).specifiers scope r) (λ s h.
    seeing t.Semicolon s.1.0 (λ q. cc)
    (λ alone. given (by_rule (λ spots more k. alone_rule alone k) h))
    (λ not.
    both (e.declarator n (after_specifiers s.0 scope) (naming_behind s.0) s.1) ((sound n).declarator (after_specifiers s.0 scope) (naming_behind s.0) s.1) (λ x k.
    both (read.declarators n (after_specifiers s.0 scope) (makes_types s.0) x.0 x.1)
    (declarators (after_specifiers s.0 scope) (naming_behind s.0) (makes_types s.0) x.0 s.1 x.1 k) (λ ds l.
    given (two (λ spots middle more a b. d.with_declarators a b) h l)))))

-- ---- all of them

pub initialiser_sound : (n : ℕ) → InitialiserSound n × InitialisersSound n
unfolding read.initialiser
initialiser_sound zero = (λ scope r. nothing, λ scope r. nothing)
initialiser_sound (suc n) = let s = initialiser_sound n in (initialiser_step n s.1, initialisers_step n s.0 s.1)

pub declaration_sound : (n : ℕ) → OptionalInitialiserSound n × DeclaratorsSound n × DeclarationSound n
unfolding read.optional_initialiser
declaration_sound zero = (λ scope r. nothing, λ scope naming type x from r h. nothing, λ scope r. nothing)
declaration_sound (suc n) =
    let s = declaration_sound n in
    (optional_initialiser_step n (initialiser_sound n).0, declarators_step n s.0 s.1, declaration_step n s.1)
