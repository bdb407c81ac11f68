-- What is derived of initialisers and declarations is read, C11 6.7.9 and 6.7.
use Rattle.std.proofs.Common.{◌≡◌, ℕ, suc, ◌≤◌, Bool, false, List, [], ◌∷◌, length, Option, Some, None, refl, ap, ◌∙◌, arith}
use Rattle.lt_tree.specs.declared.terminal.Terminal.TheVariants as t
use Rattle.lt_tree.specs.Tree as c
use Rattle.lt_tree.specs.Symbols.{Symbol, sign, start_of}
use Rattle.lt_tree.specs.Scope.{Scope, after_specifiers, after_declarator, after_initialiser, makes_types}
use Rattle.lt_tree.specs.Ahead.{Naming, named, naming_behind, same_terminal, sees, takes_none}
use Rattle.lt_tree.specs.Grammar as g
use Rattle.lt_tree.specs.Declarations as dc
use Rattle.lt_tree.specs.Declarations.{IsInitialiser, AreInitialisers, IsOptionalInitialiser, AreDeclarators, IsDeclaration}
use Rattle.lt_expr.specs.Reading as ex
use Rattle.lt_expr.specs.Walk.{Walked, walk, walk_specifiers, walk_declarator}
use Rattle.lt_expr.proofs.CompleteFronts.{follows}
use Rattle.lt_expr.proofs.CompleteStarts.{specifiers_shorter, declarator_short}
use Rattle.lt_expr.proofs.CompleteForms.{Read, once, node_of}
use Rattle.lt_expr.proofs.Complete.{complete, complete_specifiers, complete_declarator, named_declarator, behind_takes_a_name}
use Rattle.lt_decl.specs.Reading as read
use Rattle.lt_decl.specs.Walk.{walk_initialiser, walk_initialisers, walk_optional_initialiser, walk_declarators, walk_declaration}
use Rattle.lt_decl.proofs.CompleteStarts.{expression_opens, unseen, initialiser_shorter, optional_initialiser_short}

-- ---- initialisers

abbrev pub Initialiser : Scope → List Symbol → c.Initialiser → List Symbol → List ℕ → List ℕ → List ℕ → Type 0
Initialiser scope ts i rest spots more ends = Read (λ n. read.initialiser n scope) walk_initialiser 5 ts i rest spots more ends

abbrev pub Initialisers : Scope → List Symbol → c.Initialisers → List Symbol → List ℕ → List ℕ → List ℕ → Type 0
Initialisers scope ts is rest spots more ends = Read (λ n. read.initialisers n scope) walk_initialisers 6 ts is rest spots more ends

value_read : (n : ℕ) (scope : Scope) (ts rest : List Symbol) (e : c.Expression) (ends now : List ℕ) → sees t.OpenBrace ts ≡ false
    → ex.assignment n scope (ts, ends) ≡ Some (e, (rest, now)) → read.initialiser (suc n) scope (ts, ends) ≡ Some (c.Value e, (rest, start_of ts ∷ now))
unfolding read.initialiser
value_read n scope ts rest e ends now front is = rw (front, is) refl

braces_read : (n : ℕ) (scope : Scope) (at : ℕ) (ts rest : List Symbol) (is : c.Initialisers) (ends now : List ℕ)
    → read.initialisers n scope (ts, ends) ≡ Some (is, (rest, now)) → read.initialiser (suc n) scope (sign t.OpenBrace at ∷ ts, ends) ≡ Some (c.Braces is, (rest, at ∷ now))
unfolding read.initialiser same_terminal
braces_read n scope at ts rest is ends now inner = rw inner refl

last_read : (n : ℕ) (scope : Scope) (a : ℕ) (ts rest : List Symbol) (i : c.Initialiser) (ends now : List ℕ)
    → read.initialiser n scope (ts, ends) ≡ Some (i, (sign t.CloseBrace a ∷ rest, now))
    → read.initialisers (suc n) scope (ts, ends) ≡ Some (c.an_initialiser i c.no_initialisers, (rest, now))
unfolding read.initialiser same_terminal
last_read n scope a ts rest i ends now is = rw is refl

comma_read : (n : ℕ) (scope : Scope) (a b : ℕ) (ts rest : List Symbol) (i : c.Initialiser) (ends now : List ℕ)
    → read.initialiser n scope (ts, ends) ≡ Some (i, (sign t.Comma a ∷ sign t.CloseBrace b ∷ rest, now))
    → read.initialisers (suc n) scope (ts, ends) ≡ Some (c.an_initialiser i c.no_initialisers, (rest, now))
unfolding read.initialiser same_terminal
comma_read n scope a b ts rest i ends now is = rw is refl

more_read : (n : ℕ) (scope : Scope) (a : ℕ) (ts us rest : List Symbol) (i : c.Initialiser) (is : c.Initialisers) (ends middle now : List ℕ) → sees t.CloseBrace us ≡ false
    → read.initialiser n scope (ts, ends) ≡ Some (i, (sign t.Comma a ∷ us, middle)) → read.initialisers n scope (us, middle) ≡ Some (is, (rest, now))
    → read.initialisers (suc n) scope (ts, ends) ≡ Some (c.an_initialiser i is, (rest, now))
unfolding read.initialiser same_terminal
more_read n scope a ts us rest i is ends middle now front first others = rw (first, front, others) refl

value_front : {scope : Scope} {ts rest : List Symbol} {e : c.Expression} {spots more : List ℕ} → g.IsExpression scope g.assignment ts e rest spots more
    → (sees t.OpenBrace ts ≡ false) × (sees t.CloseBrace ts ≡ false)
unfolding same_terminal
value_front {scope} {ts} x = (unseen t.OpenBrace ts refl refl (expression_opens x), unseen t.CloseBrace ts refl refl (expression_opens x))

initialiser_front : {scope : Scope} {ts rest : List Symbol} {i : c.Initialiser} {spots more : List ℕ} → IsInitialiser scope ts i rest spots more → sees t.CloseBrace ts ≡ false
unfolding same_terminal
initialiser_front (dc.value x) = (value_front x).1
initialiser_front (dc.braces x) = refl

initialisers_front : {scope : Scope} {ts rest : List Symbol} {is : c.Initialisers} {spots more : List ℕ} → AreInitialisers scope ts is rest spots more → sees t.CloseBrace ts ≡ false
initialisers_front (dc.last_initialiser x) = initialiser_front x
initialisers_front (dc.last_initialiser_and_comma x) = initialiser_front x
initialisers_front (dc.more_initialisers x z) = initialiser_front x

value_complete : (scope : Scope) (ts rest : List Symbol) (e : c.Expression) (spots more ends : List ℕ) → sees t.OpenBrace ts ≡ false
    → Read (λ n. ex.assignment n scope) walk 4 ts e rest spots more ends → Initialiser scope ts (c.Value e) rest (start_of ts ∷ spots) more ends
value_complete scope ts rest e spots more ends front x =
    once (start_of ts ∷ x.now) (node_of (walk e) (start_of ts) x.now more ends spots x.walked) (omega arith) (λ n big. value_read n scope ts rest e ends x.now front (x.reads n (omega arith)))

braces_complete : (scope : Scope) (at : ℕ) (ts rest : List Symbol) (is : c.Initialisers) (spots more ends : List ℕ)
    → Initialisers scope ts is rest spots more ends → Initialiser scope (sign t.OpenBrace at ∷ ts) (c.Braces is) rest (at ∷ spots) more ends
braces_complete scope at ts rest is spots more ends x =
    once (at ∷ x.now) (node_of (walk_initialisers is) at x.now more ends spots x.walked) (omega arith) (λ n big. braces_read n scope at ts rest is ends x.now (x.reads n (omega arith)))

last_complete : (scope : Scope) (a : ℕ) (ts rest : List Symbol) (i : c.Initialiser) (spots more ends : List ℕ)
    → Initialiser scope ts i (sign t.CloseBrace a ∷ rest) spots more ends → Initialisers scope ts (c.an_initialiser i c.no_initialisers) rest spots more ends
last_complete scope a ts rest i spots more ends x = once x.now x.walked (omega arith) (λ n big. last_read n scope a ts rest i ends x.now (x.reads n (omega arith)))

comma_complete : (scope : Scope) (a b : ℕ) (ts rest : List Symbol) (i : c.Initialiser) (spots more ends : List ℕ)
    → Initialiser scope ts i (sign t.Comma a ∷ sign t.CloseBrace b ∷ rest) spots more ends → Initialisers scope ts (c.an_initialiser i c.no_initialisers) rest spots more ends
comma_complete scope a b ts rest i spots more ends x = once x.now x.walked (omega arith) (λ n big. comma_read n scope a b ts rest i ends x.now (x.reads n (omega arith)))

more_complete : (scope : Scope) (a : ℕ) (ts us rest : List Symbol) (i : c.Initialiser) (is : c.Initialisers) (spots between more ends : List ℕ) → sees t.CloseBrace us ≡ false → suc (length us) ≤ length ts
    → Initialiser scope ts i (sign t.Comma a ∷ us) spots between ends
    → ((now : List ℕ) → Initialisers scope us is rest between more now)
    → Initialisers scope ts (c.an_initialiser i is) rest spots more ends
more_complete scope a ts us rest i is spots between more ends front short x cb =
    let y = cb x.now in
    once y.now (ap (walk_initialiser i) y.walked ∙ x.walked) (omega arith)
    (λ n big. more_read n scope a ts us rest i is ends x.now y.now front (x.reads n (omega arith)) (y.reads n (omega arith)))

mutual
  pub complete_initialiser : {scope : Scope} {ts rest : List Symbol} {i : c.Initialiser} {spots more : List ℕ} → IsInitialiser scope ts i rest spots more → follows rest ≤ 1
      → (ends : List ℕ) → Initialiser scope ts i rest spots more ends
  complete_initialiser (dc.value x) quiet ends = value_complete _ _ _ _ _ _ ends (value_front x).0 (complete x ends quiet)
  complete_initialiser (dc.braces x) quiet ends = braces_complete _ _ _ _ _ _ _ ends (complete_initialisers x ends)

  complete_initialisers : {scope : Scope} {ts rest : List Symbol} {is : c.Initialisers} {spots more : List ℕ} → AreInitialisers scope ts is rest spots more
      → (ends : List ℕ) → Initialisers scope ts is rest spots more ends
  complete_initialisers (dc.last_initialiser x) ends = last_complete _ _ _ _ _ _ _ ends (complete_initialiser x (omega arith) ends)
  complete_initialisers (dc.last_initialiser_and_comma x) ends = comma_complete _ _ _ _ _ _ _ _ ends (complete_initialiser x (omega arith) ends)
  complete_initialisers (dc.more_initialisers x z) ends =
      more_complete _ _ _ _ _ _ _ _ _ _ ends (initialisers_front z) (omega (arith, initialiser_shorter x)) (complete_initialiser x (omega arith) ends) (complete_initialisers z)

-- ---- ('=' init)?

abbrev pub OptionalInitialiser : Scope → List Symbol → Option c.Initialiser → List Symbol → List ℕ → List ℕ → List ℕ → Type 0
OptionalInitialiser scope ts i rest spots more ends = Read (λ n. read.optional_initialiser n scope) walk_optional_initialiser 1 ts i rest spots more ends

no_initialiser_read : (n : ℕ) (scope : Scope) (ts : List Symbol) (ends : List ℕ) → sees t.Equal ts ≡ false → read.optional_initialiser (suc n) scope (ts, ends) ≡ Some (None, (ts, ends))
unfolding read.optional_initialiser
no_initialiser_read n scope ts ends front = rw front refl

initialiser_read : (n : ℕ) (scope : Scope) (at : ℕ) (ts rest : List Symbol) (i : c.Initialiser) (ends now : List ℕ)
    → read.initialiser n scope (ts, ends) ≡ Some (i, (rest, now)) → read.optional_initialiser (suc n) scope (sign t.Equal at ∷ ts, ends) ≡ Some (Some i, (rest, now))
unfolding read.optional_initialiser same_terminal
initialiser_read n scope at ts rest i ends now is = rw is refl

complete_optional : {scope : Scope} {ts rest : List Symbol} {i : Option c.Initialiser} {spots more : List ℕ} → IsOptionalInitialiser scope ts i rest spots more → follows rest ≤ 1
    → (ends : List ℕ) → OptionalInitialiser scope ts i rest spots more ends
complete_optional {scope} {ts} (dc.left_out front) quiet ends = once ends refl (omega arith) (λ n big. no_initialiser_read n scope ts ends front)
complete_optional {scope} {rest = rest} (dc.given {at = at} {ts = ts} {i = i} x) quiet ends =
    let d = complete_initialiser x quiet ends in once d.now d.walked (omega arith) (λ n big. initialiser_read n scope at ts rest i ends d.now (d.reads n (omega arith)))

optional_front : {scope : Scope} {ts rest : List Symbol} {i : Option c.Initialiser} {spots more : List ℕ} → IsOptionalInitialiser scope ts i rest spots more
    → sees t.OpenBrace rest ≡ false → sees t.OpenBrace ts ≡ false
unfolding same_terminal
optional_front (dc.left_out front) e = e
optional_front (dc.given x) e = refl

-- ---- declarators

-- a walk behind the first declarator
abbrev pub walk_behind : List c.InitDeclarator → Walked → Walked
walk_behind [] w = w
walk_behind (d ∷ ds) w = walk_optional_initialiser d.initialiser (walk_declarators ds w)

-- What is read of declarators: the first one, and then what is behind it.
pub record Declarators (scope : Scope) (naming : Naming) (type : Bool) (ts : List Symbol) (ds : List c.InitDeclarator) (rest : List Symbol) (spots more ends : List ℕ) : Type 0 where
  pub first : c.Declarator
  pub after : List Symbol
  pub between : List ℕ
  pub first_read : Read (λ n. ex.declarator n scope naming) walk_declarator 5 ts first after spots between ends
  pub short : length after ≤ length ts
  pub no_semicolon : takes_none naming ≡ false → sees t.Semicolon ts ≡ false
  pub no_brace : sees t.OpenBrace after ≡ false
  pub behind_read : Read (λ n. read.declarators n scope type first) walk_behind 2 after ds rest between more first_read.now
  pub whole : (w : Walked) → walk_declarators ds w ≡ walk_declarator first (walk_behind ds w)

last_behind_read : (n : ℕ) (scope : Scope) (type : Bool) (at : ℕ) (us rest : List Symbol) (d : c.Declarator) (i : Option c.Initialiser) (ends now : List ℕ)
    → read.optional_initialiser n (after_declarator type d scope) (us, ends) ≡ Some (i, (sign t.Semicolon at ∷ rest, now))
    → read.declarators (suc n) scope type d (us, ends) ≡ Some (record { declarator = d; initialiser = i } ∷ [], (rest, now))
unfolding read.optional_initialiser same_terminal
last_behind_read n scope type at us rest d i ends now is = rw is refl

more_behind_read : (n : ℕ) (scope : Scope) (type : Bool) (at : ℕ) (us vs ws rest : List Symbol) (d f : c.Declarator) (i : Option c.Initialiser) (ds : List c.InitDeclarator) (ends m1 m2 now : List ℕ)
    → read.optional_initialiser n (after_declarator type d scope) (us, ends) ≡ Some (i, (sign t.Comma at ∷ vs, m1))
    → ex.declarator n (after_initialiser i (after_declarator type d scope)) named (vs, m1) ≡ Some (f, (ws, m2))
    → read.declarators n (after_initialiser i (after_declarator type d scope)) type f (ws, m2) ≡ Some (ds, (rest, now))
    → read.declarators (suc n) scope type d (us, ends) ≡ Some (record { declarator = d; initialiser = i } ∷ ds, (rest, now))
unfolding read.optional_initialiser same_terminal
more_behind_read n scope type at us vs ws rest d f i ds ends m1 m2 now first second others = rw (first, second, others) refl

last_declarator_complete : (scope : Scope) (naming : Naming) (type : Bool) (at : ℕ) (ts us rest : List Symbol) (d : c.Declarator) (i : Option c.Initialiser) (spots between more ends : List ℕ)
    → length us ≤ length ts → (takes_none naming ≡ false → sees t.Semicolon ts ≡ false) → sees t.OpenBrace us ≡ false
    → Read (λ n. ex.declarator n scope naming) walk_declarator 5 ts d us spots between ends
    → ((now : List ℕ) → OptionalInitialiser (after_declarator type d scope) us i (sign t.Semicolon at ∷ rest) between more now)
    → Declarators scope naming type ts (record { declarator = d; initialiser = i } ∷ []) rest spots more ends
last_declarator_complete scope naming type at ts us rest d i spots between more ends short no_semicolon no_brace x cb =
    let y = cb x.now in
    record {
      first = d;
      after = us;
      between = between;
      first_read = x;
      short = short;
      no_semicolon = no_semicolon;
      no_brace = no_brace;
      behind_read = once y.now y.walked (omega arith) (λ n big. last_behind_read n scope type at us rest d i x.now y.now (y.reads n (omega arith)));
      whole = λ w. refl;
    }

more_declarators_complete : (scope : Scope) (naming : Naming) (type : Bool) (at : ℕ) (ts us vs rest : List Symbol) (d : c.Declarator) (i : Option c.Initialiser) (ds : List c.InitDeclarator) (spots one two more ends : List ℕ)
    → length us ≤ length ts → suc (length vs) ≤ length us → (takes_none naming ≡ false → sees t.Semicolon ts ≡ false) → sees t.OpenBrace us ≡ false
    → Read (λ n. ex.declarator n scope naming) walk_declarator 5 ts d us spots one ends
    → ((now : List ℕ) → OptionalInitialiser (after_declarator type d scope) us i (sign t.Comma at ∷ vs) one two now)
    → ((now : List ℕ) → Declarators (after_initialiser i (after_declarator type d scope)) named type vs ds rest two more now)
    → Declarators scope naming type ts (record { declarator = d; initialiser = i } ∷ ds) rest spots more ends
more_declarators_complete scope naming type at ts us vs rest d i ds spots one two more ends short shorter no_semicolon no_brace x cb cd =
    let y = cb x.now in
    let z = cd y.now in
    let small = z.short in
    record {
      first = d;
      after = us;
      between = one;
      first_read = x;
      short = short;
      no_semicolon = no_semicolon;
      no_brace = no_brace;
      behind_read =
          once z.behind_read.now
          (ap (walk_optional_initialiser i) (z.whole (z.behind_read.now, more) ∙ ap (walk_declarator z.first) z.behind_read.walked ∙ z.first_read.walked) ∙ y.walked) (omega arith)
          (λ n big. more_behind_read n scope type at us vs z.after rest d z.first i ds x.now y.now z.first_read.now z.behind_read.now
          (y.reads n (omega arith)) (z.first_read.reads n (omega arith)) (z.behind_read.reads n (omega arith)));
      whole = λ w. refl;
    }

semicolon_no_brace : (at : ℕ) (ts : List Symbol) → sees t.OpenBrace (sign t.Semicolon at ∷ ts) ≡ false
unfolding same_terminal
semicolon_no_brace at ts = refl

comma_no_brace : (at : ℕ) (ts : List Symbol) → sees t.OpenBrace (sign t.Comma at ∷ ts) ≡ false
unfolding same_terminal
comma_no_brace at ts = refl

pub complete_declarators : {scope : Scope} {naming : Naming} {type : Bool} {ts rest : List Symbol} {ds : List c.InitDeclarator} {spots more : List ℕ}
    → AreDeclarators scope naming type ts ds rest spots more → (ends : List ℕ) → Declarators scope naming type ts ds rest spots more ends
complete_declarators (dc.last_declarator {at = at} {rest = rest} x z) ends =
    last_declarator_complete _ _ _ _ _ _ _ _ _ _ _ _ ends (declarator_short x) (λ takes. named_declarator takes x) (optional_front z (semicolon_no_brace at rest))
    (complete_declarator x ends) (complete_optional z (omega arith))
complete_declarators (dc.more_declarators {at = at} {vs = vs} x z w) ends =
    more_declarators_complete _ _ _ _ _ _ _ _ _ _ _ _ _ _ _ ends (declarator_short x) (omega (arith, optional_initialiser_short z)) (λ takes. named_declarator takes x)
    (optional_front z (comma_no_brace at vs)) (complete_declarator x ends) (complete_optional z (omega arith)) (complete_declarators w)

-- ---- declarations

abbrev pub Declaration : Scope → List Symbol → c.Declaration → List Symbol → List ℕ → List ℕ → List ℕ → Type 0
Declaration scope ts d rest spots more ends = Read (λ n. read.declaration n scope) walk_declaration 4 ts d rest spots more ends

alone_read : (n : ℕ) (scope : Scope) (at : ℕ) (ts rest : List Symbol) (ss : c.Specifiers) (ends now : List ℕ)
    → ex.specifiers n scope (ts, ends) ≡ Some (ss, (sign t.Semicolon at ∷ rest, now))
    → read.declaration (suc n) scope (ts, ends) ≡ Some (record { specifiers = ss; declarators = [] }, (rest, now))
unfolding read.optional_initialiser same_terminal
alone_read n scope at ts rest ss ends now is = rw is refl

declares_read : (n : ℕ) (scope : Scope) (ts us vs rest : List Symbol) (ss : c.Specifiers) (d : c.Declarator) (ds : List c.InitDeclarator) (ends m1 m2 now : List ℕ) → sees t.Semicolon us ≡ false
    → ex.specifiers n scope (ts, ends) ≡ Some (ss, (us, m1))
    → ex.declarator n (after_specifiers ss scope) (naming_behind ss) (us, m1) ≡ Some (d, (vs, m2))
    → read.declarators n (after_specifiers ss scope) (makes_types ss) d (vs, m2) ≡ Some (ds, (rest, now))
    → read.declaration (suc n) scope (ts, ends) ≡ Some (record { specifiers = ss; declarators = ds }, (rest, now))
unfolding read.optional_initialiser
declares_read n scope ts us vs rest ss d ds ends m1 m2 now front first second others = rw (first, front, second, others) refl

pub walk_whole : {scope : Scope} {naming : Naming} {type : Bool} {ts rest : List Symbol} {ds : List c.InitDeclarator} {spots more ends : List ℕ}
    (x : Declarators scope naming type ts ds rest spots more ends) → walk_declarators ds (x.behind_read.now, more) ≡ (ends, spots)
walk_whole {more = more} x = x.whole (x.behind_read.now, more) ∙ ap (walk_declarator x.first) x.behind_read.walked ∙ x.first_read.walked

declares_complete : (scope : Scope) (ts us rest : List Symbol) (ss : c.Specifiers) (ds : List c.InitDeclarator) (spots between more ends : List ℕ) → suc (length us) ≤ length ts
    → Read (λ n. ex.specifiers n scope) walk_specifiers 3 ts ss us spots between ends
    → ((now : List ℕ) → Declarators (after_specifiers ss scope) (naming_behind ss) (makes_types ss) us ds rest between more now)
    → Declaration scope ts (record { specifiers = ss; declarators = ds }) rest spots more ends
declares_complete scope ts us rest ss ds spots between more ends short x cb =
    let y = cb x.now in
    let small = y.short in
    once y.behind_read.now (ap (walk_specifiers ss) (walk_whole y) ∙ x.walked) (omega arith)
    (λ n big. declares_read n scope ts us y.after rest ss y.first ds ends x.now y.first_read.now y.behind_read.now (y.no_semicolon (behind_takes_a_name ss))
    (x.reads n (omega arith)) (y.first_read.reads n (omega arith)) (y.behind_read.reads n (omega arith)))

pub complete_declaration : {scope : Scope} {ts rest : List Symbol} {d : c.Declaration} {spots more : List ℕ} → IsDeclaration scope ts d rest spots more
    → (ends : List ℕ) → Declaration scope ts d rest spots more ends
complete_declaration {scope} {ts} {rest} (dc.specifiers_alone {at = at} {ss = ss} x) ends =
    let d = complete_specifiers x ends in once d.now d.walked (omega arith) (λ n big. alone_read n scope at ts rest ss ends d.now (d.reads n (omega arith)))
complete_declaration (dc.with_declarators x z) ends = declares_complete _ _ _ _ _ _ _ _ _ ends (specifiers_shorter x) (complete_specifiers x ends) (complete_declarators z)
