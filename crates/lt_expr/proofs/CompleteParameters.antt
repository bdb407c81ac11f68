-- What is derived of parameters, of the names of types and of the declarators of members is read, rule by rule, C11 6.7.6.3, 6.7.7 and 6.7.2.1.
use Rattle.std.proofs.Common.{◌≡◌, ℕ, suc, ◌*◌, ◌<◌, ◌≤◌, Bool, true, false, List, [], ◌∷◌, length, Option, Some, None, refl, sym, ap, subst, ◌∙◌, arith}
use Rattle.std.proofs.lemmas.Bool.{false_from_ne_true}
use Rattle.lt_tree.specs.declared.terminal.Terminal.{Terminal}
use Rattle.lt_tree.specs.declared.terminal.Terminal.TheVariants as t
use Rattle.lt_tree.specs.Tree as c
use Rattle.lt_tree.specs.Symbols.{Symbol, name, constant, literal, sign}
use Rattle.lt_tree.specs.Scope.{Scope, after_specifiers, after_inside, after_member_declarator, after_parameter}
use Rattle.lt_tree.specs.Ahead.{Naming, named, nameless, either, begins_specifier, is_specifier_word, is_void_alone, same_terminal, sees}
use Rattle.lt_expr.specs.Front.{Rest, goes_on_with_parameter}
use Rattle.lt_expr.specs.Specifier.{one_specifier}
use Rattle.lt_expr.specs.Reading as r
use Rattle.lt_expr.specs.Walk.{Walked, walk_maybe, walk_specifiers, walk_declarator, walk_parameter_list}
use Rattle.lt_expr.proofs.CompleteFronts.{same_is}
use Rattle.lt_expr.proofs.CompleteForms.{Read, once}
use Rattle.lt_expr.proofs.CompleteExpressions.{walk_name}
use Rattle.lt_expr.proofs.CompleteTypes.{Specifiers}
use Rattle.lt_expr.proofs.CompleteStructs.{AfterSign, Declarators}
use Rattle.lt_expr.proofs.CompleteDeclarators.{Declared, Parameters}

abbrev pub ParameterList : Scope → List Symbol → c.ParameterList → List Symbol → List ℕ → List ℕ → List ℕ → Type 0
ParameterList scope ts ps rest spots more ends = goes_on_with_parameter rest ≡ false → Read (λ n. r.parameter_list n scope) walk_parameter_list 4 ts ps rest spots more ends

-- ---- what stands at the front

-- a terminal that is seen stands there
pub seen_front : (k : Terminal) (ts : List Symbol) → same_terminal t.Other k ≡ false → sees k ts ≡ true → (at : ℕ) × (us : List Symbol) × (ts ≡ sign k at ∷ us)
seen_front k [] real e = absurd cc
seen_front k (name w at ∷ ts) real e = absurd cc
seen_front k (constant w at ∷ ts) real e = absurd cc
seen_front k (literal w at ∷ ts) real e = absurd cc
seen_front k (sign j at ∷ ts) real e = (at, ts, ap (λ (x : Terminal). sign x at ∷ ts) (same_is j k e))

-- where a specifier begins, no other terminal stands
pub specifier_front : (k : Terminal) (scope : Scope) (typed : Bool) (ts : List Symbol) → same_terminal t.Other k ≡ false → is_specifier_word k ≡ false → begins_specifier scope typed ts ≡ true → sees k ts ≡ false
specifier_front k scope typed [] real other e = absurd cc
specifier_front k scope typed (name w at ∷ ts) real other e = real
specifier_front k scope typed (constant w at ∷ ts) real other e = real
specifier_front k scope typed (literal w at ∷ ts) real other e = real
specifier_front k scope typed (sign j at ∷ ts) real other e =
    false_from_ne_true (same_terminal j k) (λ same. let word : is_specifier_word k ≡ true = subst (λ (x : Terminal). is_specifier_word x ≡ true) (same_is j k same) e in absurd cc)

real : same_terminal t.Other t.CloseParen ≡ false
unfolding same_terminal
real = refl

-- `void` alone is `void` and a closing parenthesis
void_front : (ts : List Symbol) → is_void_alone ts ≡ true → (a b : ℕ) × (us : List Symbol) × (ts ≡ sign t.Void a ∷ sign t.CloseParen b ∷ us)
void_front [] e = absurd cc
void_front (name w at ∷ ts) e = absurd cc
void_front (constant w at ∷ ts) e = absurd cc
void_front (literal w at ∷ ts) e = absurd cc
void_front (sign t.Void at ∷ ts) e = let f = seen_front t.CloseParen ts real e in (at, f.0, f.1, ap (λ (us : List Symbol). sign t.Void at ∷ us) f.2)
void_front (sign k at ∷ ts) e = absurd cc

-- ---- the names of types

type_name_reads : (n : ℕ) (scope : Scope) (ts us rest : List Symbol) (ss : c.Specifiers) (d : c.Declarator) (ends middle now : List ℕ)
    → r.specifiers n scope (ts, ends) ≡ Some (ss, (us, middle)) → r.declarator n (after_specifiers ss scope) nameless (us, middle) ≡ Some (d, (rest, now))
    → r.type_name (suc n) scope (ts, ends) ≡ Some ((ss, d), (rest, now))
unfolding r.expression
type_name_reads n scope ts us rest ss d ends middle now first second = rw (first, second) refl

pub type_name_complete : (scope : Scope) (ts us rest : List Symbol) (ss : c.Specifiers) (d : c.Declarator) (spots between more ends : List ℕ) → length us < length ts
    → Specifiers scope ts ss us spots between ends
    → ((now : List ℕ) → Declared (after_specifiers ss scope) nameless us d rest between more now)
    → Read (λ n. r.type_name n scope) walk_name 4 ts (ss, d) rest spots more ends
type_name_complete scope ts us rest ss d spots between more ends short x cb =
    let y = cb x.now in
    once y.now (ap (walk_specifiers ss) y.walked ∙ x.walked) (omega arith)
    (λ n big. type_name_reads n scope ts us rest ss d ends x.now y.now (x.reads n (omega arith)) (y.reads n (omega arith)))

-- ---- lists of parameters

list_last : (n : ℕ) (scope : Scope) (ts us rest : List Symbol) (ss : c.Specifiers) (d : c.Declarator) (ends middle now : List ℕ) → goes_on_with_parameter rest ≡ false
    → r.specifiers n scope (ts, ends) ≡ Some (ss, (us, middle)) → r.declarator n (after_specifiers ss scope) either (us, middle) ≡ Some (d, (rest, now))
    → r.parameter_list (suc n) scope (ts, ends) ≡ Some (c.a_parameter ss d c.no_parameters, (rest, now))
unfolding r.expression
list_last n scope ts us rest ss d ends middle now front first second = rw (first, second, front) refl

list_more : (n : ℕ) (scope : Scope) (at : ℕ) (ts us vs rest : List Symbol) (ss : c.Specifiers) (d : c.Declarator) (ps : c.ParameterList) (ends m1 m2 now : List ℕ) → sees t.Ellipsis vs ≡ false
    → r.specifiers n scope (ts, ends) ≡ Some (ss, (us, m1)) → r.declarator n (after_specifiers ss scope) either (us, m1) ≡ Some (d, (sign t.Comma at ∷ vs, m2))
    → r.parameter_list n (after_parameter ss d scope) (vs, m2) ≡ Some (ps, (rest, now))
    → r.parameter_list (suc n) scope (ts, ends) ≡ Some (c.a_parameter ss d ps, (rest, now))
unfolding r.expression same_terminal
list_more n scope at ts us vs rest ss d ps ends m1 m2 now front first second others = rw (first, second, front, others) refl

pub last_parameter_complete : (scope : Scope) (ts us rest : List Symbol) (ss : c.Specifiers) (d : c.Declarator) (spots between more ends : List ℕ) → length us < length ts
    → Specifiers scope ts ss us spots between ends
    → ((now : List ℕ) → Declared (after_specifiers ss scope) either us d rest between more now)
    → ParameterList scope ts (c.a_parameter ss d c.no_parameters) rest spots more ends
last_parameter_complete scope ts us rest ss d spots between more ends short x cb front =
    let y = cb x.now in
    once y.now (ap (walk_specifiers ss) y.walked ∙ x.walked) (omega arith)
    (λ n big. list_last n scope ts us rest ss d ends x.now y.now front (x.reads n (omega arith)) (y.reads n (omega arith)))

pub more_parameters_complete : (scope : Scope) (at : ℕ) (ts us vs rest : List Symbol) (ss : c.Specifiers) (d : c.Declarator) (ps : c.ParameterList) (spots first second more ends : List ℕ)
    → sees t.Ellipsis vs ≡ false → length us < length ts → length vs < length us
    → Specifiers scope ts ss us spots first ends
    → ((now : List ℕ) → Declared (after_specifiers ss scope) either us d (sign t.Comma at ∷ vs) first second now)
    → ((now : List ℕ) → ParameterList (after_parameter ss d scope) vs ps rest second more now)
    → ParameterList scope ts (c.a_parameter ss d ps) rest spots more ends
more_parameters_complete scope at ts us vs rest ss d ps spots first second more ends dots short shorter x cb cl front =
    let y = cb x.now in
    let z = cl y.now front in
    once z.now (ap (λ (v : Walked). walk_specifiers ss (walk_declarator d v)) z.walked ∙ ap (walk_specifiers ss) y.walked ∙ x.walked) (omega arith)
    (λ n big. list_more n scope at ts us vs rest ss d ps ends x.now y.now z.now dots (x.reads n (omega arith)) (y.reads n (omega arith)) (z.reads n (omega arith)))

-- ---- parameters

unstated_reads : (n : ℕ) (scope : Scope) (at : ℕ) (rest : List Symbol) (ends : List ℕ) → r.parameters (suc n) scope (sign t.CloseParen at ∷ rest, ends) ≡ Some (c.Unstated, (rest, ends))
unfolding r.expression same_terminal
unstated_reads n scope at rest ends = refl

void_reads : (n : ℕ) (scope : Scope) (a b : ℕ) (rest : List Symbol) (ends : List ℕ)
    → r.parameters (suc n) scope (sign t.Void a ∷ sign t.CloseParen b ∷ rest, ends) ≡ Some (c.Void, (rest, ends))
unfolding r.expression same_terminal
void_reads n scope a b rest ends = refl

listed_reads : (n : ℕ) (scope : Scope) (at : ℕ) (ts rest : List Symbol) (ps : c.ParameterList) (ends now : List ℕ) → sees t.CloseParen ts ≡ false → is_void_alone ts ≡ false
    → r.parameter_list n scope (ts, ends) ≡ Some (ps, (sign t.CloseParen at ∷ rest, now)) → r.parameters (suc n) scope (ts, ends) ≡ Some (c.Listed ps, (rest, now))
unfolding r.expression same_terminal
listed_reads n scope at ts rest ps ends now front void is = rw (front, void, is) refl

open_reads : (n : ℕ) (scope : Scope) (a b d : ℕ) (ts rest : List Symbol) (ps : c.ParameterList) (ends now : List ℕ) → sees t.CloseParen ts ≡ false → is_void_alone ts ≡ false
    → r.parameter_list n scope (ts, ends) ≡ Some (ps, (sign t.Comma a ∷ sign t.Ellipsis b ∷ sign t.CloseParen d ∷ rest, now))
    → r.parameters (suc n) scope (ts, ends) ≡ Some (c.Open ps, (rest, now))
unfolding r.expression same_terminal
open_reads n scope a b d ts rest ps ends now front void is = rw (front, void, is) refl

-- the list that `void` alone would be ends before the parenthesis
void_list : (n : ℕ) (scope : Scope) (a b : ℕ) (us : List Symbol) (ends : List ℕ)
    → (ps : c.ParameterList) × (r.parameter_list (suc (suc (suc (suc (suc n))))) scope (sign t.Void a ∷ sign t.CloseParen b ∷ us, ends) ≡ Some (ps, (sign t.CloseParen b ∷ us, ends)))
unfolding r.expression same_terminal one_specifier
void_list n scope a b us ends = (_, refl)

unfoldable comma_behind : Option (c.ParameterList × Rest) → Bool
comma_behind None = false
comma_behind (Some x) = sees t.Comma x.1.0

apart : (x : Option (c.ParameterList × Rest)) (p q : c.ParameterList) (a b : ℕ) (vs us : List Symbol) (now ends : List ℕ) → x ≡ Some (p, (sign t.Comma a ∷ vs, now)) → x ≡ Some (q, (sign t.CloseParen b ∷ us, ends)) → ⊥
unfolding same_terminal comma_behind
apart x p q a b vs us now ends e d = let f : true ≡ false = ap comma_behind (sym e ∙ d) in absurd cc

-- so a list with a comma behind it isn't `void` alone
list_not_void : (scope : Scope) (ts vs : List Symbol) (at : ℕ) (ps : c.ParameterList) (spots more ends : List ℕ)
    → Read (λ n. r.parameter_list n scope) walk_parameter_list 4 ts ps (sign t.Comma at ∷ vs) spots more ends → is_void_alone ts ≡ false
list_not_void scope ts vs at ps spots more ends x = false_from_ne_true (is_void_alone ts) (λ e. contradict (void_front ts e))
  where
    contradict : (a b : ℕ) × (us : List Symbol) × (ts ≡ sign t.Void a ∷ sign t.CloseParen b ∷ us) → ⊥
    contradict f =
        let n = 10 * length ts in
        let one = x.reads (suc (suc (suc (suc (suc n))))) (omega arith) in
        let two = void_list n scope f.0 f.1 f.2 ends in
        let three : r.parameter_list (suc (suc (suc (suc (suc n))))) scope (ts, ends) ≡ Some (two.0, (sign t.CloseParen f.1 ∷ f.2, ends)) =
        ap (λ (zs : List Symbol). r.parameter_list (suc (suc (suc (suc (suc n))))) scope (zs, ends)) f.3 ∙ two.1 in
        apart _ ps two.0 at f.1 vs f.2 x.now ends one three

pub unstated_complete : (scope : Scope) (at : ℕ) (rest : List Symbol) (more ends : List ℕ) → Parameters scope (sign t.CloseParen at ∷ rest) c.Unstated rest more more ends
unstated_complete scope at rest more ends = once ends refl (omega arith) (λ n big. unstated_reads n scope at rest ends)

pub void_alone_complete : (scope : Scope) (a b : ℕ) (rest : List Symbol) (more ends : List ℕ) → Parameters scope (sign t.Void a ∷ sign t.CloseParen b ∷ rest) c.Void rest more more ends
void_alone_complete scope a b rest more ends = once ends refl (omega arith) (λ n big. void_reads n scope a b rest ends)

pub listed_complete : (scope : Scope) (at : ℕ) (ts rest : List Symbol) (ps : c.ParameterList) (spots more ends : List ℕ) → sees t.CloseParen ts ≡ false → is_void_alone ts ≡ false
    → ParameterList scope ts ps (sign t.CloseParen at ∷ rest) spots more ends → Parameters scope ts (c.Listed ps) rest spots more ends
unfolding same_terminal
listed_complete scope at ts rest ps spots more ends front void cl =
    let x = cl refl in once x.now x.walked (omega arith) (λ n big. listed_reads n scope at ts rest ps ends x.now front void (x.reads n (omega arith)))

pub open_list_complete : (scope : Scope) (a b d : ℕ) (ts rest : List Symbol) (ps : c.ParameterList) (spots more ends : List ℕ) → sees t.CloseParen ts ≡ false
    → ParameterList scope ts ps (sign t.Comma a ∷ sign t.Ellipsis b ∷ sign t.CloseParen d ∷ rest) spots more ends → Parameters scope ts (c.Open ps) rest spots more ends
unfolding same_terminal
open_list_complete scope a b d ts rest ps spots more ends front cl =
    let x = cl refl in
    let void = list_not_void scope ts (sign t.Ellipsis b ∷ sign t.CloseParen d ∷ rest) a ps spots more ends x in
    once x.now x.walked (omega arith) (λ n big. open_reads n scope a b d ts rest ps ends x.now front void (x.reads n (omega arith)))

-- ---- the declarators of members

declarators_last : (n : ℕ) (scope : Scope) (naming : Naming) (at : ℕ) (ts us rest : List Symbol) (d : c.Declarator) (width : c.Maybe) (ends middle now : List ℕ)
    → r.declarator n scope naming (ts, ends) ≡ Some (d, (us, middle)) → r.after_sign n (after_inside d scope) t.Colon (us, middle) ≡ Some (width, (sign t.Semicolon at ∷ rest, now))
    → r.member_declarators (suc n) scope naming (ts, ends) ≡ Some (c.a_declarator d width c.no_declarators, (rest, now))
unfolding r.expression same_terminal
declarators_last n scope naming at ts us rest d width ends middle now first second = rw (first, second) refl

declarators_more : (n : ℕ) (scope : Scope) (naming : Naming) (at : ℕ) (ts us vs rest : List Symbol) (d : c.Declarator) (width : c.Maybe) (ds : c.MemberDeclarators) (ends m1 m2 now : List ℕ)
    → r.declarator n scope naming (ts, ends) ≡ Some (d, (us, m1)) → r.after_sign n (after_inside d scope) t.Colon (us, m1) ≡ Some (width, (sign t.Comma at ∷ vs, m2))
    → r.member_declarators n (after_member_declarator d width scope) named (vs, m2) ≡ Some (ds, (rest, now))
    → r.member_declarators (suc n) scope naming (ts, ends) ≡ Some (c.a_declarator d width ds, (rest, now))
unfolding r.expression same_terminal
declarators_more n scope naming at ts us vs rest d width ds ends m1 m2 now first second others = rw (first, second, others) refl

pub last_declarator_complete : (scope : Scope) (naming : Naming) (at : ℕ) (ts us rest : List Symbol) (d : c.Declarator) (width : c.Maybe) (spots between more ends : List ℕ)
    → sees t.Semicolon ts ≡ false → length us ≤ length ts
    → Declared scope naming ts d us spots between ends
    → ((now : List ℕ) → AfterSign (after_inside d scope) t.Colon us width (sign t.Semicolon at ∷ rest) between more now)
    → Declarators scope naming ts (c.a_declarator d width c.no_declarators) rest spots more ends
last_declarator_complete scope naming at ts us rest d width spots between more ends front short x cb =
    let y = cb x.now (omega arith) in (
      front,
      once y.now (ap (walk_declarator d) y.walked ∙ x.walked) (omega arith)
          (λ n big. declarators_last n scope naming at ts us rest d width ends x.now y.now (x.reads n (omega arith)) (y.reads n (omega arith))),
    )

pub more_declarators_complete : (scope : Scope) (naming : Naming) (at : ℕ) (ts us vs rest : List Symbol) (d e : c.Declarator) (width wide : c.Maybe) (ds : c.MemberDeclarators) (spots first second more ends : List ℕ)
    → sees t.Semicolon ts ≡ false → length us ≤ length ts → length vs < length us
    → Declared scope naming ts d us spots first ends
    → ((now : List ℕ) → AfterSign (after_inside d scope) t.Colon us width (sign t.Comma at ∷ vs) first second now)
    → ((now : List ℕ) → Declarators (after_member_declarator d width scope) named vs (c.a_declarator e wide ds) rest second more now)
    → Declarators scope naming ts (c.a_declarator d width (c.a_declarator e wide ds)) rest spots more ends
more_declarators_complete scope naming at ts us vs rest d e width wide ds spots first second more ends front short shorter x cb cd =
    let y = cb x.now (omega arith) in
    let z = (cd y.now).1 in (
      front,
      once z.now (ap (λ (v : Walked). walk_declarator d (walk_maybe width v)) z.walked ∙ ap (walk_declarator d) y.walked ∙ x.walked) (omega arith)
          (λ n big. declarators_more n scope naming at ts us vs rest d width (c.a_declarator e wide ds) ends x.now y.now z.now (x.reads n (omega arith)) (y.reads n (omega arith)) (z.reads n (omega arith))),
    )
