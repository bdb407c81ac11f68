-- Names that lists of parts declare, one part after the other.
use Rattle.std.proofs.Common.{◌≡◌, ℕ, suc, ◌+◌, ◌<◌, List, ◌∷◌, length, drop, get_or, drop-cons, sym, ◌⊎◌, inl, inr, ap, subst, ◌∙◌, Result, Ok, Err, IfOk, arith}
use Rattle.std.specs.Global.{Vec}
use Rattle.lt_tree.specs.declared.declaration.Initialiser.{Initialiser}
use Rattle.lt_tree.specs.declared.declaration.Initialiser.TheVariants as form
use Rattle.lt_tree.specs.declared.declarator.Parameter.{Parameter}
use Rattle.lt_tree.specs.declared.declarator.Parameters.{Parameters}
use Rattle.lt_tree.specs.declared.declarator.Parameters.TheVariants as listing
use Rattle.lt_tree.specs.View.{parameters_of}
use Rattle.lt_tree.specs.Records.{specifiers_of, declarator_of, parameter_list_in}
use Rattle.lt_tree.specs.UnitView.{initialiser_of, initialisers_in}
use Rattle.lt_tree.specs.Scope.{Scope, hiding, enumerators_in_initialiser, enumerators_in_initialisers, after_parameter, after_list, after_parameters}
use Rattle.lt_tree.proofs.Rows.{listed_is, open_is}
use Rattle.lt_tree.proofs.UnitRows.{braces_is}
use Rattle.lt_expr.specs.Parsing.{Parsing, Hides}
use Rattle.lt_expr.proofs.Hiding.{hiding_both}

pub split : {X : Type 0} (list : List X) (i : ℕ) (x : X) → i < length list → x ≡ get_or list i x → drop i list ≡ x ∷ drop (i + 1) list
split list i x within is =
    let more : suc i ≡ i + 1 = omega arith in
    drop-cons list i x within ∙ ap (λ y. y ∷ drop (suc i) list) (sym is) ∙ ap (λ k. x ∷ drop k list) more

pub initialisers_left : (list : List Initialiser) (i : ℕ) (x : Initialiser) (a b all : Scope) → i < length list → x ≡ get_or list i x → b ≡ hiding (enumerators_in_initialiser (initialiser_of x)) a
    → hiding (enumerators_in_initialisers (initialisers_in (drop i list))) a ≡ all → hiding (enumerators_in_initialisers (initialisers_in (drop (i + 1) list))) b ≡ all
initialisers_left list i x a b all within is one before =
    let rest = enumerators_in_initialisers (initialisers_in (drop (i + 1) list)) in
    ap (hiding rest) one
    ∙ sym (hiding_both (enumerators_in_initialiser (initialiser_of x)) rest a)
    ∙ ap (λ xs. hiding (enumerators_in_initialisers (initialisers_in xs)) a) (sym (split list i x within is))
    ∙ before

pub parameters_left : (list : List Parameter) (i : ℕ) (x : Parameter) (a b all : Scope) → i < length list → x ≡ get_or list i x → b ≡ after_parameter (specifiers_of x.specifiers) (declarator_of x.declarator) a
    → after_list (parameter_list_in (drop i list)) a ≡ all → after_list (parameter_list_in (drop (i + 1) list)) b ≡ all
parameters_left list i x a b all within is one before =
    ap (after_list (parameter_list_in (drop (i + 1) list))) one
    ∙ ap (λ xs. after_list (parameter_list_in xs) a) (sym (split list i x within is))
    ∙ before

-- the answer of a call that declares the same names
pub hides_same : {X E : Type 0} (r : Result X E) (a b : Parsing) (names other : Scope) → names ≡ other → IfOk r (λ _. Hides a b names) → IfOk r (λ _. Hides a b other)
hides_same (Ok x) a b names other e h = subst (Hides a b) e h
hides_same (Err x) a b names other e h = h

pub braces_hidden : (i : Initialiser) (v : Vec Initialiser) (list : List Initialiser) (scope : Scope) → i ≡ form.List v → list ≡ v.items
    → hiding (enumerators_in_initialisers (initialisers_in list)) scope ≡ hiding (enumerators_in_initialiser (initialiser_of i)) scope
braces_hidden i v list scope is items =
    ap (λ xs. hiding (enumerators_in_initialisers (initialisers_in xs)) scope) items
    ∙ ap (λ x. hiding (enumerators_in_initialiser x) scope) (sym (braces_is v))
    ∙ ap (λ x. hiding (enumerators_in_initialiser (initialiser_of x)) scope) (sym is)

pub parameters_declared : (p : Parameters) (v : Vec Parameter) (list : List Parameter) (scope : Scope) → (p ≡ listing.Listed v) ⊎ (p ≡ listing.Open v) → list ≡ v.items
    → after_list (parameter_list_in list) scope ≡ after_parameters (parameters_of p) scope
parameters_declared p v list scope (inl is) items =
    ap (λ xs. after_list (parameter_list_in xs) scope) items ∙ ap (λ x. after_parameters x scope) (sym (listed_is v)) ∙ ap (λ x. after_parameters (parameters_of x) scope) (sym is)
parameters_declared p v list scope (inr is) items =
    ap (λ xs. after_list (parameter_list_in xs) scope) items ∙ ap (λ x. after_parameters x scope) (sym (open_is v)) ∙ ap (λ x. after_parameters (parameters_of x) scope) (sym is)
