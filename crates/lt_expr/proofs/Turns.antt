-- One turn of a loop that reads a list is one step of the reading.
use Rattle.std.proofs.Common.{◌≡◌, ℕ, zero, suc, ◌+◌, ◌-◌, ◌≤◌, Bool, true, false, cond, List, [], ◌∷◌, ◌++◌, length, drop, Option, Some, None, refl, sym, ap, ◌∙◌, arith}
use Rattle.lt_tree.specs.declared.declarator.DeclaratorPart.{DeclaratorPart}
use Rattle.lt_tree.specs.declared.declarator.Parameter.{Parameter}
use Rattle.lt_tree.specs.Tree as c
use Rattle.lt_tree.specs.Records.{parts_in, parameter_list_in, specifiers_of, declarator_of}
use Rattle.lt_tree.specs.declared.terminal.Terminal.TheVariants as t
use Rattle.lt_tree.specs.Symbols.{Symbol}
use Rattle.lt_tree.specs.Ahead.{Naming, either, behind_star, sees, begins_suffix}
use Rattle.lt_tree.specs.Scope.{Scope, after_parts, after_specifiers, after_inside, after_name, after_parameter}
use Rattle.lt_expr.specs.Front.{Rest, ◌>>=◌, behind, expect, qualifiers, begins_nested, goes_on_with_parameter}
use Rattle.lt_expr.specs.Fronts.{after, parameters_before}
use Rattle.lt_expr.specs.Reading as reading
use Rattle.lt_tree.specs.Grammar.{joined}
use Rattle.lt_expr.specs.Namings.{part_alone}
use Rattle.lt_expr.specs.Parsing.{Parsing, rest_of, scope_of, GoesOn, Below, Hides, Declares}
use Rattle.lt_expr.proofs.Joins.{parts_push, more_parts, all_parts, more_parameters, last_parameters}
use Rattle.lt_expr.proofs.HiddenNames.{joined_hidden}
use Rattle.lt_expr.proofs.Scopes.{same_scope, on_through, below_same, below_through}

-- ---- suffixes of declarators

suffixes_more : (n : ℕ) (scope : Scope) (r rest : Rest) (x : c.Parts) → begins_suffix r.0 ≡ true → reading.suffix n scope r ≡ Some (x, rest)
    → reading.suffixes (suc n) scope r ≡ (reading.suffixes n (after_parts x scope) rest >>= λ y. Some (joined x y.0, y.1))
unfolding reading.expression
suffixes_more n scope r rest x more one =
    ap (λ b. cond b (reading.suffix n scope r >>= λ x. reading.suffixes n (after_parts x.0 scope) x.1 >>= λ y. Some (joined x.0 y.0, y.1)) (Some (c.no_parts, r))) more
    ∙ ap (λ read. read >>= λ x. reading.suffixes n (after_parts x.0 scope) x.1 >>= λ y. Some (joined x.0 y.0, y.1)) one

suffixes_none : (n : ℕ) (scope : Scope) (r : Rest) → begins_suffix r.0 ≡ false → reading.suffixes (suc n) scope r ≡ Some (c.no_parts, r)
unfolding reading.expression
suffixes_none n scope r none =
    ap (λ b. cond b (reading.suffix n scope r >>= λ x. reading.suffixes n (after_parts x.0 scope) x.1 >>= λ y. Some (joined x.0 y.0, y.1)) (Some (c.no_parts, r))) none

pub goes_on : (before at later : Parsing) → GoesOn before at → GoesOn at later → GoesOn before later
goes_on before at later p q = on_through before at later p q

pub suffixes_turn : (front : List DeclaratorPart) (p : DeclaratorPart) (n : ℕ) (scope : Scope) (r u : Rest)
    → begins_suffix r.0 ≡ true → reading.suffix n scope r ≡ Some (part_alone p, u)
    → after (joined (parts_in (front ++ p ∷ []))) (reading.suffixes n (after_parts (part_alone p) scope) u) ≡ after (joined (parts_in front)) (reading.suffixes (suc n) scope r)
suffixes_turn front p n scope r u more one =
    more_parts front p (reading.suffixes n (after_parts (part_alone p) scope) u)
    ∙ ap (after (joined (parts_in front))) (sym (suffixes_more n scope r u (part_alone p) more one))

pub suffixes_end : (front : List DeclaratorPart) (n : ℕ) (scope : Scope) (r : Rest) → begins_suffix r.0 ≡ false
    → after (joined (parts_in front)) (reading.suffixes (suc n) scope r) ≡ Some (parts_in front, r)
suffixes_end front n scope r none = ap (after (joined (parts_in front))) (suffixes_none n scope r none) ∙ all_parts front r

pub suffixes_hide : (front : List DeclaratorPart) (p : DeclaratorPart) (s : Scope) → after_parts (parts_in (front ++ p ∷ [])) s ≡ after_parts (part_alone p) (after_parts (parts_in front) s)
suffixes_hide front p s = ap (λ (parts : c.Parts). after_parts parts s) (parts_push front p) ∙ joined_hidden (parts_in front) (part_alone p) s

-- ---- pointers and what stands in parentheses

pointers_one : (n : ℕ) (scope : Scope) (naming : Naming) (r u : Rest) (q : c.Qualifiers) (ts : List Symbol) (w : Option (List ℕ)) (own : c.Parts) → sees t.Star r.0 ≡ true
    → qualifiers (drop 1 r.0) ≡ (q, ts) → reading.pointers n scope (behind_star naming) (ts, r.1) ≡ Some ((w, own), u)
    → reading.pointers (suc n) scope naming r ≡ Some ((w, joined own (c.Pointer q c.no_parts)), u)
unfolding reading.expression
pointers_one n scope naming r u q ts w own star quals others = rw (star, quals, others) refl

pub pointers_turn : (depth n : ℕ) (scope : Scope) (naming : Naming) (r u : Rest) (q : c.Qualifiers) (ts : List Symbol) (w : Option (List ℕ)) (own : c.Parts) → depth ≡ suc n → sees t.Star r.0 ≡ true
    → qualifiers (drop 1 r.0) ≡ (q, ts) → reading.pointers n scope (behind_star naming) (ts, r.1) ≡ Some ((w, own), u)
    → reading.pointers depth scope naming r ≡ Some ((w, joined own (c.Pointer q c.no_parts)), u)
pointers_turn depth n scope naming r u q ts w own deep star quals others = ap (λ k. reading.pointers k scope naming r) deep ∙ pointers_one n scope naming r u q ts w own star quals others

direct_one : (n : ℕ) (scope : Scope) (naming : Naming) (r u v z : Rest) (w : Option (List ℕ)) (own parts : c.Parts) → begins_nested naming scope r.0 ≡ true
    → reading.pointers n scope naming (behind r) ≡ Some ((w, own), u) → expect t.CloseParen u ≡ Some v → reading.suffixes n (after_parts own scope) v ≡ Some (parts, z)
    → reading.direct (suc n) scope naming r ≡ Some ((w, joined own parts), z)
unfolding reading.expression
direct_one n scope naming r u v z w own parts nested first close others = rw (nested, first, close, others) refl

pub direct_turn : (depth n : ℕ) (scope : Scope) (naming : Naming) (r u v z : Rest) (w : Option (List ℕ)) (own parts : c.Parts) → depth ≡ suc n → begins_nested naming scope r.0 ≡ true
    → reading.pointers n scope naming (behind r) ≡ Some ((w, own), u) → expect t.CloseParen u ≡ Some v → reading.suffixes n (after_parts own scope) v ≡ Some (parts, z)
    → reading.direct depth scope naming r ≡ Some ((w, joined own parts), z)
direct_turn depth n scope naming r u v z w own parts deep nested first close others =
    ap (λ k. reading.direct k scope naming r) deep ∙ direct_one n scope naming r u v z w own parts nested first close others

-- ---- parameters

abbrev turn_of : ℕ → Scope → c.Specifiers → c.Declarator × Rest → Option (c.ParameterList × Rest)
turn_of n scope s d = cond (goes_on_with_parameter d.1.0) (reading.parameter_list n (after_parameter s d.0 scope) (behind d.1) >>= λ y. Some (c.a_parameter s d.0 y.0, y.1)) (Some (c.a_parameter s d.0 c.no_parameters, d.1))

-- the list behind its first parameter
parameter_list_is : (n : ℕ) (scope : Scope) (r r' : Rest) (s : c.Specifiers) (d : c.Declarator × Rest) → reading.specifiers n scope r ≡ Some (s, r') → reading.declarator n (after_specifiers s scope) either r' ≡ Some d
    → reading.parameter_list (suc n) scope r ≡ turn_of n scope s d
unfolding reading.expression
parameter_list_is n scope r r' s d first second =
    ap (λ read. read >>= λ s. reading.declarator n (after_specifiers s.0 scope) either s.1 >>= λ d. turn_of n scope s.0 d) first
    ∙ ap (λ read. read >>= λ d. turn_of n scope s d) second

-- What one turn reads, and which names it declares.
pub record OneParameter (n : ℕ) (before later : Parsing) (s : c.Specifiers) (d : c.Declarator) : Type 0 where
  pub read : reading.parameter_list (suc n) (scope_of before) (rest_of before) ≡ turn_of n (scope_of before) s (d, rest_of later)
  pub scope : scope_of later ≡ after_parameter s d (scope_of before)
  pub symbols : later.symbols ≡ before.symbols
  pub outer : later.outer ≡ before.outer
  pub below : Below before.inner later.inner

pub one_parameter : (n : ℕ) (start at behind later : Parsing) (s : c.Specifiers) (d : c.Declarator)
    → reading.specifiers n (scope_of start) (rest_of start) ≡ Some (s, rest_of at) → Declares start at (after_specifiers s (scope_of start))
    → reading.declarator n (scope_of at) either (rest_of at) ≡ Some (d, rest_of behind) → Declares at behind (after_inside d (scope_of at))
    → Hides behind later (after_name false d (scope_of behind))
    → OneParameter n start later s d
one_parameter n start at behind later s d first declares second declares' hides =
    let declared : reading.declarator n (after_specifiers s (scope_of start)) either (rest_of at) ≡ Some (d, rest_of later) =
    ap (λ names. reading.declarator n names either (rest_of at)) (sym declares.scope) ∙ second ∙ ap (λ r. Some (d, r)) (sym hides.rest) in
    record {
      read = parameter_list_is n (scope_of start) (rest_of start) (rest_of at) s (d, rest_of later) first declared;
      scope = hides.scope ∙ ap (after_name false d) (declares'.scope ∙ ap (after_inside d) declares.scope);
      symbols = hides.symbols ∙ declares'.symbols ∙ declares.symbols;
      outer = hides.outer ∙ declares'.outer ∙ declares.outer;
      below = below_through start.inner behind.inner later.inner (below_through start.inner at.inner behind.inner declares.below declares'.below) hides.below;
    }

pub parameters_turn : (front all : List Parameter) (p : Parameter) (s : c.Specifiers) (d : c.Declarator) (depth n : ℕ) (start later next : Parsing)
    → specifiers_of p.specifiers ≡ s → declarator_of p.declarator ≡ d → depth ≡ suc n → OneParameter n start later s d
    → goes_on_with_parameter (rest_of later).0 ≡ true → rest_of next ≡ behind (rest_of later) → GoesOn later next → all ≡ front ++ p ∷ []
    → after (parameters_before (parameter_list_in all)) (reading.parameter_list n (scope_of next) (rest_of next)) ≡ after (parameters_before (parameter_list_in front)) (reading.parameter_list depth (scope_of start) (rest_of start))
parameters_turn front all p s d depth n start later next same_s same_d deep one more rest on is =
    let more_of = reading.parameter_list n (after_parameter s d (scope_of start)) (behind (rest_of later)) in
    ap (λ xs. after (parameters_before (parameter_list_in xs)) (reading.parameter_list n (scope_of next) (rest_of next))) is
    ∙ ap (λ scope. after (parameters_before (parameter_list_in (front ++ p ∷ []))) (reading.parameter_list n scope (rest_of next))) (same_scope later next on ∙ one.scope)
    ∙ ap (λ r. after (parameters_before (parameter_list_in (front ++ p ∷ []))) (reading.parameter_list n (after_parameter s d (scope_of start)) r)) rest
    ∙ more_parameters front p more_of
    ∙ ap (λ s'. after (parameters_before (parameter_list_in front)) (more_of >>= λ y. Some (c.a_parameter s' (declarator_of p.declarator) y.0, y.1))) same_s
    ∙ ap (λ d'. after (parameters_before (parameter_list_in front)) (more_of >>= λ y. Some (c.a_parameter s d' y.0, y.1))) same_d
    ∙ ap (λ b. after (parameters_before (parameter_list_in front)) (cond b (more_of >>= λ y. Some (c.a_parameter s d y.0, y.1)) (Some (c.a_parameter s d c.no_parameters, rest_of later)))) (sym more)
    ∙ ap (after (parameters_before (parameter_list_in front))) (sym one.read)
    ∙ ap (λ k. after (parameters_before (parameter_list_in front)) (reading.parameter_list k (scope_of start) (rest_of start))) (sym deep)

pub parameters_end : (front all : List Parameter) (p : Parameter) (s : c.Specifiers) (d : c.Declarator) (depth n : ℕ) (start later : Parsing)
    → specifiers_of p.specifiers ≡ s → declarator_of p.declarator ≡ d → depth ≡ suc n → OneParameter n start later s d
    → goes_on_with_parameter (rest_of later).0 ≡ false → all ≡ front ++ p ∷ []
    → after (parameters_before (parameter_list_in front)) (reading.parameter_list depth (scope_of start) (rest_of start)) ≡ Some (parameter_list_in all, rest_of later)
parameters_end front all p s d depth n start later same_s same_d deep one none is =
    let more_of = reading.parameter_list n (after_parameter s d (scope_of start)) (behind (rest_of later)) in
    ap (λ k. after (parameters_before (parameter_list_in front)) (reading.parameter_list k (scope_of start) (rest_of start))) deep
    ∙ ap (after (parameters_before (parameter_list_in front))) one.read
    ∙ ap (λ b. after (parameters_before (parameter_list_in front)) (cond b (more_of >>= λ y. Some (c.a_parameter s d y.0, y.1)) (Some (c.a_parameter s d c.no_parameters, rest_of later)))) none
    ∙ ap (λ s'. after (parameters_before (parameter_list_in front)) (Some (c.a_parameter s' d c.no_parameters, rest_of later))) (sym same_s)
    ∙ ap (λ d'. after (parameters_before (parameter_list_in front)) (Some (c.a_parameter (specifiers_of p.specifiers) d' c.no_parameters, rest_of later))) (sym same_d)
    ∙ last_parameters front p (rest_of later)
    ∙ ap (λ xs. Some (parameter_list_in xs, rest_of later)) (sym is)

pub below_one : (outermost start later : Parsing) (n : ℕ) (s : c.Specifiers) (d : c.Declarator) → Below outermost.inner start.inner → OneParameter n start later s d → Below outermost.inner later.inner
below_one outermost start later n s d p one = below_through outermost.inner start.inner later.inner p one.below

pub below_next : (outermost later next : Parsing) → Below outermost.inner later.inner → GoesOn later next → Below outermost.inner next.inner
below_next outermost later next p on = below_through outermost.inner later.inner next.inner p (below_same later.inner next.inner on.inner)
