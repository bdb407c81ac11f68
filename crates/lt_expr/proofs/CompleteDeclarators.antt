-- What is derived of declarators and parameters is read, rule by rule, C11 6.7.6 and 6.7.7.
use Rattle.std.proofs.Common.{◌≡◌, ℕ, suc, ◌<◌, ◌≤◌, Bool, true, false, List, [], ◌∷◌, length, drop, Option, Some, None, refl, sym, ap, subst, ◌∙◌, arith}
use Rattle.std.specs.Prelude.{◌&&◌, not}
use Rattle.std.proofs.lemmas.Bool.{and_right}
use Rattle.lt_tree.specs.declared.terminal.Terminal.{Terminal}
use Rattle.lt_tree.specs.declared.terminal.Terminal.TheVariants as t
use Rattle.lt_tree.specs.Tree as c
use Rattle.lt_tree.specs.Symbols.{Symbol, name, constant, literal, sign, start_of}
use Rattle.lt_tree.specs.Scope.{Scope, after_expression, after_parts}
use Rattle.lt_tree.specs.Ahead.{Naming, named, untyped, nameless, either, behind_star, takes_name, takes_none, opens_parameters, begins_parameters, begins_direct, begins_declarator, begins_suffix, same_terminal, sees}
use Rattle.lt_tree.specs.Grammar as g
use Rattle.lt_tree.specs.Grammar.{AreQualifiers, is_missing, joined}
use Rattle.lt_expr.specs.Front.{qualifiers, own_name, begins_nested}
use Rattle.lt_expr.specs.Reading as r
use Rattle.lt_expr.specs.Reading.{NameAndParts, as_declarator, list_end}
use Rattle.lt_expr.specs.Walk.{walk, walk_declarator, walk_parts, walk_parameters}
use Rattle.lt_expr.proofs.CompleteFronts.{same_is}
use Rattle.lt_expr.proofs.Walks.{joined_none, joined_joined, walk_joined, written_walk}
use Rattle.lt_expr.proofs.HiddenNames.{length_hidden, joined_same}
use Rattle.lt_expr.proofs.CompleteForms.{Reads, Suffixes, Read, once, twice, node_of, Complete}
use Rattle.lt_expr.proofs.CompleteOperators.{conditional_read}

-- ---- what is read

abbrev pub Pointers : Scope → Naming → List Symbol → c.Parts → Option (List ℕ) → c.Parts → List Symbol → List ℕ → List ℕ → List ℕ → Type 0
Pointers scope naming ts outer w parts rest spots more ends = Reads (λ n. r.pointers n scope naming) 4 ts outer w parts rest spots more ends

abbrev pub Direct : Scope → Naming → List Symbol → c.Parts → Option (List ℕ) → c.Parts → List Symbol → List ℕ → List ℕ → List ℕ → Type 0
Direct scope naming ts outer w parts rest spots more ends = Reads (λ n. r.direct n scope naming) 3 ts outer w parts rest spots more ends

abbrev pub Declared : Scope → Naming → List Symbol → c.Declarator → List Symbol → List ℕ → List ℕ → List ℕ → Type 0
Declared scope naming ts d rest spots more ends = Read (λ n. r.declarator n scope naming) walk_declarator 5 ts d rest spots more ends

abbrev pub Parameters : Scope → List Symbol → c.Parameters → List Symbol → List ℕ → List ℕ → List ℕ → Type 0
Parameters scope ts ps rest spots more ends = Read (λ n. r.parameters n scope) walk_parameters 5 ts ps rest spots more ends

-- ---- suffixes

suffixes_stop : (n : ℕ) (scope : Scope) (ts : List Symbol) (ends : List ℕ) → begins_suffix ts ≡ false → r.suffixes (suc n) scope (ts, ends) ≡ Some (c.no_parts, (ts, ends))
unfolding r.expression
suffixes_stop n scope ts ends e = rw e refl

suffixes_unsized : (n : ℕ) (scope : Scope) (a b : ℕ) (ts rest : List Symbol) (parts : c.Parts) (ends now : List ℕ)
    → r.suffixes (suc n) scope (ts, ends) ≡ Some (parts, (rest, now))
    → r.suffixes (suc (suc n)) scope (sign t.OpenIndex a ∷ sign t.CloseIndex b ∷ ts, ends) ≡ Some (c.Array c.absent parts, (rest, now))
unfolding r.expression same_terminal
suffixes_unsized n scope a b ts rest parts ends now is = rw is refl

suffix_sized : (n : ℕ) (scope : Scope) (a b : ℕ) (ts us : List Symbol) (e : c.Expression) (ends now : List ℕ) → sees t.CloseIndex ts ≡ false
    → r.conditional n scope (ts, ends) ≡ Some (e, (sign t.CloseIndex b ∷ us, now))
    → r.suffix (suc n) scope (sign t.OpenIndex a ∷ ts, ends) ≡ Some (c.Array (c.present e) c.no_parts, (us, now))
unfolding r.expression same_terminal
suffix_sized n scope a b ts us e ends now front is = rw (front, is) refl

suffix_function : (n : ℕ) (scope : Scope) (a : ℕ) (ts us : List Symbol) (ps : c.Parameters) (ends now : List ℕ)
    → r.parameters n scope (ts, ends) ≡ Some (ps, (us, now))
    → r.suffix (suc n) scope (sign t.OpenParen a ∷ ts, ends) ≡ Some (c.Function ps c.no_parts, (us, now))
unfolding r.expression same_terminal
suffix_function n scope a ts us ps ends now is = rw is refl

suffixes_go : (n : ℕ) (scope : Scope) (ts us rest : List Symbol) (one parts : c.Parts) (ends middle now : List ℕ) → begins_suffix ts ≡ true
    → r.suffix n scope (ts, ends) ≡ Some (one, (us, middle)) → r.suffixes n (after_parts one scope) (us, middle) ≡ Some (parts, (rest, now))
    → r.suffixes (suc n) scope (ts, ends) ≡ Some (joined one parts, (rest, now))
unfolding r.expression
suffixes_go n scope ts us rest one parts ends middle now front first others = rw (front, first, others) refl

begins_index : (a : ℕ) (ts : List Symbol) → begins_suffix (sign t.OpenIndex a ∷ ts) ≡ true
unfolding same_terminal
begins_index a ts = refl

begins_paren : (a : ℕ) (ts : List Symbol) → begins_suffix (sign t.OpenParen a ∷ ts) ≡ true
unfolding same_terminal
begins_paren a ts = refl

pub no_suffix_complete : (scope : Scope) (ts : List Symbol) (outer : c.Parts) (more ends : List ℕ) → begins_suffix ts ≡ false → Suffixes scope ts outer outer ts more more ends
no_suffix_complete scope ts outer more ends e = record { own = c.no_parts; whole = refl; read_as = once ends refl (omega arith) (λ n big. suffixes_stop n scope ts ends e) }

pub unsized_complete : (scope : Scope) (a b : ℕ) (ts rest : List Symbol) (outer parts : c.Parts) (spots more ends : List ℕ)
    → Suffixes scope ts outer parts rest spots more ends → Suffixes scope (sign t.OpenIndex a ∷ sign t.CloseIndex b ∷ ts) outer (c.Array c.absent parts) rest spots more ends
unsized_complete scope a b ts rest outer parts spots more ends d =
    let x = d.read_as in
    record { own = c.Array c.absent d.own; whole = ap (c.Array c.absent) d.whole; read_as = twice x.now x.walked (omega arith) (λ n big. suffixes_unsized n scope a b ts rest d.own ends x.now (x.reads (suc n) (omega arith))) }

pub array_complete : (scope : Scope) (a b : ℕ) (ts us rest : List Symbol) (outer parts : c.Parts) (e : c.Expression) (spots between more ends : List ℕ)
    → sees t.CloseIndex ts ≡ false → length us < length ts
    → Complete g.conditional scope ts e (sign t.CloseIndex b ∷ us) spots between ends
    → ((now : List ℕ) → Suffixes (after_expression e scope) us outer parts rest between more now)
    → Suffixes scope (sign t.OpenIndex a ∷ ts) outer (c.Array (c.present e) parts) rest spots more ends
array_complete scope a b ts us rest outer parts e spots between more ends front short ce cb =
    let x = conditional_read scope ts (sign t.CloseIndex b ∷ us) e spots between ends (ce (omega arith)) in
    let d = cb x.now in
    let y = d.read_as in
    record {
      own = c.Array (c.present e) d.own;
      whole = ap (c.Array (c.present e)) d.whole;
      read_as = twice y.now (ap (walk e) y.walked ∙ x.walked) (omega arith)
          (λ n big. suffixes_go (suc n) scope (sign t.OpenIndex a ∷ ts) us rest (c.Array (c.present e) c.no_parts) d.own ends x.now y.now (begins_index a ts)
          (suffix_sized n scope a b ts us e ends x.now front (x.reads n (omega arith)))
          (ap (λ (names : Scope). r.suffixes (suc n) names (us, x.now)) (length_hidden e scope) ∙ y.reads (suc n) (omega arith)));
    }

pub function_complete : (scope : Scope) (a : ℕ) (ts us rest : List Symbol) (outer parts : c.Parts) (inside : c.Parameters) (spots between more ends : List ℕ) → length us < length ts
    → Parameters scope ts inside us spots between ends
    → ((now : List ℕ) → Suffixes scope us outer parts rest between more now)
    → Suffixes scope (sign t.OpenParen a ∷ ts) outer (c.Function inside parts) rest spots more ends
function_complete scope a ts us rest outer parts inside spots between more ends short x cb =
    let d = cb x.now in
    let y = d.read_as in
    record {
      own = c.Function inside d.own;
      whole = ap (c.Function inside) d.whole;
      read_as = twice y.now (ap (walk_parameters inside) y.walked ∙ x.walked) (omega arith)
          (λ n big. suffixes_go (suc n) scope (sign t.OpenParen a ∷ ts) us rest (c.Function inside c.no_parts) d.own ends x.now y.now (begins_paren a ts)
          (suffix_function n scope a ts us inside ends x.now (x.reads n (omega arith))) (y.reads (suc n) (omega arith)));
    }

-- ---- direct declarators

direct_goes : (n : ℕ) (scope : Scope) (naming : Naming) (ts us rest : List Symbol) (w : Option (List ℕ)) (parts : c.Parts) (ends now : List ℕ)
    → begins_nested naming scope ts ≡ false → own_name naming scope (ts, ends) ≡ Some (w, (us, ends)) → r.suffixes n scope (us, ends) ≡ Some (parts, (rest, now))
    → r.direct (suc n) scope naming (ts, ends) ≡ Some ((w, parts), (rest, now))
unfolding r.expression
direct_goes n scope naming ts us rest w parts ends now front is others = rw (front, is, others) refl

direct_nested : (n : ℕ) (scope : Scope) (naming : Naming) (a b : ℕ) (ts us rest : List Symbol) (w : Option (List ℕ)) (inner parts : c.Parts) (ends middle now : List ℕ)
    → opens_parameters naming scope ts ≡ false → r.pointers n scope naming (ts, ends) ≡ Some ((w, inner), (sign t.CloseParen b ∷ us, middle))
    → r.suffixes n (after_parts inner scope) (us, middle) ≡ Some (parts, (rest, now))
    → r.direct (suc n) scope naming (sign t.OpenParen a ∷ ts, ends) ≡ Some ((w, joined inner parts), (rest, now))
unfolding r.expression same_terminal
direct_nested n scope naming a b ts us rest w inner parts ends middle now front is others = rw (front, is, others) refl

name_alone : (naming : Naming) (scope : Scope) (w : List ℕ) (at : ℕ) (ts : List Symbol) → begins_nested naming scope (name w at ∷ ts) ≡ false
unfolding same_terminal
name_alone naming scope w at ts = refl

-- where a name may be missing and neither a name nor a declarator in parentheses stands, nothing is taken
by_sign : (scope : Scope) (k : Terminal) (at : ℕ) (ts : List Symbol) (b : Bool) → same_terminal k t.OpenParen ≡ b → begins_direct scope (sign k at ∷ ts) ≡ false
    → (same_terminal k t.OpenParen && not (begins_parameters scope ts)) ≡ false
by_sign scope k at ts true same e = rw same (subst (λ (x : Terminal). begins_direct scope (sign x at ∷ ts) ≡ false) (same_is k t.OpenParen same) e)
by_sign scope k at ts false same e = rw same refl

-- where no declarator in parentheses stands, none is begun
paren_alone : (scope : Scope) (ts : List Symbol) → begins_direct scope ts ≡ false → (sees t.OpenParen ts && not (begins_parameters scope (drop 1 ts))) ≡ false
unfolding same_terminal
paren_alone scope [] e = refl
paren_alone scope (name w at ∷ ts) e = absurd cc
paren_alone scope (constant w at ∷ ts) e = refl
paren_alone scope (literal w at ∷ ts) e = refl
paren_alone scope (sign k at ∷ ts) e = by_sign scope k at ts (same_terminal k t.OpenParen) refl e

nothing_nested : (naming : Naming) (scope : Scope) (ts : List Symbol) → takes_none naming ≡ true → begins_direct scope ts ≡ false → begins_nested naming scope ts ≡ false
nothing_nested named scope ts takes e = absurd cc
nothing_nested untyped scope ts takes e = absurd cc
nothing_nested nameless scope ts takes e = paren_alone scope ts e
nothing_nested either scope ts takes e = paren_alone scope ts e

nothing_named : (naming : Naming) (scope : Scope) (ts : List Symbol) (ends : List ℕ) → takes_none naming ≡ true → begins_direct scope ts ≡ false → own_name naming scope (ts, ends) ≡ Some (None, (ts, ends))
nothing_named naming scope [] ends takes e = rw takes refl
nothing_named naming scope (name w at ∷ ts) ends takes e = absurd cc
nothing_named naming scope (constant w at ∷ ts) ends takes e = rw takes refl
nothing_named naming scope (literal w at ∷ ts) ends takes e = rw takes refl
nothing_named naming scope (sign k at ∷ ts) ends takes e = rw takes refl

pub by_name_complete : (scope : Scope) (naming : Naming) (w : List ℕ) (at : ℕ) (ts rest : List Symbol) (outer parts : c.Parts) (spots more ends : List ℕ) → takes_name naming scope w ≡ true
    → Suffixes scope ts outer parts rest spots more ends → Direct scope naming (name w at ∷ ts) outer (Some w) parts rest spots more ends
by_name_complete scope naming w at ts rest outer parts spots more ends e d =
    let x = d.read_as in
    record {
      own = d.own;
      whole = d.whole;
      read_as = once x.now x.walked (omega arith)
          (λ n big. direct_goes n scope naming (name w at ∷ ts) ts rest (Some w) d.own ends x.now (name_alone naming scope w at ts) (rw e refl) (x.reads n (omega arith)));
    }

pub by_nothing_complete : (scope : Scope) (naming : Naming) (ts rest : List Symbol) (outer parts : c.Parts) (spots more ends : List ℕ) → takes_none naming ≡ true → begins_direct scope ts ≡ false
    → Suffixes scope ts outer parts rest spots more ends → Direct scope naming ts outer None parts rest spots more ends
by_nothing_complete scope naming ts rest outer parts spots more ends takes e d =
    let x = d.read_as in
    record {
      own = d.own;
      whole = d.whole;
      read_as = once x.now x.walked (omega arith)
          (λ n big. direct_goes n scope naming ts ts rest None d.own ends x.now (nothing_nested naming scope ts takes e) (nothing_named naming scope ts ends takes e) (x.reads n (omega arith)));
    }

pub nested_complete : (scope : Scope) (naming : Naming) (a b : ℕ) (ts us rest : List Symbol) (outer suffixed inner parts : c.Parts) (w : Option (List ℕ)) (spots between more ends : List ℕ)
    → opens_parameters naming scope ts ≡ false → parts ≡ joined inner suffixed → length us < length ts
    → Pointers scope naming ts suffixed w parts (sign t.CloseParen b ∷ us) spots between ends
    → ((now : List ℕ) → Suffixes (after_parts inner scope) us outer suffixed rest between more now)
    → Direct scope naming (sign t.OpenParen a ∷ ts) outer w parts rest spots more ends
nested_complete scope naming a b ts us rest outer suffixed inner parts w spots between more ends e is short p cb =
    let x = p.read_as in
    let d = cb x.now in
    let y = d.read_as in
    let own : p.own ≡ inner = joined_same p.own inner suffixed (p.whole ∙ is) in
    record {
      own = joined p.own d.own;
      whole = joined_joined p.own d.own outer ∙ ap (joined p.own) d.whole ∙ p.whole;
      read_as = once y.now (walk_joined p.own d.own (y.now, more) ∙ ap (walk_parts p.own) y.walked ∙ x.walked) (omega arith)
          (λ n big. direct_nested n scope naming a b ts us rest w p.own d.own ends x.now y.now e (x.reads n (omega arith))
          (ap (λ (q : c.Parts). r.suffixes n (after_parts q scope) (us, x.now)) own ∙ y.reads n (omega arith)));
    }

-- ---- pointers

-- no qualifier stands there
none_read : (ts : List Symbol) → sees t.Const ts ≡ false → sees t.Volatile ts ≡ false → qualifiers ts ≡ (record { constant = false; volatile = false }, ts)
none_read [] a b = refl
none_read (x ∷ ts) a b = rw (a, b) refl

-- qualifiers are read as they are derived
qualifiers_read : {ts us : List Symbol} {q : c.Qualifiers} → AreQualifiers ts q us → qualifiers ts ≡ (q, us)
unfolding same_terminal
qualifiers_read (g.no_qualifiers {ts} a b) = none_read ts a b
qualifiers_read (g.constant d) = rw (qualifiers_read d) refl
qualifiers_read (g.volatile d) = rw (qualifiers_read d) refl

pointers_go : (n : ℕ) (scope : Scope) (naming : Naming) (at : ℕ) (ts us rest : List Symbol) (q : c.Qualifiers) (w : Option (List ℕ)) (parts : c.Parts) (ends now : List ℕ)
    → qualifiers ts ≡ (q, us) → r.pointers n scope (behind_star naming) (us, ends) ≡ Some ((w, parts), (rest, now))
    → r.pointers (suc n) scope naming (sign t.Star at ∷ ts, ends) ≡ Some ((w, joined parts (c.Pointer q c.no_parts)), (rest, now))
unfolding r.expression same_terminal
pointers_go n scope naming at ts us rest q w parts ends now is others = rw (is, others) refl

pointers_stop : (n : ℕ) (scope : Scope) (naming : Naming) (ts : List Symbol) (ends : List ℕ) → sees t.Star ts ≡ false → r.pointers (suc n) scope naming (ts, ends) ≡ r.direct n scope naming (ts, ends)
unfolding r.expression
pointers_stop n scope naming ts ends e = rw e refl

pub pointer_complete : (scope : Scope) (naming : Naming) (at : ℕ) (ts us rest : List Symbol) (outer parts : c.Parts) (q : c.Qualifiers) (w : Option (List ℕ)) (spots more ends : List ℕ)
    → AreQualifiers ts q us → length us ≤ length ts
    → Pointers scope (behind_star naming) us (c.Pointer q outer) w parts rest spots more ends
    → Pointers scope naming (sign t.Star at ∷ ts) outer w parts rest spots more ends
pointer_complete scope naming at ts us rest outer parts q w spots more ends quals short p =
    let x = p.read_as in
    record {
      own = joined p.own (c.Pointer q c.no_parts);
      whole = joined_joined p.own (c.Pointer q c.no_parts) outer ∙ p.whole;
      read_as = once x.now (walk_joined p.own (c.Pointer q c.no_parts) (x.now, more) ∙ x.walked) (omega arith)
          (λ n big. pointers_go n scope naming at ts us rest q w p.own ends x.now (qualifiers_read quals) (x.reads n (omega arith)));
    }

pub no_pointer_complete : (scope : Scope) (naming : Naming) (ts rest : List Symbol) (outer parts : c.Parts) (w : Option (List ℕ)) (spots more ends : List ℕ) → sees t.Star ts ≡ false
    → Direct scope naming ts outer w parts rest spots more ends → Pointers scope naming ts outer w parts rest spots more ends
no_pointer_complete scope naming ts rest outer parts w spots more ends e p =
    let x = p.read_as in
    record { own = p.own; whole = p.whole; read_as = once x.now x.walked (omega arith) (λ n big. pointers_stop n scope naming ts ends e ∙ x.reads n (omega arith)) }

-- ---- declarators

declarator_missing : (n : ℕ) (scope : Scope) (naming : Naming) (ts : List Symbol) (ends : List ℕ) → takes_none naming ≡ true → begins_declarator ts ≡ false
    → r.declarator (suc n) scope naming (ts, ends) ≡ Some (c.declarator None c.no_parts, (ts, ends))
unfolding r.expression
declarator_missing n scope naming ts ends takes e = rw (takes, e) refl

declarator_written : (n : ℕ) (scope : Scope) (naming : Naming) (ts rest : List Symbol) (w : Option (List ℕ)) (parts : c.Parts) (ends now : List ℕ) → begins_declarator ts ≡ true → is_missing w parts ≡ false
    → r.pointers n scope naming (ts, ends) ≡ Some ((w, parts), (rest, now))
    → r.declarator (suc n) scope naming (ts, ends) ≡ Some (c.declarator w parts, (rest, start_of ts ∷ now))
unfolding r.expression
declarator_written n scope naming ts rest w parts ends now front e is = rw (and_right (takes_none naming) (not (begins_declarator ts)) (rw front refl), is, e) refl

pub written_complete : (scope : Scope) (naming : Naming) (ts rest : List Symbol) (w : Option (List ℕ)) (parts : c.Parts) (spots more ends : List ℕ) → begins_declarator ts ≡ true → is_missing w parts ≡ false
    → Pointers scope naming ts c.no_parts w parts rest spots more ends
    → Declared scope naming ts (c.declarator w parts) rest (start_of ts ∷ spots) more ends
written_complete scope naming ts rest w parts spots more ends front e p =
    let x = p.read_as in
    let own : p.own ≡ parts = sym (joined_none p.own) ∙ p.whole in
    once (start_of ts ∷ x.now)
    (written_walk w parts (start_of ts ∷ x.now, more) e ∙ node_of (walk_parts parts) (start_of ts) x.now more ends spots (ap (λ (q : c.Parts). walk_parts q (x.now, more)) (sym own) ∙ x.walked))
    (omega arith)
    (λ n big. declarator_written n scope naming ts rest w parts ends x.now front e (x.reads n (omega arith) ∙ ap (λ (q : c.Parts). Some ((w, q), (rest, x.now))) own))

pub missing_complete : (scope : Scope) (naming : Naming) (ts : List Symbol) (more ends : List ℕ) → takes_none naming ≡ true → begins_declarator ts ≡ false
    → Declared scope naming ts (c.declarator None c.no_parts) ts more more ends
missing_complete scope naming ts more ends takes e = once ends refl (omega arith) (λ n big. declarator_missing n scope naming ts ends takes e)
