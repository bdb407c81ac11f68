-- A whole expression is read, at most one is derived, and where none is read none is derived.
use Rattle.std.proofs.Common.{◌≡◌, ℕ, ◌+◌, ◌*◌, ◌≤◌, List, [], length, Option, Some, None, refl, sym, ap, ◌∙◌, arith}
use Rattle.lt_tree.specs.Tree as c
use Rattle.lt_tree.specs.Symbols.{Symbol}
use Rattle.lt_tree.specs.Scope.{Scope}
use Rattle.lt_tree.specs.Ahead.{Naming}
use Rattle.lt_tree.specs.Grammar.{IsMark, AreSpecifiers, IsDeclarator, IsWhole}
use Rattle.lt_tree.specs.Units.{ExpressionsAreOne}
use Rattle.lt_expr.specs.Front.{Rest, Reader}
use Rattle.lt_expr.specs.Reading.{enough, whole}
use Rattle.lt_expr.specs.Walk.{Walked, walk}
use Rattle.lt_expr.proofs.CompleteFronts.{nothing_follows}
use Rattle.lt_expr.proofs.CompleteForms.{Read}
use Rattle.lt_expr.proofs.CompleteForms as forms
use Rattle.lt_expr.proofs.Complete.{complete, complete_mark, complete_specifiers, complete_declarator}

-- the depth of the public call suffices
pub enough_is : (k : ℕ) (ts : List Symbol) → k ≤ 20 → forms.enough k ts (enough ts)
unfolding enough
enough_is k ts small = omega arith

-- at the depth of the public call
pub at_enough : {A : Type 0} {read : ℕ → Reader A} {walks : A → Walked → Walked} {k : ℕ} {ts rest : List Symbol} {x : A} {spots more ends : List ℕ}
    (d : Read read walks k ts x rest spots more ends) → k ≤ 20 → read (enough ts) (ts, ends) ≡ Some (x, (rest, d.now))
at_enough {k = k} {ts = ts} d small = d.reads (enough ts) (enough_is k ts small)

-- ---- a whole expression

-- A whole expression is what is read, with its rest and its spots.
pub whole_is_read : (scope : Scope) (ts rest : List Symbol) (e : c.Expression) (spots more ends : List ℕ) → IsWhole scope ts e rest spots more
    → (now : List ℕ) × (walk e (now, more) ≡ (ends, spots)) × (whole scope (ts, ends) ≡ Some (e, (rest, now)))
unfolding whole
whole_is_read scope ts rest e spots more ends w =
    let d = complete w.derived ends (nothing_follows rest w.ends) in
    (d.now, d.walked, rw (at_enough d (omega arith), w.ends) refl)

-- Where nothing is read, nothing is derived.
pub nothing_derived : (scope : Scope) (ts : List Symbol) (ends : List ℕ) → whole scope (ts, ends) ≡ None
    → (rest : List Symbol) (e : c.Expression) (spots more : List ℕ) → IsWhole scope ts e rest spots more → ⊥
nothing_derived scope ts ends none rest e spots more w = let x = (whole_is_read scope ts rest e spots more ends w).2 in absurd cc

-- ---- at most one

some_is : {A : Type 0} (x y : A) → Some x ≡ Some y → x ≡ y
some_is x y e = cc

parts_of : {A : Type 0} (x y : A) (rest other : List Symbol) (now new : List ℕ) (z : Option (A × Rest)) → z ≡ Some (x, (rest, now)) → z ≡ Some (y, (other, new)) → (x ≡ y) × (rest ≡ other) × (now ≡ new)
parts_of {A} x y rest other now new z one two =
    let same = some_is {A = A × Rest} (x, (rest, now)) (y, (other, new)) (sym one ∙ two) in
    (ap (λ (p : A × Rest). p.0) same, ap (λ (p : A × Rest). p.1.0) same, ap (λ (p : A × Rest). p.1.1) same)

-- What is read of two derivations from one place is one tree, with one rest and the same spots.
pub one_read : {A : Type 0} {read : ℕ → Reader A} {walks : A → Walked → Walked} {k : ℕ} {ts rest other : List Symbol} {x y : A} {spots places more ends : List ℕ}
    → Read read walks k ts x rest spots more ends → Read read walks k ts y other places more ends → (x ≡ y) × (rest ≡ other) × (spots ≡ places)
one_read {A} {read} {walks} {k} {ts} {rest} {other} {x} {y} {spots} {places} {more} {ends} one two =
    let n = 10 * length ts + k in
    let p = parts_of x y rest other one.now two.now (read n (ts, ends)) (one.reads n (omega arith)) (two.reads n (omega arith)) in
    let same : walks x (one.now, more) ≡ walks y (two.now, more) = ap (λ (z : A). walks z (one.now, more)) p.0 ∙ ap (λ (now : List ℕ). walks y (now, more)) p.2 in
    (p.0, p.1, ap (λ (v : Walked). v.1) (sym one.walked ∙ same ∙ two.walked))

pub expressions_are_one : ExpressionsAreOne
expressions_are_one scope ts rest other d e spots places more one two =
    one_read (complete one.derived [] (nothing_follows rest one.ends)) (complete two.derived [] (nothing_follows other two.ends))

-- the same of specifiers, of declarators and of marks
pub specifiers_are_one : {scope : Scope} {ts rest other : List Symbol} {ss zs : c.Specifiers} {spots places more : List ℕ}
    → AreSpecifiers scope ts ss rest spots more → AreSpecifiers scope ts zs other places more → (ss ≡ zs) × (rest ≡ other) × (spots ≡ places)
specifiers_are_one one two = one_read (complete_specifiers one []) (complete_specifiers two [])

pub declarators_are_one : {scope : Scope} {naming : Naming} {ts rest other : List Symbol} {d e : c.Declarator} {spots places more : List ℕ}
    → IsDeclarator scope naming ts d rest spots more → IsDeclarator scope naming ts e other places more → (d ≡ e) × (rest ≡ other) × (spots ≡ places)
declarators_are_one one two = one_read (complete_declarator one []) (complete_declarator two [])

pub marks_are_one : {scope : Scope} {ts rest other : List Symbol} {m l : c.Mark} {spots places more : List ℕ}
    → IsMark scope ts m rest spots more → IsMark scope ts l other places more → (m ≡ l) × (rest ≡ other) × (spots ≡ places)
marks_are_one one two = one_read (complete_mark one []) (complete_mark two [])
