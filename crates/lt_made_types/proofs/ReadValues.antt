-- What is read of an expression to which typing comes is no pointer to a function.
use Rattle.std.proofs.Common.{◌≡◌, refl, sym, ap, subst, ℕ, Bool, true, false, List, [], ◌∷◌, Option, Some}
use Rattle.std.specs.Prelude.{if◌then◌else◌, ◌==◌}
use Rattle.std.specs.List.{AllByRecursion}
use Rattle.lt_tree.specs.Typing.Types.{is_array}
use Rattle.lt_tree.specs.Typing.TypedTree.{Place, type_of, type_at}
use Rattle.lt_tree.specs.Typing.Entities.{Fact}
use Rattle.lt_tree.specs.Typing.Expressions.{Form, a_value, a_place, a_designator, Typed, Use, varies, own_type, value_at, read, as_it_is_read, is_read, used, has_pointer_to_function, fact_of}
use Rattle.lt_objectives.specs.Places.{fact_among}
use Rattle.lt_typed_nodes.specs.Coming.{WhatIsComeToIsKnown}
use Rattle.lt_made_types.specs.Laws.{NoTestIsAPointerToAFunction}
use Rattle.lt_made_types.proofs.MadeTypes.{Made, value_no_pointer}
use Rattle.lt_made_types.proofs.Keeping.{WhenThere, FactMade}
use Rattle.lt_made_types.proofs.MadeUnits.{facts_made}

-- ---- what is noted

fact_or_later : (test : Bool) (fact : Fact) (found : Option Fact) → FactMade fact → WhenThere FactMade found → WhenThere FactMade (if test then Some fact else found)
fact_or_later true fact found h i = h
fact_or_later false fact found h i = i

among_made : (facts : List Fact) (n : ℕ) → AllByRecursion FactMade facts → WhenThere FactMade (fact_among facts n)
among_made [] n h = tt
among_made (fact ∷ facts) n h = fact_or_later (fact.node == n) fact (fact_among facts n) h.0 (among_made facts n h.1)

found_made : (facts : List Fact) (n : ℕ) (fact : Fact) → fact_among facts n ≡ Some fact → AllByRecursion FactMade facts → FactMade fact
found_made facts n fact is h = subst (WhenThere FactMade) is (among_made facts n h)

-- ---- what is read

-- no pointer to a function
abbrev IsPlain : Typed → Type 0
IsPlain x = has_pointer_to_function (own_type x) ≡ false

placed_plain : (place : Place) (x : Typed) → Made (type_at place) → has_pointer_to_function (type_at place) ≡ false → IsPlain (read place x)
placed_plain place x made h =
    let plain : has_pointer_to_function (type_of (value_at (type_at place) place)) ≡ false = value_no_pointer (type_at place) place made.so h in
    elim (is_array (type_at place)) as (λ v. IsPlain (if v then record x { form = a_value (value_at (type_at place) place) } else varies (value_at (type_at place) place)))
    [ true ↦ plain | false ↦ plain ]

form_plain : (form : Form) (x : Typed) → x.form ≡ form → Made (own_type x) → IsPlain x → IsPlain (elim form [ a_value v ↦ x | a_place place ↦ read place x | a_designator name t ↦ x ])
form_plain (a_value v) x is made h = h
form_plain (a_place place) x is made h =
    let t : own_type x ≡ type_at place = ap (λ form. elim form [ a_value v ↦ type_of v | a_place place ↦ type_at place | a_designator name t ↦ t ]) is in
    placed_plain place x (subst Made t made) (subst (λ t. has_pointer_to_function t ≡ false) t h)
form_plain (a_designator name t) x is made h = h

read_plain : (x : Typed) → Made (own_type x) → IsPlain x → IsPlain (as_it_is_read x)
read_plain x made h = form_plain x.form x refl made h

used_plain : (role : Use) (x : Typed) → Made (own_type x) → IsPlain x → IsPlain (used role x)
used_plain role x made h = elim (is_read role) as (λ v. IsPlain (if v then as_it_is_read x else x)) [ true ↦ read_plain x made h | false ↦ h ]

pub no_test_is_a_pointer_to_a_function : WhatIsComeToIsKnown → NoTestIsAPointerToAFunction
no_test_is_a_pointer_to_a_function known_there greatest model unit program is role known e there reads =
    let at = known_there.0 program.facts known role e there in
    let h : FactMade (fact_of known.next at.0) = found_made program.facts known.next (fact_of known.next at.0) at.2 (facts_made greatest model unit program is) in
    subst IsPlain (sym at.1) (used_plain role at.0 h.0 h.1)
