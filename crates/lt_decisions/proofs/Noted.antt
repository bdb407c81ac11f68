-- What is found when all tests are noted.
use Rattle.std.proofs.Common.{◌≡◌, ◌≢◌, refl, sym, ap, ◌∙◌, ℕ, zero, suc, ◌+◌, ◌<◌, Bool, true, false, cond, eqb, List, [], ◌∷◌, ◌++◌, length, get_or, replicate, map, Option, Some, None, unwrap_or, length-set, get_or-set_same, get_or-set_other, arith}
use Rattle.std.proofs.lemmas.List.{length-map, length-replicate, get_or-replicate, ext_get_or}
use Rattle.std.proofs.lemmas.Bool.{eqb-true, eq-eqb, false≢true}
use Rattle.lt_tree.specs.Nodes.{Node}
use Rattle.lt_objectives.specs.Places.{sites_from}
use Rattle.lt_objectives.specs.Decisions.{Test}
use Rattle.lt_objectives.specs.Objectives.{decided_at}
use Rattle.lt_decisions.specs.Walk.{noted, noted_all}

-- the first of two that is there
abbrev or_else : Option ℕ → Option ℕ → Option ℕ
or_else None y = y
or_else (Some x) y = Some x

or_none : (x : Option ℕ) → or_else x None ≡ x
or_none None = refl
or_none (Some x) = refl

stays : (x : Option ℕ) (n : ℕ) (y : Option ℕ) → or_else (Some (unwrap_or x n)) y ≡ or_else x (Some n)
stays None n y = refl
stays (Some x) n y = refl

at_one : (found : List (Option ℕ)) (n decided i : ℕ) (rest : Option ℕ) (same : Bool) → i < length found → eqb n i ≡ same →
    or_else (get_or (noted found n decided) i None) rest ≡ or_else (get_or found i None) (cond same (Some decided) rest)
at_one found n decided i rest true inside e =
    let same : n ≡ i = eqb-true n i e in
    let written : get_or (noted found i decided) i None ≡ Some (unwrap_or (get_or found i None) decided) = get_or-set_same found i (Some (unwrap_or (get_or found i None) decided)) None inside in
    ap (λ k. or_else (get_or (noted found k decided) i None) rest) same ∙ ap (λ x. or_else x rest) written ∙ stays (get_or found i None) decided rest
at_one found n decided i rest false inside e =
    let other : i ≢ n = λ same. false≢true (sym e ∙ eq-eqb n i (sym same)) in
    ap (λ x. or_else x rest) (get_or-set_other found n i (Some (unwrap_or (get_or found n None) decided)) None other)

length-noted_all : (found : List (Option ℕ)) (tests : List Test) → length (noted_all found tests) ≡ length found
length-noted_all found [] = refl
length-noted_all found (it ∷ rest) =
    length-noted_all (noted found it.core.number it.decided) rest ∙ length-set found it.core.number (Some (unwrap_or (get_or found it.core.number None) it.decided))

read : (found : List (Option ℕ)) (tests : List Test) (i : ℕ) → i < length found → get_or (noted_all found tests) i None ≡ or_else (get_or found i None) (decided_at tests i)
read found [] i inside = sym (or_none (get_or found i None))
read found (it ∷ rest) i inside =
    let next = noted found it.core.number it.decided in
    let same : length next ≡ length found = length-set found it.core.number (Some (unwrap_or (get_or found it.core.number None) it.decided)) in
    read next rest i (omega arith) ∙ at_one found it.core.number it.decided i (decided_at rest i) (eqb it.core.number i) inside refl

at_number : (tests : List Test) (k i : ℕ) (list : List Node) → i < length list → get_or (map (λ site. decided_at tests site.number) (sites_from k list)) i None ≡ decided_at tests (k + i)
at_number tests k i [] inside = absurd (omega arith)
at_number tests k zero (x ∷ list) inside = let none : k ≡ k + 0 = omega arith in ap (decided_at tests) none
at_number tests k (suc i) (x ∷ list) inside =
    let next : k + 1 + i ≡ k + suc i = omega arith in
    at_number tests (k + 1) i list (omega arith) ∙ ap (decided_at tests) next

pub length-sites_from : (k : ℕ) (list : List Node) → length (sites_from k list) ≡ length list
length-sites_from k [] = refl
length-sites_from k (x ∷ list) = ap suc (length-sites_from (k + 1) list)

pub noted_is : (tests : List Test) (list : List Node) → noted_all (replicate (length list) None) tests ≡ map (λ site. decided_at tests site.number) (sites_from 0 list)
noted_is tests list =
    let nothing : List (Option ℕ) = replicate (length list) None in
    let start : length nothing ≡ length list = length-replicate (length list) None in
    let all : length (noted_all nothing tests) ≡ length list = length-noted_all nothing tests ∙ start in
    ext_get_or None (noted_all nothing tests) (map (λ site. decided_at tests site.number) (sites_from 0 list))
    (all ∙ sym (length-map (sites_from 0 list) (λ site. decided_at tests site.number) ∙ length-sites_from 0 list))
    (λ i inside.
    let here : i < length list = omega arith in
    let zero_is : 0 + i ≡ i = omega arith in
    read nothing tests i (omega arith) ∙ ap (λ x. or_else x (decided_at tests i)) (get_or-replicate (length list) i None None here)
    ∙ sym (at_number tests 0 i list here ∙ ap (decided_at tests) zero_is))

pub noted_both : (found : List (Option ℕ)) (xs ys : List Test) → noted_all found (xs ++ ys) ≡ noted_all (noted_all found xs) ys
noted_both found [] ys = refl
noted_both found (it ∷ xs) ys = noted_both (noted found it.core.number it.decided) xs ys
