-- Facts and functions by the places of their nodes.
use Rattle.std.proofs.Common.{◌≡◌, ℕ, length, subst, suc, Bool, true, false, cond, eqb, List, [], ◌∷◌, map, Option, Some, None, refl, sym, ap, ◌∙◌}
use Rattle.std.specs.Prelude.{option_map}
use Rattle.std.proofs.lemmas.List.{length-map}
use Rattle.std.proofs.lemmas.Simd.{map-map}
use Rattle.lt_model.specs.declared.scalar.DataModel.{DataModel}
use Rattle.lt_tree.specs.Tree as c
use Rattle.lt_tree.specs.Typing.Types.{CType, Void}
use Rattle.lt_tree.specs.Typing.Constants.{is_number}
use Rattle.lt_tree.specs.Typing.Entities.{Fact, Function}
use Rattle.lt_tree.specs.Typing.Programs.{Program}
use Rattle.lt_objectives.specs.Places.{sites, corresponding_node, fact_among, fact_at, type_at, is_constant}
use Rattle.lt_objectives.specs.Objectives.{parameters_at, parameters_among}
use Rattle.lt_facts.specs.Numbers.{own_numbers}
use Rattle.lt_facts.specs.Indices.{first_place, place_among, at_place, AreIndicesBelow}
use Rattle.lt_facts.specs.Families.{family}
use Rattle.lt_facts.specs.Facts.{AreFactIndices, AreFunctionIndices, parameters_of, constants, families, is_constant_fact, type_of_fact}
use Rattle.lt_facts.proofs.Maps.{same_maps}
use Rattle.lt_facts.proofs.FirstPlaces.{places_below}

-- ---- the first with a node

behind : {A : Type 0} (b : Bool) (a : A) (list : List A) (place : Option ℕ) → at_place (a ∷ list) (cond b (Some 0) (option_map suc place)) ≡ cond b (Some a) (at_place list place)
behind true a list place = refl
behind false a list None = refl
behind false a list (Some k) = refl

first_fact : (facts : List Fact) (n : ℕ) → at_place facts (first_place n (map (λ fact. fact.node) facts)) ≡ fact_among facts n
first_fact [] n = refl
first_fact (fact ∷ facts) n =
    behind (eqb fact.node n) fact facts (first_place n (map (λ fact. fact.node) facts)) ∙ ap (cond (eqb fact.node n) (Some fact)) (first_fact facts n)

chosen : (b : Bool) (f : Function) (found : Option Function) → parameters_of (cond b (Some f) found) ≡ cond b f.parameters (parameters_of found)
chosen true f found = refl
chosen false f found = refl

first_function : (functions : List Function) (n : ℕ) → parameters_of (at_place functions (first_place n (map (λ f. f.node) functions))) ≡ parameters_among functions n
first_function [] n = refl
first_function (f ∷ functions) n =
    ap parameters_of (behind (eqb f.node n) f functions (first_place n (map (λ f. f.node) functions)))
    ∙ chosen (eqb f.node n) f (at_place functions (first_place n (map (λ f. f.node) functions)))
    ∙ ap (cond (eqb f.node n) f.parameters) (first_function functions n)

-- ---- of a number

fact_of_number : (facts : List Fact) (number : Option ℕ)
    → at_place facts (place_among (map (λ fact. fact.node) facts) number) ≡ elim number as (λ _. Option Fact) [ None ↦ None | Some n ↦ fact_among facts n ]
fact_of_number facts None = refl
fact_of_number facts (Some n) = first_fact facts n

function_of_number : (functions : List Function) (number : Option ℕ)
    → parameters_of (at_place functions (place_among (map (λ f. f.node) functions) number)) ≡ elim number as (λ _. List ℕ) [ None ↦ [] | Some n ↦ parameters_among functions n ]
function_of_number functions None = refl
function_of_number functions (Some n) = first_function functions n

-- ---- of all

pub fact_indices_are : (unit : c.Unit) (program : Program) (nodes : List ℕ) (numbers indices : List (Option ℕ)) → nodes ≡ map (λ fact. fact.node) program.facts → indices ≡ map (place_among nodes) numbers
    → numbers ≡ own_numbers unit program → AreFactIndices unit program indices
fact_indices_are unit program nodes numbers indices node index number =
    ap (map (at_place program.facts)) (index ∙ ap (λ ns. map (place_among ns) numbers) node ∙ ap (map (place_among (map (λ fact. fact.node) program.facts))) number)
    ∙ map-map (at_place program.facts) (place_among (map (λ fact. fact.node) program.facts)) (own_numbers unit program)
    ∙ map-map (λ number. at_place program.facts (place_among (map (λ fact. fact.node) program.facts) number)) (λ site. corresponding_node unit program site.number) (sites unit)
    ∙ same_maps (λ site. at_place program.facts (place_among (map (λ fact. fact.node) program.facts) (corresponding_node unit program site.number))) (λ site. fact_at unit program site.number)
    (λ site. fact_of_number program.facts (corresponding_node unit program site.number)) (sites unit)

pub function_indices_are : (unit : c.Unit) (program : Program) (nodes : List ℕ) (numbers indices : List (Option ℕ)) → nodes ≡ map (λ f. f.node) program.functions
    → indices ≡ map (place_among nodes) numbers → numbers ≡ own_numbers unit program → AreFunctionIndices unit program indices
function_indices_are unit program nodes numbers indices node index number =
    let found = λ (index : Option ℕ). parameters_of (at_place program.functions index) in
    ap (map found) (index ∙ ap (λ ns. map (place_among ns) numbers) node ∙ ap (map (place_among (map (λ f. f.node) program.functions))) number)
    ∙ map-map found (place_among (map (λ f. f.node) program.functions)) (own_numbers unit program)
    ∙ map-map (λ number. found (place_among (map (λ f. f.node) program.functions) number)) (λ site. corresponding_node unit program site.number) (sites unit)
    ∙ same_maps (λ site. found (place_among (map (λ f. f.node) program.functions) (corresponding_node unit program site.number))) (λ site. parameters_at unit program site.number)
    (λ site. function_of_number program.functions (corresponding_node unit program site.number)) (sites unit)

pub indices_below : {A : Type 0} (list : List A) (of : A → ℕ) (nodes : List ℕ) (numbers indices : List (Option ℕ)) → nodes ≡ map of list → indices ≡ map (place_among nodes) numbers
    → AreIndicesBelow (length list) indices
indices_below list of nodes numbers indices node index =
    subst (AreIndicesBelow (length list)) (sym index) (subst (λ count. AreIndicesBelow count (map (place_among nodes) numbers)) (ap length node ∙ length-map list of) (places_below nodes numbers))

-- ---- what facts say

constant_is : (found : Option Fact) → is_constant_fact found ≡ elim found as (λ _. Bool) [ None ↦ false | Some fact ↦ is_number fact.constancy ]
constant_is None = refl
constant_is (Some fact) = refl

type_is : (m : DataModel) (found : Option Fact) → family m (type_of_fact found) ≡ family m (elim found as (λ _. CType) [ None ↦ Void | Some fact ↦ fact.type ])
type_is m None = refl
type_is m (Some fact) = refl

of_facts : {B : Type 0} (unit : c.Unit) (program : Program) (indices : List (Option ℕ)) (of : Option Fact → B) → AreFactIndices unit program indices
    → map (λ index. of (at_place program.facts index)) indices ≡ map (λ site. of (fact_at unit program site.number)) (sites unit)
of_facts unit program indices of are =
    sym (map-map of (at_place program.facts) indices) ∙ ap (map of) are ∙ map-map of (λ site. fact_at unit program site.number) (sites unit)

pub constants_are : (unit : c.Unit) (program : Program) (indices : List (Option ℕ)) → AreFactIndices unit program indices
    → map (λ index. is_constant_fact (at_place program.facts index)) indices ≡ constants unit program
constants_are unit program indices are =
    of_facts unit program indices is_constant_fact are
    ∙ same_maps (λ site. is_constant_fact (fact_at unit program site.number)) (λ site. is_constant unit program site.number) (λ site. constant_is (fact_at unit program site.number)) (sites unit)

pub families_are : (unit : c.Unit) (program : Program) (indices : List (Option ℕ)) → AreFactIndices unit program indices
    → map (λ index. family program.model (type_of_fact (at_place program.facts index))) indices ≡ families unit program
families_are unit program indices are =
    of_facts unit program indices (λ found. family program.model (type_of_fact found)) are
    ∙ same_maps (λ site. family program.model (type_of_fact (fact_at unit program site.number))) (λ site. family program.model (type_at unit program site.number))
    (λ site. type_is program.model (fact_at unit program site.number)) (sites unit)
