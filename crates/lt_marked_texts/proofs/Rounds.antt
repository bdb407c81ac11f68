-- The marks of a criterion's objectives fit the nodes of the unit, and have good words where their ids are small.
use Rattle.std.proofs.Common.{◌≡◌, ℕ, suc, ◌+◌, ◌≤◌, ◌^◌, true, eqb, List, [], ◌∷◌, ◌++◌, Some, refl, sym, ap, ◌∙◌, subst, arith}
use Rattle.std.specs.Prelude.{◌&&◌, slice_get}
use Rattle.std.specs.List.{All, flat_map}
use Rattle.std.proofs.lemmas.Bool.{and_parts, eqb-true}
use Rattle.lt_tree.specs.Tree as c
use Rattle.lt_tree.specs.Nodes.{Node, an_external, an_expression, nodes}
use Rattle.lt_tree.specs.Typing.Programs.{Program}
use Rattle.lt_objectives.specs.declared.criteria.Criterion.{Criterion}
use Rattle.lt_objectives.specs.Places.{sites_from}
use Rattle.lt_objectives.specs.Objectives.{Form, at_start, in_front, around, Objective, objectives, at_node}
use Rattle.lt_objectives.specs.Marked.{ids_of, numbered, next_id, same_form}
use Rattle.lt_print.proofs.CuttingQuotes.{IsByte}
use Rattle.lt_marked_texts.proofs.Fitting.{Made, MadeAtStart, AreMade, FitsNode, Fits}
use Rattle.lt_marked_texts.proofs.NewMarks.{AreWords}
use Rattle.lt_marked_texts.proofs.Decimals.{decimal_constant}
use Rattle.lt_marked_texts.proofs.Objectives.{Fitting, surrounds, precedes, begins, AllFitting, Begin, at_fitting}

-- ---- sites

-- the nodes that begin at this number of a list
abbrev pub Continue : List Node → ℕ → List Node → Type 0
Continue whole i nodes = (j : ℕ) → slice_get nodes j ≡ slice_get whole (i + j)

pub first_of : (whole : List Node) (i : ℕ) (node : Node) (rest : List Node) → Continue whole i (node ∷ rest) → slice_get whole i ≡ Some node
first_of whole i node rest on = let e : i ≡ i + 0 = omega arith in ap (slice_get whole) e ∙ sym (on 0)

pub rest_of : (whole : List Node) (i : ℕ) (node : Node) (rest : List Node) → Continue whole i (node ∷ rest) → Continue whole (i + 1) rest
rest_of whole i node rest on = λ j. (let e : i + suc j ≡ i + 1 + j = omega arith in on (suc j) ∙ ap (slice_get whole) e)

-- ---- marks and nodes

same_forms : (a b : Form) → same_form a b ≡ true → a ≡ b
same_forms at_start at_start h = refl
same_forms in_front in_front h = refl
same_forms around around h = refl
same_forms at_start in_front h = absurd cc
same_forms at_start around h = absurd cc
same_forms in_front at_start h = absurd cc
same_forms in_front around h = absurd cc
same_forms around at_start h = absurd cc
same_forms around in_front h = absurd cc

-- a mark of this form at this place has such a predicate
abbrev Here : (c.Expression → Type 0) → Form → ℕ → Objective → Type 0
Here P form k it = (same_form form it.form && eqb it.place k) ≡ true → P it.predicate

abbrev AllHere : (c.Expression → Type 0) → Form → ℕ → List Objective → Type 0
AllHere P form k [] = Unit {0}
AllHere P form k (it ∷ rest) = Here P form k it × AllHere P form k rest

both_here : (P : c.Expression → Type 0) (form : Form) (k : ℕ) (xs ys : List Objective) → AllHere P form k xs → AllHere P form k ys → AllHere P form k (xs ++ ys)
both_here P form k [] ys a b = b
both_here P form k (x ∷ xs) ys a b = (a.0, both_here P form k xs ys a.1 b)

numbered_made : (P : c.Expression → Type 0) (form : Form) (k : ℕ) (os : List Objective) (id : ℕ) → AllHere P form k os → AreMade P form (numbered id os) k
numbered_made P form k [] id all = tt
numbered_made P form k (it ∷ rest) id all = (all.0, numbered_made P form k rest (id + ids_of it.form) all.1)

same_expression : (x y : c.Expression) → an_expression x ≡ an_expression y → x ≡ y
same_expression x y e = cc

same_specifiers : (s t : c.Specifiers) (d f : c.Declarator) (b x : c.Items) → an_external (c.Defines s d b) ≡ an_external (c.Defines t f x) → s ≡ t
same_specifiers s t d f b x e = cc

same_declarator : (s t : c.Specifiers) (d f : c.Declarator) (b x : c.Items) → an_external (c.Defines s d b) ≡ an_external (c.Defines t f x) → d ≡ f
same_declarator s t d f b x e = cc

-- what a mark of the node with the first number is at the second
front_one : (j k : ℕ) (from : Node) (e : c.Expression) (it : Objective) → Fitting j from it → (j ≡ k → from ≡ an_expression e) → Here (Made e) in_front k it
front_one j k from e it (surrounds f) one h =
    let form : in_front ≡ it.form = same_forms in_front it.form (and_parts (same_form in_front it.form) (eqb it.place k) h).0 in
    let other : in_front ≡ around = form ∙ f in absurd cc
front_one j k from e it (precedes x is f at made) one h =
    let place : it.place ≡ k = eqb-true it.place k (and_parts (same_form in_front it.form) (eqb it.place k) h).1 in
    let same : x ≡ e = same_expression x e (sym is ∙ one (sym at ∙ place)) in
    subst (λ (y : c.Expression). Made y it.predicate) same made
front_one j k from e it (begins s d body is f at made) one h =
    let form : in_front ≡ it.form = same_forms in_front it.form (and_parts (same_form in_front it.form) (eqb it.place k) h).0 in
    let other : in_front ≡ at_start = form ∙ f in absurd cc

start_one : (j k : ℕ) (from : Node) (s : c.Specifiers) (d : c.Declarator) (body : c.Items) (it : Objective) → Fitting j from it → (j ≡ k → from ≡ an_external (c.Defines s d body)) → Here (MadeAtStart s d) at_start k it
start_one j k from s d body it (surrounds f) one h =
    let form : at_start ≡ it.form = same_forms at_start it.form (and_parts (same_form at_start it.form) (eqb it.place k) h).0 in
    let other : at_start ≡ around = form ∙ f in absurd cc
start_one j k from s d body it (precedes x is f at made) one h =
    let form : at_start ≡ it.form = same_forms at_start it.form (and_parts (same_form at_start it.form) (eqb it.place k) h).0 in
    let other : at_start ≡ in_front = form ∙ f in absurd cc
start_one j k from s d body it (begins t x b is f at made) one h =
    let place : it.place ≡ k = eqb-true it.place k (and_parts (same_form at_start it.form) (eqb it.place k) h).1 in
    let same : an_external (c.Defines t x b) ≡ an_external (c.Defines s d body) = sym is ∙ one (sym at ∙ place) in
    subst (λ (y : c.Specifiers). MadeAtStart y d it.predicate) (same_specifiers t s x d b body same)
    (subst (λ (y : c.Declarator). MadeAtStart t y it.predicate) (same_declarator t s x d b body same) made)

front_all : (j k : ℕ) (from : Node) (e : c.Expression) (os : List Objective) → AllFitting j from os → (j ≡ k → from ≡ an_expression e) → AllHere (Made e) in_front k os
front_all j k from e [] all one = tt
front_all j k from e (it ∷ rest) all one = (front_one j k from e it all.0.0 one, front_all j k from e rest all.1 one)

start_all : (j k : ℕ) (from : Node) (s : c.Specifiers) (d : c.Declarator) (body : c.Items) (os : List Objective) → AllFitting j from os → (j ≡ k → from ≡ an_external (c.Defines s d body))
    → AllHere (MadeAtStart s d) at_start k os
start_all j k from s d body [] all one = tt
start_all j k from s d body (it ∷ rest) all one = (start_one j k from s d body it all.0.0 one, start_all j k from s d body rest all.1 one)

some_node : (x y : Node) → Some x ≡ Some y → x ≡ y
some_node x y e = cc

one_node : (whole : List Node) (j k : ℕ) (x y : Node) → slice_get whole j ≡ Some x → slice_get whole k ≡ Some y → j ≡ k → x ≡ y
one_node whole j k x y a b e = some_node x y (sym a ∙ ap (slice_get whole) e ∙ b)

-- ---- all marks of a criterion

abbrev AreTags : List Objective → Type 0
AreTags [] = Unit {0}
AreTags (it ∷ rest) = All IsByte it.tag × AreTags rest

-- ids only grow
pub grows : (os : List Objective) (id : ℕ) → id ≤ next_id id os
grows [] id = omega arith
grows (it ∷ rest) id = let more = grows rest (id + ids_of it.form) in omega arith

module _ (unit : c.Unit) (program : Program) (criterion : Criterion) where
  -- what stands at the starts of bodies is good there
  abbrev pub BodiesBegin : Type 0
  BodiesBegin = (k : ℕ) (node : Node) → slice_get (nodes unit) k ≡ Some node → Begin unit program criterion (record { number = k; node = node })

  module _ (begin : BodiesBegin) where
    front_from : (k : ℕ) (e : c.Expression) → slice_get (nodes unit) k ≡ Some (an_expression e) → (rest : List Node) (i : ℕ) → Continue (nodes unit) i rest
        → AllHere (Made e) in_front k (flat_map (at_node unit program criterion) (sites_from i rest))
    front_from k e is [] i on = tt
    front_from k e is (node ∷ rest) i on =
        let first : slice_get (nodes unit) i ≡ Some node = first_of (nodes unit) i node rest on in
        both_here (Made e) in_front k (at_node unit program criterion (record { number = i; node = node })) (flat_map (at_node unit program criterion) (sites_from (i + 1) rest))
        (front_all i k node e (at_node unit program criterion (record { number = i; node = node })) (at_fitting unit program criterion i node (begin i node first)) (one_node (nodes unit) i k node (an_expression e) first is))
        (front_from k e is rest (i + 1) (rest_of (nodes unit) i node rest on))

    start_from : (k : ℕ) (s : c.Specifiers) (d : c.Declarator) (body : c.Items) → slice_get (nodes unit) k ≡ Some (an_external (c.Defines s d body)) → (rest : List Node) (i : ℕ) → Continue (nodes unit) i rest
        → AllHere (MadeAtStart s d) at_start k (flat_map (at_node unit program criterion) (sites_from i rest))
    start_from k s d body is [] i on = tt
    start_from k s d body is (node ∷ rest) i on =
        let first : slice_get (nodes unit) i ≡ Some node = first_of (nodes unit) i node rest on in
        both_here (MadeAtStart s d) at_start k (at_node unit program criterion (record { number = i; node = node })) (flat_map (at_node unit program criterion) (sites_from (i + 1) rest))
        (start_all i k node s d body (at_node unit program criterion (record { number = i; node = node })) (at_fitting unit program criterion i node (begin i node first))
        (one_node (nodes unit) i k node (an_external (c.Defines s d body)) first is))
        (start_from k s d body is rest (i + 1) (rest_of (nodes unit) i node rest on))

    whole_continues : Continue (nodes unit) 0 (nodes unit)
    whole_continues = λ j. (let e : j ≡ 0 + j = omega arith in ap (slice_get (nodes unit)) e)

    node_fits : (id k : ℕ) (node : Node) → slice_get (nodes unit) k ≡ Some node → FitsNode (numbered id (objectives unit program criterion)) k node
    node_fits id k (an_expression e) is = numbered_made (Made e) in_front k (objectives unit program criterion) id (front_from k e is (nodes unit) 0 whole_continues)
    node_fits id k (an_external (c.Defines s d body)) is =
        numbered_made (MadeAtStart s d) at_start k (objectives unit program criterion) id (start_from k s d body is (nodes unit) 0 whole_continues)
    node_fits id k node is = tt

    fits_from : (id : ℕ) (rest : List Node) (i : ℕ) → Continue (nodes unit) i rest → Fits (numbered id (objectives unit program criterion)) i rest
    fits_from id [] i on = tt
    fits_from id (node ∷ rest) i on = (node_fits id i node (first_of (nodes unit) i node rest on), fits_from id rest (i + 1) (rest_of (nodes unit) i node rest on))

    pub marks_fit : (id : ℕ) → Fits (numbered id (objectives unit program criterion)) 0 (nodes unit)
    marks_fit id = fits_from id (nodes unit) 0 whole_continues

    -- ---- words

    tags_joined : (xs ys : List Objective) → AreTags xs → AreTags ys → AreTags (xs ++ ys)
    tags_joined [] ys a b = b
    tags_joined (x ∷ xs) ys a b = (a.0, tags_joined xs ys a.1 b)

    tags_of_fitting : (k : ℕ) (node : Node) (os : List Objective) → AllFitting k node os → AreTags os
    tags_of_fitting k node [] all = tt
    tags_of_fitting k node (it ∷ rest) all = (all.0.1, tags_of_fitting k node rest all.1)

    tags_from : (rest : List Node) (i : ℕ) → Continue (nodes unit) i rest → AreTags (flat_map (at_node unit program criterion) (sites_from i rest))
    tags_from [] i on = tt
    tags_from (node ∷ rest) i on =
        tags_joined (at_node unit program criterion (record { number = i; node = node })) (flat_map (at_node unit program criterion) (sites_from (i + 1) rest))
        (tags_of_fitting i node (at_node unit program criterion (record { number = i; node = node })) (at_fitting unit program criterion i node (begin i node (first_of (nodes unit) i node rest on))))
        (tags_from rest (i + 1) (rest_of (nodes unit) i node rest on))

    words_from : (os : List Objective) (id : ℕ) → next_id id os ≤ 2 ^ 64 → AreTags os → AreWords (numbered id os)
    words_from [] id small tags = tt
    words_from (it ∷ rest) id small tags =
        let more : id + ids_of it.form ≤ next_id (id + ids_of it.form) rest = grows rest (id + ids_of it.form) in (
          record { id = decimal_constant id (omega arith); next = decimal_constant (suc id) (omega arith); tag = tags.0 },
          words_from rest (id + ids_of it.form) small tags.1,
        )

    pub marks_have_words : (id : ℕ) → next_id id (objectives unit program criterion) ≤ 2 ^ 64 → AreWords (numbered id (objectives unit program criterion))
    marks_have_words id small = words_from (objectives unit program criterion) id small (tags_from (nodes unit) 0 whole_continues)
