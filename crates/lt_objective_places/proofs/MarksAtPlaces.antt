-- Marks at a place among those of other objectives.
use Rattle.std.proofs.Common.{◌≡◌, inl, inr, refl, ap, ◌∙◌, ℕ, suc, ◌+◌, List, [], ◌∷◌, ◌++◌, Bool, true, false, ◌&&◌, if◌then◌else◌, eqb}
use Rattle.std.specs.Fmt.{decimal}
use Rattle.std.proofs.lemmas.Bool.{eqb-true}
use Rattle.lt_tree.specs.Tree as c
use Rattle.lt_objectives.specs.Objectives.{Form, at_start, in_front, around, Objective}
use Rattle.lt_objectives.specs.Marked.{numbered, next_id, ids_of, same_form, is_there, labels, decided}
use Rattle.lt_objective_places.specs.Stands.{IsAmong}

-- none of these has this form and this place
abbrev pub HasNoneAt : Form → ℕ → List Objective → Type 0
HasNoneAt form k them = (o : Objective) → IsAmong o them → o.form ≡ form → o.place ≡ k → ⊥

same_form_is : (f g : Form) → same_form f g ≡ true → g ≡ f
same_form_is at_start at_start is = refl
same_form_is in_front in_front is = refl
same_form_is around around is = refl
same_form_is at_start in_front is = absurd cc
same_form_is at_start around is = absurd cc
same_form_is in_front at_start is = absurd cc
same_form_is in_front around is = absurd cc
same_form_is around at_start is = absurd cc
same_form_is around in_front is = absurd cc

not_there : (form : Form) (k : ℕ) (o : Objective) (a b : Bool) → same_form form o.form ≡ a → eqb o.place k ≡ b → (o.form ≡ form → o.place ≡ k → ⊥) → (a && b) ≡ false
not_there form k o true true is here none = absurd (none (same_form_is form o.form is) (eqb-true o.place k here))
not_there form k o true false is here none = refl
not_there form k o false b is here none = refl

is_not_there : (form : Form) (k id : ℕ) (o : Objective) → (o.form ≡ form → o.place ≡ k → ⊥) → is_there form k (record { objective = o; id = id }) ≡ false
is_not_there form k id o none = not_there form k o (same_form form o.form) (eqb o.place k) refl refl none

-- labels behind such, and before them
labels_behind : (form : Form) (k id : ℕ) (before rest : List Objective) → HasNoneAt form k before → labels form (numbered id (before ++ rest)) k ≡ labels form (numbered (next_id id before) rest) k
labels_behind form k id [] rest none = refl
labels_behind form k id (o ∷ before) rest none =
    let others = labels form (numbered (id + ids_of o.form) (before ++ rest)) k in
    ap (λ b. if b then c.a_mark (c.mark o.predicate (decimal id) o.tag c.no_bindings) others else others) (is_not_there form k id o (none o (inl refl)))
    ∙ labels_behind form k (id + ids_of o.form) before rest (λ p h. none p (inr h))

pub no_labels : (form : Form) (k id : ℕ) (them : List Objective) → HasNoneAt form k them → labels form (numbered id them) k ≡ c.no_marks
no_labels form k id [] none = refl
no_labels form k id (o ∷ rest) none =
    let others = labels form (numbered (id + ids_of o.form) rest) k in
    ap (λ b. if b then c.a_mark (c.mark o.predicate (decimal id) o.tag c.no_bindings) others else others) (is_not_there form k id o (none o (inl refl)))
    ∙ no_labels form k (id + ids_of o.form) rest (λ p h. none p (inr h))

labels_before : (form : Form) (k id : ℕ) (here behind : List Objective) → HasNoneAt form k behind → labels form (numbered id (here ++ behind)) k ≡ labels form (numbered id here) k
labels_before form k id [] behind none = no_labels form k id behind none
labels_before form k id (o ∷ here) behind none =
    ap (λ others. if is_there form k (record { objective = o; id = id }) then c.a_mark (c.mark o.predicate (decimal id) o.tag c.no_bindings) others else others)
    (labels_before form k (id + ids_of o.form) here behind none)

-- the same of what is decided
decided_behind : (k id : ℕ) (e : c.Expression) (before rest : List Objective) → HasNoneAt around k before → decided (numbered id (before ++ rest)) k e ≡ decided (numbered (next_id id before) rest) k e
decided_behind k id e [] rest none = refl
decided_behind k id e (o ∷ before) rest none =
    let others = decided (numbered (id + ids_of o.form) (before ++ rest)) k e in
    ap (λ b. if b then c.Decide others (decimal id) (decimal (suc id)) o.tag else others) (is_not_there around k id o (none o (inl refl)))
    ∙ decided_behind k (id + ids_of o.form) e before rest (λ p h. none p (inr h))

pub not_decided : (k id : ℕ) (e : c.Expression) (them : List Objective) → HasNoneAt around k them → decided (numbered id them) k e ≡ e
not_decided k id e [] none = refl
not_decided k id e (o ∷ rest) none =
    let others = decided (numbered (id + ids_of o.form) rest) k e in
    ap (λ b. if b then c.Decide others (decimal id) (decimal (suc id)) o.tag else others) (is_not_there around k id o (none o (inl refl)))
    ∙ not_decided k (id + ids_of o.form) e rest (λ p h. none p (inr h))

decided_before : (k id : ℕ) (e : c.Expression) (here behind : List Objective) → HasNoneAt around k behind → decided (numbered id (here ++ behind)) k e ≡ decided (numbered id here) k e
decided_before k id e [] behind none = not_decided k id e behind none
decided_before k id e (o ∷ here) behind none =
    ap (λ others. if is_there around k (record { objective = o; id = id }) then c.Decide others (decimal id) (decimal (suc id)) o.tag else others) (decided_before k (id + ids_of o.form) e here behind none)

-- so those of one part of a list are all that are there
pub labels_of_part : (form : Form) (k id : ℕ) (before here behind : List Objective) → HasNoneAt form k before → HasNoneAt form k behind
    → labels form (numbered id (before ++ (here ++ behind))) k ≡ labels form (numbered (next_id id before) here) k
labels_of_part form k id before here behind first last = labels_behind form k id before (here ++ behind) first ∙ labels_before form k (next_id id before) here behind last

pub decided_of_part : (k id : ℕ) (e : c.Expression) (before here behind : List Objective) → HasNoneAt around k before → HasNoneAt around k behind
    → decided (numbered id (before ++ (here ++ behind))) k e ≡ decided (numbered (next_id id before) here) k e
decided_of_part k id e before here behind first last = decided_behind k id e before (here ++ behind) first ∙ decided_before k (next_id id before) e here behind last
