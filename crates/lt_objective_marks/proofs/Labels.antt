-- The new labels in front of an expression, and the new `pc_decide` around it.
use Rattle.std.proofs.Common.{◌≡◌, ◌⊎◌, inl, inr, refl, sym, ap, ◌∙◌, subst, ℕ, ◌+◌, ◌<◌, ◌≤◌, List, [], ◌∷◌, ◌++◌, length, Bool, true, false, not, arith}
use Rattle.std.proofs.lemmas.Bool.{false≢true, and_parts}
use Rattle.lt_tree.specs.Tree as c
use Rattle.lt_tree.specs.Erasure.{erased}
use Rattle.lt_tree.specs.Purity.{is_pure}
use Rattle.lt_tree.specs.Typing.Types.{is_scalar}
use Rattle.lt_tree.specs.Typing.Entities.{Known}
use Rattle.lt_tree.specs.Typing.Expressions.{Use, as_value, own_type}
use Rattle.lt_tree.specs.Typing.Programs.{Program}
use Rattle.lt_objectives.specs.declared.criteria.Criterion.{Criterion}
use Rattle.lt_objectives.specs.Places.{part, core}
use Rattle.lt_objectives.specs.Copies.{is_core, hides, is_pure_without_marks, all_nodes_fit}
use Rattle.lt_objectives.specs.Objectives.{in_front, Objective, objective, all_at, at_expression, objectives}
use Rattle.lt_objectives.specs.Marked.{NewMark, numbered, next_id, labels, decided}
use Rattle.lt_objective_places.specs.Stands.{IsAmong, IsWithin, Role, IsNoTest, MayStand}
use Rattle.lt_objective_places.specs.Pieces.{an_expression, IsIn}
use Rattle.lt_objective_places.specs.Laws.{AreTogether, LabelsAreOf}
use Rattle.lt_objective_places.proofs.Among.{in_first, in_second}
use Rattle.lt_mark_typing.specs.Beside.{is_used}
use Rattle.lt_mark_typing.specs.Placed.{AreNewLabels}
use Rattle.lt_objective_typing.specs.Laws.{ArePredicates, AreToldThere}
use Rattle.lt_erased_typing.specs.Literals.{NamesObjects}
use Rattle.lt_erased_typing.specs.Simple.{IsSimpleWith}
use Rattle.lt_erased_typing.specs.Erasable.{CanBeErasedWith}
use Rattle.lt_typed_nodes.specs.Coming.{ComesToIt}
use Rattle.lt_typed_nodes.specs.Reaching as place
use Rattle.lt_typed_nodes.specs.Reaching.{IsReached}
use Rattle.lt_objective_marks.specs.Settings.{marks_of, Setting, IsIdAt, AreUnused, AddsIdsOf}
use Rattle.lt_objective_marks.proofs.Given.{Given}
use Rattle.lt_objective_marks.proofs.Ids.{next_from, next_both, numbered_both, next_of_all, id_of_all}
use Rattle.lt_objective_marks.proofs.Ends.{and_left}
use Rattle.lt_objective_marks.proofs.Shapes as shapes
use Rattle.lt_objective_marks.proofs.Shapes.{Shape, shape}
use Rattle.lt_objective_marks.proofs.Predicates.{are_predicates}
use Rattle.lt_objective_marks.proofs.Told.{are_told}

pub not_used : (b : Bool) → (b ≡ true → ⊥) → b ≡ false
not_used true h = absurd (h refl)
not_used false h = refl

pub none_decided : (place k j : ℕ) (criterion : Criterion) (list : List c.Expression) (x : c.Expression) → decided (numbered j (all_at place in_front criterion list)) k x ≡ x
none_decided place k j criterion [] x = refl
none_decided place k j criterion (p ∷ ps) x = none_decided place k (j + 1) criterion ps x

pub core_is : (k : ℕ) (e : c.Expression) → is_core e ≡ true → core k e ≡ part k e
core_is k (c.Marked ms e) is = absurd (false≢true is)
core_is k (c.Decide e when_true when_false tag) is = absurd (false≢true is)
core_is k (c.After e id tag) is = absurd (false≢true is)
core_is k e is = refl

module _ (g : Given) {new : ℕ → Bool} {unit : c.Unit} {program : Program} {criterion : Criterion} {id : ℕ} (s : Setting new unit program criterion id) where
  abbrev pub marks : List NewMark
  marks = marks_of unit program criterion id

  -- ---- some objectives among all

  pub among_all : (these : List Objective) (t : AreTogether unit program criterion these) (o : Objective) → IsAmong o these → IsAmong o (objectives unit program criterion)
  among_all these t o h = subst (IsAmong o) (sym t.all) (in_second o t.before (these ++ t.behind) (in_first o these t.behind h))

  marks_are : (these : List Objective) (t : AreTogether unit program criterion these)
      → marks ≡ numbered id t.before ++ (numbered (next_id id t.before) these ++ numbered (next_id (next_id id t.before) these) t.behind)
  marks_are these t =
      ap (numbered id) t.all ∙ numbered_both id t.before (these ++ t.behind) ∙ ap (λ rest. numbered id t.before ++ rest) (numbered_both (next_id id t.before) these t.behind)

  pub id_among : (these : List Objective) (t : AreTogether unit program criterion these) (place n : ℕ) → IsIdAt (numbered (next_id id t.before) these) place n → IsIdAt marks place n
  id_among these t place n it = (
    it.0,
    subst (IsAmong it.0) (sym (marks_are these t))
        (in_second it.0 (numbered id t.before) _ (in_first it.0 (numbered (next_id id t.before) these) (numbered (next_id (next_id id t.before) these) t.behind) it.1)),
    it.2,
    it.3,
    it.4,
  )

  pub least_id : (these : List Objective) (t : AreTogether unit program criterion these) → id ≤ next_id id t.before
  least_id these t = next_from id t.before

  pub last_id : (these : List Objective) (t : AreTogether unit program criterion these) → next_id (next_id id t.before) these ≤ next_id id (objectives unit program criterion)
  last_id these t =
      let all : next_id id (objectives unit program criterion) ≡ next_id (next_id (next_id id t.before) these) t.behind =
      ap (next_id id) t.all ∙ next_both id t.before (these ++ t.behind) ∙ next_both (next_id id t.before) these t.behind in
      let more = next_from (next_id (next_id id t.before) these) t.behind in
      omega (arith, all, more)

  -- ---- labels

  new_labels : (k : ℕ) (ps : List c.Expression) (t : AreTogether unit program criterion (all_at k in_front criterion ps)) (known : Known) (used : List ℕ)
      → ((used : List ℕ) → ArePredicates new used known ps) → ((used : List ℕ) → AreToldThere new used known criterion ps) → AreUnused marks used k 1
      → (between : List ℕ) × AreNewLabels new used between known (labels in_front (numbered (next_id id t.before) (all_at k in_front criterion ps)) k) × AddsIdsOf marks used between k 1
  new_labels k ps t known used are told unused =
      let j = next_id id t.before in
      let low = least_id (all_at k in_front criterion ps) t in
      let high = last_id (all_at k in_front criterion ps) t in
      let count = next_of_all k in_front criterion refl j ps in
      let end : j + length ps ≤ next_id id (objectives unit program criterion) = omega (arith, high, count) in
      let first = s.first in
      let last = s.last in
      let at : (n : ℕ) → j ≤ n → n < j + length ps → IsIdAt marks k n = λ n from to. id_among (all_at k in_front criterion ps) t k n (id_of_all k in_front criterion refl j n ps from to) in
      let here : IsWithin k 1 k = (omega arith, omega arith) in
      let it = g.labels new used known in_front criterion k j ps refl are told (omega (arith, low, first)) (omega (arith, end, last))
      (λ n from to. (s.fresh n (omega (arith, low, from)) (omega (arith, end, to)), not_used (is_used n used) (λ is. unused n k is (at n from to) here))) in
      (it.0, it.1, λ n is. elim (it.2 n is) [ inl old ↦ inl old | inr r ↦ inr (k, at n r.0 r.1, here) ])

  -- No label is new in front of an expression, or such are whose objectives may stand there.
  pub data Labelled (used : List ℕ) (known : Known) (role : Role) (e : c.Expression) : Type 0 where
    unlabelled : labels in_front marks known.next ≡ c.no_marks → Labelled used known role e
    labelled : (between : List ℕ) → AreNewLabels new used between known (labels in_front marks known.next) → AddsIdsOf marks used between known.next 1
        → (it : Objective) → MayStand unit program criterion role known.next e it in_front → IsSimpleWith true known.frames e → Labelled used known role e

  module _ (role : Role) (e : c.Expression) (known : Known) (isin : IsIn unit known.next (an_expression role e)) where
    pub labels_of : LabelsAreOf unit program criterion in_front known.next id (at_expression unit program criterion known.next e)
    labels_of = ((g.one_node unit program criterion known.next id).0 role e (g.stand.2 unit known.next (an_expression role e) isin)).0

    pub own_labels : (taken : Use) → IsReached s.greatest s.model unit (place.an_expression taken e) known → (used : List ℕ) → ((it : Objective) → MayStand unit program criterion role known.next e it in_front
        → (there : ComesToIt program.facts known as_value e) × ((is_scalar (own_type there.found) ≡ true) ⊎ IsNoTest unit known.next))
        → AreUnused marks used known.next 1 → Labelled used known role e
    own_labels taken reached used comes unused = by (at_expression unit program criterion known.next e) (shape unit program criterion known.next e) refl
      where
        by : (list : List Objective) → Shape unit criterion known.next e list → at_expression unit program criterion known.next e ≡ list → Labelled used known role e
        by list shapes.nothing are =
            unlabelled (labels_of.labels_are ∙ ap (λ l. labels in_front (numbered (next_id id labels_of.together.before) l) known.next) are)
        by list (shapes.a_decision d) are =
            unlabelled (labels_of.labels_are ∙ ap (λ l. labels in_front (numbered (next_id id labels_of.together.before) l) known.next) are)
        by list (shapes.labels p ps copied) are =
            let o = objective known.next in_front criterion p in
            let here : IsAmong o (at_expression unit program criterion known.next e) = subst (IsAmong o) (sym are) (inl refl) in
            let all = among_all (at_expression unit program criterion known.next e) labels_of.together o here in
            let may = (g.may_stand unit program criterion known.next o all refl).0 role e isin in
            let there = comes o may in
            let alone : (is_pure_without_marks e ≡ true) × (all_nodes_fit unit known.next e ≡ true) = and_parts (is_pure_without_marks e) (all_nodes_fit unit known.next e) copied in
            let simple = g.simple s.greatest s.model unit taken e known reached alone.1 in
            let erasable : (NamesObjects known → CanBeErasedWith true as_value known e) = λ named. g.copies known there.0.behind e there.0.found named alone.0 simple there.0.goes in
            let them = subst (LabelsAreOf unit program criterion in_front known.next id) are labels_of in
            let pure = and_left (is_pure (erased e)) (not (hides e)) alone.0 in
            let found = new_labels known.next (p ∷ ps) them.together known used (are_predicates g s known e may.0 pure there.0 erasable there.1 (p ∷ ps) are)
            (λ used. are_told g s known e may.0 pure simple there.0 erasable used (p ∷ ps) are) unused in
            labelled found.0 (subst (AreNewLabels new used found.0 known) (sym them.labels_are) found.1) found.2 o may simple
