-- From an expression to its operands, one behind the other.
use Rattle.std.proofs.Common.{◌≡◌, inl, inr, refl, sym, ap, ◌∙◌, subst, ℕ, suc, ◌+◌, ◌<◌, ◌≤◌, List, [], ◌∷◌, length, drop, zero, Bool, true, false, arith}
use Rattle.lt_tree.specs.Tree as c
use Rattle.lt_tree.specs.Nodes.{Node, nodes, in_expression}
use Rattle.lt_tree.specs.Typing.Entities.{Known}
use Rattle.lt_tree.specs.Typing.Steps.{Outcome, Goes}
use Rattle.lt_tree.specs.Typing.Expressions.{Typed, Use, as_value, as_truth, as_place, as_callee}
use Rattle.lt_tree.specs.Typing.Operations.{counts_as_null}
use Rattle.lt_tree.specs.Typing.MarkRules.{is_truth}
use Rattle.lt_tree.specs.Typing.Programs.{Program}
use Rattle.lt_objectives.specs.declared.criteria.Criterion.{Criterion}
use Rattle.lt_objectives.specs.Objectives.{Objective}
use Rattle.lt_objectives.specs.Marked.{NewMark, numbered, within, with_marks}
use Rattle.lt_objective_places.specs.Stands.{Role}
use Rattle.lt_objective_places.specs.Pieces.{an_expression, IsIn}
use Rattle.lt_mark_typing.specs.Beside.{Position, in_use, in_test, use_of}
use Rattle.lt_mark_typing.specs.Placed.{AreOld, IsNoNull, AddsTo, AddsToParts, as_it_is, in_parts}
use Rattle.lt_mark_typing.proofs.Nodes.{old_first}
use Rattle.lt_typed_nodes.specs.Coming.{ComesToIt}
use Rattle.lt_objective_marks.specs.Settings.{Setting, AreUnused, AddsIdsOf, IsAdded, Fits, a_truth, a_value, a_switch, a_callee, a_place, a_marked_place}
use Rattle.lt_objective_marks.proofs.Given.{Given}
use Rattle.lt_objective_marks.proofs.Ids.{behind}
use Rattle.lt_objective_marks.proofs.Ends.{same_found, same_behind}
use Rattle.lt_objective_marks.proofs.Nulls.{IsNoTruth, null_erased, bare}
use Rattle.lt_objective_marks.proofs.Whole.{UnusedInside, AddsInside, new_marks, Here, Inside}

-- ---- ids

pub unused_of : (marks : List NewMark) (used : List ℕ) (k size j more : ℕ) → k < j → j + more ≤ k + size → UnusedInside marks used k size → AreUnused marks used j more
unused_of marks used k size j more first last unused = λ n place is at w.
    let low : j ≤ place = w.0 in
    let high : place < j + more = w.1 in
    unused n place is at (omega arith) (omega arith)

pub inside_of : (marks : List NewMark) (used after : List ℕ) (k size j more : ℕ) → k < j → j + more ≤ k + size → AddsIdsOf marks used after j more → AddsInside marks used after k size
inside_of marks used after k size j more first last adds = λ n is. elim (adds n is) [
  | inl old ↦ inl old
  | inr it ↦
      let low : j ≤ it.0 = it.2.0 in
      let high : it.0 < j + more = it.2.1 in
      inr (it.0, it.1, omega arith, omega arith)
]

then_inside : (marks : List NewMark) (used between after : List ℕ) (k size : ℕ) → AddsInside marks used between k size → AddsInside marks between after k size → AddsInside marks used after k size
then_inside marks used between after k size first second = λ n is. elim (second n is) [ inl old ↦ first n old | inr it ↦ inr it ]

-- two parts, one behind the other
pub record Two (marks : List NewMark) (used : List ℕ) (k size : ℕ) (F : List ℕ → Type 0) (G : List ℕ → List ℕ → Type 0) : Type 0 where
  pub between : List ℕ
  pub after : List ℕ
  pub first : F between
  pub second : G between after
  pub ids : AddsInside marks used after k size

pub two : (id : ℕ) (them : List Objective) (used : List ℕ) (k size i more j others : ℕ) {F : List ℕ → Type 0} {G : List ℕ → List ℕ → Type 0} → k < i → i + more ≤ j → j + others ≤ k + size
    → UnusedInside (numbered id them) used k size → (AreUnused (numbered id them) used i more → IsAdded (numbered id them) used i more F)
    → ((between : List ℕ) → AreUnused (numbered id them) between j others → IsAdded (numbered id them) between j others (G between)) → Two (numbered id them) used k size F G
two id them used k size i more j others from order to unused f h =
    let a = f (unused_of (numbered id them) used k size i more from (omega arith) unused) in
    let b = h a.after (behind id them used a.after i more j others order a.ids (unused_of (numbered id them) used k size j others (omega arith) to unused)) in
    record {
      between = a.after;
      after = b.after;
      first = a.added;
      second = b.added;
      ids = then_inside (numbered id them) used a.after b.after k size (inside_of (numbered id them) used a.after k size i more from (omega arith) a.ids)
          (inside_of (numbered id them) a.after b.after k size j others (omega arith) to b.ids);
    }

-- ---- marks that were there

old_drop : (new : ℕ → Bool) (k : ℕ) (xs : List Node) → AreOld new xs → AreOld new (drop k xs)
old_drop new zero xs h = h
old_drop new (suc k) [] h = h
old_drop new (suc k) (x ∷ xs) h = old_drop new k xs h.1

-- what holds behind a part holds wherever it is said to go on
pub at_behind : {A : Type 0} {o : Outcome A} {a : A} {k : Known} → o ≡ Goes a k → (P : Known → Type 0) → P k → (x : A) (next : Known) → o ≡ Goes x next → P next
at_behind is P h x next goes = subst P (same_behind is goes) h

module _ (g : Given) {new : ℕ → Bool} {unit : c.Unit} {program : Program} {criterion : Criterion} {id : ℕ} (s : Setting new unit program criterion id) where
  pub old_here : {role : Role} (k : ℕ) (e : c.Expression) → IsIn unit k (an_expression role e) → AreOld new (in_expression e)
  old_here {role} k e isin =
      let there = (g.stand.2 unit k (an_expression role e) isin).stand.there in
      old_first new (in_expression e) there.behind (subst (AreOld new) there.are (old_drop new k (nodes unit) s.old))

  -- the parts have their marks; in a null pointer constant there are none
  pub from_parts : (role : Role) (position : Position) (used after : List ℕ) (known : Known) (e : c.Expression) → Here g s role position known e
      → AddsToParts new position used after known e (within (new_marks g s) known.next e) → AddsInside (new_marks g s) used after known.next (length (in_expression e)) → Inside g s position used known e
  from_parts role position used after known e h parts ids = by position h.fits h.comes parts
    where
      no_truth : {role : Role} {taken : Use} → Fits role (in_use taken) → is_truth taken ≡ false → IsNoTruth role
      no_truth a_truth value = absurd cc
      no_truth a_value value = tt
      no_truth a_switch value = tt
      no_truth a_callee value = tt
      no_truth a_place value = tt
      no_truth a_marked_place value = tt

      no_null : (taken : Use) (x : Typed) → counts_as_null x ≡ false → IsNoNull (in_use taken) x
      no_null as_truth x is = tt
      no_null as_value x is = is
      no_null as_place x is = is
      no_null as_callee x is = is

      by_null : (taken : Use) → is_truth taken ≡ false → Fits role (in_use taken) → (comes : ComesToIt program.facts known taken e) → AddsToParts new (in_use taken) used after known e (within (new_marks g s) known.next e)
          → (b : Bool) → counts_as_null comes.found ≡ b → Inside g s (in_use taken) used known e
      by_null taken value fits comes parts false is =
          record { after = after; added = in_parts (λ x next goes. no_null taken x (ap counts_as_null (same_found goes comes.goes) ∙ is)) parts; ids = ids }
      by_null taken value fits comes parts true is =
          let null = null_erased comes.found (g.constants e taken known comes.behind comes.found comes.goes) is in
          let none = (bare g s e role (no_truth fits value) taken value known h.isin comes null).within in
          record {
            after = used;
            added = subst (λ x. AddsTo new (in_use taken) used used known e x) (sym none) (as_it_is (old_here known.next e h.isin));
            ids = λ n is. inl is;
          }

      by : (position : Position) → Fits role position → ComesToIt program.facts known (use_of position) e → AddsToParts new position used after known e (within (new_marks g s) known.next e)
          → Inside g s position used known e
      by in_test fits comes parts = record { after = after; added = in_parts (λ x next goes. tt) parts; ids = ids }
      by (in_use as_truth) fits comes parts = record { after = after; added = in_parts (λ x next goes. tt) parts; ids = ids }
      by (in_use as_value) fits comes parts = by_null as_value refl fits comes parts (counts_as_null comes.found) refl
      by (in_use as_place) fits comes parts = by_null as_place refl fits comes parts (counts_as_null comes.found) refl
      by (in_use as_callee) fits comes parts = by_null as_callee refl fits comes parts (counts_as_null comes.found) refl

  -- an expression that has no parts with marks
  pub as_it_stands : (role : Role) (position : Position) (used : List ℕ) (known : Known) (e : c.Expression) → Here g s role position known e → within (new_marks g s) known.next e ≡ e → Inside g s position used known e
  as_it_stands role position used known e h same = record {
    after = used;
    added = subst (λ x. AddsTo new position used used known e x) (sym same) (as_it_is (old_here known.next e h.isin));
    ids = λ n is. inl is;
  }

  pub moved_to : (position : Position) (used : List ℕ) (known : Known) (e : c.Expression) (k : ℕ) → known.next ≡ k
      → IsAdded (new_marks g s) used known.next (length (in_expression e)) (λ after. AddsTo new position used after known e (with_marks (new_marks g s) known.next e))
      → IsAdded (new_marks g s) used k (length (in_expression e)) (λ after. AddsTo new position used after known e (with_marks (new_marks g s) k e))
  moved_to position used known e k is it =
      subst (λ n. IsAdded (new_marks g s) used n (length (in_expression e)) (λ after. AddsTo new position used after known e (with_marks (new_marks g s) n e))) is it
