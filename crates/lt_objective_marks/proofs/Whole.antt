-- An expression with its marks, once its parts have theirs.
use Rattle.std.proofs.Common.{◌≡◌, ◌⊎◌, inl, inr, refl, sym, ap, ◌∙◌, subst, ℕ, suc, ◌+◌, ◌<◌, ◌≤◌, List, ◌∷◌, length, Bool, true, false, arith}
use Rattle.std.specs.Fmt.{decimal}
use Rattle.lt_tree.specs.Tree as c
use Rattle.lt_tree.specs.Nodes.{in_expression}
use Rattle.lt_tree.specs.Typing.Types.{is_scalar, is_integer}
use Rattle.lt_tree.specs.Typing.MarkRules.{number_of_id, is_truth}
use Rattle.lt_tree.specs.Typing.Entities.{Known, Fact, greatest_label_id}
use Rattle.lt_tree.specs.Typing.Steps.{Goes}
use Rattle.lt_tree.specs.Typing.Expressions.{Typed, Use, as_value, as_truth, as_place, as_callee, own_type, has_pointer_to_function}
use Rattle.lt_tree.specs.Typing.Operations.{counts_as_null}
use Rattle.lt_tree.specs.Typing.ExpressionTyping.{expression}
use Rattle.lt_tree.specs.Typing.Programs.{Program}
use Rattle.lt_objectives.specs.declared.criteria.Criterion.{Criterion}
use Rattle.lt_objectives.specs.Criteria.{tag_of}
use Rattle.lt_objectives.specs.Copies.{is_core}
use Rattle.lt_objectives.specs.Objectives.{in_front, Objective, objectives}
use Rattle.lt_objectives.specs.Marked.{NewMark, labels, decided, preceded_by, within, with_marks}
use Rattle.lt_objective_places.specs.Stands.{IsAmong, IsWithin, Role, IsNoTest, MayStand}
use Rattle.lt_objective_places.specs.Stands as stands
use Rattle.lt_objective_places.specs.Pieces.{an_expression, IsIn}
use Rattle.lt_mark_typing.specs.Beside.{is_used, Position, in_use, in_test, use_of}
use Rattle.lt_mark_typing.specs.Placed.{AddsTo, AreNewLabels, IsNoNull, IsMarkable, is_good_type, takes_labels}
use Rattle.lt_mark_typing.specs.Placed as placed
use Rattle.lt_erased_typing.specs.Simple.{IsSimpleWith}
use Rattle.lt_typed_nodes.specs.Coming.{ComesTo, ComesToIt}
use Rattle.lt_typed_nodes.specs.Reaching as place
use Rattle.lt_typed_nodes.specs.Reaching.{IsReached}
use Rattle.lt_sites.proofs.Nodes.{expression_node}
use Rattle.lt_objective_marks.specs.Settings.{marks_of, Setting, IsIdAt, AreUnused, AddsIdsOf, IsAdded, Fits, a_test, a_truth, a_value, a_switch, a_callee, a_place, a_marked_place, IsTaken}
use Rattle.lt_objective_marks.proofs.Given.{Given}
use Rattle.lt_objective_marks.proofs.Ids.{one_place}
use Rattle.lt_objective_marks.proofs.Ends.{same_found, good_scalar, integer_is_scalar, integer_is_no_function}
use Rattle.lt_objective_marks.proofs.Values.{value_found}
use Rattle.lt_objective_marks.proofs.Made.{is_made_plainly, is_valued}
use Rattle.lt_objective_marks.proofs.Labels.{not_used, Labelled, unlabelled, labelled, own_labels}
use Rattle.lt_objective_marks.proofs.Nulls.{null_erased, bare}
use Rattle.lt_objective_marks.proofs.Decided.{two_ids, Around, undecided, decided_there, own_decision}

-- ---- ids inside

-- no id of a mark that stands inside is used
abbrev pub UnusedInside : List NewMark → (used : List ℕ) → (k size : ℕ) → Type 0
UnusedInside marks used k size = (n place : ℕ) → is_used n used ≡ true → IsIdAt marks place n → k < place → place < k + size → ⊥

abbrev pub AddsInside : List NewMark → (used after : List ℕ) → (k size : ℕ) → Type 0
AddsInside marks used after k size = (n : ℕ) → is_used n after ≡ true → (is_used n used ≡ true) ⊎ ((place : ℕ) × IsIdAt marks place n × (k < place) × (place < k + size))

pub inside_unused : (marks : List NewMark) (used : List ℕ) (k size : ℕ) → AreUnused marks used k size → UnusedInside marks used k size
inside_unused marks used k size unused = λ n place is at low high. unused n place is at (omega arith, high)

pub inside_added : (marks : List NewMark) (used after : List ℕ) (k size : ℕ) → AddsInside marks used after k size → AddsIdsOf marks used after k size
inside_added marks used after k size adds = λ n is. elim (adds n is) [
  | inl old ↦ inl old
  | inr it ↦ let low = it.2 in inr (it.0, it.1, (omega arith, it.3))
]

first_unused : (marks : List NewMark) (used : List ℕ) (k size : ℕ) → 1 ≤ size → AreUnused marks used k size → AreUnused marks used k 1
first_unused marks used k size some unused = λ n place is at w. let low : k ≤ place = w.0 in let high : place < k + 1 = w.1 in unused n place is at (omega arith, omega arith)

pub some_nodes : (e : c.Expression) → 1 ≤ length (in_expression e)
some_nodes e = omega (arith, ap length (expression_node e))

truth_of_value : Given → (facts : List Fact) (known : Known) (e : c.Expression) → is_core e ≡ true → ComesToIt facts known as_truth e → ComesToIt facts known as_value e
truth_of_value g facts known e core there = subst (ComesTo facts known) (g.truths known e core) there

module _ (g : Given) {new : ℕ → Bool} {unit : c.Unit} {program : Program} {criterion : Criterion} {id : ℕ} (s : Setting new unit program criterion id) where
  abbrev pub new_marks : List NewMark
  new_marks = marks_of unit program criterion id

  -- an expression where it stands
  pub record Here (role : Role) (position : Position) (known : Known) (e : c.Expression) : Type 0 where
    pub isin : IsIn unit known.next (an_expression role e)
    pub fits : Fits role position
    pub marked : known.is_unmarked ≡ false
    pub comes : ComesToIt program.facts known (use_of position) e
    pub reached : IsReached s.greatest s.model unit (place.an_expression (use_of position) e) known
    pub taken : IsTaken role position known e

  -- with the marks of its parts, but not its own
  pub record Inside (position : Position) (used : List ℕ) (known : Known) (e : c.Expression) : Type 0 where
    pub after : List ℕ
    pub added : AddsTo new position used after known e (within new_marks known.next e)
    pub ids : AddsInside new_marks used after known.next (length (in_expression e))

  abbrev pub Inner : c.Expression → Type 0
  Inner e = (role : Role) (position : Position) (used : List ℕ) (known : Known) → Here role position known e → UnusedInside new_marks used known.next (length (in_expression e)) → Inside position used known e

  -- labels that are new in front of it: none, or such as may stand there
  abbrev pub Stand : Role → Known → c.Expression → Type 0
  Stand role known e = (labels in_front new_marks known.next ≡ c.no_marks) ⊎ ((it : Objective) × MayStand unit program criterion role known.next e it in_front × IsSimpleWith true known.frames e)

  -- an expression whose labels are apart
  pub record Split (role : Role) (position : Position) (used : List ℕ) (known : Known) (e : c.Expression) : Type 0 where
    pub between : List ℕ
    pub labels : AreNewLabels new used between known (labels in_front new_marks known.next)
    pub stand : Stand role known e
    pub after : List ℕ
    pub added : AddsTo new position between after known e (decided new_marks known.next (within new_marks known.next e))
    pub ids : AddsIdsOf new_marks used after known.next (length (in_expression e))

  -- where a label may stand the expression is typed as a value; a test is a scalar
  comes_as_value : (role : Role) (position : Position) (known : Known) (e : c.Expression) → Here role position known e → (position ≡ in_use as_callee → ⊥) → (it : Objective)
      → MayStand unit program criterion role known.next e it in_front → (there : ComesToIt program.facts known as_value e) × ((is_scalar (own_type there.found) ≡ true) ⊎ IsNoTest unit known.next)
  comes_as_value role position known e h other it may = by h.fits h.comes h.taken other may
    where
      by : {role : Role} {position : Position} → Fits role position → ComesToIt program.facts known (use_of position) e → IsTaken role position known e → (position ≡ in_use as_callee → ⊥)
          → MayStand unit program criterion role known.next e it in_front → (there : ComesToIt program.facts known as_value e) × ((is_scalar (own_type there.found) ≡ true) ⊎ IsNoTest unit known.next)
      by a_test comes taken other may = let there = truth_of_value g program.facts known e may.0 comes in (there, inl (taken there.found there.behind (g.truths known e may.0 ∙ there.goes)))
      by a_truth comes taken other may = let there = truth_of_value g program.facts known e may.0 comes in (there, inl (taken there.found there.behind (g.truths known e may.0 ∙ there.goes)))
      by a_value comes taken other may = (comes, inr may.2.1)
      by a_switch comes taken other may = (truth_of_value g program.facts known e may.0 comes, inr may.2.1)
      by a_callee comes taken other may = absurd (other refl)
      by a_place comes taken other may = absurd may.2
      by a_marked_place comes taken other may = absurd may.2

  -- ---- the expression with its `pc_decide`

  only_test : {role : Role} {position : Position} → Fits role position → role ≡ stands.in_test → position ≡ in_test
  only_test a_test is = refl
  only_test a_truth is = absurd cc
  only_test a_value is = absurd cc
  only_test a_switch is = absurd cc
  only_test a_callee is = absurd cc
  only_test a_place is = absurd cc
  only_test a_marked_place is = absurd cc

  scalar_test : (role : Role) (position : Position) (known : Known) (e : c.Expression) → role ≡ stands.in_test → IsTaken role position known e
      → (x : Typed) (next : Known) → expression e as_truth known ≡ Goes x next → is_scalar (own_type x) ≡ true
  scalar_test role position known e is taken = subst (λ r. IsTaken r position known e) is taken

  decide_around : (role : Role) (position : Position) (used : List ℕ) (known : Known) (e : c.Expression) → Here role position known e → AreUnused new_marks used known.next (length (in_expression e))
      → (inside : Inside position used known e) → role ≡ stands.in_test → (j : ℕ)
      → ((x : c.Expression) → decided new_marks known.next x ≡ c.Decide x (decimal j) (decimal (suc j)) (tag_of criterion)) → 1 ≤ j → j + 2 ≤ suc greatest_label_id
      → ((n : ℕ) → j ≤ n → n < j + 2 → (new n ≡ true) × IsIdAt new_marks known.next n)
      → (after : List ℕ) × AddsTo new position used after known e (decided new_marks known.next (within new_marks known.next e)) × AddsIdsOf new_marks used after known.next (length (in_expression e))
  decide_around role position used known e h unused inside tested j are first last at =
      let some = some_nodes e in
      let here : IsWithin known.next (length (in_expression e)) known.next = (omega arith, omega (arith, some)) in
      let ids = two_ids g new criterion known inside.after j first last (λ n from to. (
        (at n from to).0,
        not_used (is_used n inside.after) (λ is. elim (inside.ids n is) [
          | inl old ↦ unused n known.next old (at n from to).1 here
          | inr it ↦ let low = it.2 in let same = one_place id (objectives unit program criterion) it.0 known.next n it.1 (at n from to).1 in omega (arith, low, same)
        ]),
      )) in
      let position_is = only_test h.fits tested in
      let decision : AddsTo new in_test used (number_of_id (decimal (suc j)) ∷ number_of_id (decimal j) ∷ inside.after) known e (c.Decide (within new_marks known.next e) (decimal j) (decimal (suc j)) (tag_of criterion)) =
      placed.around (λ x next is. (scalar_test role position known e tested h.taken x next is, g.unmarked.expression e as_truth known x next is ∙ h.marked)) ids.0 ids.1 ids.2
      (subst (λ p. AddsTo new p used inside.after known e (within new_marks known.next e)) position_is inside.added) in (
        number_of_id (decimal (suc j)) ∷ number_of_id (decimal j) ∷ inside.after,
        subst (λ x. AddsTo new position used (number_of_id (decimal (suc j)) ∷ number_of_id (decimal j) ∷ inside.after) known e x) (sym (are (within new_marks known.next e)))
            (subst (λ p. AddsTo new p used (number_of_id (decimal (suc j)) ∷ number_of_id (decimal j) ∷ inside.after) known e (c.Decide (within new_marks known.next e) (decimal j) (decimal (suc j)) (tag_of criterion))) (sym position_is) decision),
        λ n is. elim (ids.3 n is) [
          | inl old ↦ inside_added new_marks used inside.after known.next (length (in_expression e)) inside.ids n old
          | inr it ↦ inr (known.next, (at n it.0 it.1).1, here)
        ],
      )

  -- what was used for labels in front isn't used inside
  behind_labels : (used between : List ℕ) (k size : ℕ) → AreUnused new_marks used k size → AddsIdsOf new_marks used between k 1 → UnusedInside new_marks between k size
  behind_labels used between k size unused adds = λ n place is at low high. elim (adds n is) [
    | inl old ↦ unused n place old at (omega arith, high)
    | inr it ↦
        let same = one_place id (objectives unit program criterion) it.0 place n it.1 at in
        let most : it.0 < k + 1 = it.2.1 in
        omega (arith, same)
  ]

  all_ids : (used between after : List ℕ) (k size : ℕ) → 1 ≤ size → AddsIdsOf new_marks used between k 1 → AddsInside new_marks between after k size → AddsIdsOf new_marks used after k size
  all_ids used between after k size some first second = λ n is. elim (second n is) [
    | inl old ↦ elim (first n old) [
      | inl before ↦ inl before
      | inr it ↦
          let low : k ≤ it.0 = it.2.0 in
          let high : it.0 < k + 1 = it.2.1 in
          inr (it.0, it.1, (omega arith, omega arith))
    ]
    | inr it ↦ let low = it.2 in inr (it.0, it.1, (omega arith, it.3))
  ]

  -- ---- labels in front, apart from the rest

  pub split : (role : Role) (position : Position) (used : List ℕ) (known : Known) (e : c.Expression) → Here role position known e → (position ≡ in_use as_callee → ⊥) → Inner e
      → AreUnused new_marks used known.next (length (in_expression e)) → Split role position used known e
  split role position used known e h other inner unused =
      by_decision (own_decision g s role e known.next h.isin)
    where
      as_unlabelled : labels in_front new_marks known.next ≡ c.no_marks
          → (after : List ℕ) × AddsTo new position used after known e (decided new_marks known.next (within new_marks known.next e)) × AddsIdsOf new_marks used after known.next (length (in_expression e))
          → Split role position used known e
      as_unlabelled none it = record {
        between = used;
        labels = subst (AreNewLabels new used used known) (sym none) refl;
        stand = inl none;
        after = it.0;
        added = it.1;
        ids = it.2;
      }

      with_inside : (between : List ℕ) → ((x : c.Expression) → decided new_marks known.next x ≡ x) → Inside position between known e → (after : List ℕ)
          × AddsTo new position between after known e (decided new_marks known.next (within new_marks known.next e)) × AddsInside new_marks between after known.next (length (in_expression e))
      with_inside between none inside = (inside.after, subst (AddsTo new position between inside.after known e) (sym (none (within new_marks known.next e))) inside.added, inside.ids)

      by_labels : ((x : c.Expression) → decided new_marks known.next x ≡ x) → Labelled g s used known role e → Split role position used known e
      by_labels none (unlabelled bare) =
          let inside = with_inside used none (inner role position used known h (inside_unused new_marks used known.next (length (in_expression e)) unused)) in
          as_unlabelled bare (inside.0, inside.1, inside_added new_marks used inside.0 known.next (length (in_expression e)) inside.2)
      by_labels none (labelled between fresh ids it may simple) =
          let inside = with_inside between none (inner role position between known h (behind_labels used between known.next (length (in_expression e)) unused ids)) in
          record {
            between = between;
            labels = fresh;
            stand = inr (it, may, simple);
            after = inside.0;
            added = inside.1;
            ids = all_ids used between inside.0 known.next (length (in_expression e)) (some_nodes e) ids inside.2;
          }

      by_decision : Around g s known.next role e → Split role position used known e
      by_decision (undecided none) =
          by_labels none (own_labels g s role e known h.isin (use_of position) h.reached used (comes_as_value role position known e h other) (first_unused new_marks used known.next (length (in_expression e)) (some_nodes e) unused))
      by_decision (decided_there tested can bare j are first last at) =
          as_unlabelled bare (decide_around role position used known e h unused (inner role position used known h (inside_unused new_marks used known.next (length (in_expression e)) unused)) tested j are first last at)

  -- ---- with its labels

  -- a value that labels are in front of is an integer, which is neither a call's nor converted
  abbrev pub ValuesAreMarkable : Type 0
  ValuesAreMarkable = (known : Known) (e : c.Expression) (there : ComesToIt program.facts known as_value e) (it : Objective) → IsIn unit known.next (an_expression stands.as_value e)
      → MayStand unit program criterion stands.as_value known.next e it in_front → IsSimpleWith true known.frames e → (is_integer (own_type there.found) ≡ true) × (is_made_plainly e ≡ true)

  -- a value with labels in front of it is no null pointer constant
  not_null : (taken : Use) (known : Known) (e : c.Expression) → is_truth taken ≡ false → IsIn unit known.next (an_expression stands.as_value e) → (comes : ComesToIt program.facts known taken e)
      → (labels in_front new_marks known.next ≡ c.no_marks → ⊥) → (b : Bool) → counts_as_null comes.found ≡ b → b ≡ false
  not_null taken known e value isin comes some false is = refl
  not_null taken known e value isin comes some true is =
      absurd (some (bare g s e stands.as_value tt taken value known isin comes (null_erased comes.found (g.constants e taken known comes.behind comes.found comes.goes) is)).labels)

  no_null_here : (taken : Use) (known : Known) (e : c.Expression) → IsIn unit known.next (an_expression stands.as_value e) → (comes : ComesToIt program.facts known taken e)
      → (labels in_front new_marks known.next ≡ c.no_marks → ⊥) → (x : Typed) → x ≡ comes.found → IsNoNull (in_use taken) x
  no_null_here as_truth known e isin comes some x found = tt
  no_null_here as_value known e isin comes some x found = ap counts_as_null found ∙ not_null as_value known e refl isin comes some (counts_as_null comes.found) refl
  no_null_here as_place known e isin comes some x found = ap counts_as_null found ∙ not_null as_place known e refl isin comes some (counts_as_null comes.found) refl
  no_null_here as_callee known e isin comes some x found = ap counts_as_null found ∙ not_null as_callee known e refl isin comes some (counts_as_null comes.found) refl

  -- what is asked of an expression with labels in front of it
  abbrev IsGood : Position → Known → c.Expression → Type 0
  IsGood position known e = (x : Typed) (next : Known) → expression e (use_of position) known ≡ Goes x next → IsNoNull position x × IsMarkable position x × (is_good_type next.structs (own_type x) ≡ true)

  value_is_good : ValuesAreMarkable → (taken : Use) (position : Position) (known : Known) (e : c.Expression) → position ≡ in_use taken → is_valued taken ≡ true → IsIn unit known.next (an_expression stands.as_value e)
      → ComesToIt program.facts known taken e → (there : ComesToIt program.facts known as_value e) → expression e taken known ≡ expression e as_value known
      → (labels in_front new_marks known.next ≡ c.no_marks → ⊥) → (it : Objective) → MayStand unit program criterion stands.as_value known.next e it in_front → IsSimpleWith true known.frames e → IsGood (in_use taken) known e
  value_is_good markable taken position known e position_is valued isin comes there same some it may simple x next goes =
      let found : x ≡ there.found = same_found (sym same ∙ goes) there.goes in
      let found_here : x ≡ comes.found = same_found goes comes.goes in
      let good = markable known e there it isin may simple in
      let integer : is_integer (own_type x) ≡ true = ap (λ (y : Typed). is_integer (own_type y)) found ∙ good.0 in
      let value = value_found taken valued e known next x goes in (
        no_null_here taken known e isin comes some x found_here,
        (value.0, value.1, value.2 good.1),
        good_scalar next.structs (own_type x) (integer_is_scalar (own_type x) integer) (integer_is_no_function (own_type x) integer),
      )

  is_good : ValuesAreMarkable → (role : Role) (position : Position) (known : Known) (e : c.Expression) → Here role position known e → (role ≡ stands.in_truth → ⊥) → (position ≡ in_use as_callee → ⊥)
      → (labels in_front new_marks known.next ≡ c.no_marks → ⊥) → (it : Objective) → MayStand unit program criterion role known.next e it in_front → IsSimpleWith true known.frames e
      → (takes_labels position ≡ true) × IsGood position known e
  is_good markable role position known e h no_truth other some it may simple = by h.fits h.isin h.comes h.taken no_truth other may
    where
      by : {role : Role} {position : Position} → Fits role position → IsIn unit known.next (an_expression role e) → ComesToIt program.facts known (use_of position) e → IsTaken role position known e
          → (role ≡ stands.in_truth → ⊥) → (position ≡ in_use as_callee → ⊥) → MayStand unit program criterion role known.next e it in_front → (takes_labels position ≡ true) × IsGood position known e
      by a_test isin comes taken no_truth other may = (
        refl,
        λ x next goes. (
          tt,
          tt,
          good_scalar next.structs (own_type x) (taken x next goes)
              (subst (λ (y : Typed). has_pointer_to_function (own_type y) ≡ false) (same_found comes.goes goes) (g.tests s.greatest s.model unit program s.typed as_truth known e comes refl)),
        ),
      )
      by a_truth isin comes taken no_truth other may = absurd (no_truth refl)
      by a_value isin comes taken no_truth other may = (refl, value_is_good markable as_value (in_use as_value) known e refl refl isin comes comes refl some it may simple)
      by a_switch isin comes taken no_truth other may =
          (refl, value_is_good markable as_truth (in_use as_truth) known e refl refl isin comes (truth_of_value g program.facts known e may.0 comes) (g.truths known e may.0) some it may simple)
      by a_callee isin comes taken no_truth other may = absurd (other refl)
      by a_place isin comes taken no_truth other may = absurd may.2
      by a_marked_place isin comes taken no_truth other may = absurd may.2

  -- an expression with all its marks
  pub whole : ValuesAreMarkable → (role : Role) (position : Position) (used : List ℕ) (known : Known) (e : c.Expression) → Here role position known e → (role ≡ stands.in_truth → ⊥) → (position ≡ in_use as_callee → ⊥)
      → Inner e → AreUnused new_marks used known.next (length (in_expression e))
      → IsAdded new_marks used known.next (length (in_expression e)) (λ after. AddsTo new position used after known e (with_marks new_marks known.next e))
  whole markable role position used known e h no_truth other inner unused =
      let it = split role position used known e h other inner unused in
      record { after = it.after; added = by (labels in_front new_marks known.next) refl it.labels it.stand it.added; ids = it.ids }
    where
      by : {between after : List ℕ} {x : c.Expression} (ms : c.Marks) → labels in_front new_marks known.next ≡ ms → AreNewLabels new used between known ms
          → Stand role known e → AddsTo new position between after known e x → AddsTo new position used after known e (preceded_by ms x)
      by {between} {after} {x} c.no_marks are fresh stand adds = subst (λ u. AddsTo new position u after known e x) fresh adds
      by (c.a_mark m ms) are fresh (inl none) adds = absurd (no_mark (sym are ∙ none))
        where
          no_mark : c.a_mark m ms ≡ c.no_marks → ⊥
          no_mark is = cc
      by (c.a_mark m ms) are fresh (inr stand) adds =
          let good = is_good markable role position known e h no_truth other (λ none. no_mark (sym are ∙ none)) stand.0 stand.1 stand.2 in
          placed.in_front h.marked good.0 good.1 fresh adds
        where
          no_mark : c.a_mark m ms ≡ c.no_marks → ⊥
          no_mark is = cc
