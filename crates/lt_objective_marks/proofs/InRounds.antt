-- What stays so where the marks of one criterion are added to a unit holds with the marks of many, which are added one criterion after the other.
use Rattle.std.proofs.Common.{◌≡◌, ◌≤◌, ℕ, suc, List, [], ◌∷◌, Bool, true, false, sym, subst, arith}
use Rattle.std.proofs.lemmas.Bool.{le-leb, leb-true}
use Rattle.std.specs.Prelude.{filter_map}
use Rattle.lt_model.specs.declared.scalar.DataModel.{DataModel}
use Rattle.lt_tree.specs.Tree as c
use Rattle.lt_tree.specs.Nodes.{Node, an_expression, a_mark, nodes}
use Rattle.lt_tree.specs.Typing.MarkRules.{number_of_id}
use Rattle.lt_tree.specs.Typing.Entities.{greatest_label_id, starting}
use Rattle.lt_tree.specs.Typing.UnitTyping.{defined_in, IsProgramTo}
use Rattle.lt_tree.specs.Typing.Programs.{Program}
use Rattle.lt_objectives.specs.declared.criteria.Criterion.{Criterion}
use Rattle.lt_objectives.specs.Objectives.{Objective, objectives}
use Rattle.lt_objectives.specs.Marked.{NewMark, numbered, next_id, unit_with_marks, marked_by}
use Rattle.lt_survey.specs.Marking.{next_behind}
use Rattle.lt_mark_typing.specs.Laws.{UnitsAreTypedAgain}
use Rattle.lt_mark_typing.specs.MarkedPrograms.{AddsBeside}
use Rattle.lt_mark_typing.specs.MarkedRuns.{is_from}
use Rattle.lt_mark_typing.specs.Placed.{IsOld, AreOld}
use Rattle.lt_mark_typing.specs.PlacedUnits.{AddsToUnit}
use Rattle.lt_objective_typing.specs.Laws.{LabelsOfObjectivesAreNew, DecisionsGivePredicates, MutantsGivePredicates, DomainsGivePredicates}
use Rattle.lt_objective_marks.specs.Units.{ObjectivesAreAdded}
use Rattle.lt_objective_marks.specs.Rounds.{IsMadeFrom, first_unit, marked_unit, FirstProgramsKnowAsMuch}
use Rattle.lt_objective_marks.proofs.Units.{same_functions}
use Rattle.lt_objective_marks.proofs.OldMarks.{unit_stays_old}
use Rattle.lt_objective_marks.proofs.PurePredicates.{objectives_labelled}
use Rattle.lt_objective_marks.proofs.Numbers.{next_from, later_from, all_old}

-- ---- marks of a unit are old for later ids too

module _ (o p : ℕ → Bool) (fewer : (n : ℕ) → o n ≡ false → p n ≡ false) where
  node_old : (it : Node) → IsOld o it → IsOld p it
  node_old (a_mark (c.mark predicate id tag bound)) h = fewer (number_of_id id) h
  node_old (an_expression (c.Decide e when_true when_false tag)) h = (fewer (number_of_id when_true) h.0, fewer (number_of_id when_false) h.1)
  node_old (an_expression (c.After e id tag)) h = fewer (number_of_id id) h
  node_old _ h = tt

  nodes_old : (list : List Node) → AreOld o list → AreOld p list
  nodes_old [] h = tt
  nodes_old (it ∷ rest) h = (node_old it h.0, nodes_old rest h.1)

-- ---- numbers

behind_from : (criteria : List Criterion) (unit : c.Unit) (first : Program) (id : ℕ) → id ≤ next_behind criteria unit first id
behind_from [] unit first id = omega arith
behind_from (criterion ∷ rest) unit first id =
    let them : List Objective = objectives unit first criterion in
    let more = next_from id them in
    let last = behind_from rest (unit_with_marks (numbered id them) unit) first (next_id id them) in
    omega (arith, more, last)

-- ---- one round

-- the marks of a criterion's objectives are added where they may stand
marks_added : ObjectivesAreAdded → (greatest : ℕ) (model : DataModel) (unit : c.Unit) (own : Program) (criterion : Criterion) (id : ℕ) → IsProgramTo greatest model unit own → AreOld (is_from id) (nodes unit) → 1 ≤ id
    → next_id id (objectives unit own criterion) ≤ suc greatest_label_id
    → (after : List ℕ) × AddsToUnit (is_from id) [] after (starting greatest model (filter_map defined_in unit)) unit (unit_with_marks (numbered id (objectives unit own criterion)) unit)
marks_added added greatest model unit own criterion id is old least last =
    added (is_from id) unit own criterion id (record {
      model = model;
      greatest = greatest;
      typed = is;
      old = old;
      first = least;
      last = last;
      fresh = λ n low high. le-leb id n low;
    })

-- ---- all rounds

-- Where marks are added to a unit, whose ids are new, this holds of the unit with them, if it holds of the unit.
abbrev pub StaysSo : DataModel → (least : ℕ) → ((greatest : ℕ) → c.Unit → Program → Type 0) → Type 0
StaysSo model least holds =
    (own : ℕ → Bool) (greatest : ℕ) (unit marked : c.Unit) (after : List ℕ) (program other : Program) (further : List Bool) → ((n : ℕ) → own n ≡ true → is_from least n ≡ true)
    → IsProgramTo greatest model unit program → AddsToUnit own [] after (starting greatest model (filter_map defined_in unit)) unit marked → filter_map defined_in marked ≡ filter_map defined_in unit
    → AddsBeside own further program other → holds greatest unit program → holds greatest_label_id marked other

-- this holds of a unit and its program
pub record IsSo (model : DataModel) (holds : (greatest : ℕ) → c.Unit → Program → Type 0) (unit : c.Unit) : Type 0 where
  pub greatest : ℕ
  pub program : Program
  pub typed : IsProgramTo greatest model unit program
  pub is_so : holds greatest unit program

module _ (labels_are_new : LabelsOfObjectivesAreNew) (decisions_are : DecisionsGivePredicates) (mutants_are : MutantsGivePredicates) (domains_are : DomainsGivePredicates)
    (added : ObjectivesAreAdded) (again : UnitsAreTypedAgain) (as_much : FirstProgramsKnowAsMuch) (model : DataModel) (first : Program) (least : ℕ)
    (holds : (greatest : ℕ) → c.Unit → Program → Type 0) (stays : StaysSo model least holds) where
  rounds : (criteria : List Criterion) (greatest : ℕ) (own : Program) (unit : c.Unit) (id : ℕ) → least ≤ id → 1 ≤ id → IsMadeFrom model first greatest unit own → IsProgramTo greatest model unit own
      → AreOld (is_from id) (nodes unit) → next_behind criteria unit first id ≤ suc greatest_label_id → holds greatest unit own → IsSo model holds (marked_by criteria unit first id)
  rounds [] greatest own unit id low one made is old last so_far = record { greatest = greatest; program = own; typed = is; is_so = so_far }
  rounds (criterion ∷ rest) greatest own unit id low one made is old last so_far =
      let them : List Objective = objectives unit first criterion in
      let next : ℕ = next_id id them in
      let marks : List NewMark = numbered id them in
      let marked : c.Unit = unit_with_marks marks unit in
      let same : objectives unit first criterion ≡ objectives unit own criterion = as_much model first greatest unit own criterion made in
      let ids : id ≤ next_id id (objectives unit first criterion) = next_from id them in
      let most : next_behind rest marked first next ≤ suc greatest_label_id = last in
      let more : next ≤ next_behind rest marked first next = behind_from rest marked first next in
      let small : next_id id (objectives unit first criterion) ≤ suc greatest_label_id = omega (arith, most, more) in
      let it = marks_added added greatest model unit own criterion id is old one (subst (λ those. next_id id those ≤ suc greatest_label_id) same small) in
      let adds : AddsToUnit (is_from id) [] it.0 (starting greatest model (filter_map defined_in unit)) unit marked =
      subst (λ those. AddsToUnit (is_from id) [] it.0 (starting greatest model (filter_map defined_in unit)) unit (unit_with_marks (numbered id those) unit)) (sym same) it.1 in
      let here = again (is_from id) greatest model unit marked it.0 own adds (same_functions marks unit) is in
      let longer = stays (is_from id) greatest unit marked it.0 own here.0 here.1 (λ n h. let above : id ≤ n = leb-true id n h in le-leb least n (omega arith)) is adds (same_functions marks unit) here.3 so_far in
      let old_marks = all_old labels_are_new next id them one (omega arith) small (objectives_labelled decisions_are mutants_are domains_are unit first criterion) in
      let still_old = nodes_old (is_from id) (is_from next) (λ n h. later_from id next n ids h) (nodes unit) old in
      rounds rest greatest_label_id here.0 marked next (omega (arith, ids)) (omega (arith, ids)) (marked_unit made adds (same_functions marks unit) here.2) here.2
      (unit_stays_old (is_from next) marks old_marks unit still_old) most longer

  -- what holds of a unit, whose marks have ids below the least, holds of it with the marks of criteria
  pub in_rounds : (greatest : ℕ) (criteria : List Criterion) (unit : c.Unit) → IsProgramTo greatest model unit first → 1 ≤ least → AreOld (is_from least) (nodes unit)
      → next_behind criteria unit first least ≤ suc greatest_label_id → holds greatest unit first → IsSo model holds (marked_by criteria unit first least)
  in_rounds greatest criteria unit is one old last so_far = rounds criteria greatest first unit least (omega arith) one (first_unit is) is old last so_far
