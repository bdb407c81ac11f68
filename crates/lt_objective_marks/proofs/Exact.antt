-- The labels of mutants stay exact where the marks of a criterion are added to a unit, and so they are with the marks of many.
use Rattle.std.proofs.Common.{◌≡◌, refl, subst, sym, ◌∙◌, ℕ, ◌+◌, List, [], Bool, true, false}
use Rattle.std.proofs.lemmas.Bool.{false≢true}
use Rattle.std.specs.Prelude.{not, ◌&&◌, filter_map}
use Rattle.std.specs.List.{list_all}
use Rattle.lt_model.specs.declared.scalar.DataModel.{DataModel}
use Rattle.lt_tree.specs.Tree as c
use Rattle.lt_tree.specs.Purity.{is_pure}
use Rattle.lt_tree.specs.Nodes.{in_expression, in_bindings, nodes}
use Rattle.lt_tree.specs.Typing.Types.{is_scalar}
use Rattle.lt_tree.specs.Typing.Rules.{unless, bad_mark}
use Rattle.lt_tree.specs.Typing.TypedTree as e
use Rattle.lt_tree.specs.Typing.TypedTree.{Mark}
use Rattle.lt_tree.specs.Typing.Entities.{Known, greatest_label_id, starting}
use Rattle.lt_tree.specs.Typing.Steps.{Outcome, Goes, Breaks, goes_on, settle, gives, adds_label, ◌>>◌}
use Rattle.lt_tree.specs.Typing.Expressions.{Typed, as_value, own_type, value_in}
use Rattle.lt_tree.specs.Typing.MarkRules.{TypedBinding, number_of_id, is_good_id, is_tag, is_good_binding, are_new_names, names_of, bindings_of, is_good_mark, label_of}
use Rattle.lt_tree.specs.Typing.NodeEnds.{end_of_mark}
use Rattle.lt_tree.specs.Typing.ExpressionTyping.{expression, bindings}
use Rattle.lt_tree.specs.Typing.UnitTyping.{defined_in, IsProgramTo}
use Rattle.lt_tree.specs.Typing.Programs.{Program}
use Rattle.lt_objectives.specs.declared.criteria.Criterion.{Criterion}
use Rattle.lt_objectives.specs.Criteria.{tag_of}
use Rattle.lt_objectives.specs.Decisions.{inequality}
use Rattle.lt_typed_nodes.specs.Reaching.{ComesToMark, first_mark, later_mark}
use Rattle.lt_mark_laws.specs.Mutants.{IsOfMutants, IsMutant, entered, AreToldApart}
use Rattle.lt_mark_typing.specs.Laws.{UnitsAreTypedAgain}
use Rattle.lt_mark_typing.specs.MarkedRuns.{is_from}
use Rattle.lt_mark_typing.specs.Placed.{AreOld}
use Rattle.lt_mark_typing.specs.PlacedUnits.{AddsToUnit}
use Rattle.lt_mark_typing.specs.MutationLabels.{MutationLabelsAreExact}
use Rattle.lt_mark_typing.proofs.Going.{entered_beside}
use Rattle.lt_mark_typing.proofs.NewMarks.{numbered_alone}
use Rattle.lt_mark_typing.proofs.Nodes.{old_first}
use Rattle.lt_mark_typing.proofs.Quiet.{and_first, and_second}
use Rattle.lt_marked_places.specs.Laws.{ComesFrom, of_unit, is_added, LabelsComeFromUnits, DifferencesStay}
use Rattle.lt_objective_typing.specs.Laws.{LabelsOfObjectivesAreNew, DecisionsGivePredicates, MutantsGivePredicates, DomainsGivePredicates}
use Rattle.lt_objective_marks.specs.Units.{ObjectivesAreAdded}
use Rattle.lt_objective_marks.specs.Rounds.{FirstProgramsKnowAsMuch}
use Rattle.lt_objective_marks.specs.Mutants.{RoundsTellMutantsApart}
use Rattle.lt_objective_marks.proofs.OldParts.{old_label}
use Rattle.lt_objective_marks.proofs.InRounds.{in_rounds}

-- ---- the predicate of a label to which typing comes

-- it is typed, and pure
record IsTypedPredicate (known : Known) (predicate : c.Expression) : Type 0 where
  found : Typed
  behind : Known
  goes : expression predicate as_value (entered known) ≡ Goes found behind
  pure : is_pure predicate ≡ true

third : (a b c d e f g : Bool) → (a && b && c && d && e && f && g) ≡ true → c ≡ true
third false b c d e f g h = absurd cc
third true false c d e f g h = absurd cc
third true true false d e f g h = absurd cc
third true true true d e f g h = refl

module _ (predicate : c.Expression) (id tag : List ℕ) (bound : c.Bindings) (known : Known) where
  -- what stands behind the predicate and the values of names
  abbrev ended : Typed → List TypedBinding → Known → Outcome Mark
  ended x bs k = end_of_mark known.next predicate x id tag bs k

  pure_by : (x : Typed) (bs : List TypedBinding) (k : Known) (b : Bool) → is_good_mark k predicate x id tag bs ≡ b → {typed : Mark} {behind : Known}
      → goes_on (settle known.next (unless b bad_mark) k) (λ u. adds_label (label_of id tag (names_of bs)) >> gives (e.mark (value_in x) (number_of_id id) (bindings_of bs))) ≡ Goes typed behind
      → is_pure predicate ≡ true
  pure_by x bs k true good is =
      third (not k.is_unmarked) (is_scalar (own_type x)) (is_pure predicate) (is_good_id k id) (is_tag tag) (list_all is_good_binding bs) (are_new_names k (names_of bs)) good
  pure_by x bs k false good is = absurd cc

  pure_behind : (x : Typed) (o : Outcome (List TypedBinding)) {typed : Mark} {behind : Known} → goes_on o (λ bs k. ended x bs k) ≡ Goes typed behind → is_pure predicate ≡ true
  pure_behind x (Goes bs k) is = pure_by x bs k (is_good_mark k predicate x id tag bs) refl is
  pure_behind x (Breaks rule node) is = absurd cc

  typed_by : (o : Outcome Typed) → expression predicate as_value (entered known) ≡ o → {typed : Mark} {behind : Known}
      → goes_on o (λ x k. goes_on (bindings bound k) (λ bs j. ended x bs j)) ≡ Goes typed behind → IsTypedPredicate known predicate
  typed_by (Goes x k) goes is = record { found = x; behind = k; goes = goes; pure = pure_behind x (bindings bound k) is }
  typed_by (Breaks rule node) goes is = absurd cc

  typed_predicate : {ms : c.Marks} {start : Known} → ComesToMark ms start (c.mark predicate id tag bound) known → IsTypedPredicate known predicate
  typed_predicate (first_mark is) = typed_by (expression predicate as_value (entered known)) refl is
  typed_predicate (later_mark is later) = typed_predicate later

-- ---- units

module _ (from_units : LabelsComeFromUnits) (stay : DifferencesStay) where
  -- labels of a unit stay exact where marks are added to it, and those that are added are exact
  pub stays_exact : (new own : ℕ → Bool) (greatest : ℕ) (model : DataModel) (unit marked : c.Unit) (after : List ℕ) (program : Program) → IsProgramTo greatest model unit program
      → AddsToUnit own [] after (starting greatest model (filter_map defined_in unit)) unit marked → filter_map defined_in marked ≡ filter_map defined_in unit
      → MutationLabelsAreExact new greatest model unit → MutationLabelsAreExact new greatest_label_id model marked
  stays_exact new own greatest model unit marked after program is adds same exact = λ criterion is_of predicate id bound there label is_new.
      by criterion is_of predicate id bound there is_new (from_units own greatest model unit marked after program is adds same (c.mark predicate id (tag_of criterion) bound) there label)
    where
      by : (criterion : Criterion) → IsOfMutants criterion → (predicate : c.Expression) (id : List ℕ) (bound : c.Bindings) (there : Known) → new (number_of_id id) ≡ true
          → ComesFrom own greatest model unit (c.mark predicate id (tag_of criterion) bound) there
          → (bound ≡ c.no_bindings) × (it : c.Expression) × (other : c.Expression) × (predicate ≡ inequality it other) × IsMutant criterion it other × AreToldApart (entered there) it other
      by criterion is_of predicate id bound there is_new (of_unit {used = used} {further = further} {known = known} label old beside) =
          let it = exact criterion is_of predicate id bound known label is_new in
          let typed = typed_predicate predicate id (tag_of criterion) bound known label.comes in
          let pure : is_pure it.1 && is_pure it.2 ≡ true = subst (λ e. is_pure e ≡ true) it.3 typed.pure in
          let old_predicate = old_first own (in_expression predicate) (in_bindings bound) old.1 in (
            it.0,
            it.1,
            it.2,
            it.3,
            it.4,
            stay own used further (entered known) (entered there) typed.behind it.1 it.2 typed.found
                (and_first (is_pure it.1) (is_pure it.2) pure) (and_second (is_pure it.1) (is_pure it.2) pure) (subst (λ e. AreOld own (in_expression e)) it.3 old_predicate)
                (entered_beside beside) (subst (λ e. expression e as_value (entered known) ≡ Goes typed.found typed.behind) it.3 typed.goes) it.5,
          )
      by criterion is_of predicate id c.no_bindings there is_new (is_added {further = further} after rest labels beside) =
          let told = labels.3 criterion is_of refl in (refl, told.0, told.1, told.2, told.3, told.4 further (entered there) (numbered_alone (there.next + 1) there.facts beside))
      by criterion is_of predicate id (c.a_binding name value others) there is_new (is_added after rest labels beside) = absurd labels

-- a unit without marks that have new ids has no label of which something is asked
pub none_there : (new : ℕ → Bool) (greatest : ℕ) (model : DataModel) (unit : c.Unit) → AreOld new (nodes unit) → MutationLabelsAreExact new greatest model unit
none_there new greatest model unit old = λ criterion is_of predicate id bound there label is_new. absurd (false≢true (sym (old_label new old label) ∙ is_new))

-- ---- criteria one after the other

-- the labels of mutants are exact up to the greatest id that labels of the unit may have, and up to the greatest of all
abbrev AreExact : DataModel → (least greatest : ℕ) → c.Unit → Program → Type 0
AreExact model least greatest unit program = MutationLabelsAreExact (is_from least) greatest model unit × MutationLabelsAreExact (is_from least) greatest_label_id model unit

pub rounds_tell : FirstProgramsKnowAsMuch → LabelsOfObjectivesAreNew → DecisionsGivePredicates → MutantsGivePredicates → DomainsGivePredicates → ObjectivesAreAdded → UnitsAreTypedAgain
    → LabelsComeFromUnits → DifferencesStay → RoundsTellMutantsApart
rounds_tell as_much labels_are_new decisions_are mutants_are domains_are added again from_units stay = λ greatest model criteria unit program id is one old last.
    let last_one = in_rounds labels_are_new decisions_are mutants_are domains_are added again as_much model program id (AreExact model id)
    (λ own greatest unit marked after program other further are_new is adds same beside exact.
    let still = stays_exact from_units stay (is_from id) own greatest model unit marked after program is adds same exact.0 in (still, still)) greatest criteria unit is one old last
    (none_there (is_from id) greatest model unit old, none_there (is_from id) greatest_label_id model unit old) in
    last_one.is_so.1
