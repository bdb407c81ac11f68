-- No label stands in front of what is called.
use Rattle.std.proofs.Common.{◌≡◌, refl, sym, subst, ℕ, List, [], length, Bool, true, false, arith}
use Rattle.lt_tree.specs.Tree as c
use Rattle.lt_tree.specs.Nodes.{in_expression}
use Rattle.lt_tree.specs.Erasure.{erased}
use Rattle.lt_tree.specs.Typing.Types.{is_integer}
use Rattle.lt_tree.specs.Typing.TypedTree.{Value}
use Rattle.lt_tree.specs.Typing.Entities.{Known}
use Rattle.lt_tree.specs.Typing.Expressions.{a_value as a_value_form, a_designator, as_callee, own_type}
use Rattle.lt_tree.specs.Typing.Programs.{Program}
use Rattle.lt_objectives.specs.declared.criteria.Criterion.{Criterion}
use Rattle.lt_objectives.specs.declared.criteria.Criterion.TheVariants as C
use Rattle.lt_objectives.specs.Places.{type_at}
use Rattle.lt_objectives.specs.Mutants.{is_signed_integer}
use Rattle.lt_objectives.specs.Objectives.{in_front, Objective, mutants}
use Rattle.lt_objectives.specs.Marked.{labels, decided, preceded_by, within, with_marks}
use Rattle.lt_objective_places.specs.Stands.{MayStand}
use Rattle.lt_objective_places.specs.Stands as stands
use Rattle.lt_mark_typing.specs.Beside.{in_use}
use Rattle.lt_mark_typing.specs.Placed.{AddsTo}
use Rattle.lt_typed_nodes.specs.Coming.{ComesToIt}
use Rattle.lt_objective_marks.specs.Settings.{Setting, AreUnused, IsAdded, IsTaken}
use Rattle.lt_objective_marks.proofs.Given.{Given}
use Rattle.lt_objective_marks.proofs.Ids.{fewer_unused}
use Rattle.lt_objective_marks.proofs.Ends.{no_function_is_integer}
use Rattle.lt_objective_marks.proofs.Values.{is_named, value_called}
use Rattle.lt_objective_marks.proofs.Noted.{signed_called}
use Rattle.lt_objective_marks.proofs.Labels.{Labelled, unlabelled, labelled, own_labels}
use Rattle.lt_objective_marks.proofs.Decided.{Around, undecided, decided_there, own_decision}
use Rattle.lt_objective_marks.proofs.Whole.{new_marks, Here, Inner, ValuesAreMarkable, some_nodes, inside_unused, inside_added}
use Rattle.lt_objective_marks.proofs.Mutated.{mutants_there}
use Rattle.lt_objective_marks.proofs.Markable.{both_there}
use Rattle.lt_objective_marks.proofs.Steps.{moved_to}
use Rattle.lt_objective_marks.proofs.Parts.{Added, Operand, here_of}

module _ (g : Given) {new : ℕ → Bool} {unit : c.Unit} {program : Program} {criterion : Criterion} {id : ℕ} (s : Setting new unit program criterion id) where
  -- what is called is a name, and its type that of a function
  not_markable : (known : Known) (f : c.Expression) → ComesToIt program.facts known as_callee f → IsTaken stands.as_value (in_use as_callee) known f → (it : Objective)
      → MayStand unit program criterion stands.as_value known.next f it in_front → ⊥
  not_markable known f comes taken it may = by_name (is_named f) refl
    where
      designates : (name : List ℕ) (v : Value) → comes.found.form ≡ a_designator name (own_type comes.found) → comes.found.form ≡ a_value_form v → ⊥
      designates name v is there = cc

      of_name : (f : c.Expression) → is_named f ≡ true → (comes : ComesToIt program.facts known as_callee f) → (is_integer (own_type comes.found) ≡ true → ⊥) → (criterion : Criterion)
          → (mutants unit program criterion known.next f (erased f) ≡ [] → ⊥) → ⊥
      of_name (c.Name w) named comes none C.AbsoluteValue some =
          none (signed_called g s program.model known (c.Name w) comes (both_there true (is_signed_integer program.model (type_at unit program known.next)) _ some).1)
      of_name (c.Name w) named comes none C.ArithmeticOperator some = some refl
      of_name (c.Name w) named comes none C.LogicalConnector some = some refl
      of_name (c.Name w) named comes none C.RelationalOperator some = some refl
      of_name (c.Name w) named comes none C.Decision some = some refl
      of_name (c.Name w) named comes none C.Condition some = some refl
      of_name (c.Name w) named comes none C.MultipleCondition some = some refl
      of_name (c.Name w) named comes none C.GeneralActiveClause some = some refl
      of_name (c.Name w) named comes none C.Function some = some refl
      of_name (c.Name w) named comes none C.InputDomain some = some refl
      of_name (c.Name w) named comes none C.CorrelatedActiveClause some = some refl
      of_name (c.Name w) named comes none C.RestrictedActiveClause some = some refl
      of_name (c.Name w) named comes none C.AllUses some = some refl
      of_name f named comes none criterion some = absurd cc

      by_name : (b : Bool) → is_named f ≡ b → ⊥
      by_name false other =
          let value = value_called f known comes.behind comes.found other comes.goes in
          let is = taken comes.found comes.behind comes.goes in
          designates is.0 value.0 is.1 value.1
      by_name true named =
          let is = taken comes.found comes.behind comes.goes in
          of_name f named comes (λ integer. no_function_is_integer (own_type comes.found) integer is.2) criterion (mutants_there unit program criterion known.next f it may)

  bare : (used : List ℕ) (known : Known) (f : c.Expression) → Here g s stands.as_value (in_use as_callee) known f → AreUnused (new_marks g s) used known.next (length (in_expression f)) → labels in_front (new_marks g s) known.next ≡ c.no_marks
  bare used known f h unused =
      let some = some_nodes f in
      by (own_labels g s stands.as_value f known h.isin as_callee h.reached used (λ it may. absurd (not_markable known f h.comes h.taken it may))
      (fewer_unused (new_marks g s) used known.next (length (in_expression f)) known.next 1 (omega arith) (omega (arith, some)) unused))
    where
      by : Labelled g s used known stands.as_value f → labels in_front (new_marks g s) known.next ≡ c.no_marks
      by (unlabelled none) = none
      by (labelled between fresh ids it may simple) = absurd (not_markable known f h.comes h.taken it may)

  whole_callee : (used : List ℕ) (known : Known) (f : c.Expression) → Here g s stands.as_value (in_use as_callee) known f → Inner g s f → AreUnused (new_marks g s) used known.next (length (in_expression f))
      → IsAdded (new_marks g s) used known.next (length (in_expression f)) (λ after. AddsTo new (in_use as_callee) used after known f (with_marks (new_marks g s) known.next f))
  whole_callee used known f h inner unused = by (own_decision g s stands.as_value f known.next h.isin)
    where
      no_test : stands.as_value ≡ stands.in_test → ⊥
      no_test is = cc

      by : Around g s known.next stands.as_value f → IsAdded (new_marks g s) used known.next (length (in_expression f)) (λ after. AddsTo new (in_use as_callee) used after known f (with_marks (new_marks g s) known.next f))
      by (undecided none) =
          let it = inner stands.as_value (in_use as_callee) used known h (inside_unused (new_marks g s) used known.next (length (in_expression f)) unused) in
          record {
            after = it.after;
            added = subst (λ ms. AddsTo new (in_use as_callee) used it.after known f (preceded_by ms (decided (new_marks g s) known.next (within (new_marks g s) known.next f)))) (sym (bare used known f h unused))
                (subst (AddsTo new (in_use as_callee) used it.after known f) (sym (none (within (new_marks g s) known.next f))) it.added);
            ids = inside_added (new_marks g s) used it.after known.next (length (in_expression f)) it.ids;
          }
      by (decided_there tested can none j are first last at) = absurd (no_test tested)

  pub callee : (markable : ValuesAreMarkable g s) (used : List ℕ) (known : Known) (f : c.Expression) (k : ℕ) → Operand g s markable stands.as_value (in_use as_callee) known f k → Inner g s f
      → AreUnused (new_marks g s) used k (length (in_expression f)) → Added g s markable (in_use as_callee) used known f k
  callee markable used known f k o inner unused =
      moved_to g s (in_use as_callee) used known f k o.number
      (whole_callee used known f (here_of g s markable stands.as_value (in_use as_callee) known f k o) inner (subst (λ n. AreUnused (new_marks g s) used n (length (in_expression f))) (sym o.number) unused))
