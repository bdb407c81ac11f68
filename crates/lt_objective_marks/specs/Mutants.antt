-- That the labels of mutants are exact in a unit with the marks of criteria.
use Rattle.std.specs.Prelude.{◌≤◌, ℕ, suc, List}
use Rattle.lt_model.specs.declared.scalar.DataModel.{DataModel}
use Rattle.lt_tree.specs.Tree as c
use Rattle.lt_tree.specs.Nodes.{nodes}
use Rattle.lt_tree.specs.Ids.{ids_of_unit, greatest_id}
use Rattle.lt_tree.specs.Typing.Entities.{greatest_label_id}
use Rattle.lt_tree.specs.Typing.UnitTyping.{IsProgramOf, IsProgramTo}
use Rattle.lt_tree.specs.Typing.Programs.{Program}
use Rattle.lt_objectives.specs.declared.criteria.Criterion.{Criterion}
use Rattle.lt_objectives.specs.Criteria.{criteria_in}
use Rattle.lt_objectives.specs.Marked.{marked_by, marked}
use Rattle.lt_survey.specs.Marking.{next_behind}
use Rattle.lt_mark_typing.specs.Placed.{AreOld}
use Rattle.lt_mark_typing.specs.MarkedRuns.{is_from}
use Rattle.lt_mark_typing.specs.MutationLabels.{MutationLabelsAreExact}

-- The labels of mutants that criteria add, one after the other, to a typed unit, whose marks have ids below the first, are exact in the unit with all of them.
abbrev pub RoundsTellMutantsApart : Type 0
RoundsTellMutantsApart =
    (greatest : ℕ) (model : DataModel) (criteria : List Criterion) (unit : c.Unit) (program : Program) (id : ℕ) → IsProgramTo greatest model unit program → 1 ≤ id → AreOld (is_from id) (nodes unit)
    → next_behind criteria unit program id ≤ suc greatest_label_id
    → MutationLabelsAreExact (is_from id) greatest_label_id model (marked_by criteria unit program id)

-- So are those that a set of criteria adds, where ids go on from the greatest of the unit.
abbrev pub MarkedUnitsTellMutantsApart : Type 0
MarkedUnitsTellMutantsApart =
    (model : DataModel) (unit : c.Unit) (program : Program) (set : ℕ) → IsProgramOf model unit program
    → next_behind (criteria_in set) unit program (suc (greatest_id (ids_of_unit unit))) ≤ suc greatest_label_id
    → MutationLabelsAreExact (is_from (suc (greatest_id (ids_of_unit unit)))) greatest_label_id model (marked unit program set (suc (greatest_id (ids_of_unit unit))))
