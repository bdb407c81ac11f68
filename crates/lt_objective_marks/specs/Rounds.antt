-- Criteria that are applied one after the other, each to the unit that the one before made, with the program of the first unit.
use Rattle.std.specs.Prelude.{◌≡◌, ◌≤◌, ℕ, suc, Bool, List, [], filter_map}
use Rattle.lt_model.specs.declared.scalar.DataModel.{DataModel}
use Rattle.lt_tree.specs.Tree as c
use Rattle.lt_tree.specs.Nodes.{nodes}
use Rattle.lt_tree.specs.Ids.{ids_of_unit, greatest_id}
use Rattle.lt_tree.specs.Typing.Entities.{greatest_label_id, starting}
use Rattle.lt_tree.specs.Typing.UnitTyping.{defined_in, IsProgramOf, IsProgramTo}
use Rattle.lt_tree.specs.Typing.Programs.{Program}
use Rattle.lt_objectives.specs.declared.criteria.Criterion.{Criterion}
use Rattle.lt_objectives.specs.Criteria.{criteria_in}
use Rattle.lt_objectives.specs.Objectives.{objectives}
use Rattle.lt_objectives.specs.Marked.{marked_by, marked}
use Rattle.lt_survey.specs.Marking.{next_behind}
use Rattle.lt_mark_typing.specs.Placed.{AreOld}
use Rattle.lt_mark_typing.specs.PlacedUnits.{AddsToUnit}
use Rattle.lt_mark_typing.specs.MarkedRuns.{is_from, RunsAs}

-- ---- what was made of a first unit

-- Marks were added to the first unit, whose program this is, in rounds, each where it may stand; that made the unit, which has its own program. Its labels have
-- ids to a greatest.
pub data IsMadeFrom (model : DataModel) (first : Program) : (greatest : ℕ) → c.Unit → Program → Type 0 where
  first_unit : {greatest : ℕ} {unit : c.Unit} → IsProgramTo greatest model unit first → IsMadeFrom model first greatest unit first
  marked_unit : {new : ℕ → Bool} {after : List ℕ} {greatest : ℕ} {unit other : c.Unit} {own program : Program}
      → IsMadeFrom model first greatest unit own → AddsToUnit new [] after (starting greatest model (filter_map defined_in unit)) unit other
      → filter_map defined_in other ≡ filter_map defined_in unit → IsProgramTo greatest_label_id model other program
      → IsMadeFrom model first greatest_label_id other program

-- The objectives of such a unit are the same by the program of the first unit as by its own.
abbrev pub FirstProgramsKnowAsMuch : Type 0
FirstProgramsKnowAsMuch =
    (model : DataModel) (first : Program) (greatest : ℕ) (unit : c.Unit) (own : Program) (criterion : Criterion) → IsMadeFrom model first greatest unit own
    → objectives unit first criterion ≡ objectives unit own criterion

-- ---- runs

-- A typed unit, whose marks have ids below the first, runs with the marks of criteria as it does without them.
abbrev pub RoundsRunAsTheyDid : Type 0
RoundsRunAsTheyDid =
    (greatest : ℕ) (model : DataModel) (criteria : List Criterion) (unit : c.Unit) (program : Program) (id : ℕ) → IsProgramTo greatest model unit program → 1 ≤ id → AreOld (is_from id) (nodes unit)
    → next_behind criteria unit program id ≤ suc greatest_label_id
    → RunsAs (is_from id) model program (marked_by criteria unit program id)

-- So does the unit with the marks of a set of criteria, where ids go on from the greatest of its own.
abbrev pub MarkedUnitsOfSetsRunAsTheyDid : Type 0
MarkedUnitsOfSetsRunAsTheyDid =
    (model : DataModel) (unit : c.Unit) (program : Program) (set : ℕ) → IsProgramOf model unit program
    → next_behind (criteria_in set) unit program (suc (greatest_id (ids_of_unit unit))) ≤ suc greatest_label_id
    → RunsAs (is_from (suc (greatest_id (ids_of_unit unit)))) model program (marked unit program set (suc (greatest_id (ids_of_unit unit))))
