-- That the marks of a criterion's objectives are added to a unit where they may stand, and that the unit runs with them as it does without them.
use Rattle.std.specs.Prelude.{ℕ, Bool, List, [], filter_map}
use Rattle.lt_tree.specs.Tree as c
use Rattle.lt_tree.specs.Typing.Entities.{starting}
use Rattle.lt_tree.specs.Typing.UnitTyping.{defined_in}
use Rattle.lt_tree.specs.Typing.Programs.{Program}
use Rattle.lt_objectives.specs.declared.criteria.Criterion.{Criterion}
use Rattle.lt_objectives.specs.Marked.{unit_with_marks}
use Rattle.lt_mark_typing.specs.PlacedUnits.{AddsToUnit}
use Rattle.lt_mark_typing.specs.MarkedRuns.{RunsAs}
use Rattle.lt_objective_marks.specs.Settings.{marks_of, Setting}

-- Each of a unit's new marks stands where it may.
abbrev pub ObjectivesAreAdded : Type 0
ObjectivesAreAdded =
    (new : ℕ → Bool) (unit : c.Unit) (program : Program) (criterion : Criterion) (id : ℕ) (setting : Setting new unit program criterion id)
    → (after : List ℕ) × AddsToUnit new [] after (starting setting.greatest setting.model (filter_map defined_in unit)) unit (unit_with_marks (marks_of unit program criterion id) unit)

-- So the marked unit has a program, which is that of the unit with these marks added and with further objects, and its functions run as those of the unit do, new marks
-- and further objects aside.
abbrev pub MarkedUnitsRunAsTheyDid : Type 0
MarkedUnitsRunAsTheyDid =
    (new : ℕ → Bool) (unit : c.Unit) (program : Program) (criterion : Criterion) (id : ℕ) (setting : Setting new unit program criterion id)
    → RunsAs new setting.model program (unit_with_marks (marks_of unit program criterion id) unit)
