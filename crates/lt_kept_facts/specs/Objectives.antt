-- That objectives stay when marks are added, whichever program they are found by.
use Rattle.std.specs.Prelude.{◌≡◌, ℕ, Bool, List, [], filter_map}
use Rattle.lt_model.specs.declared.scalar.DataModel.{DataModel}
use Rattle.lt_tree.specs.Tree as c
use Rattle.lt_tree.specs.Typing.Entities.{greatest_label_id, starting}
use Rattle.lt_tree.specs.Typing.UnitTyping.{defined_in, IsProgramTo}
use Rattle.lt_tree.specs.Typing.Programs.{Program}
use Rattle.lt_objectives.specs.declared.criteria.Criterion.{Criterion}
use Rattle.lt_objectives.specs.Objectives.{objectives}
use Rattle.lt_mark_typing.specs.PlacedUnits.{AddsToUnit}
use Rattle.lt_kept_facts.specs.Known.{KnowTheSame, StandAt}

-- Where the programs of two units know the same, the objectives of the second unit are the same by either program.
abbrev pub ObjectivesAreFoundByEither : Type 0
ObjectivesAreFoundByEither = (program other : Program) → KnowTheSame program other → (criterion : Criterion) → objectives other.unit program criterion ≡ objectives other.unit other criterion

-- The program of a unit with marks added, each where it may stand, knows the same as that of the unit, where the functions of both have the numbers of their
-- definitions.
abbrev pub MarkedUnitsKnowTheSame : Type 0
MarkedUnitsKnowTheSame =
    (new : ℕ → Bool) (greatest : ℕ) (model : DataModel) (unit marked : c.Unit) (after : List ℕ) (program other : Program)
    → AddsToUnit new [] after (starting greatest model (filter_map defined_in unit)) unit marked → filter_map defined_in marked ≡ filter_map defined_in unit
    → IsProgramTo greatest model unit program → IsProgramTo greatest_label_id model marked other → StandAt unit 0 program.functions → StandAt marked 0 other.functions
    → KnowTheSame program other
