-- What follows from the definitions of marked units.
use Rattle.std.specs.Prelude.{ℕ, ◌≤◌, ◌^◌}
use Rattle.lt_model.specs.declared.scalar.DataModel.{DataModel}
use Rattle.lt_tree.specs.Tree as c
use Rattle.lt_tree.specs.CanonUnits.{canon}
use Rattle.lt_tree.specs.Units.{IsWellMade}
use Rattle.lt_tree.specs.Typing.Programs.{Program}
use Rattle.lt_tree.specs.Typing.UnitTyping.{IsProgramOf}
use Rattle.lt_objectives.specs.Criteria.{criteria_in}
use Rattle.lt_objectives.specs.Marked.{marked}
use Rattle.lt_survey.specs.Marking.{next_behind}
use Rattle.lt_print.specs.Laws.{IsOfUnitAlone}

-- A well-made unit that has a typed program is well-made with the marks of objectives too, whatever their criteria, where their ids stay small.
abbrev pub MarkedUnitsAreWellMade : Type 0
MarkedUnitsAreWellMade =
    (model : DataModel) (unit : c.Unit) (program : Program) (set id : ℕ) → IsWellMade unit → IsProgramOf model unit program
    → next_behind (criteria_in set) unit program id ≤ 2 ^ 64 → IsWellMade (marked unit program set id)

-- So the tokens of its canonical text derive the unit with its marks, and no other.
abbrev pub AnnotatedTextsAreOfUnitsAlone : Type 0
AnnotatedTextsAreOfUnitsAlone =
    (model : DataModel) (unit : c.Unit) (program : Program) (set id : ℕ) → IsWellMade unit → IsProgramOf model unit program
    → next_behind (criteria_in set) unit program id ≤ 2 ^ 64 → IsOfUnitAlone (canon (marked unit program set id)) (marked unit program set id)
