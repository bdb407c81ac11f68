-- What a unit with marks has in common with the unit.
use Rattle.std.specs.Prelude.{◌≡◌, ℕ, List}
use Rattle.lt_tree.specs.Tree as c
use Rattle.lt_tree.specs.Erasure.{erased_unit}
use Rattle.lt_tree.specs.Typing.Programs.{Program}
use Rattle.lt_objectives.specs.Marked.{NewMark, unit_with_marks, marked}

-- Without marks, a unit with new marks is the unit; whatever their places are.
abbrev pub MarksAreErased : Type 0
MarksAreErased =
    ((new : List NewMark) (unit : c.Unit) → erased_unit (unit_with_marks new unit) ≡ erased_unit unit)
    × ((unit : c.Unit) (program : Program) (set id : ℕ) → erased_unit (marked unit program set id) ≡ erased_unit unit)
