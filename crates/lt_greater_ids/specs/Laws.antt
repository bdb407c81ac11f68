-- A unit has the same program where its labels may have greater ids.
use Rattle.std.specs.Prelude.{◌≤◌, ℕ}
use Rattle.lt_model.specs.declared.scalar.DataModel.{DataModel}
use Rattle.lt_tree.specs.Tree as c
use Rattle.lt_tree.specs.Typing.UnitTyping.{IsProgramTo}
use Rattle.lt_tree.specs.Typing.Programs.{Program}

-- The program of a unit whose labels have ids to a number is its program too where ids to a greater number are good.
abbrev pub GreaterIdsChangeNothing : Type 0
GreaterIdsChangeNothing =
    (greatest more : ℕ) (model : DataModel) (unit : c.Unit) (program : Program) → IsProgramTo greatest model unit program → greatest ≤ more → IsProgramTo more model unit program
