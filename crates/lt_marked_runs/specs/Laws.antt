-- That programs with marks added, which may have objects of their own and other lists of types, run as they did.
use Rattle.std.specs.Prelude.{◌≡◌, ℕ, Bool, true, List}
use Rattle.lt_model.specs.declared.scalar.DataModel.{DataModel}
use Rattle.lt_tree.specs.Tree as c
use Rattle.lt_tree.specs.Typing.UnitTyping.{IsProgramTo}
use Rattle.lt_tree.specs.Typing.Programs.{Program}
use Rattle.lt_mark_typing.specs.MarkedPrograms.{AddsBeside, IsMadeBeside}
use Rattle.lt_mark_typing.specs.MarkedRuns.{FunctionsRunBeside}

-- A program is made of itself, and what is made of it is made on where marks are added to it once more, with further objects, too.
abbrev pub ProgramsAreMadeInSteps : Type 0
ProgramsAreMadeInSteps =
    ((new : ℕ → Bool) (p : Program) → (further : List Bool) × IsMadeBeside new further p p)
    × ((new own : ℕ → Bool) (further more : List Bool) (p q r : Program) → ((id : ℕ) → own id ≡ true → new id ≡ true)
    → IsMadeBeside new further p q → AddsBeside own more q r → (all : List Bool) × IsMadeBeside new all p r)

-- What is made of the program of a unit, and is itself that of one, runs as it.
abbrev pub ProgramsRunBeside : Type 0
ProgramsRunBeside =
    (new : ℕ → Bool) (further : List Bool) (greatest last : ℕ) (model : DataModel) (unit marked : c.Unit) (p q : Program)
    → IsProgramTo greatest model unit p → IsProgramTo last model marked q → IsMadeBeside new further p q → FunctionsRunBeside new further p q
