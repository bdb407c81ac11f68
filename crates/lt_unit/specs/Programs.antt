-- The program of what is known at the end of a unit.
use Rattle.std.specs.Prelude.{◌≡◌, Result, Ok, Err}
use Rattle.lt_tree.specs.declared.unit.Unit.{Unit as SourceUnit}
use Rattle.lt_tree.specs.declared.typed.program.Program.{Program}
use Rattle.lt_tree.specs.UnitView.{unit_of}
use Rattle.lt_tree.specs.Typing.TypeRows.{types_of_rows, Continues, Lasts}
use Rattle.lt_tree.specs.Typing.Programs as programs
use Rattle.lt_tree.specs.Typing.Ranges.{IsInRange}
use Rattle.lt_tree.specs.Typing.ProgramView.{program_of}
use Rattle.lt_env.specs.Going.{types_in, known_of}
use Rattle.lt_env.specs.declared.walker.Walker.{Walker}
use Rattle.lt_env.specs.declared.stop.TypeStop.{TypeStop}
use Rattle.lt_env.specs.declared.stop.TypeStop.TheVariants.{NoMemory}

-- What a walker knows at the end of a unit is the same, whatever types are added later, and what its program refers to is there.
unfoldable pub KnowsInRange : Walker → SourceUnit → Type 0
KnowsInRange walker unit =
    Lasts (types_in walker) (λ types. known_of types walker ≡ known_of (types_in walker) walker)
    × IsInRange (programs.program_of (unit_of unit) (known_of (types_in walker) walker))

-- Its table goes on from the walker's, and it is the program of what the walker knows; nothing but want of memory stops it.
abbrev pub IsProgram : Walker → SourceUnit → Result Program TypeStop → Type 0
IsProgram walker unit (Ok p) =
    Continues (types_in walker) (types_of_rows p.table.items)
    × (program_of p ≡ programs.program_of (unit_of unit) (known_of (types_of_rows p.table.items) walker))
IsProgram walker unit (Err stop) = stop ≡ NoMemory
