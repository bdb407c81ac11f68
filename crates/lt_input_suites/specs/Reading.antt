-- What is answered of the text of a suite.
use Rattle.std.specs.Prelude.{◌≡◌, ℕ, List, Result, Ok, Err}
use Rattle.lt_tree.specs.Typing.ProgramView.{program_of}
use Rattle.lt_tree.specs.declared.typed.program.Program.{Program}
use Rattle.lt_entry.specs.declared.test.Suite.{Suite}
use Rattle.lt_entry.specs.Specifications.{line_number}
use Rattle.lt_entry.specs.Suites.{IsSuite, IsFirstBadSuiteLine}
use Rattle.lt_input_names.specs.Blocks.{specification_of}
use Rattle.lt_input_names.specs.declared.block.Specification.{Specification}
use Rattle.lt_input_suites.specs.declared.stops.NoSuite.{NoSuite}
use Rattle.lt_input_suites.specs.declared.stops.NoSuite.TheVariants as none

-- the suite that the text says, or the number of its first line that is no line of one in its place
abbrev pub IsSuiteAnswer : Program → Specification → List ℕ → Result Suite NoSuite → Type 0
IsSuiteAnswer program it text (Ok suite) = IsSuite (program_of program) (specification_of program it) text suite
IsSuiteAnswer program it text (Err (none.Line n)) =
    (number : ℕ) × IsFirstBadSuiteLine (program_of program) (specification_of program it) text number × (n ≡ line_number number)
IsSuiteAnswer program it text (Err none.NoMemory) = Unit {0}
