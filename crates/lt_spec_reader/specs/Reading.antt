-- What is answered of the text of a specification.
use Rattle.std.specs.Prelude.{◌≡◌, ℕ, List, Result, Ok, Err}
use Rattle.lt_tree.specs.Typing.ProgramView.{program_of}
use Rattle.lt_tree.specs.declared.typed.program.Program.{Program}
use Rattle.lt_entry.specs.Specifications.{IsSpecification, IsFirstBadLine, line_number}
use Rattle.lt_input_names.specs.Blocks.{specification_of}
use Rattle.lt_input_names.specs.declared.block.Specification.{Specification}
use Rattle.lt_spec_reader.specs.declared.stops.NoSpecification.{NoSpecification}
use Rattle.lt_spec_reader.specs.declared.stops.NoSpecification.TheVariants as none

-- the specification that the text says, or the number of its first line that is no line of one in its place
abbrev pub IsSpecificationAnswer : Program → List ℕ → Result Specification NoSpecification → Type 0
IsSpecificationAnswer program text (Ok it) = IsSpecification (program_of program) text (specification_of program it)
IsSpecificationAnswer program text (Err (none.Line n)) = (number : ℕ) × IsFirstBadLine (program_of program) text number × (n ≡ line_number number)
IsSpecificationAnswer program text (Err none.NoMemory) = Unit {0}
