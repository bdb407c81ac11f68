-- What is answered of the default specification.
use Rattle.std.specs.Prelude.{Result, Ok, Err}
use Rattle.lt_tree.specs.Typing.ProgramView.{program_of}
use Rattle.lt_tree.specs.declared.typed.program.Program.{Program}
use Rattle.lt_entry.specs.Specifications.{IsDefault, HasNoEntry}
use Rattle.lt_input_names.specs.Blocks.{specification_of}
use Rattle.lt_input_names.specs.declared.block.Specification.{Specification}
use Rattle.lt_input_specs.specs.declared.stops.NoSpec.{NoSpec}
use Rattle.lt_input_specs.specs.declared.stops.NoSpec.TheVariants as none

abbrev pub IsDefaultAnswer : Program → Result Specification NoSpec → Type 0
IsDefaultAnswer program (Ok it) = IsDefault (program_of program) (specification_of program it)
IsDefaultAnswer program (Err none.NoEntry) = HasNoEntry (program_of program)
IsDefaultAnswer program (Err none.NoMemory) = Unit {0}
