-- What is answered of the rows of a file.
use Rattle.std.specs.Prelude.{◌≡◌, ℕ, List, [], length, Option, Some, None, Result}
use Rattle.lt_tree.specs.declared.typed.program.Program.{Program}
use Rattle.lt_tree.specs.Typing.ProgramView.{program_of}
use Rattle.lt_entry.specs.Lines.{Row, rows_of}
use Rattle.lt_entry.specs.SpecificationLines.{Line}
use Rattle.lt_entry.specs.Conditions.{scope_behind}
use Rattle.lt_entry.specs.Specifications.{unfree_rows, IsFirstBadLine}
use Rattle.lt_input_names.specs.declared.block.Specification.{Specification}
use Rattle.lt_spec_reader.specs.declared.stops.NoSpecification.{NoSpecification}
use Rattle.lt_spec_reader.specs.Reading.{IsSpecificationAnswer}

-- the answer of each text that has these rows
abbrev pub AnswersRows : Program → List Row → Result Specification NoSpecification → Type 0
AnswersRows program rows it = (text : List ℕ) → rows ≡ rows_of text → IsSpecificationAnswer program text it

-- The number is that of the first bad line, where these are the lines that fit; with none, no line is bad.
abbrev pub IsFault : Program → List Row → (entry : ℕ) → List Line → Option ℕ → Type 0
IsFault program rows entry lines None = (unfree_rows (scope_behind (program_of program) rows entry lines) rows rows lines ≡ []) × (length lines ≡ length rows)
IsFault program rows entry lines (Some number) = (text : List ℕ) → rows ≡ rows_of text → IsFirstBadLine (program_of program) text number
