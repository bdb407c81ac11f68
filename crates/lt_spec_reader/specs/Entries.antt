-- The entry that the first row names.
use Rattle.std.specs.Prelude.{◌≡◌, ℕ, List, [], Option, Some, None}
use Rattle.lt_tree.specs.Typing.Programs.{Program}
use Rattle.lt_entry.specs.Lines.{Row}
use Rattle.lt_entry.specs.SpecificationLines.{entry_line}
use Rattle.lt_entry.specs.Conditions.{entry_named}
use Rattle.lt_spec_reader.specs.declared.entry.Entry.{Entry}
use Rattle.lt_spec_reader.specs.Fronts.{IsNext}

-- the entry that words name where they are those of the first row, if they name one
abbrev pub IsEntryOf : Program → List Row → (words : List (List ℕ)) → Option Entry → Type 0
IsEntryOf program rows words None = IsNext program rows [] words None
IsEntryOf program rows words (Some entry) = IsNext program rows [] words (Some (entry_line entry.name.now)) × (entry_named program entry.name.now ≡ Some entry.number)
