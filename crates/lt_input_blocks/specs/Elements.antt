-- The types of blocks' elements, and whether a block of them may be made.
use Rattle.std.specs.Prelude.{◌≡◌, ◌<◌, ◌≤◌, ◌^◌, ℕ, pos, true, false, List, Option, Some, None}
use Rattle.lt_model.specs.Layout.{most_cells, has_size, cells_of, Structs}
use Rattle.lt_tree.specs.declared.typed.program.Program.{Program}
use Rattle.lt_tree.specs.Typing.Types.{CType}
use Rattle.lt_tree.specs.Typing.Expressions.{has_pointer_to_function}
use Rattle.lt_tree.specs.Typing.Programs as value
use Rattle.lt_tree.specs.Typing.ProgramView.{program_of}
use Rattle.lt_entry.specs.Written.{Numeral, value_of}
use Rattle.lt_entry.specs.TypeNames.{type_named}
use Rattle.lt_entry.specs.Conditions.{is_block}
use Rattle.lt_input_names.specs.declared.block.ElementType.{ElementType}
use Rattle.lt_input_names.specs.Blocks.{element_of, program_types}
use Rattle.lt_input_names.specs.Kinds.{AreKinds}
use Rattle.lt_input_blocks.specs.Facts.{capped, HaveFacts}
use Rattle.lt_input_blocks.specs.Cells.{AreCells}
use Rattle.lt_input_blocks.specs.Names.{AreFileNames}
use Rattle.lt_input_blocks.specs.declared.asked.Asked.{Asked}
use Rattle.lt_input_blocks.specs.declared.block_types.BlockTypes.{BlockTypes}

-- what is asked of the type of a block's elements
pub record IsAsked (structs : Structs) (t : CType) (it : Asked) : Type 0 where
  pub sized : it.has_size ≡ has_size structs t
  pub pointer : it.is_pointer_to_function ≡ has_pointer_to_function t
  pub cells : it.cells ≡ capped (cells_of structs t)

-- The tables have what the program's types and names are.
pub record AreBlockTypes (it : BlockTypes) : Type 0 where
  pub kinds : AreKinds it.kinds
  pub kinds_program : it.kinds.program ≡ it.program
  pub names : AreFileNames it.names
  pub names_program : it.names.program ≡ it.program
  pub facts : HaveFacts (program_types it.program.now) it.facts.items
  pub cells : AreCells (program_of it.program.now).structs it.cells.items
  pub tables_program : it.tables.program ≡ it.program
  pub bare_program : it.bare.program ≡ it.program

-- The type of the elements of the block that a line makes, if such a block may be made.
abbrev pub IsElementOf : Program → List (List ℕ) → Numeral → Option ElementType → Type 0
IsElementOf program words count None = is_block (program_of program) count (type_named (program_of program).file words) ≡ false
IsElementOf program words count (Some element) =
    (type_named (program_of program).file words ≡ Some (element_of (program_types program) element))
    × (is_block (program_of program) count (type_named (program_of program).file words) ≡ true)

-- If there is such a type, the number is that of elements, and below 2^32.
abbrev pub IsSmallCount : Numeral → Option ElementType → Type 0
IsSmallCount count None = Unit {0}
IsSmallCount count (Some element) = (count.is_negative ≡ false) × (count.size < 2 ^ 32)

-- A block of elements that have cells has no more elements than an object may have cells.
abbrev pub CountsAreSmall : Type 0
CountsAreSmall =
    (program : value.Program) (count : Numeral) (t : CType) → 0 < cells_of program.structs t → is_block program count (Some t) ≡ true
    → (n : ℕ) × ((value_of count ≡ pos n) × (n ≤ most_cells))
