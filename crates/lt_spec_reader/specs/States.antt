-- What is kept while the lines of a specification are read.
use Rattle.std.specs.Prelude.{◌≡◌, ℕ, ◌||◌, is_some, Bool, true, false, List, [], ◌∷◌, ◌++◌, map, filter_map, Option, Some, None}
use Rattle.std.specs.List.{list_all}
use Rattle.lt_tree.specs.declared.typed.program.Program as typed
use Rattle.lt_tree.specs.Typing.ProgramView.{program_of}
use Rattle.lt_token.specs.Words.{is_no_identifier}
use Rattle.lt_entry.specs.TypeNames.{type_named}
use Rattle.lt_entry.specs.declared.specification_line.BlockLine.{BlockLine}
use Rattle.lt_entry.specs.Views.{numeral_view}
use Rattle.lt_entry.specs.LineViews.{block_view}
use Rattle.lt_entry.specs.Lines.{Row}
use Rattle.lt_entry.specs.Naming.{Scope, roots, root_among, parameters_of}
use Rattle.lt_entry.specs.SpecificationLines.{Line}
use Rattle.lt_entry.specs.Conditions.{is_block, entry_of, block_of_line, default_blocks, scope_behind, fits_in}
use Rattle.lt_input_names.specs.declared.names.Names.{Names}
use Rattle.lt_input_names.specs.declared.block.LineBlock.{LineBlock}
use Rattle.lt_input_names.specs.Blocks.{program_types, block_of, line_block_of}
use Rattle.lt_input_names.specs.Views.{AreNames, program_at, types_at, scope_of}
use Rattle.lt_input_blocks.specs.Elements.{AreBlockTypes}
use Rattle.lt_spec_reader.specs.declared.state.State.{State}
use Rattle.lt_spec_reader.specs.Fronts.{AreFirst, AreLongest}
use Rattle.lt_spec_reader.specs.Growth.{is_settled}
use Rattle.lt_spec_reader.specs.Said.{HasSaid, HasRanges}

-- ---- blocks

-- A line's block stands behind those of lines before, and its name was new; all else stays.
pub record Adds (line : Line) (old new : Names) (before after : List LineBlock) : Type 0 where
  pub names : AreNames new
  pub kinds : new.kinds ≡ old.kinds
  pub entry : new.entry ≡ old.entry
  pub others : new.blocks ≡ old.blocks
  pub block : LineBlock
  pub added : new.added.items ≡ old.added.items ++ block ∷ []
  pub made : after ≡ before ++ block ∷ []
  pub says : block_of_line (program_at old) line ≡ Some (line_block_of (types_at old) block)
  pub free : root_among (roots (scope_of old)) block.name.now ≡ None

-- whether a block may not have the name
abbrev pub is_taken : Scope → List ℕ → Bool
is_taken scope name = is_no_identifier name || is_some (root_among (roots scope) name)

-- the block of a line, if so many elements of its type may be one
abbrev pub IsBlockOf : typed.Program → BlockLine → Option LineBlock → Type 0
IsBlockOf program line None = is_block (program_of program) (numeral_view line.count) (type_named (program_of program).file (map (λ word. word.now) line.ty.items)) ≡ false
IsBlockOf program line (Some block) =
    (block_of_line (program_of program) (block_view line) ≡ Some (line_block_of (program_types program) block))
    × (is_block (program_of program) (numeral_view line.count) (type_named (program_of program).file (map (λ word. word.now) line.ty.items)) ≡ true)

-- Whether the line fits; where it does its block is added, else nothing changes.
pub record IsAdded (line : Line) (old new : Names) (before after : List LineBlock) (it : Bool) : Type 0 where
  pub fits : (lines : List Line) → it ≡ fits_in (scope_of old) lines line
  pub adds : it ≡ true → Adds line old new before after
  pub stays : it ≡ false → (new ≡ old) × (after ≡ before)

-- ---- states

-- Names and types of blocks are those of one program.
pub record IsReady (state : State) : Type 0 where
  pub names : AreNames state.names
  pub types : AreBlockTypes state.types
  pub program : state.types.program.now ≡ state.names.kinds.program.now

-- The state behind these lines of a file with these rows.
pub record IsBehind (program : typed.Program) (rows : List Row) (entry : ℕ) (lines : List Line) (state : State) : Type 0 where
  pub first : entry_of (program_of program) lines ≡ Some entry
  pub names : AreNames state.names
  pub types : AreBlockTypes state.types
  pub names_program : state.names.kinds.program.now ≡ program
  pub types_program : state.types.program.now ≡ program
  pub parameters : parameters_of (program_of program) state.names.entry ≡ parameters_of (program_of program) entry
  pub blocks : state.blocks.items ≡ state.names.added.items
  pub added : map (line_block_of (program_types program)) state.names.added.items ≡ filter_map (block_of_line (program_of program)) lines
  pub others : map (block_of (program_types program)) state.names.blocks.now ≡ default_blocks (program_of program) rows entry
  pub wants : HasSaid (scope_behind (program_of program) rows entry lines) lines state.wants
  pub ranges : HasRanges lines state.ranges
  pub settled : list_all (is_settled (scope_behind (program_of program) rows entry lines)) lines ≡ true

-- Whether a line fits behind these lines; where it does the state is that behind the line too, else it is that behind the lines still.
pub record IsStep (program : typed.Program) (rows : List Row) (entry : ℕ) (lines : List Line) (line : Line) (new : State) (it : Bool) : Type 0 where
  pub fits : it ≡ fits_in (scope_behind (program_of program) rows entry lines) lines line
  pub more : it ≡ true → IsBehind program rows entry (lines ++ line ∷ []) new
  pub stays : it ≡ false → IsBehind program rows entry lines new

-- The state goes along with the next line, if there is one.
abbrev pub GoesAlong : typed.Program → List Row → (entry : ℕ) → (lines : List Line) → (new : State) → Option Line → Type 0
GoesAlong program rows entry lines new None = IsBehind program rows entry lines new
GoesAlong program rows entry lines new (Some line) = IsBehind program rows entry (lines ++ line ∷ []) new

-- These lines are the first rows, each in its place, no further line is, and this is the state behind them.
pub record AreRead (program : typed.Program) (rows : List Row) (entry : ℕ) (lines : List Line) (state : State) : Type 0 where
  pub behind : IsBehind program rows entry lines state
  pub first : AreFirst (program_of program) rows lines
  pub longest : AreLongest (program_of program) rows lines
