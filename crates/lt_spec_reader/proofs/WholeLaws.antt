-- The specification that lines say, from its parts.
use Rattle.std.proofs.Common.{◌≡◌, ℕ, List, [], ◌∷◌, ◌++◌, map, refl, sym, ap, ◌∙◌}
use Rattle.std.specs.List.{flat_map, filter_map}
use Rattle.lt_model.specs.declared.input.BlockIn.{BlockIn}
use Rattle.lt_model.specs.declared.input.FreeCell.{FreeCell}
use Rattle.lt_model.specs.declared.input.Need.{Need}
use Rattle.lt_model.specs.declared.input.Spec.{Spec}
use Rattle.lt_model.specs.declared.input.StubRange.{StubRange}
use Rattle.lt_tree.specs.declared.typed.program.Program as typed
use Rattle.lt_tree.specs.Typing.ProgramView.{program_of}
use Rattle.lt_entry.specs.Lines.{Row}
use Rattle.lt_entry.specs.Naming.{Root, Block, Scope, block_root, parameters_of}
use Rattle.lt_entry.specs.SpecificationLines.{Line}
use Rattle.lt_entry.specs.Conditions.{default_blocks, block_of_line, scope_behind, stubs_of}
use Rattle.lt_entry.specs.Meaning.{block_in, free_cells, null_or_default, only_null, freed_unless_hidden, stub_range, need_said, said_in}
use Rattle.lt_entry.specs.Specifications.{Specification, specification_in}
use Rattle.lt_input_names.specs.declared.block.Block as memory
use Rattle.lt_input_names.specs.Blocks.{program_types, block_of, line_block_of}
use Rattle.lt_input_names.specs.Views.{scope_of}
use Rattle.lt_spec_reader.specs.declared.state.State.{State}
use Rattle.lt_spec_reader.specs.States.{IsBehind}
use Rattle.lt_spec_reader.proofs.StateLaws.{scope_is}

-- going over what a list is made of
pub flat_mapped : {A B C : Type 0} (f : B → List C) (g : A → B) (l : List A) → flat_map (λ a. f (g a)) l ≡ flat_map f (map g l)
flat_mapped f g [] = refl
flat_mapped f g (a ∷ l) = ap (λ r. f (g a) ++ r) (flat_mapped f g l)

mapped : {A B C : Type 0} (f : B → C) (g : A → B) (l : List A) → map (λ a. f (g a)) l ≡ map f (map g l)
mapped f g [] = refl
mapped f g (a ∷ l) = ap (λ r. f (g a) ∷ r) (mapped f g l)

module _ (program : typed.Program) (rows : List Row) (entry : ℕ) (lines : List Line) (state : State) (behind : IsBehind program rows entry lines state) where
  abbrev scope : Scope
  scope = scope_behind (program_of program) rows entry lines

  abbrev cells_in_order : List FreeCell
  cells_in_order = (said_in scope entry lines).cells

  pub blocks_are : (all others : List memory.Block) → map (block_of (program_types program)) others ≡ default_blocks (program_of program) rows entry
      → map (block_of (program_types program)) all ≡ map (line_block_of (program_types program)) state.blocks.items ++ map (block_of (program_types program)) others
      → map (block_of (program_types program)) all ≡ (scope_behind (program_of program) rows entry lines).blocks
  blocks_are all others default is =
      is
      ∙ ap (λ l. map (line_block_of (program_types program)) l ++ map (block_of (program_types program)) others) behind.blocks
      ∙ ap (λ l. l ++ map (block_of (program_types program)) others) behind.added
      ∙ ap (λ l. filter_map (block_of_line (program_of program)) lines ++ l) default

  pub shapes_are : (all : List memory.Block) (shapes : List BlockIn) → map (block_of (program_types program)) all ≡ (scope_behind (program_of program) rows entry lines).blocks
      → shapes ≡ map (λ block. block_in (program_of program) (block_of (program_types program) block)) all
      → shapes ≡ map (block_in (program_of program)) (scope_behind (program_of program) rows entry lines).blocks
  shapes_are all shapes blocks is = is ∙ mapped (block_in (program_of program)) (block_of (program_types program)) all ∙ ap (map (block_in (program_of program))) blocks

  pub whole : (number : ℕ) (all : List memory.Block) (shapes : List BlockIn) (roots : List Root) (first second third : List FreeCell) (stubs : List StubRange) (needs : List Need)
      → number ≡ entry → roots ≡ parameters_of (program_of program) entry
      → map (block_of (program_types program)) all ≡ (scope_behind (program_of program) rows entry lines).blocks
      → shapes ≡ map (block_in (program_of program)) (scope_behind (program_of program) rows entry lines).blocks
      → first ≡ flat_map (λ root. free_cells (scope_behind (program_of program) rows entry lines) lines (null_or_default (program_of program) root) root) roots
      → second ≡ first ++ flat_map (λ block. free_cells (scope_behind (program_of program) rows entry lines) lines only_null (block_root block)) (scope_behind (program_of program) rows entry lines).blocks
      → third ≡ second ++ flat_map (freed_unless_hidden (scope_behind (program_of program) rows entry lines) lines) (program_of program).objects
      → stubs ≡ map (stub_range (program_of program) lines) (stubs_of (program_of program))
      → needs ≡ filter_map (need_said (scope_of state.names)) lines
      → (let it : Specification = record { spec = record { entry = number; blocks = shapes; cells = third; stubs = stubs; needs = needs }; blocks = map (block_of (program_types program)) all } in it)
      ≡ specification_in (scope_behind (program_of program) rows entry lines) entry lines
  whole number all shapes roots first second third stubs needs n parameters blocks made cells behind_cells freed ranges said =
      let cells_before = ap (λ l. l ++ flat_map (λ block. free_cells scope lines only_null (block_root block)) scope.blocks) (cells ∙ ap (flat_map (λ root. free_cells scope lines (null_or_default (program_of program) root) root)) parameters) in
      let all_cells = freed ∙ ap (λ l. l ++ flat_map (freed_unless_hidden scope lines) (program_of program).objects) (behind_cells ∙ cells_before) in
      let all_needs = said ∙ ap (λ s. filter_map (need_said s) lines) (scope_is program rows entry lines state behind) in
      ap (λ k. let it : Specification = record { spec = record { entry = k; blocks = shapes; cells = third; stubs = stubs; needs = needs }; blocks = map (block_of (program_types program)) all } in it) n
      ∙ ap (λ l. let it : Specification = record { spec = record { entry = entry; blocks = l; cells = third; stubs = stubs; needs = needs }; blocks = map (block_of (program_types program)) all } in it) made
      ∙ ap (λ l. let it : Specification = record { spec = record { entry = entry; blocks = map (block_in (program_of program)) scope.blocks; cells = l; stubs = stubs; needs = needs }; blocks = map (block_of (program_types program)) all } in it) all_cells
      ∙ ap (λ l. let it : Specification = record { spec = record { entry = entry; blocks = map (block_in (program_of program)) scope.blocks; cells = cells_in_order; stubs = l; needs = needs }; blocks = map (block_of (program_types program)) all } in it) ranges
      ∙ ap (λ l. let it : Specification = record { spec = record { entry = entry; blocks = map (block_in (program_of program)) scope.blocks; cells = cells_in_order; stubs = map (stub_range (program_of program) lines) (stubs_of (program_of program)); needs = l }; blocks = map (block_of (program_types program)) all } in it) all_needs
      ∙ ap (λ l. let it : Specification = record { spec = said_in scope entry lines; blocks = l } in it) blocks
