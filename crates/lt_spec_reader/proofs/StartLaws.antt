-- The state behind the line `entry`.
use Rattle.std.proofs.Common.{◌≡◌, ℕ, List, [], ◌∷◌, ◌++◌, map, Some, None, refl, sym, ap, ◌∙◌}
use Rattle.std.specs.Prelude.{option_map}
use Rattle.std.specs.Borrow.{Bor}
use Rattle.std.specs.Str.{bytes_eq}
use Rattle.std.specs.HashMap.{HashMap}
use Rattle.std.specs.Map.{lookup}
use Rattle.lt_model.specs.declared.input.Place.{Place}
use Rattle.lt_tree.specs.declared.typed.program.Program as typed
use Rattle.lt_tree.specs.Typing.ProgramView.{program_of}
use Rattle.lt_entry.specs.Lines.{Row}
use Rattle.lt_entry.specs.Naming.{Scope, parameters_of}
use Rattle.lt_entry.specs.SpecificationLines.{entry_line}
use Rattle.lt_entry.specs.Conditions.{default_blocks, entry_named}
use Rattle.lt_input_names.specs.declared.block.Block as memory
use Rattle.lt_input_names.specs.Blocks.{program_types, block_of, line_block_of, scope_with}
use Rattle.lt_input_names.specs.Found.{found_in}
use Rattle.lt_input_names.specs.Views.{AreNames, AreNew, scope_of}
use Rattle.lt_input_blocks.specs.Elements.{AreBlockTypes}
use Rattle.lt_spec_reader.specs.declared.state.State.{State}
use Rattle.lt_spec_reader.specs.Said.{Key, is_key_of, found_at}
use Rattle.lt_spec_reader.specs.States.{IsBehind}

-- a map without entries has nothing
pub nothing_at : {V S : Type 0} (m : HashMap Key V S) → m.entries ≡ [] → (place : Place) → found_at m place ≡ None
nothing_at m none place = ap (lookup (is_key_of place)) none

pub nothing_in : {V S : Type 0} (m : HashMap (Bor (List ℕ)) V S) → m.entries ≡ [] → (name : List ℕ) → found_in m name ≡ None
nothing_in m none name = ap (lookup (λ (key : Bor (List ℕ)). bytes_eq name key.now)) none

pub start_is : (program : typed.Program) (rows : List Row) (number : ℕ) (name : List ℕ) (blocks : List memory.Block) (state : State) → AreNames state.names → AreNew program state.names → scope_of state.names ≡ scope_with program number blocks
    → AreBlockTypes state.types → state.types.program.now ≡ program → state.blocks.items ≡ [] → ((place : Place) → found_at state.wants place ≡ None) → ((w : List ℕ) → found_in state.ranges w ≡ None)
    → map (block_of (program_types program)) blocks ≡ default_blocks (program_of program) rows number → entry_named (program_of program) name ≡ Some number
    → IsBehind program rows number (entry_line name ∷ []) state
start_is program rows number name blocks state names fresh scope types types_program none wants ranges made named = record {
  first = named;
  names = names;
  types = types;
  names_program = fresh.program;
  types_program = types_program;
  parameters = ap (λ q. parameters_of (program_of q) state.names.entry) (sym fresh.program) ∙ ap (λ (s : Scope). s.parameters) scope;
  blocks = none ∙ sym fresh.added;
  added = ap (map (line_block_of (program_types program))) fresh.added;
  others =
      ap (λ q. map (block_of (program_types q)) state.names.blocks.now) (sym fresh.program)
      ∙ ap (λ l. map (line_block_of (program_types state.names.kinds.program.now)) l ++ map (block_of (program_types state.names.kinds.program.now)) state.names.blocks.now) (sym fresh.added)
      ∙ ap (λ (s : Scope). s.blocks) scope ∙ made;
  wants = wants;
  ranges = λ w. ap (option_map _) (ranges w);
  settled = refl;
}
