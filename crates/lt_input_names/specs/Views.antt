-- What names and the parts of objects that they name stand for.
use Rattle.std.specs.Prelude.{◌≡◌, ℕ, List, [], ◌∷◌, ◌++◌, map}
use Rattle.lt_tree.specs.declared.typed.program.Program as typed
use Rattle.lt_tree.specs.Typing.Types.{CType}
use Rattle.lt_tree.specs.Typing.Programs.{Program}
use Rattle.lt_tree.specs.Typing.ProgramView.{program_of}
use Rattle.lt_tables.specs.Layouts.{AreLayoutsOf}
use Rattle.lt_entry.specs.Conditions.{stubs_of, stub_among}
use Rattle.lt_entry.specs.Naming.{Scope, Named, roots, root_among, parameters_of}
use Rattle.lt_input_names.specs.declared.names.Names.{Names}
use Rattle.lt_input_names.specs.declared.part.Part.{Part}
use Rattle.lt_input_names.specs.declared.part.PartType.{PartType}
use Rattle.lt_input_names.specs.declared.block.LineBlock.{LineBlock}
use Rattle.lt_input_names.specs.Blocks.{program_types, block_of, line_block_of}
use Rattle.lt_input_names.specs.Found.{found_in}
use Rattle.lt_input_names.specs.Kinds.{AreKinds}
use Rattle.lt_input_names.specs.Roots.{part_type, root_in}

-- the program whose types the names have
abbrev pub program_at : Names → Program
program_at names = program_of names.kinds.program.now

abbrev pub types_at : Names → List CType
types_at names = program_types names.kinds.program.now

-- what names stand for: the blocks that lines made come before the others
abbrev pub scope_of : Names → Scope
scope_of names = record {
  program = program_at names;
  parameters = parameters_of (program_at names) names.entry;
  blocks = map (line_block_of (types_at names)) names.added.items ++ map (block_of (types_at names)) names.blocks.now;
}

abbrev pub type_at : Names → PartType → CType
type_at names t = part_type (types_at names) t

abbrev pub named_at : Names → Part → Named
named_at names part = record { place = part.place; type = type_at names part.ty }

-- The tables have what the names stand for.
pub record AreNames (names : Names) : Type 0 where
  pub kinds : AreKinds names.kinds
  pub layouts : AreLayoutsOf (program_at names).model (program_at names).structs (types_at names) names.layouts
  pub bare : names.bare.program ≡ names.kinds.program
  pub roots : (name : List ℕ) → root_in (types_at names) names.roots name ≡ root_among (roots (scope_of names)) name
  pub stubs : (name : List ℕ) → found_in names.stubs name ≡ stub_among name (stubs_of (program_at names))

-- The names are those of a program, and no line made a block yet.
pub record AreNew (it : typed.Program) (names : Names) : Type 0 where
  pub program : names.kinds.program.now ≡ it
  pub added : names.added.items ≡ []

-- A further block stands behind those that lines made before; all else stays.
pub record HasAdded (old new : Names) (block : LineBlock) : Type 0 where
  pub kinds : new.kinds ≡ old.kinds
  pub entry : new.entry ≡ old.entry
  pub added : new.added.items ≡ old.added.items ++ block ∷ []
  pub blocks : new.blocks ≡ old.blocks
