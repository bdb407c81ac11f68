-- What blocks in memory stand for, where types stand in a program's table.
use Rattle.std.specs.Prelude.{ℕ, zero, suc, List, map}
use Rattle.lt_tree.specs.declared.typed.program.Program as typed
use Rattle.lt_tree.specs.Typing.Types.{CType, Void, Num, Pointer, Struct, Floating}
use Rattle.lt_tree.specs.Typing.TypeRows.{type_in, types_of_rows}
use Rattle.lt_tree.specs.Typing.ProgramView.{program_of}
use Rattle.lt_entry.specs.Naming.{Block, Scope, parameters_of}
use Rattle.lt_entry.specs.Specifications.{Specification}
use Rattle.lt_input_names.specs.declared.block.Base.{Base}
use Rattle.lt_input_names.specs.declared.block.Base.TheVariants as base
use Rattle.lt_input_names.specs.declared.block.ElementType.{ElementType}
use Rattle.lt_input_names.specs.declared.block.Block as memory
use Rattle.lt_input_names.specs.declared.block.LineBlock as line
use Rattle.lt_input_names.specs.declared.block.Specification as specification

abbrev pub base_of : List CType → Base → CType
base_of types (base.Row id) = type_in types id
base_of types (base.Num s) = Num s
base_of types base.Void = Void
base_of types base.Floating = Floating
base_of types (base.Struct k) = Struct k

-- a type behind so many pointers
abbrev pub pointers : ℕ → CType → CType
pointers zero t = t
pointers (suc n) t = Pointer (pointers n t)

abbrev pub element_of : List CType → ElementType → CType
element_of types element = pointers element.pointers (base_of types element.base)

abbrev pub block_of : List CType → memory.Block → Block
block_of types block = record { name = block.name; element = element_of types block.element; count = block.count }

abbrev pub line_block_of : List CType → line.LineBlock → Block
line_block_of types block = record { name = block.name.now; element = element_of types block.element; count = block.count }

-- the types of a program's table
abbrev pub program_types : typed.Program → List CType
program_types program = types_of_rows program.table.items

abbrev pub specification_of : typed.Program → specification.Specification → Specification
specification_of program it = record { spec = it.spec; blocks = map (block_of (program_types program)) it.blocks.items }

-- what names stand for where the function of this number is the entry, and these are the blocks
abbrev pub scope_with : typed.Program → (entry : ℕ) → List memory.Block → Scope
scope_with program entry blocks = record {
  program = program_of program;
  parameters = parameters_of (program_of program) entry;
  blocks = map (block_of (program_types program)) blocks;
}
