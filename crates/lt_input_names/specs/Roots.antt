-- What objects that names stand for are in memory.
use Rattle.std.specs.Prelude.{◌≡◌, ℕ, List, Option, None, Some, option_map}
use Rattle.std.specs.Borrow.{Bor}
use Rattle.std.specs.HashMap.{HashMap}
use Rattle.lt_tree.specs.Typing.Entities.{or_else}
use Rattle.lt_tree.specs.Typing.Types.{CType, Array}
use Rattle.lt_entry.specs.Naming as naming
use Rattle.lt_entry.specs.Naming.{root_among}
use Rattle.lt_input_names.specs.declared.part.PartType.{PartType}
use Rattle.lt_input_names.specs.declared.part.Root.{Root}
use Rattle.lt_input_names.specs.declared.block.Base.TheVariants as base
use Rattle.lt_tree.specs.declared.typed.types.TypeId.{TypeId}
use Rattle.lt_input_names.specs.Blocks.{element_of}
use Rattle.lt_input_names.specs.Found.{found_in}

-- an array of so many, or one
abbrev pub counted : CType → Option ℕ → CType
counted t None = t
counted t (Some n) = Array t n

abbrev pub part_type : List CType → PartType → CType
part_type types t = counted (element_of types t.element) t.count

-- an object of this name
abbrev pub root_at : List CType → List ℕ → Root → naming.Root
root_at types name root = record { name = name; type = part_type types root.ty; is_block = root.is_block }

abbrev pub root_in : {S : Type 0} → List CType → HashMap (Bor (List ℕ)) Root S → List ℕ → Option naming.Root
root_in types roots name = option_map (root_at types name) (found_in roots name)

-- The map has these objects too: each name that had none before has the first of them with this name.
abbrev pub Puts : {S : Type 0} → List CType → (old new : HashMap (Bor (List ℕ)) Root S) → List naming.Root → Type 0
Puts types old new roots = (name : List ℕ) → root_in types new name ≡ or_else (root_in types old name) (root_among roots name)

-- the type of a row
abbrev pub row_part : TypeId → PartType
row_part t = record { element = record { base = base.Row t; pointers = 0 }; count = None }
