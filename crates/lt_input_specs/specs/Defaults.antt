-- Parts of the default specification, as they are made.
use Rattle.std.specs.Prelude.{◌≡◌, ℕ, List, [], ◌∷◌, Option, None, Some, option_map, option_to_list, filter_map, map, slice_get}
use Rattle.lt_model.specs.declared.cell.ShapeCell.{ShapeCell}
use Rattle.lt_model.specs.declared.input.FreeCell.{FreeCell}
use Rattle.lt_model.specs.declared.input.Place.{Place}
use Rattle.lt_model.specs.declared.input.Want.{Want}
use Rattle.lt_model.specs.declared.input.Want.TheVariants as want
use Rattle.lt_model.specs.declared.scalar.DataModel.{DataModel}
use Rattle.lt_tree.specs.declared.typed.entity.Object.{Object}
use Rattle.lt_tree.specs.declared.typed.types.TypeId.{TypeId}
use Rattle.lt_tree.specs.declared.typed.program.Program as typed
use Rattle.lt_tree.specs.Typing.TypeRows.{type_in}
use Rattle.lt_tree.specs.Typing.EntityView.{object_of}
use Rattle.lt_tree.specs.Typing.Programs.{Program}
use Rattle.lt_meaning.specs.Expressions.{shape}
use Rattle.lt_entry.specs.Written.{default_name}
use Rattle.lt_entry.specs.Naming.{Root, Block, object_root, default_block}
use Rattle.lt_entry.specs.Meaning.{any_value, zero_start, place_in, null_or_default}
use Rattle.lt_input_names.specs.Blocks.{program_types}

-- an object of a program's table, as files name it
abbrev pub root_of : typed.Program → Object → Root
root_of program object = object_root (object_of (program_types program) object)

-- the objects with these numbers, as far as there are
abbrev pub roots_at : typed.Program → List ℕ → List Root
roots_at program numbers = filter_map (λ n. option_map (root_of program) (slice_get program.objects.items n)) numbers

-- the default block of an object that points to this type
abbrev pub block_to : typed.Program → Object → TypeId → Block
block_to program object t = record { name = default_name object.name; element = type_in (program_types program) t; count = 1 }

-- null, or the beginning of a block of this name
abbrev pub want_to : Option (List ℕ) → Want
want_to name = want.OneOf (None ∷ map (λ root. Some (record { root = root; offset = 0 })) (option_to_list name))

-- a cell of an object of this name of which no line says anything
abbrev pub plain_cell : DataModel → (name : List ℕ) → (pointer : Want) → ShapeCell → FreeCell
plain_cell model name pointer it = record {
  at = record { root = name; offset = it.offset };
  ty = it.ty;
  want = any_value model it.ty pointer;
  start = zero_start it.ty;
}

-- the cells of a parameter
abbrev pub parameter_cells : Program → Root → List FreeCell
parameter_cells program parameter =
    map (plain_cell program.model parameter.name (null_or_default program parameter)) (shape program parameter.type).cells
