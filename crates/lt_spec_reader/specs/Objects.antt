-- The cells of the program's objects that lines free, by what is looked up.
use Rattle.std.specs.Prelude.{ℕ, ◌&&◌, Bool, not, List, [], Option, Some, None, flat_map, option_map, option_to_list, slice_get, if◌then◌else◌}
use Rattle.std.specs.Borrow.{Bor}
use Rattle.std.specs.List.{zip}
use Rattle.lt_model.specs.declared.cell.Address.{Address}
use Rattle.lt_model.specs.declared.cell.Content.{Content}
use Rattle.lt_model.specs.declared.cell.Content.TheVariants as content
use Rattle.lt_model.specs.declared.cell.ShapeCell.{ShapeCell}
use Rattle.lt_model.specs.declared.input.FreeCell.{FreeCell}
use Rattle.lt_model.specs.declared.input.StartValue.{StartValue}
use Rattle.lt_model.specs.declared.input.StartValue.TheVariants as start
use Rattle.lt_ir.specs.declared.code.Static.{Static}
use Rattle.lt_tree.specs.declared.typed.entity.Life.{Life}
use Rattle.lt_tree.specs.declared.typed.entity.Object.{Object}
use Rattle.lt_tree.specs.Typing.Entities.{is_linked, is_static}
use Rattle.lt_tree.specs.Typing.EntityView.{life_of}
use Rattle.lt_input_names.specs.Stubs.{has_name}
use Rattle.lt_spec_reader.specs.declared.objects.Lookups.{Lookups}
use Rattle.lt_spec_reader.specs.Said.{found_at}

-- whether an object with this life is there from the start
abbrev pub is_first_life : Life → Bool
is_first_life life = is_static (life_of life)

-- whether files can name an object
abbrev pub is_nameable : Lookups → Object → Bool
is_nameable lookups object = is_linked (life_of object.life) && not (has_name lookups.hidden object.name)

-- a place in an object, if files can name it
abbrev pub target_in : Lookups → (offset : ℕ) → Option (Bor Object) → StartValue
target_in lookups offset None = start.Other
target_in lookups offset (Some object) =
    if is_nameable lookups object.now then start.Point (Some (record { root = object.now.name; offset = offset })) else start.Other

-- what an address names
abbrev pub target_by : Lookups → Address → StartValue
target_by lookups at = target_in lookups at.offset (slice_get lookups.firsts.items at.block)

-- what an object holds first, as files name it
abbrev pub start_by : Lookups → Content → StartValue
start_by lookups (content.Number z) = start.Number z
start_by lookups (content.Address None) = start.Point None
start_by lookups (content.Address (Some at)) = target_by lookups at
start_by lookups content.Unset = start.Other

-- a cell of the object of this name, if something is said of it
abbrev pub cell_by : Lookups → (name : List ℕ) → ShapeCell → Content → Option FreeCell
cell_by lookups name it holds =
    option_map (λ said. record {
      at = record { root = name; offset = it.offset };
      ty = it.ty;
      want = said;
      start = start_by lookups holds;
    }) (found_at lookups.wants.now (record { root = name; offset = it.offset }))

-- the cells of the object of this name of which something is said
abbrev pub cells_by : Lookups → (name : List ℕ) → List ShapeCell → List Content → List FreeCell
cells_by lookups name shape contents = flat_map (λ p. option_to_list (cell_by lookups name p.0 p.1)) (zip shape contents)

-- the cells of an object that lines free
abbrev pub freed_by : Lookups → Object → Static → List FreeCell
freed_by lookups object made = if is_nameable lookups object then cells_by lookups object.name made.block.shape.cells made.cells else []

-- the cells of all objects that lines free
abbrev pub all_freed_by : Lookups → List Static → List FreeCell
all_freed_by lookups all = flat_map (λ p. freed_by lookups p.0.now p.1) (zip lookups.firsts.items all)
