-- The inputs that the lines of a specification allow: every free cell, every function without a body, and the requirements.
use Rattle.std.specs.Prelude.{ℕ, ℤ, pos, neg_ℤ, if◌then◌else◌, Bool, true, false, List, [], ◌∷◌, ◌++◌, map, flat_map, filter, filter_map, find, slice_get, Option, Some, None, option_map, option_and_then, option_to_list, unwrap_or}
use Rattle.lt_model.specs.declared.cell.Address.{Address}
use Rattle.lt_model.specs.declared.cell.CellType.{CellType}
use Rattle.lt_model.specs.declared.cell.CellType.TheVariants as cell
use Rattle.lt_model.specs.declared.cell.Content.{Content}
use Rattle.lt_model.specs.declared.cell.Content.TheVariants as content
use Rattle.lt_model.specs.declared.cell.ShapeCell.{ShapeCell}
use Rattle.lt_model.specs.declared.cell.StoredCell.{StoredCell}
use Rattle.lt_model.specs.declared.input.BlockIn.{BlockIn}
use Rattle.lt_model.specs.declared.input.FreeCell.{FreeCell}
use Rattle.lt_model.specs.declared.input.Need.{Need}
use Rattle.lt_model.specs.declared.input.NeedTerm.{NeedTerm}
use Rattle.lt_model.specs.declared.input.Place.{Place}
use Rattle.lt_model.specs.declared.input.Spec.{Spec}
use Rattle.lt_model.specs.declared.input.StartValue.{StartValue}
use Rattle.lt_model.specs.declared.input.StartValue.TheVariants as start
use Rattle.lt_model.specs.declared.input.StubRange.{StubRange}
use Rattle.lt_model.specs.declared.input.Want.{Want}
use Rattle.lt_model.specs.declared.input.Want.TheVariants as want
use Rattle.lt_model.specs.declared.scalar.DataModel.{DataModel}
use Rattle.lt_model.specs.Scalar.{least_of, greatest_of}
use Rattle.lt_tree.specs.Typing.Types.{CType, Array, target_of}
use Rattle.lt_tree.specs.Typing.Entities.{Object, is_linked, is_static}
use Rattle.lt_tree.specs.Typing.Programs.{Program}
use Rattle.lt_meaning.specs.Expressions.{shape}
use Rattle.lt_meaning.specs.Runs.{started_cells}
use Rattle.lt_entry.specs.Lines.{Row}
use Rattle.lt_entry.specs.Written.{value_of, TargetWord}
use Rattle.lt_entry.specs.Naming.{Root, Block, block_root, Scope, root_among, default_block, Named, named_by, targets_of}
use Rattle.lt_entry.specs.SpecificationLines.{Line, range_line, points_line, stub_line, require_line, Addend, addends, op_of}
use Rattle.lt_entry.specs.Conditions.{scope_behind, same_place, names_stub, Stub, stubs_of}

-- the first of these that there is
abbrev pub first_some : {A : Type 0} → List (Option A) → Option A
first_some [] = None
first_some (None ∷ rest) = first_some rest
first_some (Some a ∷ rest) = Some a

-- ---- what a line says of a cell

abbrev pub at_place : Scope → Place → List Named → Option Named
at_place scope place its = find (λ it. same_place it.place place) its

abbrev pub targets_for : Scope → List TargetWord → CType → List (Option Place)
targets_for scope targets t = unwrap_or (option_map (λ pointed. flat_map (targets_of scope pointed) targets) (target_of t)) []

abbrev pub want_by : Scope → Place → Line → Option Want
want_by scope place (range_line word low high) =
    option_map (λ it. want.Between (value_of low) (value_of high)) (at_place scope place (named_by scope word))
want_by scope place (points_line word targets) =
    option_map (λ it. want.OneOf (targets_for scope targets it.type)) (at_place scope place (named_by scope word))
want_by scope place line = None

-- what the lines say of a cell
abbrev pub want_said : Scope → List Line → Place → Option Want
want_said scope lines place = first_some (map (want_by scope place) lines)

-- ---- what a cell may hold of which no line says anything

abbrev pub any_value : DataModel → CellType → (pointer : Want) → Want
any_value model (cell.Num s) pointer = want.Between (least_of model s) (greatest_of model s)
any_value model (cell.Pointer p) pointer = pointer

abbrev pub only_null : Want
only_null = want.OneOf (None ∷ [])

abbrev pub start_of_block : Block → Option Place
start_of_block block = Some (record { root = block.name; offset = 0 })

-- A pointer parameter is null, or points to its default block if it has one.
abbrev pub null_or_default : Program → Root → Want
null_or_default program parameter = want.OneOf (None ∷ map start_of_block (option_to_list (default_block program parameter)))

-- ---- what a cell holds first

-- 0 or null
abbrev pub zero_start : CellType → StartValue
zero_start (cell.Num s) = start.Number (pos 0)
zero_start (cell.Pointer p) = start.Point None

-- The object of this number among those that are there from the start, if a file can name it: it has linkage, and no parameter has its name.
abbrev pub nameable : List Root → Object → Option (List ℕ)
nameable parameters object = if is_linked object.life then elim (root_among parameters object.name) [ None ↦ Some object.name | Some root ↦ None ] else None

abbrev pub place_of_address : Program → List Root → Address → StartValue
place_of_address program parameters at =
    elim (option_and_then (nameable parameters) (slice_get (filter (λ object. is_static object.life) program.objects) at.block)) [
      | None ↦ start.Other
      | Some name ↦ start.Point (Some (record { root = name; offset = at.offset }))
    ]

-- what an object of the program holds first, as files name it
abbrev pub start_of : Program → List Root → Content → StartValue
start_of program parameters (content.Number z) = start.Number z
start_of program parameters (content.Address None) = start.Point None
start_of program parameters (content.Address (Some at)) = place_of_address program parameters at
start_of program parameters content.Unset = start.Other

-- ---- free cells

abbrev pub place_in : Root → (offset : ℕ) → Place
place_in root offset = record { root = root.name; offset = offset }

abbrev pub free_cell : Scope → List Line → (pointer : Want) → Root → ShapeCell → FreeCell
free_cell scope lines pointer root it = record {
  at = place_in root it.offset;
  ty = it.ty;
  want = unwrap_or (want_said scope lines (place_in root it.offset)) (any_value scope.program.model it.ty pointer);
  start = zero_start it.ty;
}

-- every cell of a parameter or a block is free
abbrev pub free_cells : Scope → List Line → (pointer : Want) → Root → List FreeCell
free_cells scope lines pointer root = map (free_cell scope lines pointer root) (shape scope.program root.type).cells

abbrev pub freed_cell : Scope → List Line → Object → StoredCell → Option FreeCell
freed_cell scope lines object it =
    option_map (λ said. record {
      at = record { root = object.name; offset = it.offset };
      ty = it.ty;
      want = said;
      start = start_of scope.program scope.parameters it.holds;
    }) (want_said scope lines (record { root = object.name; offset = it.offset }))

-- a cell of an object of the program is free where a line says what it may hold
abbrev pub freed_cells : Scope → List Line → Object → List FreeCell
freed_cells scope lines object =
    if is_linked object.life then filter_map (freed_cell scope lines object) (started_cells scope.program object) else []

-- A parameter hides an object of its name.
abbrev pub freed_unless_hidden : Scope → List Line → Object → List FreeCell
freed_unless_hidden scope lines object = elim (root_among scope.parameters object.name) [ None ↦ freed_cells scope lines object | Some root ↦ [] ]

-- Parameters come first, then blocks, then objects of the program; the cells of each in the order in which they lie.
abbrev pub cells_said : Scope → List Line → List FreeCell
cells_said scope lines =
    flat_map (λ parameter. free_cells scope lines (null_or_default scope.program parameter) parameter) scope.parameters
    ++ flat_map (λ block. free_cells scope lines only_null (block_root block)) scope.blocks
    ++ flat_map (freed_unless_hidden scope lines) scope.program.objects

-- ---- blocks, functions without a body, and requirements

abbrev pub block_in : Program → Block → BlockIn
block_in program block = record { name = block.name; shape = shape program (Array block.element block.count) }

abbrev pub stub_range_by : List ℕ → Line → Option StubRange
stub_range_by name (stub_line other low high) =
    if names_stub name (stub_line other low high) then Some (record { name = name; lo = value_of low; hi = value_of high }) else None
stub_range_by name line = None

abbrev pub stub_range : Program → List Line → Stub → StubRange
stub_range program lines stub =
    unwrap_or (first_some (map (stub_range_by stub.name) lines))
    (record { name = stub.name; lo = least_of program.model stub.type; hi = greatest_of program.model stub.type })

abbrev pub factor_of : Addend → ℤ
factor_of addend = signed addend.is_minus (elim (addend.term.factor) [ None ↦ pos 1 | Some factor ↦ value_of factor ])
  where
    signed : Bool → ℤ → ℤ
    signed true z = neg_ℤ z
    signed false z = z

abbrev pub need_terms : Scope → Addend → List NeedTerm
need_terms scope addend = map (λ it. record { at = it.place; factor = factor_of addend }) (named_by scope addend.term.place)

abbrev pub need_said : Scope → Line → Option Need
need_said scope (require_line sum relation constant) =
    Some (record { terms = flat_map (need_terms scope) (addends sum); rel = op_of relation; constant = value_of constant })
need_said scope line = None

-- ---- all of it

-- what the lines say, where names stand for this
abbrev pub said_in : Scope → (entry : ℕ) → List Line → Spec
said_in scope entry lines = record {
  entry = entry;
  blocks = map (block_in scope.program) scope.blocks;
  cells = cells_said scope lines;
  stubs = map (stub_range scope.program lines) (stubs_of scope.program);
  needs = filter_map (need_said scope) lines;
}

-- what the lines of a file with these rows say of this entry
abbrev pub spec_said : Program → List Row → (entry : ℕ) → List Line → Spec
spec_said program rows entry lines = said_in (scope_behind program rows entry lines) entry lines
