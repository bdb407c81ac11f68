-- How a run begins: the objects that are there from the start, the named objects of its input, the parameters of the
-- entry, and what the input sets in their cells; then what can't be written is sealed. All objects begin as zeros.
use Rattle.std.specs.Prelude.{ℕ, suc, ◌==◌, List, [], ◌∷◌, ◌++◌, true, false, Option, Some, None, if◌then◌else◌}
use Rattle.std.specs.Str.{bytes_eq}
use Rattle.lt_model.specs.declared.cell.Address.{Address}
use Rattle.lt_model.specs.declared.cell.CellType.{CellType}
use Rattle.lt_model.specs.declared.cell.Content.{Content}
use Rattle.lt_model.specs.declared.cell.Content.TheVariants as content
use Rattle.lt_model.specs.declared.cell.Shape.{Shape}
use Rattle.lt_model.specs.declared.cell.ShapeCell.{ShapeCell}
use Rattle.lt_model.specs.declared.input.Place.{Place}
use Rattle.lt_model.specs.declared.input.CellSet.{CellSet}
use Rattle.lt_model.specs.declared.input.CellSet.TheVariants as cellset
use Rattle.lt_model.specs.declared.input.StubSet.{StubSet}
use Rattle.lt_model.specs.declared.input.BlockIn.{BlockIn}
use Rattle.lt_model.specs.declared.input.Input.{Input}
use Rattle.lt_model.specs.declared.scalar.DataModel.{DataModel}
use Rattle.lt_model.specs.State.{Left, untouched}
use Rattle.lt_ir.specs.declared.variable.Variable.TheVariants.{Parameter, Static as StaticObject}
use Rattle.lt_ir.specs.declared.code.Static.{Static}
use Rattle.lt_ir.specs.Running.{Bound, At, Step, gives, ◌>>=◌, ◌>>◌, created, bound_to, begins, seals, block_among}
use Rattle.lt_ir.specs.Evaluation.{stored}

-- a cell of a block gets a content of its type
abbrev pub put : DataModel → (block offset : ℕ) → CellType → Content → Step (Unit {0})
put model block offset ty c =
    stored false model ty (Some (record { block = block; offset = offset })) c untouched >> gives tt

-- ---- objects that are there from the start, C11 5.1.2 and 6.7.9

-- the cells of a block get contents
abbrev pub fill : DataModel → (block : ℕ) → List ShapeCell → List Content → Step (Unit {0})
fill model block (cell ∷ cells) (c ∷ cs) = put model block cell.offset cell.ty c >> fill model block cells cs
fill model block cells cs = gives tt

abbrev pub start_static : DataModel → ℕ → Static → Step (Unit {0})
start_static model k it = do
  block ← created it.block.shape true
  fill model block it.block.shape.cells it.cells
  bound_to (StaticObject k) block

abbrev pub start_statics : DataModel → ℕ → List Static → Step (Unit {0})
start_statics model k [] = gives tt
start_statics model k (it ∷ its) = start_static model k it >> start_statics model (suc k) its

abbrev pub seal_statics : ℕ → List Static → Step (Unit {0})
seal_statics k [] = gives tt
seal_statics k (it ∷ its) = (if it.writable then gives tt else seals (StaticObject k)) >> seal_statics (suc k) its

-- ---- named objects and parameters

-- a name of the input's files, the block that it names, and the cells there
pub record Root : Type 0 where
  pub name : List ℕ
  pub block : ℕ
  pub cells : List ShapeCell

-- the named objects of the input
abbrev pub start_blocks : List BlockIn → Step (List Root)
start_blocks [] = gives []
start_blocks (it ∷ its) = do
  block ← created it.shape true
  roots ← start_blocks its
  gives (record { name = it.name; block = block; cells = it.shape.cells } ∷ roots)

-- the entry's parameters
abbrev pub start_parameters : ℕ → List Shape → Step (Unit {0})
start_parameters k [] = gives tt
start_parameters k (shape ∷ shapes) = begins (Parameter k) shape true >> start_parameters (suc k) shapes

abbrev pub named : List ℕ → List ShapeCell → Option ℕ → List Root → List Root
named name cells None roots = roots
named name cells (Some block) roots = record { name = name; block = block; cells = cells } ∷ roots

-- the names of the parameters, before others
abbrev pub parameter_roots : List Bound → ℕ → List (List ℕ) → List Shape → List Root → List Root
parameter_roots scope k (name ∷ names) (shape ∷ shapes) roots =
    named name shape.cells (block_among scope (Parameter k)) (parameter_roots scope (suc k) names shapes roots)
parameter_roots scope k names shapes roots = roots

abbrev pub static_roots : ℕ → List Static → List Root
static_roots k [] = []
static_roots k (it ∷ its) =
    record { name = it.block.name; block = k; cells = it.block.shape.cells } ∷ static_roots (suc k) its

-- ---- cells that are set

abbrev pub root_among : List Root → List ℕ → Option Root
root_among [] name = None
root_among (root ∷ roots) name = if bytes_eq root.name name then Some root else root_among roots name

-- the address that a place of the input's files names
abbrev pub address_named : List Root → Place → Option Address
address_named roots p =
    elim (root_among roots p.root) [
      | None ↦ None
      | Some root ↦ Some (record { block = root.block; offset = p.offset })
    ]

abbrev pub point_named : List Root → Option Place → Option Address
point_named roots None = None
point_named roots (Some p) = address_named roots p

-- the type of the cell at an offset
abbrev pub type_at : ℕ → List ShapeCell → Option CellType
type_at offset [] = None
type_at offset (cell ∷ cells) = if cell.offset == offset then Some cell.ty else type_at offset cells

abbrev pub put_if_there : DataModel → (block offset : ℕ) → Option CellType → Content → Step (Unit {0})
put_if_there model block offset None c = gives tt
put_if_there model block offset (Some ty) c = put model block offset ty c

-- a place that names no cell is passed over
abbrev pub put_in : DataModel → Option Root → ℕ → Content → Step (Unit {0})
put_in model None offset c = gives tt
put_in model (Some root) offset c = put_if_there model root.block offset (type_at offset root.cells) c

abbrev pub set_one : DataModel → List Root → CellSet → Step (Unit {0})
set_one model roots (cellset.Number p z) = put_in model (root_among roots p.root) p.offset (content.Number z)
set_one model roots (cellset.Point p target) =
    put_in model (root_among roots p.root) p.offset (content.Address (point_named roots target))

abbrev pub set_all : DataModel → List Root → List CellSet → Step (Unit {0})
set_all model roots [] = gives tt
set_all model roots (it ∷ its) = set_one model roots it >> set_all model roots its

-- ---- all of it

abbrev pub lefts_of : List StubSet → List Left
lefts_of [] = []
lefts_of (it ∷ its) = record { stub = it.name; values = it.values } ∷ lefts_of its

-- where a run stands before anything is there
abbrev pub nowhere : Input → ℕ → At
nowhere input ticks =
    record { scope = []; memory = []; ticks = ticks; depth = 1; stubs = lefts_of input.stubs; marks = [] }

-- The names of the parameters count first, then those of the named objects, then those of the objects that are there
-- from the start.
abbrev pub sets : DataModel → List Static → (names : List (List ℕ)) → List Shape → List CellSet → List Root →
    Step (Unit {0})
sets model statics names shapes its roots at =
    set_all model (parameter_roots at.scope 0 names shapes (roots ++ static_roots 0 statics)) its at

-- all that is there when the entry's body begins
abbrev pub started : DataModel → List Static → List (List ℕ) → List Shape → Input → Step (Unit {0})
started model statics names shapes input = do
  start_statics model 0 statics
  roots ← start_blocks input.blocks
  start_parameters 0 shapes
  sets model statics names shapes input.cells roots
  seal_statics 0 statics
