-- Code that is emitted backwards: what is there when a piece of it was emitted, whatever is emitted later.
use Rattle.std.specs.Prelude.{◌≡◌, ℕ, ◌+◌, ◌≤◌, ◌<◌, List, [], ◌∷◌, ◌++◌, length, map, Bool, true, Some, slice_get, Result, IfOk}
use Rattle.std.specs.declared.alloc.AllocError.{AllocError}
use Rattle.lt_model.specs.declared.cell.Shape.{Shape}
use Rattle.lt_tree.specs.Typing.Types.{CType}
use Rattle.lt_tree.specs.Typing.Entities.{Function}
use Rattle.lt_tree.specs.Typing.Programs.{Program}
use Rattle.lt_ir.specs.declared.node.Node.{Node}
use Rattle.lt_ir.specs.declared.node.Node.TheVariants as node
use Rattle.lt_ir.specs.Ranges.{Counts}
use Rattle.lt_meaning.specs.Expressions.{shape}
use Rattle.lt_meaning.specs.Statements.{type_of_object}
use Rattle.lt_meaning.specs.Runs.{variable_of, locals_of, initials}
use Rattle.std.specs.Borrow.{Bor}
use Rattle.lt_ir.specs.declared.node.Given.TheVariants as given
use Rattle.lt_tables.specs.declared.site.Site.{Site}
use Rattle.lt_tables.specs.Views.{types_at, program_at, function_at}
use Rattle.lt_tree.specs.declared.typed.types.TypeId.{TypeId}
use Rattle.lt_tree.specs.Typing.TypeRows.{type_in}
use Rattle.lt_code.specs.Pieces.{Piece}
use Rattle.lt_code.specs.Code.{Site as CodeSite}
use Rattle.lt_code.specs.Bodies.{stands_in, label_of}
use Rattle.lt_code.specs.Costs.{Cost, alone, turn}
use Rattle.lt_emit.specs.Turning.{turned, LeadsBelow, UsesBelow, IsSoundNode}
use Rattle.lt_emit.specs.Spending.{Spends, of_node, piece}
use Rattle.lt_emit.specs.declared.builder.Builder.{Builder}

-- ---- what is known of the function whose code is emitted

pub record Here : Type 0 where
  pub program : Program
  pub types : List CType
  pub function : Function
  pub stubs : List (List ℕ)
  -- whether footprints are tracked
  pub tracks : Bool

abbrev pub here_of : Builder → Here
here_of b = record {
  program = program_at b.site.now.tables.now;
  types = types_at b.site.now.tables.now;
  function = function_at b.site.now;
  stubs = b.site.now.tables.now.stubs.items;
  tracks = b.tracks;
}

-- The shapes of the function's local objects. The last is that of no object: it never begins.
abbrev pub local_shapes : Program → Function → List Shape
local_shapes program f =
    map (λ n. shape program (type_of_object program n)) (locals_of f.body) ++ record { cells = []; size = 0 } ∷ []

-- how many there are of what the function's code names
abbrev pub counts_of : Here → (nodes structs registers : ℕ) → Counts
counts_of here nodes structs registers = record {
  nodes = nodes;
  registers = registers;
  params = length here.function.parameters;
  locals = length (local_shapes here.program here.function);
  structs = structs;
  statics = length (initials here.program here.program.objects);
  labels = length here.program.labels;
  stubs = length here.stubs;
  functions = length here.program.functions;
}

abbrev pub counts_at : Builder → Counts
counts_at b = counts_of (here_of b) (length b.nodes.items) (length b.structs.items) b.registers

-- Each node leads to nodes before it, or is a tick, and all that it names is there.
abbrev pub IsSound : Builder → Type 0
IsSound b = (e : ℕ) (n : Node) → slice_get b.nodes.items e ≡ Some n → IsSoundNode (counts_at b) e n

-- the code of a function, of which there is the node that gives back a value
pub record IsBegun (of : Bor Site) (b : Builder) : Type 0 where
  pub site : b.site ≡ of
  pub tracks : b.tracks ≡ true
  pub nodes : b.nodes.items ≡ node.Return given.Nothing ∷ []
  pub structs : b.structs.items ≡ []
  pub registers : b.registers ≡ 0

-- ---- code that is all there

-- where a node of this number stands, and what the code has
pub record Finished : Type 0 where
  pub point : ℕ → ℕ
  pub nodes : List Node
  pub structs : List Shape
  pub registers : ℕ

-- what is known where the code stands
abbrev pub site_in : Here → Finished → CodeSite
site_in here it = record {
  names = record { program = here.program; variable = variable_of here.program here.function };
  locals = local_shapes here.program here.function;
  structs = it.structs;
  labels = map label_of here.program.labels;
  stubs = here.stubs;
  registers = it.registers;
  stands = stands_in it.nodes;
  tracks = here.tracks;
}

-- ---- what later emission keeps

-- Nodes, shapes and registers were only added.
pub record Grows (before after : Builder) : Type 0 where
  pub same : here_of after ≡ here_of before
  pub longer : length before.nodes.items ≤ length after.nodes.items
  pub nodes : (e : ℕ) (n : Node) → slice_get before.nodes.items e ≡ Some n → slice_get after.nodes.items e ≡ Some n
  pub structs : (k : ℕ) (it : Shape) → slice_get before.structs.items k ≡ Some it →
      slice_get after.structs.items k ≡ Some it
  pub registers : before.registers ≤ after.registers
  pub sound : IsSound before → IsSound after

-- The nodes from one on stand in the finished code, turned, and what they name is there.
pub record Kept (first : ℕ) (b : Builder) (it : Finished) : Type 0 where
  pub nodes : (e : ℕ) (n : Node) → first ≤ e → slice_get b.nodes.items e ≡ Some n →
      slice_get it.nodes (it.point e) ≡ Some (turned it.point n)
  pub structs : (k : ℕ) (s : Shape) → slice_get b.structs.items k ≡ Some s → slice_get it.structs k ≡ Some s
  pub registers : b.registers ≤ it.registers

-- Something was added, of which a fact holds in the finished code wherever what was added stands.
pub record Adds (before after : Builder) (Fact : Here → Finished → Type 0) : Type 0 where
  pub grows : Grows before after
  pub stands : (it : Finished) → Kept (length before.nodes.items) after it → Fact (here_of before) it

-- Code was added that begins at a node.
pub record Emits (before after : Builder) (from : ℕ) (Piece : Here → Finished → Type 0) : Type 0 where
  pub adds : Adds before after Piece
  pub within : from < length after.nodes.items

-- Where there is memory, code was added that begins at the node that is answered.
pub record Gives (before after : Builder) (result : Result ℕ AllocError) (Piece : (from : ℕ) → Here → Finished → Type 0)
    : Type 0 where
  pub code : IfOk result (λ from. Emits before after from (Piece from))

-- The code costs no more than this, too.
pub record EmitsWithin (before after : Builder) (from : ℕ) (cost : Here → Cost) (Piece : Here → Finished → Type 0) : Type 0
  where
    pub emits : Emits before after from Piece
    pub spends : Spends (cost (here_of before)) before after

pub record GivesWithin (before after : Builder) (result : Result ℕ AllocError) (cost : Here → Cost)
    (Piece : (from : ℕ) → Here → Finished → Type 0) : Type 0 where
  pub gives : Gives before after result Piece
  pub spends : IfOk result (λ from. Spends (cost (here_of before)) before after)

-- what a node costs, and what a piece of so many nodes and registers does
abbrev pub node_cost : Node → Here → Cost
node_cost it here = of_node it

abbrev pub costs : (nodes registers : ℕ) → Here → Cost
costs nodes registers here = piece nodes registers

-- ---- entrances

-- a node is the last, and no edge leads to it
pub record IsEntrance (b : Builder) (e : ℕ) : Type 0 where
  pub last : length b.nodes.items ≡ e + 1
  pub free : (k : ℕ) (n : Node) → slice_get b.nodes.items k ≡ Some n → LeadsBelow e n

-- what is answered is such, where all nodes were sound
abbrev pub Enters : (before after : Builder) → Result ℕ AllocError → Type 0
Enters before after result = IsSound before → IfOk result (IsEntrance after)

-- a node stands, turned, and its registers are there
abbrev pub IsPlaced : Node → (e : ℕ) → Here → Finished → Type 0
IsPlaced n e here it = (slice_get it.nodes (it.point e) ≡ Some (turned it.point n)) × UsesBelow it.registers n

-- there is a node of this number
abbrev pub HasPoint : Builder → ℕ → Type 0
HasPoint b e = e < length b.nodes.items

-- a piece of code between two nodes
abbrev pub PieceStands : (CodeSite → Piece) → (to from : ℕ) → Here → Finished → Type 0
PieceStands piece to from here it = piece (site_in here it) (it.point from) (it.point to)

-- a piece of code that is about a type
abbrev pub TypedStands : (CodeSite → CType → Piece) → TypeId → (to from : ℕ) → Here → Finished → Type 0
TypedStands piece ty to from here it =
    piece (site_in here it) (type_in here.types ty) (it.point from) (it.point to)

-- a branch to two nodes
abbrev pub Branches : (r on off from : ℕ) → Here → Finished → Type 0
Branches r on off from here it =
    (slice_get it.nodes (it.point from) ≡ Some (node.Branch r (it.point on) (it.point off))) × (r < it.registers)

-- ---- ticks whose successors come later

-- a tick was added whose successor isn't known yet
pub record IsReserved (before after : Builder) (hole : ℕ) : Type 0 where
  pub number : hole ≡ length before.nodes.items
  pub grows : Grows before after
  pub longer : length after.nodes.items ≡ length before.nodes.items + 1
  pub tick : slice_get after.nodes.items hole ≡ Some (node.Tick hole)
  pub spends : Spends turn before after

-- and now it is; nothing else is changed
pub record IsPatched (before after : Builder) (hole to : ℕ) : Type 0 where
  pub same : here_of after ≡ here_of before
  pub longer : length after.nodes.items ≡ length before.nodes.items
  pub nodes : (e : ℕ) (n : Node) → (e ≡ hole → ⊥) → slice_get before.nodes.items e ≡ Some n →
      slice_get after.nodes.items e ≡ Some n
  pub tick : slice_get after.nodes.items hole ≡ Some (node.Tick to)
  pub structs : after.structs ≡ before.structs
  pub registers : after.registers ≡ before.registers
  pub sound : IsSound before → IsSound after
  -- where it was as it was reserved, it leads back no more often than it did
  pub spends : slice_get before.nodes.items hole ≡ Some (node.Tick hole) → Spends (alone 0) before after
