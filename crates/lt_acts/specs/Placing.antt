-- What acts promise that look up variables: as other acts, with the scope beside memory.
use Rattle.std.specs.Prelude.{◌≡◌, ℕ, Bool, List, Option, Some, Result, Ok, Err}
use Rattle.lt_model.specs.declared.cell.Shape.{Shape}
use Rattle.lt_model.specs.State.{Gives, Ends}
use Rattle.lt_model.specs.Memory.{Memory}
use Rattle.lt_ir.specs.declared.code.Code.{Code}
use Rattle.lt_ir.specs.declared.graph.Graph.{Graph}
use Rattle.lt_ir.specs.declared.node.Node.{Node}
use Rattle.lt_ir.specs.declared.node.Node.TheVariants.{Create}
use Rattle.lt_ir.specs.Running.{At, Answer, Bound, Step}
use Rattle.lt_ir.specs.Graph.{Register, State, act, locals_of}
use Rattle.lt_acts.specs.Acts.{answered, Comes}
use Rattle.lt_acts.specs.Ends.{end_of}
use Rattle.lt_acts.specs.declared.flow.Fault.{Fault}
use Rattle.lt_acts.specs.declared.flow.Stop.{Stop}
use Rattle.lt_acts.specs.declared.flow.Stop.TheVariants as stop

abbrev pub standing : List Bound → Memory → At → At
standing scope memory at = record at { scope = scope; memory = memory }

-- A step that only reads this scope and this memory gives this.
abbrev pub ReadsIn : {A : Type 0} → Step A → List Bound → Memory → Result A Fault → Type 0
ReadsIn step scope memory result = (at : At) → step (standing scope memory at) ≡ answered result (standing scope memory at)

-- The step is done, or the run is over so; where there is no memory nothing is said.
abbrev pub Came : Result (Unit {0}) Stop → At → Answer (Unit {0}) → Type 0
Came (Ok done) at answer = answer ≡ Gives tt at
Came (Err (stop.Over why)) at answer = answer ≡ Ends (end_of why) at
Came (Err stop.NoMemory) at answer = Unit {0}

-- A step on this scope and this memory comes to this, and leaves these.
abbrev pub Changes : Step (Unit {0}) → List Bound → Memory → Result (Unit {0}) Stop → List Bound → Memory → Type 0
Changes step scope memory result scope1 memory1 =
    (at : At) → Came result (standing scope1 memory1 at) (step (standing scope memory at))

-- a state with these registers, this scope and this memory
abbrev pub with_all : State → List Register → List Bound → Memory → State
with_all s rs scope memory = record s { registers = rs; at = standing scope memory s.at }

-- The act of a node on these registers, this scope and this memory comes to this, and leaves these.
abbrev pub ActsIn : Graph → Option Code → Node → ℕ → List Register → List Bound → Memory → Result (Unit {0}) Stop →
    List Register → List Bound → Memory → Type 0
ActsIn g code n next rs scope memory result rs1 scope1 memory1 =
    (s : State) → Comes next result (with_all s rs1 scope1 memory1) (act g code (Some n) (with_all s rs scope memory))

-- ---- whatever graph, code and node behind there are

-- The act of a node changes registers alone.
abbrev pub PutsIn : (ℕ → Node) → List Register → List Bound → Memory → Result (Unit {0}) Stop → List Register → Type 0
PutsIn node rs scope memory result rs1 =
    (g : Graph) (code : Option Code) (next : ℕ) → ActsIn g code (node next) next rs scope memory result rs1 scope memory

-- The act of a node changes the scope and memory, and no registers.
abbrev pub DoesIn : (ℕ → Node) → List Bound → Memory → Result (Unit {0}) Stop → List Bound → Memory → Type 0
DoesIn node scope memory result scope1 memory1 =
    (g : Graph) (code : Option Code) (next : ℕ) (rs : List Register) →
    ActsIn g code (node next) next rs scope memory result rs scope1 memory1

-- A local object begins, of a code with these shapes of local objects.
abbrev pub CreatesIn : List Shape → ℕ → Bool → List Bound → Memory → Result (Unit {0}) Stop → List Bound → Memory → Type 0
CreatesIn locals k is_zeroed scope memory result scope1 memory1 =
    (g : Graph) (code : Option Code) (next : ℕ) (rs : List Register) → locals_of code ≡ locals →
    ActsIn g code (Create k is_zeroed next) next rs scope memory result rs scope1 memory1
