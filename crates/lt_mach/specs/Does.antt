-- What acts of nodes come to.
use Rattle.std.specs.Prelude.{◌≡◌, ℕ, List, ◌++◌, map, Option, Some, Result, Ok, Err, alloc_error}
use Rattle.std.specs.declared.alloc.AllocError.{AllocError}
use Rattle.lt_model.specs.declared.cell.Shape.{Shape}
use Rattle.lt_model.specs.declared.run.Mark.{Mark}
use Rattle.lt_model.specs.State.{Made}
use Rattle.lt_model.specs.Memory.{Memory}
use Rattle.lt_mem.specs.Image.{Image}
use Rattle.lt_ir.specs.declared.code.Code.{Code}
use Rattle.lt_ir.specs.declared.graph.Graph.{Graph}
use Rattle.lt_ir.specs.declared.node.Node.{Node}
use Rattle.lt_ir.specs.declared.node.Node.TheVariants.{Switch}
use Rattle.lt_ir.specs.Tables.{IsTableOf}
use Rattle.lt_ir.specs.Graph.{Register, act, structs_of, locals_of}
use Rattle.lt_ir.specs.Running.{Bound}
use Rattle.lt_acts.specs.Acts.{Acts}
use Rattle.lt_acts.specs.Placing.{ActsIn}
use Rattle.lt_acts.specs.Ends.{end_of}
use Rattle.lt_acts.specs.declared.flow.Stop.{Stop}
use Rattle.lt_acts.specs.declared.flow.Stop.TheVariants as stop
use Rattle.lt_mach.specs.declared.flow.Flow.{Flow}
use Rattle.lt_mach.specs.declared.flow.Flow.TheVariants as flow
use Rattle.lt_mach.specs.declared.machine.Machine.{Machine}
use Rattle.lt_mach.specs.declared.values.Done.{Done}
use Rattle.lt_ir.specs.Outcomes.{mark_of}
use Rattle.lt_mach.specs.Seeing.{SawAll}
use Rattle.lt_mach.specs.Standing.{StaysFit, state_of, comes}

-- The act of a node on these registers and this memory, where the structs of its code have these shapes, is done so.
abbrev pub IsDone : Node → List Shape → Done → List Register → Image → List Register → Image → Type 0
IsDone n structs done rs memory rs1 memory1 =
    (g : Graph) (code : Option Code) → g.model ≡ memory.model → structs_of code ≡ structs
    → Acts g code n done.next rs memory.blocks done.answer rs1 memory1.blocks

-- The act of a node on these registers, this scope and this memory, where the locals of its code have these shapes, is done so.
abbrev pub IsPlaced : Node → List Shape → Done → List Register → List Bound → Memory → List Register → List Bound → Memory → Type 0
IsPlaced n locals done rs scope memory rs1 scope1 memory1 =
    (g : Graph) (code : Option Code) → locals_of code ≡ locals → ActsIn g code n done.next rs scope memory done.answer rs1 scope1 memory1

-- the machine goes on at another place of its code
abbrev pub moved_on : ℕ → Machine → Machine
moved_on next m = record m { call = record m.call { place = next } }

-- behind an act that was done the run goes on at the next node, or it is over; or there is no memory
abbrev pub Follows : Result (Unit {0}) Stop → ℕ → (old new : Machine) → Result Flow AllocError → Type 0
Follows (Ok done) next old new result = (result ≡ Ok flow.Goes) × (new ≡ moved_on next old)
Follows (Err (stop.Over why)) next old new result = (result ≡ Ok (flow.Over (end_of why))) × (new ≡ old)
Follows (Err stop.NoMemory) next old new result = result ≡ Err alloc_error

abbrev pub After : Done → (old new : Machine) → Result Flow AllocError → Type 0
After done old new result = Follows done.answer done.next old new result

-- The act of a node comes to this, whatever marks were made before; it makes none.
pub record Does (g : Graph) (code : Option Code) (n : Node) (flow : Flow) (old new : Machine) : Type 0 where
  pub is : (marks : List Made) → act g code (Some n) (state_of old marks) ≡ comes flow new marks
  pub fit : StaysFit old new

-- The act of a node comes to this, whatever marks were made before, and a watch saw the marks that it made.
pub record Sees {W : Type 0} (saw : W → Mark → W → Type 0) (g : Graph) (code : Option Code) (n : Node) (flow : Flow) (old new : Machine) (before after : W) : Type 0 where
  pub made : List Made
  pub is : (marks : List Made) → act g code (Some n) (state_of old marks) ≡ comes flow new (marks ++ made)
  pub watched : SawAll saw before (map mark_of made) after
  pub fit : StaysFit old new

-- a switch has the table of its arms
abbrev pub HasTable : Node → Type 0
HasTable (Switch value arms table default) = IsTableOf table arms
HasTable n = Unit {0}
