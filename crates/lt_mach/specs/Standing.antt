-- Where a machine stands, as the meaning of graphs has it. A machine keeps no marks: they are told beside it.
use Rattle.std.specs.Prelude.{◌≡◌, ℕ, List, [], ◌∷◌, ◌++◌, map, Some}
use Rattle.lt_model.specs.declared.run.Mark.{Mark}
use Rattle.lt_model.specs.declared.run.End.{End as RunEnd}
use Rattle.lt_model.specs.State.{Made}
use Rattle.lt_ir.specs.declared.graph.Graph.{Graph}
use Rattle.lt_ir.specs.Running.{At, Over}
use Rattle.lt_ir.specs.Graph.{Frame, State, Next, Goes, Stops, step, steps}
use Rattle.lt_ir.specs.Outcomes.{mark_of}
use Rattle.lt_ir.specs.Prepared.{place_of}
use Rattle.lt_ends.specs.Gauge.{IsCounted}
use Rattle.lt_mach.specs.declared.flow.Flow.{Flow}
use Rattle.lt_mach.specs.declared.flow.Flow.TheVariants as flow
use Rattle.lt_mach.specs.declared.machine.Caller.{Caller}
use Rattle.lt_mach.specs.declared.machine.Machine.{Machine}
use Rattle.lt_mach.specs.Seeing.{SawAll}

abbrev pub frame_of : Caller → Frame
frame_of caller = record { code = caller.call.code; place = caller.call.place; target = caller.target; registers = caller.call.registers; scope = caller.call.scope }

-- the innermost first
abbrev pub frames_of : List Caller → List Frame
frames_of [] = []
frames_of (caller ∷ callers) = frames_of callers ++ frame_of caller ∷ []

abbrev pub at_of : Machine → List Made → At
at_of m marks = record { scope = m.call.scope; memory = m.memory.blocks; ticks = m.ticks; depth = m.depth; stubs = m.stubs; marks = marks }

abbrev pub state_of : Machine → List Made → State
state_of m marks = record { code = m.call.code; place = m.call.place; registers = m.call.registers; stack = frames_of m.callers.items; at = at_of m marks }

-- the run goes on from where the machine stands, or is over there
abbrev pub comes : Flow → Machine → List Made → Next
comes flow.Goes m marks = Goes (state_of m marks)
comes (flow.Over end) m marks = Stops end (at_of m marks)

abbrev pub over_at : RunEnd → Machine → List Made → Over
over_at end m marks = record { end = end; at = at_of m marks }

-- What no step changes: the data model, and where the values for functions without a body stand.
pub record StaysFit (old new : Machine) : Type 0 where
  pub model : new.memory.model ≡ old.memory.model
  pub places : new.places ≡ old.places
  pub names : (name : List ℕ) → place_of name new.stubs ≡ place_of name old.stubs

-- The machine is one for a graph: it has the graph's data model, and the values for functions without a body are where it says.
pub record IsFit (g : Graph) (m : Machine) : Type 0 where
  pub model : m.memory.model ≡ g.model
  pub places : m.places.items ≡ map (λ name. place_of name m.stubs) g.stubs

-- A step of the run comes to this, whatever marks were made before, and a watch saw each mark that it made.
pub record Steps {W : Type 0} (saw : W → Mark → W → Type 0) (g : Graph) (flow : Flow) (old new : Machine) (before after : W) : Type 0 where
  pub made : List Made
  pub is : (marks : List Made) → step g (state_of old marks) ≡ comes flow new (marks ++ made)
  pub watched : SawAll saw before (map mark_of made) after
  pub fit : StaysFit old new

-- Where a machine may stand between steps: it is one for the graph, and the active calls are counted.
pub record IsReady (g : Graph) (m : Machine) : Type 0 where
  pub counted : IsCounted (state_of m [])
  pub fit : IsFit g m

-- From where a machine stood the run is over so, whatever marks were made before, and a watch saw each mark made since.
pub record Finishes {W : Type 0} (saw : W → Mark → W → Type 0) (g : Graph) (end : RunEnd) (old new : Machine) (before after : W) : Type 0 where
  pub made : List Made
  pub count : ℕ
  pub is : (marks : List Made) → steps g count (state_of old marks) ≡ Some (over_at end new (marks ++ made))
  pub watched : SawAll saw before (map mark_of made) after
  pub fit : StaysFit old new

-- the run goes on from where it may, or is over
abbrev pub GoesReady : Flow → Graph → Machine → Type 0
GoesReady flow.Goes g m = IsReady g m
GoesReady (flow.Over end) g m = Unit {0}
