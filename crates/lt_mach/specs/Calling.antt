-- Calls that are made and that return.
use Rattle.std.specs.Prelude.{◌≡◌, ℕ, List, [], ◌∷◌, ◌++◌, Bool, true, false, Option}
use Rattle.lt_model.specs.declared.cell.Content.{Content}
use Rattle.lt_model.specs.declared.scalar.DataModel.{DataModel}
use Rattle.lt_model.specs.declared.run.End.TheVariants.{Stopped}
use Rattle.lt_model.specs.State.{Made, Gives, Ends}
use Rattle.lt_ir.specs.declared.code.Code.{Code}
use Rattle.lt_ir.specs.Running.{At, statics_of}
use Rattle.lt_ir.specs.Graph.{Register, blanks, contents_from, returns, going, entering, begun, caller}
use Rattle.lt_mach.specs.declared.flow.Flow.{Flow}
use Rattle.lt_mach.specs.declared.machine.Machine.{Machine}
use Rattle.lt_mach.specs.Standing.{StaysFit, at_of, state_of, frames_of, comes}

-- A call that gives a value comes to this.
pub record Leaves (c : Content) (flow : Flow) (old new : Machine) : Type 0 where
  pub is : (marks : List Made) → returns (frames_of old.callers.items) c (at_of old marks) ≡ comes flow new marks
  pub fit : StaysFit old new

-- The registers from one on, so many, all have contents, which are these; or one has none.
abbrev pub Gathers : List Register → (first count : ℕ) → (all : Bool) → List Content → Type 0
Gathers rs first count true cs = (at : At) → contents_from rs first count at ≡ Gives cs at
Gathers rs first count false cs = (at : At) → contents_from rs first count at ≡ Ends Stopped at

-- All but the room for calls is as before.
pub record Keeps (old new : Machine) : Type 0 where
  pub call : new.call ≡ old.call
  pub callers : new.callers ≡ old.callers
  pub arguments : new.arguments ≡ old.arguments
  pub memory : new.memory ≡ old.memory
  pub stubs : new.stubs ≡ old.stubs
  pub places : new.places ≡ old.places
  pub ticks : new.ticks ≡ old.ticks
  pub depth : new.depth ≡ old.depth

-- The call waits to go on at a place, where a register gets a value; of its variables another call has the static ones.
pub record Waits (target : Option ℕ) (place : ℕ) (old new : Machine) : Type 0 where
  pub callers : new.callers.items ≡ old.callers.items ++ record { call = record old.call { place = place }; target = target } ∷ []
  pub scope : new.call.scope ≡ statics_of old.call.scope
  pub arguments : new.arguments ≡ old.arguments
  pub memory : new.memory ≡ old.memory
  pub stubs : new.stubs ≡ old.stubs
  pub places : new.places ≡ old.places
  pub ticks : new.ticks ≡ old.ticks
  pub depth : new.depth ≡ old.depth

-- the machine where its call begins with a code
abbrev pub beginning : (number : ℕ) → Code → Machine → Machine
beginning number code m =
    record m { call = record m.call { code = number; place = code.start; registers = blanks code.registers } }

-- A function is entered with the arguments that wait, and comes to this.
pub record Enters (numbers : DataModel) (function : ℕ) (code : Code) (target : Option ℕ) (next : ℕ) (flow : Flow) (old new : Machine) : Type 0 where
  pub is : (marks : List Made) → going (entering numbers code old.arguments.items) (at_of old marks) (λ _ at. begun function code (caller (state_of old marks) target next ∷ frames_of old.callers.items) at) ≡ comes flow new marks
  pub fit : StaysFit old new
