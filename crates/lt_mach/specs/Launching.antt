-- How a run begins.
use Rattle.std.specs.Prelude.{◌≡◌, ℕ, List, [], map, Some}
use Rattle.lt_model.specs.declared.input.Input.{Input}
use Rattle.lt_model.specs.declared.run.Mark.{Mark}
use Rattle.lt_model.specs.declared.run.End.{End as RunEnd}
use Rattle.lt_model.specs.declared.scalar.DataModel.{DataModel}
use Rattle.lt_model.specs.State.{Made}
use Rattle.lt_ir.specs.declared.code.Code.{Code}
use Rattle.lt_ir.specs.declared.graph.Graph.{Graph}
use Rattle.lt_ir.specs.Running.{Step, ◌>>◌}
use Rattle.lt_ir.specs.Starting.{Root, nowhere, start_parameters, sets, seal_statics}
use Rattle.lt_ir.specs.Graph.{next_of, steps, launch, code_at, names_in, shapes_in}
use Rattle.lt_ir.specs.Outcomes.{mark_of}
use Rattle.lt_mach.specs.declared.flow.Flow.{Flow}
use Rattle.lt_mach.specs.declared.machine.Machine.{Machine}
use Rattle.lt_mach.specs.Seeing.{SawAll}
use Rattle.lt_mach.specs.Standing.{StaysFit, IsFit, GoesReady, at_of, over_at, comes}

-- Nothing is there yet but the input's values for functions without a body.
pub record IsNew (g : Graph) (input : Input) (m : Machine) : Type 0 where
  pub fit : IsFit g m
  pub stands : at_of m [] ≡ nowhere input m.ticks
  pub first : m.callers.items ≡ []

-- The run of a function begins so, or is over.
pub record Launches (g : Graph) (entry : ℕ) (input : Input) (flow : Flow) (old new : Machine) : Type 0 where
  pub is : launch g (code_at g entry) entry input old.ticks ≡ comes flow new []
  pub ready : GoesReady flow g new
  pub fit : StaysFit old new

-- what follows on the input's objects, which have these names
abbrev pub rest_started : DataModel → Graph → Code → Input → List Root → Step (Unit {0})
rest_started model g code input roots =
    start_parameters 0 (shapes_in code.params)
    >> (sets model g.statics (names_in code.params) (shapes_in code.params) input.cells roots >> seal_statics 0 g.statics)

-- The whole run of a function comes to this, and a watch saw each mark that was made.
pub record Comes {W : Type 0} (saw : W → Mark → W → Type 0) (g : Graph) (entry : ℕ) (input : Input) (end : RunEnd) (old new : Machine) (before after : W) : Type 0 where
  pub made : List Made
  pub count : ℕ
  pub is : next_of (launch g (code_at g entry) entry input old.ticks) (steps g count) ≡ Some (over_at end new made)
  pub watched : SawAll saw before (map mark_of made) after
  pub fit : StaysFit old new
