-- What comes of a run that had memory enough.
use Rattle.std.specs.Prelude.{◌≡◌, ℕ}
use Rattle.lt_model.specs.declared.input.Input.{Input}
use Rattle.lt_model.specs.declared.run.Mark.{Mark}
use Rattle.lt_mem.specs.Image.{Image}
use Rattle.lt_ir.specs.declared.graph.Graph.{Graph}
use Rattle.lt_ir.specs.Running.{Over}
use Rattle.lt_ir.specs.Graph.{Runs}
use Rattle.lt_ir.specs.Outcomes.{run_of}
use Rattle.lt_mach.specs.declared.outcome.Brief.{Brief}
use Rattle.lt_mach.specs.declared.outcome.Outcome.{Outcome}
use Rattle.lt_mach.specs.Seeing.{SawAll}

-- memory as it is where a run is over
abbrev pub memory_of : Graph → Over → Image
memory_of g over = record { model = g.model; blocks = over.at.memory }

-- The brief is that of the run that the graph's meaning gives, and the watch saw each mark of that run, in order.
pub record RunsInto {W : Type 0} (saw : W → Mark → W → Type 0) (g : Graph) (entry : ℕ) (input : Input) (steps : ℕ) (brief : Brief) (old new : W) : Type 0 where
  pub over : Over
  pub runs : Runs g entry input steps over
  pub end : brief.end ≡ over.end
  pub ticks : brief.ticks ≡ (run_of steps over).ticks
  pub memory : brief.memory ≡ memory_of g over
  pub watched : SawAll saw old (run_of steps over).marks new

-- The outcome is the run that the graph's meaning gives, and memory at its end.
pub record RunsTo (g : Graph) (entry : ℕ) (input : Input) (steps : ℕ) (outcome : Outcome) : Type 0 where
  pub over : Over
  pub runs : Runs g entry input steps over
  pub run : outcome.run ≡ run_of steps over
  pub memory : outcome.memory ≡ memory_of g over
