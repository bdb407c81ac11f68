-- What holds of every graph.
use Rattle.std.specs.Prelude.{◌≡◌, ℕ}
use Rattle.lt_model.specs.declared.input.Input.{Input}
use Rattle.lt_ir.specs.Running.{Over}
use Rattle.lt_ir.specs.declared.graph.Graph.{Graph}
use Rattle.lt_ir.specs.Graph.{Runs}

-- a run is over in one way
abbrev pub RunsAreOverInOneWay : Type 0
RunsAreOverInOneWay =
    (graph : Graph) (f : ℕ) (input : Input) (ticks : ℕ) (o p : Over) → Runs graph f input ticks o
    → Runs graph f input ticks p → o ≡ p
