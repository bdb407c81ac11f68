-- What holds of graphs that have the code of typed programs.
use Rattle.std.specs.Prelude.{◌≡◌, ℕ, Some, slice_get}
use Rattle.lt_model.specs.declared.input.Input.{Input}
use Rattle.lt_tree.specs.Typing.Entities.{Function}
use Rattle.lt_tree.specs.Typing.TypedTree.{Value}
use Rattle.lt_tree.specs.Typing.Programs.{Program}
use Rattle.lt_ir.specs.declared.graph.Graph.{Graph}
use Rattle.lt_ir.specs.Running.{Over}
use Rattle.lt_ir.specs.Graph.{Runs}
use Rattle.lt_meaning.specs.Runs.{run}
use Rattle.lt_code.specs.Predicates.{Names, pure_in, IsTruthOf, IsNumberOf}
use Rattle.lt_code.specs.Bodies.{HasProgram}

-- Something holds of each run of a function in a program of which a graph has the code.
abbrev pub OfEachRun : (Graph → (f : ℕ) → Input → (ticks : ℕ) → Over → Type 0) → Type 0
OfEachRun Fact =
    (graph : Graph) (program : Program) → HasProgram program graph
    → (f : ℕ) (fun : Function) → slice_get program.functions f ≡ Some fun
    → (input : Input) (ticks : ℕ) → Fact graph f input ticks (run program fun input ticks)

-- A graph that has the code of a program runs as the program does: with the same end, ticks, memory and marks.
abbrev pub GraphsRunAsTheirPrograms : Type 0
GraphsRunAsTheirPrograms = OfEachRun (λ graph f input ticks is. Runs graph f input ticks is)

-- and in no other way
abbrev pub GraphsRunInNoOtherWay : Type 0
GraphsRunInNoOtherWay =
    OfEachRun (λ graph f input ticks is. (o : Over) → Runs graph f input ticks o → o ≡ is)

-- The pure expressions of predicates are true, and have numbers, where those are of which they are made.
abbrev pub PredicatesAgree : Type 0
PredicatesAgree =
    (n : Names) → ((v : Value) → IsTruthOf n v (pure_in n v)) × ((v : Value) → IsNumberOf n v (pure_in n v))
