-- What is seen of the run of a test on a graph.
use Rattle.std.specs.Prelude.{◌≡◌, ◌&&◌, ℕ, Bool, List, []}
use Rattle.std.specs.Ordering.{nat_cmp}
use Rattle.std.specs.BTreeSet.{contains}
use Rattle.lt_model.specs.declared.input.Input.{Input}
use Rattle.lt_model.specs.declared.input.Spec.{Spec}
use Rattle.lt_ir.specs.declared.graph.Graph.{Graph}
use Rattle.lt_ir.specs.Running.{Over}
use Rattle.lt_ir.specs.Graph.{Runs}
use Rattle.lt_ir.specs.Outcomes.{run_of}
use Rattle.lt_entry.specs.declared.test.Test.{Test}
use Rattle.lt_entry.specs.Meeting.{Meets}
use Rattle.lt_entry.specs.Inputs.{built}
use Rattle.lt_cover.specs.declared.rows.TestEnd.TheVariants.{Ran, Outside}
use Rattle.lt_replay.specs.declared.seen.Seen.{Seen}
use Rattle.lt_replayed.specs.Replayed.{has_ended}
use Rattle.lt_replay.specs.Marks.{makes_true}

-- the run ends, and makes a true mark of the label
abbrev pub covers : (steps : ℕ) → Over → (id : ℕ) → Bool
covers steps over id = has_ended over.end && makes_true (run_of steps over).marks id

-- It is what is seen of a run of a graph.
pub record IsSeenRun (graph : Graph) (entry : ℕ) (input : Input) (steps : ℕ) (seen : Seen) : Type 0 where
  pub over : Over
  pub runs : Runs graph entry input steps over
  pub end : seen.end ≡ Ran over.end
  pub covered : (id : ℕ) → contains nat_cmp seen.covered id ≡ covers steps over id

-- It is what is seen of a test.
pub data IsSeen (graph : Graph) (spec : Spec) (test : Test) (steps : ℕ) (seen : Seen) : Type 0 where
  of_run : Meets spec (built test spec) → IsSeenRun graph spec.entry (built test spec) steps seen → IsSeen graph spec test steps seen
  of_outside : (Meets spec (built test spec) → ⊥) → seen.end ≡ Outside → seen.covered.keys ≡ [] → IsSeen graph spec test steps seen
