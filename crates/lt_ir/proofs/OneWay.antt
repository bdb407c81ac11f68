-- A run of a graph is over in one way.
use Rattle.std.proofs.Common.{◌≡◌, ℕ, zero, suc, Some}
use Rattle.std.specs.Prelude.{slice_get}
use Rattle.lt_model.specs.declared.input.Input.{Input}
use Rattle.lt_ir.specs.Running.{Over}
use Rattle.lt_ir.specs.Graph as g
use Rattle.lt_ir.specs.declared.graph.Graph.{Graph}
use Rattle.lt_ir.specs.Graph.{Goes, Stops, step, steps, next_of, launch, Runs}

one_way : (graph : Graph) (m n : ℕ) (s : g.Next) (o p : Over) → next_of s (steps graph m) ≡ Some o → next_of s (steps graph n) ≡ Some p → o ≡ p
one_way graph m n (Stops end at) o p h i = cc
one_way graph zero n (Goes c) o p h i = absurd (cc)
one_way graph (suc m) zero (Goes c) o p h i = absurd (cc)
one_way graph (suc m) (suc n) (Goes c) o p h i = one_way graph m n (step graph c) o p h i

pub one_end : (graph : Graph) (f : ℕ) (input : Input) (ticks : ℕ) (o p : Over) → Runs graph f input ticks o → Runs graph f input ticks p → o ≡ p
one_end graph f input ticks o p h i = one_way graph h.count i.count (launch graph (slice_get graph.codes f) f input ticks) o p h.is i.is
