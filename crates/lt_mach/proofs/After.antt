-- What follows an act that was done.
use Rattle.std.proofs.Common.{ℕ, List, Option, Some, Result, Ok, Err, IfOk}
use Rattle.lt_model.specs.State.{Made}
use Rattle.std.specs.declared.alloc.AllocError.{AllocError}
use Rattle.lt_ir.specs.declared.code.Code.{Code}
use Rattle.lt_ir.specs.declared.graph.Graph.{Graph}
use Rattle.lt_ir.specs.declared.node.Node.{Node}
use Rattle.lt_ir.specs.Graph.{act}
use Rattle.lt_acts.specs.Acts.{Comes}
use Rattle.lt_acts.specs.declared.flow.Stop.{Stop}
use Rattle.lt_acts.specs.declared.flow.Stop.TheVariants.{Over, NoMemory}
use Rattle.lt_mach.specs.declared.flow.Flow.{Flow}
use Rattle.lt_mach.specs.declared.machine.Machine.{Machine}
use Rattle.lt_mach.specs.Does.{Does, Follows}
use Rattle.lt_mach.specs.Standing.{StaysFit, state_of}

-- the act of a node, and where the run goes on behind it
pub done_does : (g : Graph) (code : Option Code) (n : Node) (answer : Result (Unit {0}) Stop) (next : ℕ) (m m1 m2 : Machine) (result : Result Flow AllocError) → ((marks : List Made) → Comes next answer (state_of m1 marks) (act g code (Some n) (state_of m marks))) → StaysFit m m1 → Follows answer next m1 m2 result
    → IfOk result (λ flow. Does g code n flow m m2)
done_does g code n (Ok done) next m m1 m2 result h fit f = rw (f.0, f.1) (record { is = h; fit = record { model = fit.model; places = fit.places; names = fit.names } })
done_does g code n (Err (Over why)) next m m1 m2 result h fit f = rw (f.0, f.1) (record { is = h; fit = fit })
done_does g code n (Err NoMemory) next m m1 m2 result h fit f = rw f tt
