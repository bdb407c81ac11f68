-- What acts of nodes promise: what the graph's meaning does with the same registers and the same memory, whatever else there is.
use Rattle.std.specs.Prelude.{◌≡◌, ℕ, ℤ, Bool, List, Option, Some, Result, Ok, Err}
use Rattle.lt_model.specs.declared.cell.Content.{Content}
use Rattle.lt_model.specs.State.{Gives, Ends}
use Rattle.lt_model.specs.Memory.{Memory}
use Rattle.lt_ir.specs.declared.code.Code.{Code}
use Rattle.lt_ir.specs.declared.graph.Graph.{Graph}
use Rattle.lt_ir.specs.declared.node.Node.{Node}
use Rattle.lt_model.specs.declared.cell.Address.{Address}
use Rattle.lt_ir.specs.Evaluation.{address_in, number_in, truth_in, used}
use Rattle.lt_ir.specs.Running.{At, Answer, Step, ◌>>=◌}
use Rattle.lt_ir.specs.Graph.{Register, State, Next, Goes, Stops, act, content_at}
use Rattle.lt_acts.specs.Ends.{end_of}
use Rattle.lt_acts.specs.declared.flow.Fault.{Fault}
use Rattle.lt_acts.specs.declared.flow.Stop.{Stop}
use Rattle.lt_acts.specs.declared.flow.Stop.TheVariants as stop

-- what a step gives that leaves all as it is
abbrev pub answered : {A : Type 0} → Result A Fault → At → Answer A
answered (Ok a) at = Gives a at
answered (Err why) at = Ends (end_of why) at

abbrev pub on : Memory → At → At
on memory at = record at { memory = memory }

-- A step that only reads this memory gives this.
abbrev pub Reads : {A : Type 0} → Step A → Memory → Result A Fault → Type 0
Reads step memory result = (at : At) → step (on memory at) ≡ answered result (on memory at)

-- a state with these registers and this memory
abbrev pub with_parts : State → List Register → Memory → State
with_parts s rs memory = record s { registers = rs; at = on memory s.at }

-- The node is done and this one follows, or the run is over so; where there is no memory nothing is said.
abbrev pub Comes : ℕ → Result (Unit {0}) Stop → State → Next → Type 0
Comes next (Ok done) s n = n ≡ Goes (record s { place = next })
Comes next (Err (stop.Over why)) s n = n ≡ Stops (end_of why) s.at
Comes next (Err stop.NoMemory) s n = Unit {0}

-- The act of a node on these registers and this memory comes to this, and leaves these.
abbrev pub Acts : Graph → Option Code → Node → ℕ → List Register → Memory → Result (Unit {0}) Stop → List Register → Memory → Type 0
Acts g code n next rs memory result rs1 memory1 =
    (s : State) → Comes next result (with_parts s rs1 memory1) (act g code (Some n) (with_parts s rs memory))

abbrev pub address_at : List Register → ℕ → Step (Option Address)
address_at rs r = content_at rs r >>= address_in

abbrev pub value_at : List Register → ℕ → Step Content
value_at rs r = content_at rs r >>= used

abbrev pub number_at : List Register → ℕ → Step ℤ
number_at rs r = content_at rs r >>= number_in

abbrev pub truth_at : List Register → ℕ → Step Bool
truth_at rs r = content_at rs r >>= truth_in
