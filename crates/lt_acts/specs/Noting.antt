-- The cells that an access reads or writes, as a footprint.
use Rattle.std.specs.Prelude.{ℕ, List, true}
use Rattle.lt_model.specs.declared.cell.Shape.{Shape}
use Rattle.lt_ir.specs.declared.node.Access.{Access}
use Rattle.lt_ir.specs.Running.{Step, gives, ◌>>=◌}
use Rattle.lt_model.specs.State.{CellName, Footprint}
use Rattle.lt_ir.specs.Evaluation.{reads, writes, aimed}
use Rattle.lt_ir.specs.Graph.{Register, cells_of, footprint_at}
use Rattle.lt_acts.specs.Acts.{address_at}
use Rattle.lt_acts.specs.declared.tracking.Side.{Side}
use Rattle.lt_acts.specs.declared.tracking.Side.TheVariants.{Read, Written}

abbrev pub noted : Side → List CellName → Footprint
noted Read cells = reads cells
noted Written cells = writes cells

-- the target of a side effect, which clashes with the pending writes of its operands
abbrev pub target : List Shape → List Register → ℕ → Access → Step (Unit {0})
target structs rs r access =
    address_at rs r >>= (λ a. aimed true (cells_of structs access) a (footprint_at rs r) >>= (λ _. gives tt))
