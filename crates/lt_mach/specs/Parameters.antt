-- Parameters: their objects, and the values that these get.
use Rattle.std.specs.Prelude.{ℕ, suc, List, [], ◌∷◌, Bool, false, Option, Result}
use Rattle.lt_model.specs.declared.cell.Address.{Address}
use Rattle.lt_model.specs.declared.cell.CellType.{CellType}
use Rattle.lt_model.specs.declared.cell.Content.{Content}
use Rattle.lt_model.specs.declared.cell.Shape.{Shape}
use Rattle.lt_model.specs.declared.scalar.DataModel.{DataModel}
use Rattle.lt_model.specs.Memory.{Memory}
use Rattle.lt_model.specs.State.{untouched}
use Rattle.lt_ir.specs.declared.variable.Variable.TheVariants.{Parameter}
use Rattle.lt_ir.specs.Running.{At, Step, gives, ◌>>=◌, ◌>>◌, begins, place}
use Rattle.lt_ir.specs.Evaluation.{stored, used, store_parameters}
use Rattle.lt_acts.specs.Acts.{on}
use Rattle.lt_acts.specs.Placing.{Came}
use Rattle.lt_acts.specs.declared.flow.Stop.{Stop}

-- the parameters begin from a number on, those of the entry zeroed
abbrev pub begin_all : (is_zeroed : Bool) → ℕ → List Shape → Step (Unit {0})
begin_all is_zeroed k [] = gives tt
begin_all is_zeroed k (shape ∷ shapes) = begins (Parameter k) shape is_zeroed >> begin_all is_zeroed (suc k) shapes

-- a cell gets a content of its type
abbrev pub put_at : DataModel → CellType → Option Address → Content → Step (Unit {0})
put_at model ty at c = stored false model ty at c untouched >> gives tt

-- a parameter's cell of a type gets a value
abbrev pub pass_to : DataModel → ℕ → CellType → Content → Step (Unit {0})
pass_to model k ty c = used c >>= (λ it. place (Parameter k) >>= (λ p. put_at model ty p it))

-- the parameters of a call begin, and get values
abbrev pub take_all : DataModel → List Shape → List Content → Step (Unit {0})
take_all model shapes contents = begin_all false 0 shapes >> store_parameters model 0 shapes contents

-- A step that changes memory alone comes to this on this memory, and leaves this.
abbrev pub Stores : Step (Unit {0}) → Memory → Result (Unit {0}) Stop → Memory → Type 0
Stores step memory result memory1 = (at : At) → Came result (on memory1 at) (step (on memory at))
