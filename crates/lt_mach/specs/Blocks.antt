-- The named objects of an input, and their names.
use Rattle.std.specs.Prelude.{◌≡◌, ℕ, suc, List, [], ◌∷◌, length, Result, Ok, Err}
use Rattle.lt_model.specs.declared.input.BlockIn.{BlockIn}
use Rattle.lt_model.specs.Memory.{Memory}
use Rattle.lt_model.specs.State.{Gives, Ends}
use Rattle.lt_ir.specs.Running.{At, Answer}
use Rattle.lt_ir.specs.Starting.{Root, start_blocks}
use Rattle.lt_acts.specs.Acts.{on}
use Rattle.lt_acts.specs.Ends.{end_of}
use Rattle.lt_acts.specs.declared.flow.Stop.{Stop}
use Rattle.lt_acts.specs.declared.flow.Stop.TheVariants as stop

-- the names of objects that are made one after the other, where the first has this number
abbrev pub roots_from : ℕ → List BlockIn → List Root
roots_from n [] = []
roots_from n (it ∷ its) = record { name = it.name; block = n; cells = it.shape.cells } ∷ roots_from (suc n) its

-- The named objects are there, with their names, or the run is over so; where there is no memory nothing is said.
abbrev pub Made : List BlockIn → Result ℕ Stop → ℕ → At → Answer (List Root) → Type 0
Made its (Ok first) n at answer = answer ≡ Gives (roots_from n its) at
Made its (Err (stop.Over why)) n at answer = answer ≡ Ends (end_of why) at
Made its (Err stop.NoMemory) n at answer = Unit {0}

abbrev pub StartsBlocks : List BlockIn → Result ℕ Stop → Memory → Memory → Type 0
StartsBlocks its result m m1 = (at : At) → Made its result (length m) (on m1 at) (start_blocks its (on m at))
