-- What a reader of text answers, against what it says.
use Rattle.std.specs.Prelude.{Result, Ok, Err}
use Rattle.lt_tree.specs.declared.stop.Stop.{Stop}
use Rattle.lt_tree.specs.declared.stop.Stop.TheVariants.{NotOfForm, NoMemory}

-- nothing is said of want of memory
abbrev pub StopsBy : {Y : Type 0} → (Y → Type 0) → Stop → Type 0
StopsBy Is NotOfForm = (y : _) → Is y → ⊥
StopsBy Is NoMemory = Unit {0}

-- The answer, seen by view, is what was read; where it isn't of the form, nothing is.
abbrev pub Reads : {X Y : Type 0} → (X → Y) → (Y → Type 0) → Result X Stop → Type 0
Reads view Is (Ok x) = Is (view x)
Reads view Is (Err stop) = StopsBy Is stop
