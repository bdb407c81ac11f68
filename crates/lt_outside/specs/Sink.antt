-- What a sink of bytes does.
use Rattle.std.specs.Prelude.{◌≡◌, ◌++◌, ℕ, List, Option, Some, None, take}
use Rattle.lt_outside.specs.Count.{raised}
use Rattle.lt_outside.specs.declared.sink.PutStop.{PutStop}
use Rattle.lt_outside.specs.declared.sink.PutStop.TheVariants.{Failed, NoMemory}

-- Where the bytes before were known, those after are these with the piece at their end.
abbrev pub Appends : Option (List ℕ) → Option (List ℕ) → List ℕ → Type 0
Appends None new piece = new ≡ None
Appends (Some old) new piece = new ≡ Some (old ++ piece)

-- The same with a front of the piece.
abbrev pub AppendsPart : Option (List ℕ) → Option (List ℕ) → List ℕ → Type 0
AppendsPart None new piece = new ≡ None
AppendsPart (Some old) new piece = (count : ℕ) × (new ≡ Some (old ++ take count piece))

-- the count of puts that failed after a put that stopped so
abbrev pub put_faults_after : PutStop → ℕ → ℕ
put_faults_after Failed faults = raised faults
put_faults_after NoMemory faults = faults
