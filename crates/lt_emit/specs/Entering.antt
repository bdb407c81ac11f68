-- Code that begins with a node to which no edge leads.
use Rattle.std.specs.Prelude.{ℕ, List, Result}
use Rattle.std.specs.declared.alloc.AllocError.{AllocError}
use Rattle.lt_emit.specs.declared.builder.Builder.{Builder}
use Rattle.lt_emit.specs.Emission.{Here, here_of, Enters}
use Rattle.lt_emit.specs.Known.{IsLabelled}

-- it does, where what it names is known
abbrev pub EntersIf : (Known : Here → Type 0) → (before after : Builder) → Result ℕ AllocError → Type 0
EntersIf Known before after result = Known (here_of before) → Enters before after result

-- there is a label with this id
abbrev pub IsLabel : (id : ℕ) → Here → Type 0
IsLabel id here = (names : List (List ℕ)) × IsLabelled here id names
