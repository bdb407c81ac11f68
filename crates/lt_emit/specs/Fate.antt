-- What becomes of values, as it lies in memory.
use Rattle.std.specs.Prelude.{Bool, true, false}
use Rattle.lt_meaning.specs.Expressions.{Fate}
use Rattle.lt_meaning.specs.Expressions as meaning
use Rattle.lt_emit.specs.declared.fate.Fate.{Fate as HeldFate}
use Rattle.lt_emit.specs.declared.fate.Fate.TheVariants as held

abbrev pub fate_of : HeldFate → Fate
fate_of held.Wanted = meaning.wanted
fate_of held.Unconverted = meaning.unconverted
fate_of held.Dropped = meaning.dropped
fate_of held.DroppedBranch = meaning.dropped_branch
fate_of held.Untaken = meaning.untaken

-- a part of a comma expression with others behind it is dropped
abbrev pub part_fate : Fate → (is_last : Bool) → Fate
part_fate fate true = fate
part_fate fate false = meaning.dropped

-- whether the outermost conversion is made where the expression stands
abbrev pub makes_conversion : Fate → Bool
makes_conversion meaning.unconverted = false
makes_conversion meaning.dropped_branch = false
makes_conversion fate = true
