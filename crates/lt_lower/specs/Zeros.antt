-- 0 or null as a value of a type, and as what a function of that type gives.
use Rattle.lt_tree.specs.Typing.Types.{CType}
use Rattle.lt_meaning.specs.Runs.{zero_in, zero_of_result}
use Rattle.lt_lower.specs.declared.function.ending.Zeros.{Zeros}

abbrev pub zeros_of : CType → Zeros
zeros_of t = record { own = zero_in t; of_result = zero_of_result t }
