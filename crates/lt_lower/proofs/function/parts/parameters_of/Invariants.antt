use Rattle.std.proofs.Common.{◌≡◌, take}
use Rattle.lt_code.specs.Bodies.{parameters_of}
use Rattle.lt_tables.specs.Views.{program_at}
use Rattle.lt_lower.proofs.function.parts.parameters_of.Given as goal

abbrev pub invariant-parameters : goal.invariant-parameters
invariant-parameters l = l.all.items ≡ parameters_of (program_at l.site.tables.now) (take l.number-index l.number-items)
