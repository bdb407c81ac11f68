use Rattle.std.proofs.Common.{◌≡◌, map, take}
use Rattle.lt_tree.specs.Typing.TypeRows.{types_of_rows}
use Rattle.lt_lower.specs.Zeros.{zeros_of}
use Rattle.lt_lower.proofs.function.ending.zeros_of_rows.Given as goal

abbrev pub invariant-rows : goal.invariant-rows
invariant-rows l = l.all.items ≡ map zeros_of (types_of_rows (take l.row-index l.rows))
