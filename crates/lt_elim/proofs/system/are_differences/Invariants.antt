use Rattle.std.proofs.Common.{◌≡◌, drop}
use Rattle.lt_elim.specs.Difference.{are_differences}
use Rattle.lt_elim.proofs.system.are_differences.Given as goal

abbrev pub invariant-rows : goal.invariant-rows
invariant-rows l = are_differences l.fn.rows ≡ are_differences (drop l.row-index l.fn.rows)
