use Rattle.std.proofs.Common.{◌≡◌, ◌≤◌, ◌^◌, drop, length}
use Rattle.lt_elim.specs.Decision.{variables}
use Rattle.lt_elim.specs.Progress.{AllInOrder}
use Rattle.lt_elim.proofs.system.variables.Given as goal

abbrev pub invariant-rows : goal.invariant-rows
invariant-rows l = record {
  within : l.i ≤ length l.rows;
  count : l.count ≡ variables (drop l.i l.rows);
  bound : l.count ≤ 2 ^ 32;
  order : AllInOrder (drop l.i l.rows);
}

abbrev pub decreases-rows : goal.decreases-rows
decreases-rows l = l.i
