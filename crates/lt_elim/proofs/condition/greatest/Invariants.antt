use Rattle.std.proofs.Common.{◌≡◌, ◌≤◌, ◌^◌, drop, length}
use Rattle.lt_elim.specs.Condition.{greatest}
use Rattle.lt_elim.proofs.condition.greatest.Given as goal

abbrev pub invariant-rows : goal.invariant-rows
invariant-rows l = record {
  within : l.i ≤ length l.rows;
  size : l.size ≡ greatest (drop l.i l.rows);
  bound : l.size ≤ 2 ^ 127;
}

abbrev pub decreases-rows : goal.decreases-rows
decreases-rows l = l.i
