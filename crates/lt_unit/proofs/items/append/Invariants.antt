use Rattle.std.proofs.Common.{◌≡◌, ◌++◌}
use Rattle.lt_unit.proofs.items.append.Given as goal

abbrev pub invariant-loop-item : goal.invariant-loop-item
invariant-loop-item l = l.all.items ≡ l.fn.all.items ++ l.yielded
