use Rattle.std.proofs.Common.{◌↔◌, drop}
use Rattle.lt_address.specs.Targets.{IsAscendingFrom, IsAscending}
use Rattle.lt_address.proofs.form.is_ascending.Given as goal

abbrev pub invariant-loop-target : goal.invariant-loop-target
invariant-loop-target l = IsAscendingFrom l.least (drop l.target-index l.list) ↔ IsAscending l.list
