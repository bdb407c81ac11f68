use Rattle.std.proofs.Common.{◌↔◌, drop}
use Rattle.lt_lin.specs.Terms.{IsOrderedFrom, IsOrdered}
use Rattle.lt_lin.proofs.terms.is_ordered.Given as goal

abbrev pub invariant-loop-x : goal.invariant-loop-x
invariant-loop-x l = IsOrderedFrom l.least (drop l.x-index l.terms) ↔ IsOrdered l.terms
