use Rattle.std.proofs.Common.{◌≡◌, drop}
use Rattle.lt_elim.specs.Progress.{found_factor}
use Rattle.lt_elim.proofs.factor.factor_of.Given as goal

abbrev pub invariant-terms : goal.invariant-terms
invariant-terms l = found_factor l.variable l.fn.terms ≡ found_factor l.variable (drop l.x-index l.fn.terms)
