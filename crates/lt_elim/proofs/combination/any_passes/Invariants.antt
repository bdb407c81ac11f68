use Rattle.std.proofs.Common.{◌≡◌, drop}
use Rattle.lt_elim.specs.Summing.{any_passes}
use Rattle.lt_elim.proofs.combination.any_passes.Given as goal

abbrev pub invariant-terms : goal.invariant-terms
invariant-terms l = any_passes l.fn.terms ≡ any_passes (drop l.factor-index l.fn.terms)
