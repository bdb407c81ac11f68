use Rattle.std.proofs.Common.{◌≡◌, pos, take, map}
use Rattle.lt_elim.specs.Reckoning.{fractions_of}
use Rattle.lt_elim.proofs.deciding.denominators_of.Given as goal

abbrev pub invariant-values : goal.invariant-values
invariant-values l = l.denominators.items ≡ map (λ f. pos f.under) (fractions_of (take l.value-index l.fn.values))
