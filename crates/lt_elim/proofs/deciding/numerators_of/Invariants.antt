use Rattle.std.proofs.Common.{◌≡◌, take, map}
use Rattle.lt_elim.specs.Reckoning.{fractions_of}
use Rattle.lt_elim.proofs.deciding.numerators_of.Given as goal

abbrev pub invariant-values : goal.invariant-values
invariant-values l = l.numerators.items ≡ map (λ f. f.over) (fractions_of (take l.value-index l.fn.values))
