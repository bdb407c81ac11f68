use Rattle.std.proofs.Common.{◌≡◌, drop}
use Rattle.lt_elim.specs.Fraction.{fraction}
use Rattle.lt_elim.specs.Decision.{best_of, best_after}
use Rattle.lt_elim.specs.Reckoning.{fractions_of, better_of, AreBounding, CanBoundAll}
use Rattle.lt_elim.specs.Tracing.{bare}
use Rattle.lt_elim.proofs.point.best_of.Given as goal

abbrev pub invariant-rows : goal.invariant-rows
invariant-rows l = record {
  value : best_of (better_of l.greatest) l.limited l.variable (fractions_of l.values) l.fn.first.row (bare l.fn.rest) ≡ best_after (better_of l.greatest) l.limited l.variable (fractions_of l.values) (fraction l.best.over l.best.under) (bare (drop l.row-index l.fn.rest));
  bounding : AreBounding l.variable (bare (drop l.row-index l.fn.rest));
  can : CanBoundAll l.variable (fractions_of l.values) (bare l.fn.rest) → CanBoundAll l.variable (fractions_of l.values) (bare (drop l.row-index l.fn.rest));
}
