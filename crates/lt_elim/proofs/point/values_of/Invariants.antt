use Rattle.std.proofs.Common.{◌≡◌, ◌-◌, ◌≤◌, [], drop}
use Rattle.lt_elim.specs.Decision.{point}
use Rattle.lt_elim.specs.Reckoning.{fractions_of}
use Rattle.lt_elim.specs.Stages.{under}
use Rattle.lt_elim.proofs.point.values_of.Given as goal

abbrev pub invariant-variables : goal.invariant-variables
invariant-variables l = record {
  value : under l.limited l.variable (drop (l.variables - l.variable) l.stages) (point []) ≡ point (fractions_of l.values.items);
  within : l.variable ≤ l.variables;
}
