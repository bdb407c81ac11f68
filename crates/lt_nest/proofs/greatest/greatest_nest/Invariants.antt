use Rattle.std.proofs.Common.{◌-◌, ◌≤◌, length}
use Rattle.lt_nest.specs.Views.{answer_with, most}
use Rattle.lt_nest.proofs.Walking.{GoesOn}
use Rattle.lt_nest.proofs.greatest.greatest_nest.Given as goal

-- whatever the rest is cut into has the answer of the whole, and nothing counts past the bytes that were seen
abbrev pub invariant-loop-rest : goal.invariant-loop-rest
invariant-loop-rest l = record {
  within : length l.rest ≤ length l.text;
  fits : most l.walk ≤ length l.text - length l.rest;
  goes_on : GoesOn l.text l.fresh l.rest (answer_with l.walk);
}

abbrev pub decreases-loop-rest : goal.decreases-loop-rest
decreases-loop-rest l = length l.rest
