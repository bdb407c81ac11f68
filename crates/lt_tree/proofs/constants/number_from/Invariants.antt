use Rattle.std.proofs.Common.{◌≡◌, ◌^◌, ◌≤◌, min, length}
use Rattle.lt_tree.specs.Constants.{number_from}
use Rattle.lt_tree.proofs.constants.number_from.Given as goal

abbrev pub invariant-digits : goal.invariant-digits
invariant-digits l = record {
  value : min (number_from l.base l.value l.rest).0 (2 ^ 31) ≡ min (number_from l.base 0 l.text).0 (2 ^ 31);
  rest : (number_from l.base l.value l.rest).1 ≡ (number_from l.base 0 l.text).1;
  cut : l.value ≤ 2 ^ 31;
}

abbrev pub decreases-digits : goal.decreases-digits
decreases-digits l = length l.rest
