use Rattle.std.proofs.Common.{◌≡◌, ◌+◌, ◌<◌, ◌^◌, drop}
use Rattle.lt_lin.specs.Room.{terms_added}
use Rattle.lt_lin.proofs.derive.terms_added.Given as goal

abbrev pub invariant-pairs : goal.invariant-pairs
invariant-pairs l = record {
  count : l.count + terms_added l.known.rows (drop l.row-index l.pairs) ≡ terms_added l.known.rows l.pairs;
  small : l.count < 2 ^ 64;
}
