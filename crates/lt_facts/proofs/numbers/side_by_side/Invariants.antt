use Rattle.std.proofs.Common.{◌≡◌, ◌≤◌, ◌++◌, drop}
use Rattle.lt_facts.specs.Outside.{side_by_side}
use Rattle.lt_facts.proofs.numbers.side_by_side.Given as goal

abbrev pub invariant-loop-flag : goal.invariant-loop-flag
invariant-loop-flag l = record {
  count : l.next ≤ l.flag-index;
  rest : l.matched.items ++ side_by_side (drop l.flag-index l.flags) (drop l.next l.numbers) ≡ side_by_side l.flags l.numbers;
}
