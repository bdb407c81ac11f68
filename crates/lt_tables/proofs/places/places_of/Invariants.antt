use Rattle.std.proofs.Common.{◌≡◌, ◌≤◌, ℕ, length, drop}
use Rattle.std.specs.Ordering.{nat_cmp}
use Rattle.std.specs.BTreeMap.{get}
use Rattle.lt_meaning.specs.Runs.{place_among}
use Rattle.lt_tables.proofs.places.places_of.Given as goal

abbrev pub invariant-numbers : goal.invariant-numbers
invariant-numbers l = record {
  left : l.left ≤ length l.numbers;
  places : (n : ℕ) → get nat_cmp l.places n ≡ place_among l.left n (drop l.left l.numbers);
}

abbrev pub decreases-numbers : goal.decreases-numbers
decreases-numbers l = l.left
