use Rattle.std.proofs.Common.{◌≡◌, ◌≤◌, ℕ, length, drop}
use Rattle.std.specs.Ordering.{nat_cmp}
use Rattle.std.specs.BTreeMap.{get}
use Rattle.lt_meaning.specs.Runs.{place_among}
use Rattle.lt_tables.proofs.places.places_of_offsets.Given as goal

abbrev pub invariant-offsets : goal.invariant-offsets
invariant-offsets l = record {
  left : l.left ≤ length l.offsets;
  places : (n : ℕ) → get nat_cmp l.places n ≡ place_among l.left n (drop l.left l.offsets);
}

abbrev pub decreases-offsets : goal.decreases-offsets
decreases-offsets l = l.left
