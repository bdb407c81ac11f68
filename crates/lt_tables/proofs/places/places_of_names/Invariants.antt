use Rattle.std.proofs.Common.{◌≡◌, ◌≤◌, ℕ, List, length, drop}
use Rattle.lt_tables.specs.Lookups.{name_among, place_in}
use Rattle.lt_tables.proofs.places.places_of_names.Given as goal

abbrev pub invariant-names : goal.invariant-names
invariant-names l = record {
  left : l.left ≤ length l.names;
  places : (name : List ℕ) → place_in l.places name ≡ name_among l.left name (drop l.left l.names);
}

abbrev pub decreases-names : goal.decreases-names
decreases-names l = l.left
