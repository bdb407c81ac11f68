use Rattle.std.proofs.Common.{◌≡◌, ◌≤◌, ℕ, List, length, drop}
use Rattle.lt_table.specs.StructTables.{names_in, place_in}
use Rattle.lt_table.proofs.StructPlaces.{place_behind}
use Rattle.lt_table.proofs.structs.StructTable.places_of.Given as goal

abbrev pub invariant-members : goal.invariant-members
invariant-members l = record {
  left : l.left ≤ length l.members;
  places : (name : List ℕ) → place_in l.places name ≡ place_behind l.left name (names_in (drop l.left l.members));
}

abbrev pub decreases-members : goal.decreases-members
decreases-members l = l.left
