use Rattle.std.proofs.Common.{◌≡◌, ◌≤◌, ℕ, take, count_by, nat_lt, if◌then◌else◌, None}
use Rattle.std.specs.Ordering.{nat_cmp}
use Rattle.std.specs.BTreeMap.{get}
use Rattle.lt_tables.specs.Objects.{number_of, is_made_first}
use Rattle.lt_tables.proofs.objects.numbers_of.Given as goal

abbrev pub invariant-loop-place : goal.invariant-loop-place
invariant-loop-place l = record {
  count : l.count ≡ count_by is_made_first (take l.place l.objects);
  few : l.count ≤ l.place;
  numbers : (n : ℕ) → get nat_cmp l.numbers n ≡ (if nat_lt n l.place then number_of l.objects n else None);
}
