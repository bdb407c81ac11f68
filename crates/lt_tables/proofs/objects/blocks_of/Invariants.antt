use Rattle.std.proofs.Common.{◌≡◌, ◌<◌, ℕ, length, take, count_by, slice_index_or}
use Rattle.lt_tables.specs.Objects.{is_made_first}
use Rattle.lt_tables.proofs.objects.blocks_of.Given as goal

abbrev pub invariant-loop-object : goal.invariant-loop-object
invariant-loop-object l = record {
  long : length l.before.items ≡ l.object-index;
  count : l.all ≡ count_by is_made_first (take l.object-index l.objects);
  each : (n : ℕ) → n < l.object-index → slice_index_or l.before.items n 0 ≡ count_by is_made_first (take n l.objects);
}
