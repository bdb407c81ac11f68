use Rattle.std.proofs.Common.{◌≡◌, map, take, slice_index_or}
use Rattle.std.specs.List.{list_all}
use Rattle.lt_tables.proofs.bare.all_bare.Given as goal

abbrev pub invariant-loop-t : goal.invariant-loop-t
invariant-loop-t l = record {
  ids : l.ids.items ≡ map (λ t. (slice_index_or l.bare t.place l.void).id) (take l.t-index l.types);
  flag : l.are_bare ≡ list_all (λ t. (slice_index_or l.bare t.place l.void).is_bare) (take l.t-index l.types);
}
