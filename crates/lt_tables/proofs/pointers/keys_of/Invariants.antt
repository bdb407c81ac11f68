use Rattle.std.proofs.Common.{◌≡◌, map, take, slice_index_or}
use Rattle.lt_tables.specs.BareTypes.{key_of}
use Rattle.lt_tables.proofs.pointers.keys_of.Given as goal

abbrev pub invariant-loop-id : goal.invariant-loop-id
invariant-loop-id l = l.keys.items ≡ map (λ id. key_of l.no_key (slice_index_or l.bare id.place l.void)) (take l.id-index l.ids)
