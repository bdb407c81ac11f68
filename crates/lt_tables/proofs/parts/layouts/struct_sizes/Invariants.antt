use Rattle.std.proofs.Common.{◌≡◌, map, take, option_map}
use Rattle.lt_table.specs.StructTables.{extent_value}
use Rattle.lt_tables.specs.Layouts.{object_size}
use Rattle.lt_tables.proofs.parts.layouts.struct_sizes.Given as goal

abbrev pub invariant-loop-extent : goal.invariant-loop-extent
invariant-loop-extent l = l.sizes.items ≡ map (λ extent. object_size (option_map extent_value extent)) (take l.extent-index l.known)
