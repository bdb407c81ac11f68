use Rattle.std.proofs.Common.{◌≡◌, map, take, not, is_some}
use Rattle.std.specs.List.{filter}
use Rattle.lt_tables.specs.Lookups.{place_in}
use Rattle.lt_tables.proofs.places.names_without.Given as goal

abbrev pub invariant-loop-function : goal.invariant-loop-function
invariant-loop-function l = l.names.items ≡ filter (λ name. not (is_some (place_in l.functions name))) (map (λ f. f.name) (take l.function-index l.declared))
