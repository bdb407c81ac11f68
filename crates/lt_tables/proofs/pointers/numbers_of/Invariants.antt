use Rattle.std.proofs.Common.{◌≡◌, map, take, unwrap_or}
use Rattle.std.specs.Ordering.{nat_cmp}
use Rattle.std.specs.BTreeMap.{get}
use Rattle.lt_tables.proofs.pointers.numbers_of.Given as goal

abbrev pub invariant-loop-it : goal.invariant-loop-it
invariant-loop-it l = l.numbers.items ≡ map (λ it. unwrap_or (get nat_cmp l.places it.id.place) l.none) (take l.it-index l.bare)
