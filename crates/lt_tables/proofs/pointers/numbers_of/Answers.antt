use Rattle.std.proofs.Common.{unwrap_or}
use Rattle.std.specs.Ordering.{nat_cmp}
use Rattle.std.specs.BTreeMap.{get}
use Rattle.lt_tables.proofs.PointerNumbers.{map_more}
use Rattle.lt_tables.proofs.pointers.numbers_of.Goals as goal

pub loop-it-preserved : goal.loop-it-preserved
loop-it-preserved c =
    map_more (λ it. unwrap_or (get nat_cmp c.args.places.now it.id.place) c.args.none) c.args.bare.now c.loop-it.it-index _ c.loop-it.numbers.items _ c.number_at.result c.loop-it-test.true c.loop-it.invariant
    c.number_at.ensures c.in_ok-push.ensures.items
