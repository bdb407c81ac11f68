use Rattle.std.proofs.Common.{not, is_some}
use Rattle.lt_tables.specs.Lookups.{place_in}
use Rattle.lt_tables.proofs.NamePlaces.{kept_more}
use Rattle.lt_tables.proofs.places.names_without.Goals as goal

pub loop-function-preserved : goal.loop-function-preserved
loop-function-preserved c =
    kept_more (λ name. not (is_some (place_in c.args.functions.now name))) c.args.declared.now c.loop-function.function-index c.function-item.result c.loop-function.names.items _ c.loop-function-test.true
    c.function-item.is c.loop-function.invariant c.in_ok-push_without.ensures
