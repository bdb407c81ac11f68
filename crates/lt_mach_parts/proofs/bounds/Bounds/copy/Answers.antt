use Rattle.std.proofs.Common.{add-one}
use Rattle.lt_mach_parts.proofs.Scoped.{one_copied}
use Rattle.lt_mach_parts.proofs.bounds.Bounds.copy.Goals as goal

pub loop-it-preserved : goal.loop-it-preserved
loop-it-preserved c =
    rw (add-one c.loop-it.it-index) (one_copied c.as_slice-it-items.result.now c.loop-it.it-index _ c.loop-it.copy c.bind.new.self c.loop-it-test.true c.in_ok-bind.ensures.done c.loop-it.invariant)
