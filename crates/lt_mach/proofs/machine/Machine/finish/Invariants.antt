use Rattle.lt_mach.specs.Standing.{IsReady}
use Rattle.lt_mach.proofs.Finishing.{Completes, gauge_of}
use Rattle.lt_mach.proofs.machine.Machine.finish.Given as goal

abbrev pub invariant-loop-end : goal.invariant-loop-end
invariant-loop-end g l = record {
  completes : Completes g.W.Watch.saw l.graph l.initial.self l.self l.initial.watch l.watch;
  ready : IsReady l.graph l.self;
}

abbrev pub decreases-loop-end : goal.decreases-loop-end
decreases-loop-end g l = gauge_of l.graph l.self
