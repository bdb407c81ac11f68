use Rattle.lt_mach.proofs.Finishing.{still_completes, still_ready, gauge_falls, stops}
use Rattle.lt_mach.proofs.machine.Machine.finish.Goals as goal

pub loop-end-init : goal.loop-end-init
loop-end-init g c = record { completes = λ end m w f. f; ready = c.requires }

pub step-requires : goal.step-requires
step-requires g c = c.loop-end.invariant.ready.fit

pub returns-in-Over : goal.returns-in-Over
returns-in-Over g c =
    let s = rw c.in-Over.is at c.in_ok-step.ensures in
    c.loop-end.invariant.completes _ _ _ (stops _ _ _ _ _ _ _ s)

pub loop-end-smaller : goal.loop-end-smaller
loop-end-smaller g c =
    let s = rw c.in-Goes.is at c.in_ok-step.ensures in
    gauge_falls _ _ _ _ _ _ c.runs_are_over.ensures.lower c.loop-end.invariant.ready s

pub loop-end-preserved : goal.loop-end-preserved
loop-end-preserved g c =
    let s = rw c.in-Goes.is at c.in_ok-step.ensures in
    record {
      completes = still_completes _ _ _ _ _ _ _ _ c.loop-end.invariant.completes s;
      ready = still_ready _ _ _ _ _ _ c.runs_are_over.ensures.lower c.loop-end.invariant.ready s;
    }
