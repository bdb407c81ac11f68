use Rattle.std.proofs.Common.{◌≡◌, ◌∙◌, Some, Err, sym, ap}
use Rattle.std.specs.Prelude.{slice_get}
use Rattle.lt_acts.specs.Ends.{end_of}
use Rattle.lt_mach.proofs.Beginning.{launches, launches_over}
use Rattle.lt_mach.proofs.machine.Machine.launch.Goals as goal

pub returns-in_ok-start-in-Ok : goal.returns-in_ok-start-in-Ok
returns-in_ok-start-in-Ok c =
    let here : slice_get c.args.graph.now.codes c.args.entry ≡ Some c.in-Some.code.now = sym c.in-Some.ensures in
    rw c.in_ok-start-in-Ok.ensures
    (launches c.args.graph.now c.args.entry c.in-Some.code.now c.args.input.now c.args.self.now c.start.new.scope c.start.new.memory here c.requires c.in-Ok.ensures.starts c.start.ensures.model)

pub returns-in-Err-Over : goal.returns-in-Err-Over
returns-in-Err-Over c =
    let here : slice_get c.args.graph.now.codes c.args.entry ≡ Some c.in-Some.code.now = sym c.in-Some.ensures in
    rw (c.end.ensures ∙ ap end_of c.in-Err-Over.fault-is)
    (launches_over c.args.graph.now c.args.entry c.in-Some.code.now c.args.input.now c.args.self.now c.start.new.scope c.start.new.memory here c.requires c.in-Err-Over.fault (Err c.in-Err-Over.field-0) (ap (λ x. Err x) c.in-Err-Over.field-0-is)
    c.in-Err-Over.ensures.starts c.start.ensures.model)
