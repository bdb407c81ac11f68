use Rattle.std.proofs.lemmas.Result.{IfOk-weaker}
use Rattle.lt_mach.proofs.Whole.{comes_later, comes_at_once}
use Rattle.lt_mach.proofs.machine.Machine.run.Goals as goal

pub returns-in-Goes : goal.returns-in-Goes
returns-in-Goes g c =
    let l = rw c.in-Goes.is at c.in_ok-launch.ensures in
    IfOk-weaker _ _ _ (λ end f. comes_later g.W.Watch.saw c.args.graph.now c.args.entry c.args.input.now end c.args.self.now c.launch.new.self c.finish.new.self c.args.watch.now c.finish.new.watch l f) c.finish.ensures

pub returns-in-Over : goal.returns-in-Over
returns-in-Over g c =
    let l = rw c.in-Over.is at c.in_ok-launch.ensures in
    comes_at_once g.W.Watch.saw c.args.graph.now c.args.entry c.args.input.now c.in-Over.end c.args.self.now c.launch.new.self c.args.watch.now l
