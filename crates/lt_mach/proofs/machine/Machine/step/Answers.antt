use Rattle.std.proofs.Common.{sym}
use Rattle.std.proofs.lemmas.Result.{IfOk-weaker}
use Rattle.lt_mach.proofs.Showing.{steps_so, has_table}
use Rattle.lt_mach.proofs.machine.Machine.step.Goals as goal

pub show-requires : goal.show-requires
show-requires g c = record {
  fit = c.requires;
  table = has_table c.args.graph.now c.args.self.now.call.code c.args.self.now.call.place c.in-Some.code.now c.in-Some-node_at.node.now (sym c.in-Some.ensures) (sym c.in-Some-node_at.ensures);
}

pub returns : goal.returns
returns g c =
    IfOk-weaker _ _ _ (λ flow s. steps_so g.W.Watch.saw c.args.graph.now c.in-Some.code.now c.in-Some-node_at.node.now flow c.args.self.now c.show.new.self c.args.watch.now c.show.new.watch (sym c.in-Some.ensures) (sym c.in-Some-node_at.ensures) s) c.show.ensures
