use Rattle.std.proofs.Common.{◌≡◌, ◌-◌, ap, rules}
use Rattle.lt_mach.specs.declared.outcome.Brief.{Brief}
use Rattle.lt_mach.proofs.Whole.{runs_into}
use Rattle.lt_mach.proofs.running.run_into.Goals as goal

pub returns : goal.returns
returns g c =
    let brief : Brief = record { end = c.in_ok-end.end; ticks = c.saturating_sub.result; memory = c.run.new.self.memory } in
    let left : c.saturating_sub.result ≡ c.args.steps - c.run.new.self.ticks = search rules in
    runs_into g.W.Watch.saw c.args.graph.now c.args.entry c.args.steps c.args.input.now c.in_ok-end.end c.in_ok-machine.machine c.run.new.self c.args.watch.now c.run.new.watch brief (ap (λ at. at.ticks) c.in_ok-machine.ensures.stands) c.in_ok-machine.ensures.fit.model c.in_ok-end.ensures
    (ap (λ n. record { end = c.in_ok-end.end; ticks = n; memory = c.run.new.self.memory }) left)
