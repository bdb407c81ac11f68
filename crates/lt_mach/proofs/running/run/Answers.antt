use Rattle.std.proofs.Common.{◌≡◌, List, [], ◌∷◌, ◌++◌, ap, subst}
use Rattle.lt_model.specs.declared.run.Mark.{Mark}
use Rattle.lt_mach.specs.declared.outcome.Outcome.{Outcome}
use Rattle.lt_mach.specs.Promise.{RunsInto}
use Rattle.lt_mach.proofs.Whole.{runs_to}
use Rattle.lt_mach.proofs.running.run.Goals as goal

pub returns : goal.returns
returns c =
    let brief = c.in_ok-brief.brief in
    let seen = c.run_into.new.watch in
    let outcome : Outcome = record { run = record { marks = c.into_marks.result; end = brief.end; ticks = brief.ticks }; memory = brief.memory } in
    let r = subst (λ (w : List Mark). RunsInto (λ o mark n. n ≡ o ++ mark ∷ []) c.args.graph.now c.args.entry c.args.input.now c.args.steps brief w seen) c.new-list.ensures c.in_ok-brief.ensures in
    runs_to c.args.graph.now c.args.entry c.args.steps c.args.input.now seen brief outcome r (ap (λ (l : List Mark). record { run = record { marks = l; end = brief.end; ticks = brief.ticks }; memory = brief.memory }) c.into_marks.ensures)
