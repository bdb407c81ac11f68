use Rattle.std.proofs.Common.{refl, sym}
use Rattle.lt_replay.proofs.Seeing.{run_ended}
use Rattle.lt_replay.proofs.seen.see_run.Goals as goal

pub returns-then-has_ended : goal.returns-then-has_ended
returns-then-has_ended c =
    run_ended c.args.graph.now c.args.entry c.args.input.now c.args.steps c.in_ok-end.field-0 c.new-marks.result c.run_into.new.watch _ c.in_ok-end.ensures
    c.new-marks.ensures (sym c.if-has_ended.ensures) refl refl
