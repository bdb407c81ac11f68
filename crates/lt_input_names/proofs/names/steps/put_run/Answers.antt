use Rattle.std.proofs.Common.{◌+◌, ◌*◌, ap, ◌∙◌}
use Rattle.lt_input_names.proofs.StepLaws.{run_more}
use Rattle.lt_input_names.proofs.names.steps.put_run.Goals as goal

pub loop-k-preserved : goal.loop-k-preserved
loop-k-preserved c =
    run_more c.args.first c.args.apart c.loop-k.k _ c.args.offsets.now.items c.loop-k.offsets.items _ (c.in_ok-at.ensures ∙ ap (λ n. c.args.first + n * c.args.apart) c.from.ensures) c.loop-k.invariant c.in_ok-push.ensures.items
