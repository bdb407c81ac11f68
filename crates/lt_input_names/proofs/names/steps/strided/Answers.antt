use Rattle.std.proofs.Common.{◌++◌, [], get_or, ap, ◌∙◌}
use Rattle.lt_input_names.specs.Parts.{run, strided}
use Rattle.lt_input_names.proofs.Lists.{flat_more, item_is}
use Rattle.lt_input_names.proofs.names.steps.strided.Goals as goal

pub loop-offset-preserved : goal.loop-offset-preserved
loop-offset-preserved c =
    let offsets = c.args.offsets.now in
    let i = c.loop-offset.offset-index in
    flat_more (strided c.args.stride) offsets i (get_or offsets i 0) [] c.loop-offset.them.items _ c.loop-offset-test.true (item_is offsets i 0 c.loop-offset-test.true) c.loop-offset.invariant
    (c.in_ok-put_run.ensures ∙ ap (λ f. c.loop-offset.them.items ++ run f c.args.stride.apart c.args.stride.count) c.in_ok-first.ensures)
