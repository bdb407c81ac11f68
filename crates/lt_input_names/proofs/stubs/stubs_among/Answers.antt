use Rattle.std.proofs.Common.{◌++◌, ◌∙◌, ap, map}
use Rattle.std.specs.Prelude.{option_to_list}
use Rattle.lt_input_names.specs.Stubs.{stub_view}
use Rattle.lt_input_names.proofs.Lists.{pick_step}
use Rattle.lt_input_names.proofs.stubs.stubs_among.Goals as goal

pub loop-it-preserved : goal.loop-it-preserved
loop-it-preserved c =
    pick_step _ c.args.declared.now c.loop-it.it-index c.it-item.result _ _ c.loop-it-test.true c.it-item.is c.loop-it.invariant
    (c.in_ok-put.ensures ∙ ap (λ o. map stub_view c.loop-it.stubs.items ++ option_to_list o) c.stub_of.ensures)
