use Rattle.std.proofs.Common.{◌≡◌, ◌∙◌, sym, ap, true, false}
use Rattle.std.specs.Prelude.{not}
use Rattle.lt_model.specs.declared.input.StubSet.{StubSet}
use Rattle.lt_input_values.specs.Maps.{has_name}
use Rattle.lt_input_values.proofs.Steps.{keep_yes, keep_no}
use Rattle.lt_input_values.proofs.stub_order.with_other_values.Goals as goal
use Rattle.lt_input_values.proofs.stub_order.with_other_values.Goals.{then-not-contains+in_ok-values_of+in_ok-push, else-not-contains}

pub loop-it-preserved : goal.loop-it-preserved
loop-it-preserved c =
    let it = c.it-item.result in
    let is : c.contains.result ≡ has_name c.args.names.now it.name = c.contains.ensures ∙ ap (has_name c.args.names.now) c.as_slice.ensures in
    elim c.if-not-contains.branch [
      | then-not-contains+in_ok-values_of+in_ok-push w ↦
          let kept : not (has_name c.args.names.now it.name) ≡ true = ap not (sym is ∙ w.if-not-contains.true) in
          rw (w.sets-is, w.in_ok-push.ensures.items, w.in_ok-values_of.ensures)
          (keep_yes (λ (it : StubSet). not (has_name c.args.names.now it.name)) c.args.sets.items c.args.all.now c.loop-it.it-index it c.loop-it.sets.items c.loop-it-test.true c.it-item.is kept c.loop-it.invariant)
      | else-not-contains w ↦
          let left : not (has_name c.args.names.now it.name) ≡ false = ap not (sym is ∙ w.if-not-contains.false) in
          rw w.sets-is
          (keep_no (λ (it : StubSet). not (has_name c.args.names.now it.name)) c.args.sets.items c.args.all.now c.loop-it.it-index it c.loop-it.sets.items c.loop-it-test.true c.it-item.is left c.loop-it.invariant)
    ]
