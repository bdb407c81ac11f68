use Rattle.std.proofs.Common.{◌≡◌, true, false, Bor, sym, ap, ◌∙◌}
use Rattle.std.specs.Prelude.{not}
use Rattle.lt_tree.specs.declared.typed.entity.Object.{Object}
use Rattle.lt_input_names.specs.Stubs.{has_name}
use Rattle.lt_spec_reader.proofs.Loops.{keep_more, drop_more}
use Rattle.lt_spec_reader.proofs.pointed.without_names.Goals as goal
use Rattle.lt_spec_reader.proofs.pointed.without_names.Goals.{then-not-contains+in_ok-push, else-not-contains}

pub loop-object-preserved : goal.loop-object-preserved
loop-object-preserved c =
    let names = c.args.names.now in
    let object = c.object-item.result in
    let is : c.contains.result ≡ has_name names object.now.name = c.contains.ensures ∙ ap (has_name names) c.as_slice.ensures in
    elim c.if-not-contains.branch [
      | then-not-contains+in_ok-push w ↦
          let kept : not (has_name names object.now.name) ≡ true = ap not (sym is ∙ w.if-not-contains.true) in
          rw (w.others-is, w.in_ok-push.ensures.items)
          (keep_more (λ (it : Bor Object). not (has_name names it.now.name)) c.args.objects.now c.loop-object.object-index object c.loop-object.others.items c.loop-object-test.true c.object-item.is kept c.loop-object.invariant)
      | else-not-contains w ↦
          let left : not (has_name names object.now.name) ≡ false = ap not (sym is ∙ w.if-not-contains.false) in
          rw w.others-is
          (drop_more (λ (it : Bor Object). not (has_name names it.now.name)) c.args.objects.now c.loop-object.object-index object c.loop-object.others.items c.loop-object-test.true c.object-item.is left c.loop-object.invariant)
    ]
