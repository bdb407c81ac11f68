use Rattle.std.proofs.Common.{◌≡◌, ◌∙◌, sym, ap, true, false}
use Rattle.std.specs.Prelude.{not}
use Rattle.lt_entry.specs.Meeting.{place_set}
use Rattle.lt_model.specs.declared.input.CellSet.{CellSet}
use Rattle.lt_input_values.specs.Maps.{has_place}
use Rattle.lt_input_values.proofs.Steps.{keep_yes, keep_no}
use Rattle.lt_input_values.proofs.cell_order.with_sets_elsewhere.Goals as goal
use Rattle.lt_input_values.proofs.cell_order.with_sets_elsewhere.Goals.{then-not-has_place+in_ok-set_of+in_ok-push, else-not-has_place}

pub loop-it-preserved : goal.loop-it-preserved
loop-it-preserved c =
    let it = c.it-item.result in
    let is : c.has_place.result ≡ has_place c.args.free.now (place_set it) = c.has_place.ensures ∙ ap (has_place c.args.free.now) c.place_set.ensures in
    elim c.if-not-has_place.branch [
      | then-not-has_place+in_ok-set_of+in_ok-push w ↦
          let kept : not (has_place c.args.free.now (place_set it)) ≡ true = ap not (sym is ∙ w.if-not-has_place.true) in
          rw (w.sets-is, w.in_ok-push.ensures.items, w.in_ok-set_of.ensures)
          (keep_yes (λ (it : CellSet). not (has_place c.args.free.now (place_set it))) c.args.sets.items c.args.all.now c.loop-it.it-index it c.loop-it.sets.items c.loop-it-test.true c.it-item.is kept c.loop-it.invariant)
      | else-not-has_place w ↦
          let left : not (has_place c.args.free.now (place_set it)) ≡ false = ap not (sym is ∙ w.if-not-has_place.false) in
          rw w.sets-is
          (keep_no (λ (it : CellSet). not (has_place c.args.free.now (place_set it))) c.args.sets.items c.args.all.now c.loop-it.it-index it c.loop-it.sets.items c.loop-it-test.true c.it-item.is left c.loop-it.invariant)
    ]
