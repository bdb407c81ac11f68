use Rattle.std.proofs.Common.{◌∙◌, sym, ap, cond, Some}
use Rattle.lt_model.specs.declared.input.Place.{Place}
use Rattle.lt_entry.specs.Conditions.{same_place}
use Rattle.lt_entry.specs.Meeting.{place_set}
use Rattle.lt_input_values.proofs.Steps.{last_more}
use Rattle.lt_input_values.proofs.MapLaws.{set_at_more}
use Rattle.lt_input_values.proofs.cell_maps.last_sets.Goals as goal

pub loop-it-preserved : goal.loop-it-preserved
loop-it-preserved c = λ place.
    let it = c.it-item.result in
    let root = c.as_slice.ensures ∙ ap (λ (p : Place). p.root) c.place_set-place.ensures in
    let offset = ap (λ (p : Place). p.offset) c.place_set-place.ensures in
    set_at_more c.loop-it.last c.insert.new.self c.as_slice.result _ _ (place_set c.it-item.result) root offset c.in_ok-insert.ensures.updates.0 place
    ∙ ap (cond (same_place (place_set c.it-item.result) place) (Some c.it-item.result)) (c.loop-it.invariant place)
    ∙ sym (last_more (λ it. same_place (place_set it) place) c.args.sets.now c.loop-it.it-index c.it-item.result c.loop-it-test.true c.it-item.is)
