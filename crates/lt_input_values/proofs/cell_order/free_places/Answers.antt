use Rattle.std.proofs.Common.{◌∙◌, sym, refl}
use Rattle.std.specs.Prelude.{is_some}
use Rattle.lt_model.specs.declared.input.FreeCell.{FreeCell}
use Rattle.lt_entry.specs.Conditions.{same_place}
use Rattle.lt_input_values.specs.Maps.{set_at, has_place}
use Rattle.lt_input_values.proofs.Steps.{any_yes, any_no}
use Rattle.lt_input_values.proofs.MapLaws.{has_place_more}
use Rattle.lt_input_values.proofs.cell_order.free_places.Goals as goal
use Rattle.lt_input_values.proofs.cell_order.free_places.Goals.{then-is_set+in_ok-insert, else-is_set}

pub loop-cell-preserved : goal.loop-cell-preserved
loop-cell-preserved c = λ place.
    let last = c.args.last.now in
    let cell = c.cell-item.result in
    elim c.if-is_set.branch [
      | then-is_set+in_ok-insert w ↦
          rw w.free-is
          (has_place_more c.loop-cell.free w.insert.new.self w.as_slice.result _ cell.at w.as_slice.ensures refl w.in_ok-insert.ensures.updates.0 place
          ∙ any_yes (λ (cell : FreeCell). same_place cell.at place) (λ (cell : FreeCell). is_some (set_at c.args.last.now cell.at)) c.args.cells.now c.loop-cell.cell-index cell (has_place c.loop-cell.free place) c.loop-cell-test.true c.cell-item.is (sym c.is_set.ensures ∙ w.if-is_set.true) (c.loop-cell.invariant place))
      | else-is_set w ↦
          rw w.free-is
          (any_no (λ (cell : FreeCell). same_place cell.at place) (λ (cell : FreeCell). is_some (set_at c.args.last.now cell.at)) c.args.cells.now c.loop-cell.cell-index cell (has_place c.loop-cell.free place) c.loop-cell-test.true c.cell-item.is (sym c.is_set.ensures ∙ w.if-is_set.false) (c.loop-cell.invariant place))
    ]
