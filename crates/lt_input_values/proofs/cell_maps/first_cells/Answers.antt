use Rattle.std.proofs.Common.{◌≡◌, ◌==◌, ◌∙◌, sym, refl, ap, None, Some, cond}
use Rattle.std.specs.Prelude.{◌&&◌, is_some, option_map}
use Rattle.std.specs.Option.{option_or}
use Rattle.std.specs.HashMap.{get_by}
use Rattle.std.specs.Str.{bytes_eq}
use Rattle.lt_model.specs.declared.input.FreeCell.{FreeCell}
use Rattle.lt_model.specs.declared.input.Place.{Place}
use Rattle.lt_entry.specs.Conditions.{same_place}
use Rattle.lt_input_values.specs.Maps.{Key, free_at}
use Rattle.lt_input_values.proofs.Steps.{first_more, first_put, first_kept, some_mapped, none_from_some}
use Rattle.lt_input_values.proofs.MapLaws.{free_at_more}
use Rattle.lt_input_values.proofs.PlaceLaws.{same_place-Decides}
use Rattle.lt_input_values.proofs.cell_maps.first_cells.Goals as goal
use Rattle.lt_input_values.proofs.cell_maps.first_cells.Goals.{then-not-contains_key+in_ok-insert, else-not-contains_key}

pub loop-cell-preserved : goal.loop-cell-preserved
loop-cell-preserved c = λ place.
    let cell = c.cell-item.result in
    let more = first_more (λ (cell : FreeCell). same_place cell.at place) c.args.cells.now c.loop-cell.cell-index cell c.loop-cell-test.true c.cell-item.is
    ∙ ap (λ o. option_or o (cond (same_place cell.at place) (Some cell) None)) (sym (c.loop-cell.invariant place)) in
    let has : c.contains_key.result ≡ is_some (free_at c.loop-cell.first cell.at) =
    c.contains_key.ensures ∙ sym (some_mapped (λ it. it.now) _)
    ∙ ap (λ bytes. is_some (option_map (λ it. it.now) (get_by (λ (key : Key). bytes_eq bytes key.0.now && (cell.at.offset == key.1)) c.loop-cell.first))) c.as_slice.ensures in
    elim c.if-not-contains_key.branch [
      | then-not-contains_key+in_ok-insert w ↦
          let none : free_at c.loop-cell.first cell.at ≡ None = none_from_some (free_at c.loop-cell.first cell.at) (sym has ∙ w.if-not-contains_key.true) in
          rw w.first-is
          (free_at_more c.loop-cell.first w.insert.new.self c.as_slice.result _ _ cell.at c.as_slice.ensures refl w.in_ok-insert.ensures.updates.0 place
          ∙ first_put (free_at c.loop-cell.first place) (same_place cell.at place) cell (λ h. ap (free_at c.loop-cell.first) (sym ((same_place-Decides cell.at place).0 h)) ∙ none)
          ∙ sym more)
      | else-not-contains_key w ↦
          rw w.first-is
          (first_kept (free_at c.loop-cell.first place) (same_place cell.at place) cell (λ h. ap (λ (p : Place). is_some (free_at c.loop-cell.first p)) (sym ((same_place-Decides cell.at place).0 h)) ∙ sym has ∙ w.if-not-contains_key.false)
          ∙ sym more)
    ]
