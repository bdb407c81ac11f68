use Rattle.std.proofs.Common.{◌∙◌, sym, ap, Bor}
use Rattle.std.specs.Prelude.{is_some}
use Rattle.std.specs.List.{list_any}
use Rattle.lt_model.specs.declared.input.FreeCell.{FreeCell}
use Rattle.lt_model.specs.declared.input.Place.{Place}
use Rattle.lt_entry.specs.Conditions.{same_place}
use Rattle.lt_input_values.proofs.Steps.{found_any, some_mapped}
use Rattle.lt_input_values.proofs.meeting.sets_free_cell.Goals as goal

pub returns : goal.returns
returns c =
    let cells = c.args.finder.now.spec.now.cells in
    c.is_some.ensures ∙ sym (some_mapped (λ (cell : Bor FreeCell). cell.now) c.cell_at.result) ∙ ap is_some c.cell_at.ensures
    ∙ found_any (λ (cell : FreeCell). same_place cell.at c.place_set.result.now) cells
    ∙ ap (λ (place : Place). list_any (λ (cell : FreeCell). same_place cell.at place) cells) c.place_set.ensures
