use Rattle.std.proofs.Common.{◌≡◌, ◌∙◌, ◌++◌, ap, subst, List}
use Rattle.std.specs.Prelude.{◌&&◌, IfOk, not, is_some}
use Rattle.std.specs.List.{filter, filter_map, list_any}
use Rattle.lt_model.specs.declared.input.CellSet.{CellSet}
use Rattle.lt_model.specs.declared.input.FreeCell.{FreeCell}
use Rattle.lt_entry.specs.Conditions.{same_place}
use Rattle.lt_entry.specs.Meeting.{place_set}
use Rattle.lt_entry.specs.Inputs.{cells_in_order}
use Rattle.lt_input_values.specs.Maps.{set_at, has_place}
use Rattle.lt_input_values.proofs.Orders.{cells_by_maps}
use Rattle.lt_input_values.proofs.cell_order.cells_in_order.Goals as goal

pub returns : goal.returns
returns c =
    let P : List CellSet → Type 0 = λ xs. IfOk c.with_sets_elsewhere.result (λ ordered. ordered.items ≡ xs) in
    let first : c.in_ok-sets_in_cells.field-0.items ≡ filter_map (λ cell. set_at c.in_ok-last.last cell.at) c.args.spec.now.cells = c.in_ok-sets_in_cells.ensures ∙ ap (filter_map (λ cell. set_at c.in_ok-last.last cell.at)) c.as_slice-cells.ensures in
    let e : c.in_ok-sets_in_cells.field-0.items ++ filter (λ it. not (has_place c.in_ok-free.free (place_set it))) c.args.sets.now ≡ cells_in_order c.args.spec.now c.args.sets.now =
    ap (λ xs. xs ++ filter (λ it. not (has_place c.in_ok-free.free (place_set it))) c.args.sets.now) first
    ∙ cells_by_maps c.args.spec.now c.args.sets.now (set_at c.in_ok-last.last) (has_place c.in_ok-free.free) c.in_ok-last.ensures (λ place. c.in_ok-free.ensures place ∙ ap (list_any (λ (cell : FreeCell). same_place cell.at place && is_some (set_at c.in_ok-last.last cell.at))) c.as_slice-cells.ensures) in
    subst P e c.with_sets_elsewhere.ensures
