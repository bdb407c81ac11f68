use Rattle.std.proofs.Common.{◌≡◌, ◌==◌, ◌∙◌, ap, Some, None, Option}
use Rattle.std.specs.Prelude.{◌&&◌, option_map, option_copied}
use Rattle.std.specs.HashMap.{get_by}
use Rattle.std.specs.Str.{bytes_eq}
use Rattle.lt_model.specs.declared.input.CellSet.{CellSet}
use Rattle.lt_input_values.specs.Maps.{Key, is_key_of, set_at}
use Rattle.lt_input_values.proofs.Steps.{pick_more, pick_none}
use Rattle.lt_input_values.proofs.cell_order.sets_in_cells.Goals as goal
use Rattle.lt_input_values.proofs.cell_order.sets_in_cells.Goals.{in-Some+in_ok-set_of-in-Some+in_ok-push-in-Some, in-None}

pub loop-cell-preserved : goal.loop-cell-preserved
loop-cell-preserved c =
    let cell = c.cell-item.result in
    let found : option_copied c.get.result ≡ get_by (is_key_of c.cell-item.result.at) c.args.last.now =
    c.get.ensures.value ∙ ap (λ bytes. get_by (λ (key : Key). bytes_eq bytes key.0.now && (c.cell-item.result.at.offset == key.1)) c.args.last.now) c.as_slice.ensures in
    let is : option_map (λ it. it.now) (option_copied c.get.result) ≡ set_at c.args.last.now c.cell-item.result.at = ap (option_map (λ it. it.now)) found in
    elim c.match-get.branch [
      | in-Some+in_ok-set_of-in-Some+in_ok-push-in-Some w ↦
          let some : Some w.in-Some.it.now.now ≡ set_at c.args.last.now c.cell-item.result.at = rw w.in-Some.is at is in
          rw (w.sets-is, w.in_ok-push-in-Some.ensures.items, w.in_ok-set_of-in-Some.ensures)
          (pick_more (λ cell. set_at c.args.last.now cell.at) c.args.cells.now c.loop-cell.cell-index cell (Some w.in-Some.it.now.now) c.loop-cell.sets.items c.loop-cell-test.true c.cell-item.is some c.loop-cell.invariant)
      | in-None w ↦
          let none : Option CellSet = None in
          let unset : none ≡ set_at c.args.last.now c.cell-item.result.at = rw w.in-None.is at is in
          rw w.sets-is (pick_none (λ cell. set_at c.args.last.now cell.at) c.args.cells.now c.loop-cell.cell-index cell c.loop-cell.sets.items c.loop-cell-test.true c.cell-item.is unset c.loop-cell.invariant)
    ]
