use Rattle.std.proofs.Common.{◌≤◌, length, sym, ◌∙◌, arith}
use Rattle.lt_input_blocks.proofs.CellLaws.{all_settled}
use Rattle.lt_input_blocks.proofs.cells.settle_all.Goals as goal

pub loop-place-preserved : goal.loop-place-preserved
loop-place-preserved c = record {
  cells = c.settle_at.auto.cells ∙ c.loop-place.invariant.cells;
  settled = c.settle_at.auto.settled ∙ c.loop-place.invariant.settled;
  known = λ types have first. c.settle_at.ensures types c.loop-place.place-index have (c.loop-place.invariant.known types have first);
}

pub returns-then-order-structs : goal.returns-then-order-structs
returns-then-order-structs c = λ yes types have before.
    let small : c.loop-place.place-index ≤ length c.args.structs.now = omega (arith, c.loop-place.auto.place-index-end, c.if-order-structs.true) in
    all_settled types c.args.structs.now c.loop-place.cells c.loop-place.settled c.loop-place.place-index c.loop-place.invariant.cells c.loop-place.invariant.settled small (sym c.are_true.ensures ∙ yes)
    (c.loop-place.invariant.known types have before)
