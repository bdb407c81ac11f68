use Rattle.std.proofs.Common.{arith, ◌∙◌, ap, length, Some, None}
use Rattle.lt_mem.specs.Image.{Body}
use Rattle.lt_mem.proofs.Contents.{length-cells_with, same_but_cells}
use Rattle.lt_mem.proofs.Waiting.{delivered_more}
use Rattle.lt_mem.proofs.object.Object.deliver.Goals as goal
use Rattle.lt_mem.proofs.object.Object.deliver.Goals.{in-Some, in_default}

pub loop-cell-preserved : goal.loop-cell-preserved
loop-cell-preserved c = elim c.match-place.branch [
  | in-Some w ↦
      let is = w.self-is ∙ w.put.ensures in
      let cells = ap (λ (b : Body). b.cells) is in (
        delivered_more c.args.shape.now c.loop-cell.cell-index _ (omega arith) c.args.to c.args.model c.loop-cell.self.cells c.match-place.self.cells c.args.waits.now c.behind.result (Some w.in-Some.place) c.behind.ensures w.in-Some.ensures cells ∙ c.loop-cell.invariant.0,
        same_but_cells c.args.self.now c.loop-cell.self c.match-place.self _ c.loop-cell.invariant.1 is,
        ap length cells ∙ length-cells_with c.args.model _ c.loop-cell.self.cells w.in-Some.place ∙ c.loop-cell.invariant.2,
      )
  | in_default w ↦
      let cells = ap (λ (b : Body). b.cells) w.self-is in (
        delivered_more c.args.shape.now c.loop-cell.cell-index _ (omega arith) c.args.to c.args.model c.loop-cell.self.cells c.match-place.self.cells c.args.waits.now c.behind.result None c.behind.ensures w.in_default.ensures cells ∙ c.loop-cell.invariant.0,
        same_but_cells c.args.self.now c.loop-cell.self c.match-place.self c.loop-cell.self.cells c.loop-cell.invariant.1 w.self-is,
        ap length cells ∙ c.loop-cell.invariant.2,
      )
]
