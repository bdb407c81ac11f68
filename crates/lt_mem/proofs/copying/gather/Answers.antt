use Rattle.std.proofs.Common.{arith, sym, ◌∙◌}
use Rattle.std.proofs.lemmas.List.Elements.{All-set}
use Rattle.lt_mem.specs.Cells.{IsFit}
use Rattle.lt_mem.proofs.Waiting.{waits_more, waits_none}
use Rattle.lt_mem.proofs.copying.gather.Goals as goal

pub returns-in_default-clause-waits : goal.returns-in_default-clause-waits
returns-in_default-clause-waits c =
    sym (c.loop-cell.invariant.0) ∙ waits_none c.args.shape.now c.loop-cell.cell-index _ (omega arith) c.args.source.now.cells c.args.from c.args.to c.args.target.now.cells c.loop-cell.waits c.in_ok-held.held _ _ c.behind.ensures c.behind-in-loop-cell.ensures c.in_ok-held.ensures.is c.in_default.ensures

pub loop-cell-preserved : goal.loop-cell-preserved
loop-cell-preserved c = (
  waits_more c.args.shape.now c.loop-cell.cell-index _ (omega arith) c.args.source.now.cells c.args.from c.args.to c.args.target.now.cells c.loop-cell.waits c.in_ok-held.held c.in-Some.place _ _ c.behind.ensures c.behind-in-loop-cell.ensures c.in_ok-held.ensures.is c.in-Some.ensures ∙ c.loop-cell.invariant.0,
  All-set IsFit c.loop-cell.waits c.in-Some.place c.in_ok-held.held c.in_ok-held.ensures.fit c.loop-cell.invariant.1,
)
