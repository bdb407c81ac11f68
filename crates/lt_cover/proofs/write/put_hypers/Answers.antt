use Rattle.lt_cover.specs.declared.rows.HyperRow.{HyperRow}
use Rattle.lt_cover.specs.declared.rows.Row.TheVariants.{Hyper}
use Rattle.lt_cover.specs.Coverage.Text.{line, row_fields}
use Rattle.lt_cover.proofs.Loops.{more_put, all_put}
use Rattle.lt_cover.proofs.write.put_hypers.Goals as goal

pub loop-hyper-preserved : goal.loop-hyper-preserved
loop-hyper-preserved c = more_put (λ (x : HyperRow). line (row_fields (Hyper x))) _ _ _ _ _ _ c.loop-hyper-test.true c.hyper-item.is c.loop-hyper.invariant c.in_ok-put_hyper.ensures

pub returns : goal.returns
returns c = all_put (λ (x : HyperRow). line (row_fields (Hyper x))) _ _ _ _ c.loop-hyper-test.false c.loop-hyper.invariant
