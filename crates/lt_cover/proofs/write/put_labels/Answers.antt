use Rattle.lt_cover.specs.declared.rows.LabelRow.{LabelRow}
use Rattle.lt_cover.specs.declared.rows.Row.TheVariants.{Label}
use Rattle.lt_cover.specs.Coverage.Text.{line, row_fields}
use Rattle.lt_cover.proofs.Loops.{more_put, all_put}
use Rattle.lt_cover.proofs.write.put_labels.Goals as goal

pub loop-label-preserved : goal.loop-label-preserved
loop-label-preserved c = more_put (λ (x : LabelRow). line (row_fields (Label x))) _ _ _ _ _ _ c.loop-label-test.true c.label-item.is c.loop-label.invariant c.in_ok-put_label.ensures

pub returns : goal.returns
returns c = all_put (λ (x : LabelRow). line (row_fields (Label x))) _ _ _ _ c.loop-label-test.false c.loop-label.invariant
