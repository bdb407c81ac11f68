use Rattle.lt_cover.proofs.Lines.{row_put}
use Rattle.lt_cover.proofs.write.put_row.Goals as goal

pub returns : goal.returns
returns c = row_put _ _ _ _ _ _ _ _ _ _ _ c.in_ok-put_field.ensures c.in_ok-put_field-2.ensures c.in_ok-put_field-3.ensures c.in_ok-put_field-4.ensures c.in_ok-put_field-5.ensures
