use Rattle.lt_cover.proofs.Lines.{text_is}
use Rattle.lt_cover.proofs.write.write_cover.Goals as goal

pub returns : goal.returns
returns c =
    text_is c.args.c.now c.new-text.result.items c.put_row.new.text.items c.put_tests.new.text.items c.put_labels.new.text.items c.put_hypers.new.text.items
    c.tests.result.now c.labels.result.now c.hypers.result.now
    c.new-text.ensures.items c.in_ok-put_row.ensures c.tests.ensures.rows c.in_ok-put_tests.ensures c.labels.ensures.rows c.in_ok-put_labels.ensures c.hypers.ensures.rows c.in_ok-put_hypers.ensures
